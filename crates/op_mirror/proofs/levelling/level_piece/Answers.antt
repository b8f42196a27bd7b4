use Rattle.std.proofs.Common.{rules, arith, ◌≡◌, ℕ, List, [], length, take, refl, sym, ◌∙◌, ap}
use Rattle.op_outside.proofs.Runs.{started, still_leaves}
use Rattle.op_mirror.specs.Crashes.{MixOf}
use Rattle.op_mirror.proofs.Crashes.{still_leaves_mixes, mixes_joined, read_piece, ends_resized}
use Rattle.op_mirror.proofs.levelling.level_piece.Goals as goal

pub returns-in_default-clause-first_leaves : goal.returns-in_default-clause-first_leaves
returns-in_default-clause-first_leaves g c =
    let state = g.D.Disk.state in
    λ oa. still_leaves (state c.args.first.now) (state c.read.new.self) (c.read.ensures.does.goes_on oa)

pub returns-then-write_runs-clause-first_leaves : goal.returns-then-write_runs-clause-first_leaves
returns-then-write_runs-clause-first_leaves g c =
    let state = g.D.Disk.state in
    λ oa. still_leaves (state c.args.first.now) (state c.read.new.self) (c.read.ensures.does.goes_on oa)

pub returns-then-is_empty-clause-first_leaves : goal.returns-then-is_empty-clause-first_leaves
returns-then-is_empty-clause-first_leaves g c =
    let state = g.D.Disk.state in
    λ oa. still_leaves (state c.args.first.now) (state c.read.new.self) (c.read.ensures.does.goes_on oa)

pub returns-in_default-read-clause-first_leaves : goal.returns-in_default-read-clause-first_leaves
returns-in_default-read-clause-first_leaves g c =
    let state = g.D.Disk.state in
    λ oa. still_leaves (state c.args.first.now) (state c.read.new.self) (c.read.ensures.does.goes_on oa)

pub returns-then-write_runs-2-clause-first_leaves : goal.returns-then-write_runs-2-clause-first_leaves
returns-then-write_runs-2-clause-first_leaves g c =
    let state = g.D.Disk.state in
    λ oa. still_leaves (state c.args.first.now) (state c.read.new.self) (c.read.ensures.does.goes_on oa)

pub returns-clause-first_leaves : goal.returns-clause-first_leaves
returns-clause-first_leaves g c =
    let state = g.D.Disk.state in
    λ oa. still_leaves (state c.args.first.now) (state c.read.new.self) (c.read.ensures.does.goes_on oa)

pub returns-in_default-clause-second_leaves : goal.returns-in_default-clause-second_leaves
returns-in_default-clause-second_leaves g c =
    let state = g.D.Disk.state in
    λ oa y within rest ends ob. started (MixOf (state c.args.first.now).content y (state c.args.second.now)) (state c.args.second.now)

pub returns-in_default-read-clause-second_leaves : goal.returns-in_default-read-clause-second_leaves
returns-in_default-read-clause-second_leaves g c =
    let state = g.D.Disk.state in
    λ oa y within rest ends ob. still_leaves_mixes (state c.args.first.now).content y (state c.args.second.now) (state c.read-2.new.self) (c.read-2.ensures.does.goes_on ob)

pub returns-then-write_runs-clause-second_leaves : goal.returns-then-write_runs-clause-second_leaves
returns-then-write_runs-clause-second_leaves g c =
    let x = (g.D.Disk.state c.args.first.now).content in
    let at : ℕ = c.args.at in
    let ours : List ℕ = c.read.new.buf in
    let size : length ours ≡ length c.args.ours.now = c.read.auto.buf in
    let empty : length c.args.theirs.now ≡ 0 = search rules in
    λ oa y within rest ends ob. c.write_runs.ensures.leaves x y (omega (arith, size, within)) (read_piece x at (length c.args.ours.now) ours size (c.in-Ok.ensures.bytes oa)) refl
    (ends_resized y at c.args.theirs.now c.args.ours.now [] ours (sym empty) size ends) ob

pub returns-then-is_empty-clause-second_leaves : goal.returns-then-is_empty-clause-second_leaves
returns-then-is_empty-clause-second_leaves g c =
    let x = (g.D.Disk.state c.args.first.now).content in
    let at : ℕ = c.args.at in
    let ours : List ℕ = c.read.new.buf in
    let size : length ours ≡ length c.args.ours.now = c.read.auto.buf in
    let empty : length c.args.theirs.now ≡ 0 = search rules in
    λ oa y within rest ends ob. c.write_runs.ensures.leaves x y (omega (arith, size, within)) (read_piece x at (length c.args.ours.now) ours size (c.in-Ok.ensures.bytes oa)) refl
    (ends_resized y at c.args.theirs.now c.args.ours.now [] ours (sym empty) size ends) ob

pub returns-then-write_runs-2-clause-second_leaves : goal.returns-then-write_runs-2-clause-second_leaves
returns-then-write_runs-2-clause-second_leaves g c =
    let state = g.D.Disk.state in
    let x = (state c.args.first.now).content in
    let at : ℕ = c.args.at in
    let ours : List ℕ = c.read.new.buf in
    let theirs : List ℕ = c.read-2.new.buf in
    let size : length ours ≡ length c.args.ours.now = c.read.auto.buf in
    let theirs_size : length theirs ≡ length c.args.theirs.now = c.read-2.auto.buf in
    λ oa y within rest ends ob. mixes_joined x y (state c.args.second.now) (state c.read-2.new.self) (state c.write_runs-2.new.disk)
    (still_leaves_mixes x y (state c.args.second.now) (state c.read-2.new.self) (c.read-2.ensures.does.goes_on ob))
    (c.write_runs-2.ensures.leaves x y (omega (arith, size, within)) (read_piece x at (length c.args.ours.now) ours size (c.in-Ok.ensures.bytes oa))
    (read_piece y at (length c.args.theirs.now) theirs theirs_size (c.in-Ok-read.ensures.bytes ob ∙ ap (take (length c.args.theirs.now)) rest))
    (ends_resized y at c.args.theirs.now c.args.ours.now theirs ours theirs_size size ends) ((c.read-2.ensures.does.model).1 ob))

pub returns-clause-second_leaves : goal.returns-clause-second_leaves
returns-clause-second_leaves g c =
    let state = g.D.Disk.state in
    let x = (state c.args.first.now).content in
    let at : ℕ = c.args.at in
    let ours : List ℕ = c.read.new.buf in
    let theirs : List ℕ = c.read-2.new.buf in
    let size : length ours ≡ length c.args.ours.now = c.read.auto.buf in
    let theirs_size : length theirs ≡ length c.args.theirs.now = c.read-2.auto.buf in
    λ oa y within rest ends ob. mixes_joined x y (state c.args.second.now) (state c.read-2.new.self) (state c.write_runs-2.new.disk)
    (still_leaves_mixes x y (state c.args.second.now) (state c.read-2.new.self) (c.read-2.ensures.does.goes_on ob))
    (c.write_runs-2.ensures.leaves x y (omega (arith, size, within)) (read_piece x at (length c.args.ours.now) ours size (c.in-Ok.ensures.bytes oa))
    (read_piece y at (length c.args.theirs.now) theirs theirs_size (c.in-Ok-read.ensures.bytes ob ∙ ap (take (length c.args.theirs.now)) rest))
    (ends_resized y at c.args.theirs.now c.args.ours.now theirs ours theirs_size size ends) ((c.read-2.ensures.does.model).1 ob))
