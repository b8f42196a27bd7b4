use Rattle.std.proofs.Common.{◌≡◌, ℕ, List, length, sym, ◌∙◌, ap, subst}
use Rattle.op_outside.specs.Disks.{DiskState, LeavesOnly}
use Rattle.op_outside.proofs.Runs.{started, still_leaves}
use Rattle.op_mirror.specs.Crashes.{MixOf}
use Rattle.op_mirror.proofs.Crashes.{still_leaves_mixes, still_joined, mixes_joined}
use Rattle.op_mirror.proofs.levelling.make_equal.Goals as goal

-- what a crash leaves of the second copy up to here: only its length was asked, and then pieces were made equal
levelled : (a a' b b' c : DiskState) (len was : ℕ) → a'.content ≡ a.content → b'.content ≡ b.content → len ≡ length a.content → was ≡ length b.content → LeavesOnly (MixOf a.content b.content b) b b'
    → (len ≡ length a'.content → was ≡ length b'.content → LeavesOnly (MixOf a'.content b'.content b') b' c) → LeavesOnly (MixOf a.content b.content b) b c
levelled a a' b b' c len was same kept len_is was_is so_far more =
    mixes_joined a.content b.content b b' c so_far
    (subst (λ (y : List ℕ). LeavesOnly (MixOf a.content y b') b' c) kept
    (subst (λ (x : List ℕ). LeavesOnly (MixOf x b'.content b') b' c) same (more (len_is ∙ ap length (sym same)) (was_is ∙ ap length (sym kept)))))

pub returns-in_default-clause-first_leaves : goal.returns-in_default-clause-first_leaves
returns-in_default-clause-first_leaves g c =
    let state = g.D.Disk.state in
    λ oa.
    still_leaves (state c.args.first.now) (state c.sync.new.self) (c.sync.ensures.does.goes_on oa)

pub returns-in_default-len-clause-first_leaves : goal.returns-in_default-len-clause-first_leaves
returns-in_default-len-clause-first_leaves g c =
    let state = g.D.Disk.state in
    λ oa.
    still_joined (state c.args.first.now) (state c.sync.new.self) (state c.len.new.self)
    (still_leaves (state c.args.first.now) (state c.sync.new.self) (c.sync.ensures.does.goes_on oa))
    (still_leaves (state c.sync.new.self) (state c.len.new.self) (c.len.ensures.does.goes_on ((c.sync.ensures.does.model).1 oa)))

pub returns-in_default-len-2-clause-first_leaves : goal.returns-in_default-len-2-clause-first_leaves
returns-in_default-len-2-clause-first_leaves g c =
    let state = g.D.Disk.state in
    λ oa.
    still_joined (state c.args.first.now) (state c.sync.new.self) (state c.len.new.self)
    (still_leaves (state c.args.first.now) (state c.sync.new.self) (c.sync.ensures.does.goes_on oa))
    (still_leaves (state c.sync.new.self) (state c.len.new.self) (c.len.ensures.does.goes_on ((c.sync.ensures.does.model).1 oa)))

pub returns-then-ne-clause-first_leaves : goal.returns-then-ne-clause-first_leaves
returns-then-ne-clause-first_leaves g c =
    let state = g.D.Disk.state in
    λ oa.
    let oa1 = (c.sync.ensures.does.model).1 oa in
    still_joined (state c.args.first.now) (state c.len.new.self) (state c.level-done.new.first)
    (still_joined (state c.args.first.now) (state c.sync.new.self) (state c.len.new.self)
    (still_leaves (state c.args.first.now) (state c.sync.new.self) (c.sync.ensures.does.goes_on oa))
    (still_leaves (state c.sync.new.self) (state c.len.new.self) (c.len.ensures.does.goes_on oa1)))
    (c.level-done.ensures.first_leaves ((c.len.ensures.does.model).1 oa1))

pub returns-then-len-was-clause-first_leaves : goal.returns-then-len-was-clause-first_leaves
returns-then-len-was-clause-first_leaves g c =
    let state = g.D.Disk.state in
    λ oa.
    let oa1 = (c.sync.ensures.does.model).1 oa in
    still_joined (state c.args.first.now) (state c.len.new.self) (state c.level-done.new.first)
    (still_joined (state c.args.first.now) (state c.sync.new.self) (state c.len.new.self)
    (still_leaves (state c.args.first.now) (state c.sync.new.self) (c.sync.ensures.does.goes_on oa))
    (still_leaves (state c.sync.new.self) (state c.len.new.self) (c.len.ensures.does.goes_on oa1)))
    (c.level-done.ensures.first_leaves ((c.len.ensures.does.model).1 oa1))

pub returns-clause-first_leaves : goal.returns-clause-first_leaves
returns-clause-first_leaves g c =
    let state = g.D.Disk.state in
    λ oa.
    let oa1 = (c.sync.ensures.does.model).1 oa in
    still_joined (state c.args.first.now) (state c.len.new.self) (state c.level-done.new.first)
    (still_joined (state c.args.first.now) (state c.sync.new.self) (state c.len.new.self)
    (still_leaves (state c.args.first.now) (state c.sync.new.self) (c.sync.ensures.does.goes_on oa))
    (still_leaves (state c.sync.new.self) (state c.len.new.self) (c.len.ensures.does.goes_on oa1)))
    (c.level-done.ensures.first_leaves ((c.len.ensures.does.model).1 oa1))

pub returns-in_default-clause-second_leaves : goal.returns-in_default-clause-second_leaves
returns-in_default-clause-second_leaves g c =
    let state = g.D.Disk.state in
    λ oa ob. started (MixOf (state c.args.first.now).content (state c.args.second.now).content (state c.args.second.now)) (state c.args.second.now)

pub returns-in_default-len-clause-second_leaves : goal.returns-in_default-len-clause-second_leaves
returns-in_default-len-clause-second_leaves g c =
    let state = g.D.Disk.state in
    λ oa ob. started (MixOf (state c.args.first.now).content (state c.args.second.now).content (state c.args.second.now)) (state c.args.second.now)

pub returns-in_default-len-2-clause-second_leaves : goal.returns-in_default-len-2-clause-second_leaves
returns-in_default-len-2-clause-second_leaves g c =
    let state = g.D.Disk.state in
    λ oa ob. still_leaves_mixes (state c.args.first.now).content (state c.args.second.now).content (state c.args.second.now) (state c.len-2.new.self) (c.len-2.ensures.does.goes_on ob)

pub returns-then-ne-clause-second_leaves : goal.returns-then-ne-clause-second_leaves
returns-then-ne-clause-second_leaves g c =
    let state = g.D.Disk.state in
    λ oa ob.
    let oa1 = (c.sync.ensures.does.model).1 oa in
    let ob1 = (c.len-2.ensures.does.model).1 ob in
    let synced = c.in-Ok.ensures.does.done oa in
    let same = c.in-Ok-len.ensures.does.done oa1 ∙ synced in
    let kept = c.in-Ok-len-2.ensures.does.done ob in
    let long = c.in-Ok-len.ensures.length.is oa1 ∙ ap length synced in
    let level_leaves = levelled (state c.args.first.now) (state c.len.new.self) (state c.args.second.now) (state c.len-2.new.self) (state c.level-done.new.second) c.in-Ok-len.len c.in-Ok-len-2.was
    same kept long (c.in-Ok-len-2.ensures.length.is ob)
    (still_leaves_mixes (state c.args.first.now).content (state c.args.second.now).content (state c.args.second.now) (state c.len-2.new.self) (c.len-2.ensures.does.goes_on ob))
    (λ len was. c.level-done.ensures.second_leaves ((c.len.ensures.does.model).1 oa1) len was ob1) in
    level_leaves

pub returns-then-len-was-clause-second_leaves : goal.returns-then-len-was-clause-second_leaves
returns-then-len-was-clause-second_leaves g c =
    let state = g.D.Disk.state in
    λ oa ob.
    let oa1 = (c.sync.ensures.does.model).1 oa in
    let ob1 = (c.len-2.ensures.does.model).1 ob in
    let synced = c.in-Ok.ensures.does.done oa in
    let same = c.in-Ok-len.ensures.does.done oa1 ∙ synced in
    let kept = c.in-Ok-len-2.ensures.does.done ob in
    let long = c.in-Ok-len.ensures.length.is oa1 ∙ ap length synced in
    let level_leaves = levelled (state c.args.first.now) (state c.len.new.self) (state c.args.second.now) (state c.len-2.new.self) (state c.level-done.new.second) c.in-Ok-len.len c.in-Ok-len-2.was
    same kept long (c.in-Ok-len-2.ensures.length.is ob)
    (still_leaves_mixes (state c.args.first.now).content (state c.args.second.now).content (state c.args.second.now) (state c.len-2.new.self) (c.len-2.ensures.does.goes_on ob))
    (λ len was. c.level-done.ensures.second_leaves ((c.len.ensures.does.model).1 oa1) len was ob1) in
    mixes_joined (state c.args.first.now).content (state c.args.second.now).content (state c.args.second.now) (state c.level-done.new.second) (state c.cut_behind.new.second) level_leaves
    (c.cut_behind.ensures.leaves (state c.args.first.now).content (state c.args.second.now).content long ((c.level-done.ensures.second_model).1 ob1))

pub returns-clause-second_leaves : goal.returns-clause-second_leaves
returns-clause-second_leaves g c =
    let state = g.D.Disk.state in
    λ oa ob.
    let oa1 = (c.sync.ensures.does.model).1 oa in
    let ob1 = (c.len-2.ensures.does.model).1 ob in
    let synced = c.in-Ok.ensures.does.done oa in
    let same = c.in-Ok-len.ensures.does.done oa1 ∙ synced in
    let kept = c.in-Ok-len-2.ensures.does.done ob in
    let long = c.in-Ok-len.ensures.length.is oa1 ∙ ap length synced in
    let level_leaves = levelled (state c.args.first.now) (state c.len.new.self) (state c.args.second.now) (state c.len-2.new.self) (state c.level-done.new.second) c.in-Ok-len.len c.in-Ok-len-2.was
    same kept long (c.in-Ok-len-2.ensures.length.is ob)
    (still_leaves_mixes (state c.args.first.now).content (state c.args.second.now).content (state c.args.second.now) (state c.len-2.new.self) (c.len-2.ensures.does.goes_on ob))
    (λ len was. c.level-done.ensures.second_leaves ((c.len.ensures.does.model).1 oa1) len was ob1) in
    mixes_joined (state c.args.first.now).content (state c.args.second.now).content (state c.args.second.now) (state c.level-done.new.second) (state c.sync_second.new.second) level_leaves
    (c.sync_second.ensures.leaves (state c.args.first.now).content (state c.args.second.now).content ((c.level-done.ensures.second_model).1 ob1))
