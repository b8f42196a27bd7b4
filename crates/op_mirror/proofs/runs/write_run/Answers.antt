use Rattle.std.proofs.Common.{◌≡◌, ◌+◌, ◌-◌, ◌≤◌, ℕ, List, length, take, drop, arith}
use Rattle.std.proofs.lemmas.List.{length-take-le, length-drop}
use Rattle.op_outside.proofs.Runs.{started}
use Rattle.op_mirror.specs.Crashes.{MixOf}
use Rattle.op_mirror.proofs.Crashes.{run_leaves}
use Rattle.op_mirror.proofs.runs.write_run.Goals as goal

run_length : (start end : ℕ) (want : List ℕ) → start ≤ end → end ≤ length want → length (take (end - start) (drop start want)) ≡ end - start
run_length start end want order within = length-take-le (end - start) (drop start want) (omega (arith, length-drop start want))

pub returns-then-start-end-clause-leaves : goal.returns-then-start-end-clause-leaves
returns-then-start-end-clause-leaves g c =
    let d = g.D.Disk.state c.args.disk.now in
    λ x y apart o. started (MixOf x y d) d

pub returns-in-Ok-clause-leaves : goal.returns-in-Ok-clause-leaves
returns-in-Ok-clause-leaves g c =
    let state = g.D.Disk.state in
    let size = run_length c.args.start c.args.end c.args.want.now c.requires.order c.requires.within in
    λ x y apart o. run_leaves x y (c.args.at + c.args.start) (c.args.end - c.args.start) (take (c.args.end - c.args.start) (drop c.args.start c.args.want.now))
    (state c.args.disk.now) (state c.write_at.new.self) size apart (c.write_at.ensures.does.goes_on o)

pub returns-in-Err-clause-leaves : goal.returns-in-Err-clause-leaves
returns-in-Err-clause-leaves g c =
    let state = g.D.Disk.state in
    let size = run_length c.args.start c.args.end c.args.want.now c.requires.order c.requires.within in
    λ x y apart o. run_leaves x y (c.args.at + c.args.start) (c.args.end - c.args.start) (take (c.args.end - c.args.start) (drop c.args.start c.args.want.now))
    (state c.args.disk.now) (state c.write_at.new.self) size apart (c.write_at.ensures.does.goes_on o)
