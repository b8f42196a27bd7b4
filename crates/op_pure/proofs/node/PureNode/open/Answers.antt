use Rattle.std.proofs.Common.{ℕ, [], ap, refl}
use Rattle.std.proofs.lemmas.Result.{IfOk-weaker}
use Rattle.op_runs.specs.World.{Done, Stopped, Faulted, Opens}
use Rattle.op_pure.specs.Happenings.{fate_of}
use Rattle.op_pure.specs.Nodes.{HasDone}
use Rattle.op_pure.proofs.NodesDone.{as_fated, only}
use Rattle.op_pure.proofs.node.PureNode.open.Goals as goal

pub returns-in-Done : goal.returns-in-Done
returns-in-Done c =
    let old = c.args.self.now in
    let new = c.open_whole.new.self in
    let f = c.args.foretold in
    IfOk-weaker c.open_whole.result (λ r. (line : ℕ) → HasDone old Opens Done f.finds_after line new r.sends r.told) (λ r. (line : ℕ) → HasDone old Opens (fate_of f.fate) f.finds_after line new r.sends r.told)
    (λ r did line. as_fated old old.status Opens f.fate Done f.finds_after line new r.sends r.told refl (ap fate_of c.in-Done.is) (did line)) c.open_whole.ensures

pub returns-in-Stopped : goal.returns-in-Stopped
returns-in-Stopped c line =
    let old = c.args.self.now in
    let new = c.stop_in_opening.new.self in
    let f = c.args.foretold in
    only c.nothing.result old new Opens (fate_of f.fate) f.finds_after line [] c.nothing.ensures
    (as_fated old old.status Opens f.fate Stopped f.finds_after line new [] [] refl (ap fate_of c.in-Stopped.is) (c.stop_in_opening.ensures f.finds_after line))

pub returns-in-Faulted : goal.returns-in-Faulted
returns-in-Faulted c line =
    let old = c.args.self.now in
    let new = c.fail_in_opening.new.self in
    let f = c.args.foretold in
    only c.nothing-in-Faulted.result old new Opens (fate_of f.fate) f.finds_after line [] c.nothing-in-Faulted.ensures
    (as_fated old old.status Opens f.fate (Faulted c.in-Faulted.count) f.finds_after line new [] [] refl (ap fate_of c.in-Faulted.is) (c.fail_in_opening.ensures f.finds_after line))
