use Rattle.std.proofs.Common.{rules, ◌≡◌, Some, arith}
use Rattle.std.proofs.lemmas.List.{length-drop}
use Rattle.op_serving.specs.declared.session.Session.{Session}
use Rattle.op_serving.specs.State.{find, set}
use Rattle.op_queues.specs.Filling.{IsThin}
use Rattle.op_queues.proofs.Filling.{set_thin, found_thin}
use Rattle.op_queues.proofs.session_table.took_at.Goals as goal

pub returns-in-Some-clause-thin : goal.returns-in-Some-clause-thin
returns-in-Some-clause-thin c all =
    let t = c.args.sessions.now.entries in
    let x : Session = c.in-Some.session.now in
    let y : Session = record { kind = c.with_less_hello-session.result; frames = x.frames; queue = c.took.new.self } in
    let there : find c.args.conn t ≡ Some x = search rules in
    let was : IsThin x = rw there at (found_thin c.args.conn t all) in
    let now : IsThin y = rw c.took.ensures (omega (arith, length-drop c.args.n x.queue, was)) in
    let set_is : (c.get_mut.follows.lender y).entries ≡ set c.args.conn y t = search rules in
    rw set_is (set_thin c.args.conn y t all now)
