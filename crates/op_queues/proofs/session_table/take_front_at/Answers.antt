use Rattle.std.proofs.Common.{rules, ◌≡◌, Some}
use Rattle.op_serving.specs.State.{find, set}
use Rattle.op_queues.specs.Hearing.{least_taken}
use Rattle.op_queues.proofs.Counting.{set_takes}
use Rattle.op_queues.proofs.session_table.take_front_at.Goals as goal

pub returns-in-Some-clause-most : goal.returns-in-Some-clause-most
returns-in-Some-clause-most c =
    let t = c.args.sessions.now.entries in
    let y = c.take_front.new.session in
    let there : find c.args.conn t ≡ Some c.in-Some.session.now = search rules in
    let set_is : (c.get_mut.follows.lender y).entries ≡ set c.args.conn y t = search rules in
    rw set_is (set_takes c.args.conn (least_taken c.take_front.result) y c.in-Some.session.now t there c.take_front.ensures.bytes)
