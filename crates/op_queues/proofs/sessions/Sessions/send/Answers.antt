use Rattle.std.proofs.Common.{rules, ◌≡◌, Some}
use Rattle.op_serving.specs.State.{Loop, session_of}
use Rattle.op_queues.proofs.Settling.{does_lost}
use Rattle.op_queues.proofs.Sending.{quiet_sent, idle_sent}
use Rattle.op_queues.proofs.sessions.Sessions.send.Goals as goal

pub returns-in-Err : goal.returns-in-Err
returns-in-Err c =
    let s : Loop = c.args.self.now in
    let to : session_of c.args.message.0 s ≡ Some c.in-Some.conn = search rules in
    does_lost (quiet_sent c.args.message) c.in-Some.conn s c.lose.new.self
    (idle_sent c.args.message c.in-Some.conn s c.lose.new.self to c.lose.ensures.lost) c.lose.ensures.lost c.lose.ensures.room
