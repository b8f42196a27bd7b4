use Rattle.std.proofs.Common.{rules}
use Rattle.op_serving.specs.Wire.{client_frame}
use Rattle.op_queues.proofs.Settling.{quiet_waits, does_found, starved, shut_waits}
use Rattle.op_queues.proofs.sessions.Sessions.answer.Goals as goal

pub returns-in-Ok : goal.returns-in-Ok
returns-in-Ok c = does_found (quiet_waits c.args.conn (client_frame c.args.told.now)) c.args.self.now c.queue_reply.new.self (search rules)

pub returns-in-Err : goal.returns-in-Err
returns-in-Err c =
    let frame = client_frame c.args.told.now in
    starved (quiet_waits c.args.conn frame) c.args.conn c.args.self.now c.queue_reply.new.self c.lose.new.self (shut_waits c.args.conn frame)
    (search rules) c.lose.ensures.lost c.lose.ensures.room
