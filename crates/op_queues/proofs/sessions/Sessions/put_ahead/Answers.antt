use Rattle.std.proofs.Common.{rules, ◌≡◌}
use Rattle.op_queues.proofs.Settling.{quiet_waits, does_found, starved, shut_waits}
use Rattle.op_queues.proofs.Room.{behind_lost}
use Rattle.op_queues.proofs.sessions.Sessions.put_ahead.Goals as goal

pub returns-in-Ok-clause-does : goal.returns-in-Ok-clause-does
returns-in-Ok-clause-does c = does_found (quiet_waits c.args.conn c.args.unsent.now) c.args.self.now c.queue_frame.new.self (search rules)

pub returns-in-Err-clause-does : goal.returns-in-Err-clause-does
returns-in-Err-clause-does c =
    let frame = c.args.unsent.now in
    starved (quiet_waits c.args.conn frame) c.args.conn c.args.self.now c.queue_frame.new.self c.lose.new.self (shut_waits c.args.conn frame)
    (search rules) c.lose.ensures.lost c.lose.ensures.room

pub returns-in-Err-clause-fewer : goal.returns-in-Err-clause-fewer
returns-in-Err-clause-fewer c =
    let same : c.queue_frame.new.self ≡ c.args.self.now = search rules in
    rw (c.lose.ensures.lost, same) (behind_lost c.args.conn c.args.self.now)
