use Rattle.std.proofs.Common.{rules, true, false}
use Rattle.op_queues.proofs.Asking.{asked_found, asked_lost}
use Rattle.op_queues.proofs.sessions.Sessions.ask.Goals as goal

pub returns-then-not-is_open : goal.returns-then-not-is_open
returns-then-not-is_open c = asked_found c.args.read (c.args.conn, c.args.key) false c.args.self.now c.asker.new.self (search rules) c.asker.ensures.new

pub returns-in-Ok : goal.returns-in-Ok
returns-in-Ok c = asked_found c.args.read (c.args.conn, c.args.key) true c.args.self.now c.note.new.self (search rules) (search rules)

pub returns-in-Err : goal.returns-in-Err
returns-in-Err c =
    asked_lost c.args.read (c.args.conn, c.args.key) c.args.self.now c.note.new.self c.lose.new.self (search rules)
    (search rules) c.lose.ensures.lost c.lose.ensures.room
