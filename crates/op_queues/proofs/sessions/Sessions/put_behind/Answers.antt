use Rattle.std.proofs.Common.{rules, ◌∙◌, ◌≡◌, ap, sym, true, false}
use Rattle.op_serving.specs.State.{Loop, is_open}
use Rattle.op_serving.specs.Room.{Frame, kept}
use Rattle.op_queues.proofs.Settling.{does_found, starved}
use Rattle.op_queues.proofs.Room.{quiet_placed, shut_placed}
use Rattle.op_queues.proofs.sessions.Sessions.put_behind.Goals as goal

pub returns-in-Ok : goal.returns-in-Ok
returns-in-Ok c =
    let s : Loop = c.args.self.now in
    let f : Frame = (c.args.conn, c.args.unsent) in
    let there : is_open c.args.conn s ≡ true = search rules in
    let kept_now : c.keep.new.self ≡ kept true f s = search rules in
    does_found (quiet_placed false f) s c.keep.new.self (kept_now ∙ ap (λ b. kept b f s) (sym there))

pub returns-in-Err : goal.returns-in-Err
returns-in-Err c =
    let f : Frame = (c.args.conn, c.args.unsent) in
    starved (quiet_placed false f) c.args.conn c.args.self.now c.keep.new.self c.lose.new.self (shut_placed false f)
    (search rules) c.lose.ensures.lost c.lose.ensures.room
