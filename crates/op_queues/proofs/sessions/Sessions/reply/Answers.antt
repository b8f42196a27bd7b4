use Rattle.std.proofs.Common.{rules, sym, ap, ◌≡◌, None, Some, List, ℕ}
use Rattle.std.specs.FinMap as map
use Rattle.op_serving.specs.State.{Awaited, Loop, waits_for}
use Rattle.op_serving.specs.Wire.{client_frame}
use Rattle.op_serving.specs.Handing.{said_at, forgotten, answered, replied}
use Rattle.op_queues.proofs.Settling.{blind, quiet_waits, does_found, does_as, does_then}
use Rattle.op_queues.proofs.Room.{quiet_forgotten}
use Rattle.op_queues.proofs.sessions.Sessions.reply.Goals as goal

pub returns-in_default : goal.returns-in_default
returns-in_default c =
    let s : Loop = c.args.self.now in
    let key : Awaited = (c.args.read, (c.args.decided.client, c.args.decided.seq)) in
    let none : map.get s.askers key ≡ None = search rules in
    does_as (forgotten key) (replied c.args.read c.args.decided) (sym (ap (λ o. said_at o (client_frame (answered c.args.decided)) (forgotten key s)) none))
    (does_found (quiet_forgotten key) s c.asker.new.self c.asker.ensures.new)

pub returns : goal.returns
returns c =
    let s : Loop = c.args.self.now in
    let key : Awaited = (c.args.read, (c.args.decided.client, c.args.decided.seq)) in
    let b : List ℕ = client_frame (answered c.args.decided) in
    let to : map.get s.askers key ≡ Some c.in-Some.conn = search rules in
    does_as (λ x. waits_for c.in-Some.conn b (forgotten key x)) (replied c.args.read c.args.decided) (sym (ap (λ o. said_at o b (forgotten key s)) to))
    (does_then (forgotten key) (waits_for c.in-Some.conn b) (blind (quiet_waits c.in-Some.conn b))
    (does_found (quiet_forgotten key) s c.asker.new.self c.asker.ensures.new) c.answer.ensures)
