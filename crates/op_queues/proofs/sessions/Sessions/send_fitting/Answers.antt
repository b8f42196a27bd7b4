use Rattle.std.proofs.Common.{rules, ◌≡◌, ◌∙◌, ℕ, List, Bool, true, false, ap, sym, Some}
use Rattle.op_serving.specs.State.{Loop, find}
use Rattle.op_serving.specs.Wire.{peer_frame}
use Rattle.op_serving.specs.Losses.{settled, Does}
use Rattle.op_serving.specs.Room.{count_at, goes_ahead, placed, moved, begins_anew, is_excess}
use Rattle.op_serving.specs.Handing.{made_way, sent_behind, sent_if, sent_at}
use Rattle.op_types.specs.declared.messages.Msg.{Msg}
use Rattle.op_queues.proofs.Settling.{blind, quiet_then, does_found, does_nothing, does_then, does_as}
use Rattle.op_queues.proofs.Room.{quiet_behind, quiet_cleared, quiet_moved}
use Rattle.op_queues.proofs.sessions.Sessions.send_fitting.Goals as goal

-- what makes way, then what moves up, and then the message
sends : (c : ℕ) (m : ℕ × Msg) (b : Bool) (frame : List ℕ) (s w u t : Loop) → is_excess m.1.body (count_at c s.behind) ≡ false → frame ≡ peer_frame u.me m.0 m.1
    → b ≡ goes_ahead m.1 (find c u.sessions) (count_at c u.behind)
    → w ≡ made_way c m.1 s → Does (λ ms x. settled ms (moved c x)) w u → Does (λ ms x. settled ms (placed b (c, frame) x)) u t → Does
    (λ ms x. settled ms (sent_at (Some c) m x)) s t
sends c m b frame s w u t few is ahead way first second =
    let same : placed b (c, frame) u ≡ sent_behind c m u =
    ap (λ (a : Bool). placed a (c, frame) u) ahead ∙ ap (λ (f : List ℕ). placed (goes_ahead m.1 (find c u.sessions) (count_at c u.behind)) (c, f) u) is in
    does_as (sent_if false c m) (sent_at (Some c) m) (ap (λ (x : Bool). sent_if x c m s) (sym few))
    (does_then (made_way c m.1) (λ x. sent_behind c m (moved c x)) (blind (quiet_then (quiet_moved c) (quiet_behind c m)))
    (does_found (quiet_cleared (begins_anew m.1.body) c) s w way)
    (does_then (moved c) (sent_behind c m) (blind (quiet_behind c m)) first (does_as (placed b (c, frame)) (sent_behind c m) same second)))

pub returns-then-is_excess : goal.returns-then-is_excess
returns-then-is_excess c =
    let s : Loop = c.args.self.now in
    let many : is_excess c.args.message.1.body (count_at c.args.conn s.behind) ≡ true = search rules in
    does_nothing (sent_at (Some c.args.conn) c.args.message) s (ap (λ (x : Bool). sent_if x c.args.conn c.args.message s) many)

pub returns-then-is_ahead : goal.returns-then-is_ahead
returns-then-is_ahead c =
    let u : Loop = c.move_up.new.self in
    let few : is_excess c.args.message.1.body (count_at c.args.conn c.args.self.now.behind) ≡ false = search rules in
    let ahead : true ≡ goes_ahead c.args.message.1 (find c.args.conn u.sessions) (count_at c.args.conn u.behind) = search rules in
    let is : c.new-unsent.result ≡ peer_frame u.me c.args.message.0 c.args.message.1 = search rules in
    sends c.args.conn c.args.message true c.new-unsent.result c.args.self.now c.make_way.new.self u c.put_ahead.new.self few is ahead c.make_way.ensures
    c.move_up.ensures c.put_ahead.ensures.does

pub returns-else-is_ahead : goal.returns-else-is_ahead
returns-else-is_ahead c =
    let u : Loop = c.move_up.new.self in
    let few : is_excess c.args.message.1.body (count_at c.args.conn c.args.self.now.behind) ≡ false = search rules in
    let ahead : false ≡ goes_ahead c.args.message.1 (find c.args.conn u.sessions) (count_at c.args.conn u.behind) = search rules in
    let is : c.new-unsent.result ≡ peer_frame u.me c.args.message.0 c.args.message.1 = search rules in
    sends c.args.conn c.args.message false c.new-unsent.result c.args.self.now c.make_way.new.self u c.put_behind.new.self few is ahead c.make_way.ensures
    c.move_up.ensures c.put_behind.ensures
