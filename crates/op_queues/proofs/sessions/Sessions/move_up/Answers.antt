use Rattle.std.proofs.Common.{rules, ◌≡◌, ◌∙◌, ℕ, List, length, true, false, None, Some, sym, ap, subst, arith}
use Rattle.op_serving.specs.State.{Loop, find, waits_for}
use Rattle.op_serving.specs.Losses.{settled, Does}
use Rattle.op_serving.specs.Room.{has_room, without_first, moved}
use Rattle.op_queues.proofs.Frames.{first_none, first_shorter}
use Rattle.op_queues.proofs.Settling.{blind, quiet_then, quiet_waits, does_found, does_as, does_then, does_nothing}
use Rattle.op_queues.proofs.Room.{dropped, quiet_dropped, quiet_moved, moved_more, moved_full, moved_empty}
use Rattle.op_queues.proofs.sessions.Sessions.move_up.Goals as goal

-- what moves up comes to this
abbrev Moves : ℕ → Loop → Loop → Type 0
Moves c s t = Does (λ marks x. settled marks (moved c x)) s t

-- the first frame moved up, and then the others
moves_on : (c : ℕ) (bytes : List ℕ) (s v u t : Loop) → has_room (find c s.sessions) ≡ true → find c s.behind ≡ Some bytes → v ≡ dropped c s
    → Does (λ marks x. settled marks (waits_for c bytes x)) v u → Moves c u t → Moves c s t
moves_on c bytes s v u t room first is one rest =
    does_as (λ x. moved c (waits_for c bytes (dropped c x))) (moved c) (sym (moved_more c bytes s room first))
    (does_then (dropped c) (λ x. moved c (waits_for c bytes x)) (blind (quiet_then (quiet_waits c bytes) (quiet_moved c))) (does_found (quiet_dropped c) s v is)
    (does_then (waits_for c bytes) (moved c) (blind (quiet_moved c)) one rest))

pub returns-in_default : goal.returns-in_default
returns-in_default c =
    let s : Loop = c.behind.self in
    let none : find c.args.conn s.behind ≡ None = search rules in
    let same : c.first_behind.new.self ≡ s = c.first_behind.ensures.rest ∙ ap (λ r. record s { behind = r }) (first_none c.args.conn s.behind none) in
    subst (Moves c.args.conn c.args.self.now) (sym same) (c.behind.invariant s (does_nothing (moved c.args.conn) s (moved_empty c.args.conn s none)))

pub behind-smaller : goal.behind-smaller
behind-smaller c =
    let s : Loop = c.behind.self in
    let first : find c.args.conn s.behind ≡ Some c.in-Some.unsent = search rules in
    let less = first_shorter c.args.conn c.in-Some.unsent s.behind first in
    let fewer = c.put_ahead.ensures.fewer in
    let rest : length (c.first_behind.new.self).behind ≡ length (without_first c.args.conn s.behind) =
    ap (λ (x : Loop). length x.behind) c.first_behind.ensures.rest in
    omega (arith, less, fewer, rest)

pub behind-preserved : goal.behind-preserved
behind-preserved c =
    let s : Loop = c.behind.self in
    let first : find c.args.conn s.behind ≡ Some c.in-Some.unsent = search rules in
    let room : has_room (find c.args.conn s.sessions) ≡ true = search rules in
    λ t rest. c.behind.invariant t
    (moves_on c.args.conn c.in-Some.unsent s c.first_behind.new.self c.put_ahead.new.self t room first
    c.first_behind.ensures.rest c.put_ahead.ensures.does rest)

pub returns : goal.returns
returns c =
    let s : Loop = c.behind.self in
    let full : has_room (find c.args.conn s.sessions) ≡ false = search rules in
    c.behind.invariant s (does_nothing (moved c.args.conn) s (moved_full c.args.conn s full))
