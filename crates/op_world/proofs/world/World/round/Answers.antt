use Rattle.std.proofs.Common.{◌≡◌, ℕ, length, ap, rules, refl, subst}
use Rattle.std.proofs.lemmas.Result.{IfOk-weaker, err_from_is_err_and}
use Rattle.op_lockstep.specs.Lockstep.{is_linked_request, is_sent_reply}
use Rattle.op_runs.specs.Run.{Execution}
use Rattle.op_world.specs.Worlds.{Parts, Shows, IsWorld}
use Rattle.op_world.proofs.Lockstep.{ticks_follow, deliveries_follow, round_shown, round_range, bad_weaker, passed_on}
use Rattle.op_world.proofs.world.World.round.Goals as goal
use Rattle.op_areas.specs.Media.{medium}

pub follow-requires-clause-possible : goal.follow-requires-clause-possible
follow-requires-clause-possible g c =
    let M = medium g.A.Disk.state g.A.Area.holds g.A.Area.IS_MIRRORED in
    let kept : IsWorld M c.args.self = subst (λ (w : (Parts _ _)). IsWorld M w) c.self.view_is c.self.invariant in
    λ t s. ticks_follow M c.args.self c.args.self kept t.world _ _ c.in_ok-ticks.ensures.are (ap (λ (w : (Parts _ _)). w.members) c.self.view_is) refl

pub follow-requires-2-clause-possible : goal.follow-requires-2-clause-possible
follow-requires-2-clause-possible g c = λ t s. deliveries_follow _ t.world _ (is_linked_request c.args.links.now.pairs.now) _ _ c.in_ok-requests.ensures.are s.messages

pub follow-requires-3-clause-possible : goal.follow-requires-3-clause-possible
follow-requires-3-clause-possible g c = λ t s. deliveries_follow _ t.world _ is_sent_reply _ _ c.in_ok-replies.ensures.are s.messages

pub returns-clause-after : goal.returns-clause-after
returns-clause-after g c =
    let M = medium g.A.Disk.state g.A.Area.holds g.A.Area.IS_MIRRORED in
    let asked_since : c.len-asked_since.result ≡ length c.args.self.messages = search rules in
    let answered_since : c.len-answered_since.result ≡ length c.in_ok-ticked.ticked.messages = search rules in
    IfOk-weaker c.follow-3.result _ _
    (λ w after t s. round_shown M c.args.self c.in_ok-ticked.ticked c.in_ok-asked.asked c.args.links.now.pairs.now _ _ _ _ _ _
    c.in_ok-ticks.ensures.are (ap (λ (w : (Parts _ _)). w.members) c.self.view_is) c.in_ok-requests.ensures.are asked_since c.in_ok-replies.ensures.are answered_since
    c.in_ok-ticked.ensures.after c.in_ok-asked.ensures.after t s w after)
    c.follow-3.ensures.after

pub returns-clause-range : goal.returns-clause-range
returns-clause-range g c =
    let M = medium g.A.Disk.state g.A.Area.holds g.A.Area.IS_MIRRORED in
    let asked_since : c.len-asked_since.result ≡ length c.args.self.messages = search rules in
    let answered_since : c.len-answered_since.result ≡ length c.in_ok-ticked.ticked.messages = search rules in
    IfOk-weaker c.follow-3.result _ _
    (λ w after t s. round_range M c.args.self c.in_ok-ticked.ticked c.in_ok-asked.asked c.args.links.now.pairs.now _ _ _ _ _ _
    c.in_ok-ticks.ensures.are (ap (λ (w : (Parts _ _)). w.members) c.self.view_is) c.in_ok-requests.ensures.are asked_since c.in_ok-replies.ensures.are answered_since
    c.in_ok-ticked.ensures.after c.in_ok-asked.ensures.after t s c.in_ok-ticks.ensures.range c.in_ok-requests.ensures.range c.in_ok-replies.ensures.range)
    c.follow-3.ensures.after

pub returns-in_err-asked-clause-bad : goal.returns-in_err-asked-clause-bad
returns-in_err-asked-clause-bad g c =
    let M = medium g.A.Disk.state g.A.Area.holds g.A.Area.IS_MIRRORED in
    let p = err_from_is_err_and c.from_residual-in_err-asked.result c.from_residual-in_err-asked.ensures.1 in
    rw (p.1, p.2) (passed_on (Unit {0}) (Unit {0}) c.in_err-asked.field-0.0 (λ (i : ℕ). (t : Execution) → Shows M c.in_ok-ticked.ticked t → ⊥) (λ (i : ℕ). (t : Execution) → Shows M c.args.self t → ⊥)
    (λ i never t s. never _ (c.in_ok-ticked.ensures.after t s)) c.in_err-asked.ensures.bad)

pub returns-clause-bad : goal.returns-clause-bad
returns-clause-bad g c =
    let M = medium g.A.Disk.state g.A.Area.holds g.A.Area.IS_MIRRORED in
    bad_weaker c.follow-3.result (λ (i : ℕ). (t : Execution) → Shows M c.in_ok-asked.asked t → ⊥) (λ (i : ℕ). (t : Execution) → Shows M c.args.self t → ⊥)
    (λ i never t s. never _ (c.in_ok-asked.ensures.after _ (c.in_ok-ticked.ensures.after t s))) c.follow-3.ensures.bad
