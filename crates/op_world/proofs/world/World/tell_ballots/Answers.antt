use Rattle.std.proofs.Common.{ℕ, ap, refl, subst}
use Rattle.std.proofs.lemmas.Result.{IfOk-weaker}
use Rattle.op_runs.specs.Run.{Execution}
use Rattle.op_world.specs.Worlds.{Parts, Shows, IsWorld}
use Rattle.op_world.proofs.Lockstep.{ticks_follow, ballots_follow, told_shown, bad_weaker}
use Rattle.op_world.proofs.world.World.tell_ballots.Goals as goal
use Rattle.op_areas.specs.Media.{medium}

pub follow-requires-clause-possible : goal.follow-requires-clause-possible
follow-requires-clause-possible g c =
    let M = medium g.A.Disk.state g.A.Area.holds g.A.Area.IS_MIRRORED in
    let kept : IsWorld M c.args.self = subst (λ (w : (Parts _ _)). IsWorld M w) c.self.view_is c.self.invariant in
    λ t s. ticks_follow M c.args.self c.args.self kept t.world _ _ c.in_ok-ticks.ensures.are (ap (λ (w : (Parts _ _)). w.members) c.self.view_is) refl

pub follow-requires-2-clause-possible : goal.follow-requires-2-clause-possible
follow-requires-2-clause-possible g c =
    let M = medium g.A.Disk.state g.A.Area.holds g.A.Area.IS_MIRRORED in
    let kept : IsWorld M c.args.self = subst (λ (w : (Parts _ _)). IsWorld M w) c.self.view_is c.self.invariant in
    λ t s. ballots_follow M c.args.self c.in_ok-follow.field-0 kept t.world _ _ c.in_ok-ballots.ensures.are (ap (λ (w : (Parts _ _)). w.members) c.self.view_is) c.in_ok-follow.ensures.ids

pub returns-clause-after : goal.returns-clause-after
returns-clause-after g c =
    let M = medium g.A.Disk.state g.A.Area.holds g.A.Area.IS_MIRRORED in
    IfOk-weaker c.follow-2.result _ _
    (λ w after t s. told_shown M c.args.self c.in_ok-follow.field-0 _ _ _ c.in_ok-ticks.ensures.are c.in_ok-ballots.ensures.are (ap (λ (v : (Parts _ _)). v.members) c.self.view_is) c.in_ok-follow.ensures.after t s w after)
    c.follow-2.ensures.after

pub returns-clause-bad : goal.returns-clause-bad
returns-clause-bad g c =
    let M = medium g.A.Disk.state g.A.Area.holds g.A.Area.IS_MIRRORED in
    bad_weaker c.follow-2.result (λ (i : ℕ). (t : Execution) → Shows M c.in_ok-follow.field-0 t → ⊥) (λ (i : ℕ). (t : Execution) → Shows M c.args.self t → ⊥)
    (λ i never t s. never _ (c.in_ok-follow.ensures.after t s)) c.follow-2.ensures.bad
