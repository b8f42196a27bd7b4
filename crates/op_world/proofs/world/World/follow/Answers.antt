use Rattle.std.proofs.Common.{◌≡◌, ℕ, List, length, false, All, refl, sym, subst, ◌∙◌, arith, rules}
use Rattle.std.proofs.lemmas.List.{nil_from_length}
use Rattle.std.proofs.lemmas.Result.{err_from_is_err_and}
use Rattle.std.specs.Vec.Iter.{into_iter_items}
use Rattle.op_runs.specs.declared.events.Event.{Event}
use Rattle.op_runs.specs.Possible.{is_possible}
use Rattle.op_runs.specs.Run.{Execution, execution_with}
use Rattle.op_runs.specs.Schedules.{no_plans}
use Rattle.op_runs.specs.World.{done_event}
use Rattle.op_world.specs.Drills.{IsQuiet}
use Rattle.op_world.specs.Worlds.{Parts, Shows}
use Rattle.op_world.proofs.Deeds.{run_kept}
use Rattle.op_world.proofs.Lockstep.{first_quiet, not_refused, passed_on, quiet_comes, rest_quiet}
use Rattle.op_world.proofs.LockstepEvents.{follows_first, follows_here, follows_next, follows_end}
use Rattle.op_world.proofs.world.World.follow.Goals as goal
use Rattle.op_areas.specs.Media.{medium}

pub event-requires : goal.event-requires
event-requires g c = (first_quiet _ _ c.in-Some.event c.in-Some.ensures.steps.0 c.loop-event.invariant.3).0

pub loop-event-preserved : goal.loop-event-preserved
loop-event-preserved g c =
    let M = medium g.A.Disk.state g.A.Area.holds g.A.Area.IS_MIRRORED in
    let old = c.loop-event.invariant in
    let e = c.in-Some.event in
    let first = c.in-Some.ensures.steps.0 in
    let quiet = first_quiet _ _ e first old.3 in
    let comes = λ (t : Execution) (s : Shows M c.args.self t).
    let at = old.0 t s in
    quiet_comes M c.args.self.ids c.loop-event.world c.in_ok-world.world e at.0 quiet.1 (follows_here c.args.self.ids t at.0 _ _ c.args.events e at.2 first) (c.in_ok-world.ensures.after at.0 no_plans at.1 old.4) in
    let kept = run_kept M _ c.self.invariant in (
      λ t s.
          let at = old.0 t s in
          (execution_with at.0 (done_event e), (comes t s).0, follows_next c.args.self.ids t at.0 _ _ c.args.events e at.2 first),
      c.in_ok-world.ensures.members ∙ old.1,
      c.in_ok-world.ensures.ids ∙ old.2,
      rest_quiet _ _ e first old.3,
      (comes kept (subst (λ (w : (Parts _ _)). Shows M w kept) c.self.view_is c.self.invariant.shows)).1,
    )

pub loop-event-init : goal.loop-event-init
loop-event-init g c =
    let all : into_iter_items c.into_iter-event-iterator.result ≡ c.args.events = search rules in (
      λ t s. (t, s, follows_first c.args.self.ids t _ c.args.events all (c.requires.possible t s)),
      refl,
      refl,
      subst (λ (es : List Event). All IsQuiet es) (sym all) c.requires.quiet,
      c.requires.calm,
    )

pub returns-in_err-world-clause-bad : goal.returns-in_err-world-clause-bad
returns-in_err-world-clause-bad g c =
    let M = medium g.A.Disk.state g.A.Area.holds g.A.Area.IS_MIRRORED in
    let w = c.loop-event.world in
    let e = c.in-Some.event in
    let old = c.loop-event.invariant in
    let p = err_from_is_err_and c.from_residual.result c.from_residual.ensures.1 in
    rw (p.1, p.2) (passed_on (Unit {0}) (Unit {0}) c.in_err-world.field-0.0 (λ (i : ℕ). (i ≡ 0) × (is_possible w.ids (length w.messages) e.what ≡ false)) (λ (i : ℕ). (t : Execution) → Shows M c.args.self t → ⊥)
    (λ i bad t s. not_refused M w c.args.self.ids t (old.0 t s).0 _ _ c.args.events e old.2 (old.0 t s).1 (old.0 t s).2 c.in-Some.ensures.steps.0 bad.1)
    c.in_err-world.ensures.bad)

pub returns-clause-after : goal.returns-clause-after
returns-clause-after g c t s =
    let M = medium g.A.Disk.state g.A.Area.holds g.A.Area.IS_MIRRORED in
    let last = c.loop-event.invariant.0 t s in
    let none = nil_from_length c.loop-event.event-iterator.rest.items (omega (arith, c.loop-event.event-iterator.rest.ok.0, c.in-None.ensures.steps.0)) in
    subst (λ (u : Execution). Shows M c.loop-event.world u) (follows_end c.args.self.ids t last.0 _ c.args.events last.2 none) last.1
