use Rattle.std.proofs.Common.{◌≡◌, ◌+◌, List, ℕ, length, sym, ap, subst, ◌∙◌, arith}
use Rattle.std.proofs.lemmas.Result.{err_from_is_err_and}
use Rattle.op_gen.specs.declared.generator.Gen.{Gen}
use Rattle.op_gen.specs.Draws.{drill_members, drill_spares, drill_ids, event_drawn}
use Rattle.op_runs.specs.Possible.{Named, is_possible}
use Rattle.op_runs.specs.Run.{first_execution, execution_of}
use Rattle.op_runs.specs.Summary.{summary_of}
use Rattle.op_runs.specs.Schedules.{no_plans, plans_after}
use Rattle.op_world.specs.Runs.{IsReportOfDrawn}
use Rattle.op_world.proofs.Events.{never_bad}
use Rattle.op_world.proofs.Drawn.{IsDrawn, drawn_first, drawn_next, drawn_end}
use Rattle.op_world.proofs.world.World.drill_over.Goals as goal
use Rattle.op_areas.specs.Media.{medium}

pub loop-done-init : goal.loop-done-init
loop-done-init g c = (
  first_execution drill_members drill_spares,
  c.in_ok-world.ensures.shows,
  (no_plans, c.in_ok-world.ensures.planned, drawn_first c.args.seed _ _ c.new-events.ensures c.in_ok-world.ensures.proposed),
  c.in_ok-world.ensures.members,
  c.in_ok-world.ensures.ids,
  omega arith,
)

pub loop-done-preserved : goal.loop-done-preserved
loop-done-preserved g c =
    let M = medium g.A.Disk.state g.A.Area.holds g.A.Area.IS_MIRRORED in
    let old = c.loop-done.invariant in
    let e = c.in_ok-event.ensures in
    let w = c.in_ok-world-2.ensures in
    let sent = c.sent.ensures in
    let comes = w.after old.0 old.2.0 old.1 old.2.1 in
    let plans = plans_after (old.0).world old.2.0 c.in_ok-event.event.what in
    let after = execution_of old.0 comes.happenings in
    let Drawn : Gen → Type 0 = λ g. IsDrawn c.args.seed (c.loop-done._done + 1) g after plans c.in_ok-world-2.world.proposed in (
      after,
      comes.shows,
      (
        plans,
        comes.planned,
        subst Drawn (ap (λ (n : ℕ). (event_drawn n c.loop-done.events).1) (sym sent) ∙ sym e.after)
            (drawn_next M c.requires.plain c.args.seed c.loop-done._done c.loop-done.events c.loop-done.world c.in_ok-world-2.world old.0 old.2.0 c.in_ok-event.event c.loop-done.world.proposed c.in_ok-world-2.world.proposed old.2.2 old.1
            (e.event ∙ ap (λ (n : ℕ). (event_drawn n c.loop-done.events).0) sent) (ap (λ (n : ℕ). is_possible drill_ids n c.in_ok-event.event.what) (sym sent) ∙ e.possible) comes e.range w.proposed.0 w.proposed.1),
      ),
      w.members ∙ old.3,
      w.ids ∙ old.4,
      let low = c.loop-done-test.true in omega (arith, low),
    )

pub returns-clause-report : goal.returns-clause-report
returns-clause-report g c =
    let old = c.loop-done.invariant in
    let all : c.loop-done._done ≡ c.args.count = let high = c.loop-done-test.false in let low = old.5 in omega (arith, high, low) in
    subst (λ (n : ℕ). IsReportOfDrawn c.args.seed n c.in_ok-summary.field-0) all
    (drawn_end c.args.seed c.loop-done._done _ old.0 _ _ c.in_ok-summary.field-0 old.2.2 (c.in_ok-summary.ensures old.0 old.1 ∙ ap (λ (ms : List ℕ). summary_of ms old.0) old.3))

pub returns-in_err-world-2-clause-never_bad : goal.returns-in_err-world-2-clause-never_bad
returns-in_err-world-2-clause-never_bad g c =
    let M = medium g.A.Disk.state g.A.Area.holds g.A.Area.IS_MIRRORED in
    let w = c.loop-done.world in
    let e = c.in_ok-event in
    let p = err_from_is_err_and c.from_residual-in_err-world-2.result c.from_residual-in_err-world-2.ensures.1 in
    let can = ap (λ (ps : Named). is_possible ps (length w.messages) e.event.what) c.loop-done.invariant.4 ∙ ap (λ (n : ℕ). is_possible drill_ids n e.event.what) (sym c.sent.ensures) ∙ e.ensures.possible in
    rw (p.1, p.2) (never_bad M (Unit {0}) (Unit {0}) c.in_err-world-2.field-0.0 w e.event can c.in_err-world-2.ensures.bad)
