use Rattle.std.proofs.Common.{◌≡◌, ℕ, List, subst, rules}
use Rattle.std.proofs.lemmas.Result.{err_from_is_err_and}
use Rattle.op_gen.specs.Links.{all_links}
use Rattle.op_runs.specs.declared.summary.Summary.{Summary}
use Rattle.op_executions.specs.Laws.{reached}
use Rattle.op_runs.specs.Run.{Execution}
use Rattle.op_runs.specs.Schedules.{observers_begun}
use Rattle.op_world.specs.Worlds.{Shows}
use Rattle.op_world.proofs.Lockstep.{drill_report, passed_on}
use Rattle.op_world.proofs.world.World.lockstep_over.Goals as goal
use Rattle.op_areas.specs.Media.{medium}

pub returns-clause-report : goal.returns-clause-report
returns-clause-report g c =
    let M = medium g.A.Disk.state g.A.Area.holds g.A.Area.IS_MIRRORED in
    let all : c.deref.result.now ≡ all_links c.args.members = search rules in
    (drill_report M) c.args.members c.requires.members c.args.links.now.pairs.now c.deref.result.now c.args.rounds _ _ _ _ _
    (subst (λ (none : List ℕ). Shows M c.in_ok-start.start (reached c.args.members none (observers_begun none))) c.new-none.ensures c.in_ok-start.ensures.shows) c.in_ok-start.ensures.members all
    (λ t s. record { shows = c.in_ok-linked.ensures.after t s; range = c.in_ok-linked.ensures.range t s }) c.in_ok-linked.ensures.members
    (λ t s. record { shows = c.in_ok-drilled.ensures.after t s; range = c.in_ok-drilled.ensures.range t s }) c.in_ok-drilled.ensures.members
    c.in_ok-tell_ballots.ensures.after c.in_ok-tell_ballots.ensures.members
    c.in_ok-summary.ensures

pub returns-in_err-tell_ballots-clause-never_bad : goal.returns-in_err-tell_ballots-clause-never_bad
returns-in_err-tell_ballots-clause-never_bad g c =
    let M = medium g.A.Disk.state g.A.Area.holds g.A.Area.IS_MIRRORED in
    let p = err_from_is_err_and c.from_residual-in_err-tell_ballots.result c.from_residual-in_err-tell_ballots.ensures.1 in
    rw (p.1, p.2) (passed_on (Unit {0}) Summary c.in_err-tell_ballots.field-0.0 (λ (i : ℕ). (t : Execution) → Shows M c.in_ok-drilled.drilled t → ⊥) (λ (i : ℕ). ⊥)
    (λ i never. never _ (c.in_ok-drilled.ensures.after _ (c.in_ok-linked.ensures.after _ c.in_ok-start.ensures.shows))) c.in_err-tell_ballots.ensures.bad)

pub returns-in_err-linked-clause-never_bad : goal.returns-in_err-linked-clause-never_bad
returns-in_err-linked-clause-never_bad g c =
    let M = medium g.A.Disk.state g.A.Area.holds g.A.Area.IS_MIRRORED in
    let p = err_from_is_err_and c.from_residual-in_err-linked.result c.from_residual-in_err-linked.ensures.1 in
    rw (p.1, p.2) (passed_on (Unit {0}) Summary c.in_err-linked.field-0.0 (λ (i : ℕ). (t : Execution) → Shows M c.in_ok-start.start t → ⊥) (λ (i : ℕ). ⊥)
    (λ i never. never _ c.in_ok-start.ensures.shows) c.in_err-linked.ensures.bad)

pub returns-in_err-drilled-clause-never_bad : goal.returns-in_err-drilled-clause-never_bad
returns-in_err-drilled-clause-never_bad g c =
    let M = medium g.A.Disk.state g.A.Area.holds g.A.Area.IS_MIRRORED in
    let p = err_from_is_err_and c.from_residual-in_err-drilled.result c.from_residual-in_err-drilled.ensures.1 in
    rw (p.1, p.2) (passed_on (Unit {0}) Summary c.in_err-drilled.field-0.0 (λ (i : ℕ). (t : Execution) → Shows M c.in_ok-linked.linked t → ⊥) (λ (i : ℕ). ⊥)
    (λ i never. never _ (c.in_ok-linked.ensures.after _ c.in_ok-start.ensures.shows)) c.in_err-drilled.ensures.bad)
