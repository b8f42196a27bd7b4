use Rattle.std.proofs.Common.{◌≡◌, ℕ, List, false, true, ap, subst, ◌∙◌, arith, rules}
use Rattle.std.proofs.lemmas.List.{nil_from_length}
use Rattle.std.specs.Vec.Iter.{into_iter_items}
use Rattle.op_runs.specs.Possible.{named_ids}
use Rattle.op_runs.specs.Schedules.{observers_begun, started_world}
use Rattle.op_runs.specs.World as runs
use Rattle.op_executions.proofs.Beginning.{begun_propose_none}
use Rattle.op_executions.specs.Worlds.{Shows}
use Rattle.op_executions.proofs.Worlds.{runs_on}
use Rattle.op_pure.specs.Happenings.{happening_of}
use Rattle.op_pure.specs.Nodes.{pure_nodes}
use Rattle.op_pure.specs.declared.happening.Foretold.{Foretold}
use Rattle.op_pure.proofs.Runs.{continues_first, continues_next, bad_here, ran_all, keeps_the_laws, possible_seen, range_next, shows_after}
use Rattle.op_pure.proofs.world.PureWorld.run.Goals as goal

pub loop-happening-init : goal.loop-happening-init
loop-happening-init c =
    let w = c.in_ok-world.world in
    let a = c.args in
    let run = c.in_ok-world.ensures.run in
    let given : into_iter_items c.into_iter-happening-iterator.result ≡ c.into_vec-happening-items.result.items = c.into_iter-happening-iterator.ensures.into_iter_gives.0 in
    let all = given ∙ c.into_vec-happening-items.ensures in (
      started_world a.members a.spares a.observers,
      subst (λ (ms : List ℕ). Shows pure_nodes w (started_world ms a.spares a.observers)) c.in_ok-world.ensures.members run.shows,
      continues_first a.members a.spares a.observers _ a.happenings w.proposed all c.requires.happenings (run.proposed ∙ begun_propose_none a.observers),
      run.ids ∙ ap (λ (ms : List ℕ). named_ids ms a.spares a.observers) c.in_ok-world.ensures.members,
      first_of (search rules, omega arith),
      record { spares = a.spares; observers = a.observers; happenings = observers_begun a.observers; run = run },
    )

pub event-requires-clause-run : goal.event-requires-clause-run
event-requires-clause-run c = c.loop-happening.invariant.5

pub returns-in-Err-BadEvent-clause-bad : goal.returns-in-Err-BadEvent-clause-bad
returns-in-Err-BadEvent-clause-bad c =
    let old = c.loop-happening.invariant in
    let bad = rw c.in-Err-BadEvent.field-0-is at c.in-Err-BadEvent.ensures.bad in
    bad_here c.args.members c.args.spares c.args.observers old.0 _ _ c.args.happenings c.in-Some.happening c.loop-happening.index c.loop-happening.world.proposed old.2 c.in-Some.ensures.steps.0
    (possible_seen (named_ids c.args.members c.args.spares c.args.observers) c.loop-happening.world old.0 c.in-Some.happening.event false old.1 old.3 bad.1)

pub loop-happening-preserved : goal.loop-happening-preserved
loop-happening-preserved c =
    let old = c.loop-happening.invariant in
    let did = c.in-Ok.ensures in
    let h = c.in-Some.happening in
    let w = c.loop-happening.world in
    let new = c.event.new.self in
    let f : Foretold = record { fate = h.fate; finds_after = h.finds_after } in
    let fit = range_next c.args.members c.args.spares c.args.observers old.0 _ _ c.args.happenings h c.loop-happening.index w.proposed old.2 c.in-Some.ensures.steps.0 in (
      runs.world_after old.0 (happening_of h),
      shows_after old.0 h.event f c.in-Ok.field-0 w new old.1 (did.happened old.0 old.1),
      continues_next c.args.members c.args.spares c.args.observers old.0 _ _ c.args.happenings h c.loop-happening.index w.proposed new.proposed old.2 c.in-Some.ensures.steps.0
          (possible_seen (named_ids c.args.members c.args.spares c.args.observers) w old.0 h.event true old.1 old.3 did.possible) did.proposed.0 did.proposed.1,
      did.goes_on.ids ∙ old.3,
      old.4,
      runs_on pure_nodes w new h.event f c.in-Ok.field-0 old.5 fit did.possible did.happened did.goes_on.servers did.goes_on.members did.goes_on.ids did.proposed.0 did.proposed.1,
    )

pub returns-clause-world : goal.returns-clause-world
returns-clause-world c =
    let old = c.loop-happening.invariant in
    let shows : Shows pure_nodes c.loop-happening.world _ = subst (λ (x : runs.World). Shows pure_nodes c.loop-happening.world x)
    (ran_all c.args.members c.args.spares c.args.observers old.0 _ c.args.happenings c.loop-happening.index c.loop-happening.world.proposed old.2
    (nil_from_length c.loop-happening.happening-iterator.rest.items (omega (arith, c.loop-happening.happening-iterator.rest.ok.0, c.in-None.ensures.steps.0))))
    old.1 in
    record { servers = shows.servers; messages = shows.messages; lines = shows.lines }

pub returns-clause-laws : goal.returns-clause-laws
returns-clause-laws c =
    let old = c.loop-happening.invariant in
    keeps_the_laws c.args.members c.args.spares c.args.observers c.requires.members c.requires.spares c.requires.observers old.0 _ c.args.happenings c.loop-happening.index c.loop-happening.world.proposed c.requires.happenings old.2
    (nil_from_length c.loop-happening.happening-iterator.rest.items (omega (arith, c.loop-happening.happening-iterator.rest.ok.0, c.in-None.ensures.steps.0)))
