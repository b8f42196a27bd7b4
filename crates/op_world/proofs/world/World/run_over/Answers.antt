use Rattle.std.proofs.Common.{◌≡◌, ◌<◌, ◌^◌, ℕ, List, length, false, true, sym, ap, subst, ◌∙◌, arith, rules}
use Rattle.op_areas.specs.Media.{medium}
use Rattle.op_runs.specs.Possible.{named_ids}
use Rattle.op_runs.specs.Run.{execution_of}
use Rattle.op_runs.specs.Schedules.{observers_begun, no_plans, plans_after}
use Rattle.op_runs.specs.Summary.{summary_of}
use Rattle.op_executions.specs.Laws.{reached}
use Rattle.op_executions.specs.declared.world.ServerWorld.{ServerWorld}
use Rattle.op_world.specs.Events.{parts_of}
use Rattle.op_world.specs.Plans.{ArePlanned}
use Rattle.op_world.specs.Worlds.{Parts, Shows, IsWorld}
use Rattle.op_world.proofs.Runs.{continues_first, continues_next, continues_end, range_next, bad_here, possible_seen}
use Rattle.op_world.proofs.world.World.run_over.Goals as goal

pub returns-in-Err-BadEvent-clause-bad : goal.returns-in-Err-BadEvent-clause-bad
returns-in-Err-BadEvent-clause-bad g c =
    let M = medium g.A.Disk.state g.A.Area.holds g.A.Area.IS_MIRRORED in
    let old = c.events.invariant in
    let now = parts_of c.events.world c.events.ledger in
    let bad = rw c.in-Err-BadEvent.field-0-is at c.in-Err-BadEvent.ensures.bad in
    bad_here c.args.members c.args.spares c.args.observers M.is_mirrored old.0 _ _ _ c.args.events c.in-Some.event c.events.index now.proposed old.2.2 c.in-Some.ensures
    (possible_seen M (named_ids c.args.members c.args.spares c.args.observers) now old.0 c.in-Some.event false old.1 old.4 bad.1)

pub come-requires-clause-range : goal.come-requires-clause-range
come-requires-clause-range g c = range_next c.args.members c.args.spares c.args.observers _ _ _ _ _ c.args.events c.in-Some.event _ _ c.events.invariant.2.2 c.in-Some.ensures

pub come-requires-clause-kept : goal.come-requires-clause-kept
come-requires-clause-kept g c = c.events.invariant.6

pub events-preserved : goal.events-preserved
events-preserved g c =
    let M = medium g.A.Disk.state g.A.Area.holds g.A.Area.IS_MIRRORED in
    let old = c.events.invariant in
    let before = parts_of c.events.world c.events.ledger in
    let now = parts_of c.come.new.world c.come.new.ledger in
    let did = c.in-Ok.ensures in
    let more = did.can.counted in
    let comes = did.comes old.0 old.2.0 old.1 old.2.1 in (
      execution_of old.0 comes.happenings,
      comes.shows,
      (
        plans_after (old.0).world old.2.0 c.in-Some.event.what,
        comes.planned,
        continues_next M c.args.members c.args.spares c.args.observers before now old.0 old.2.0 _ _ c.args.events c.in-Some.event c.events.index before.proposed now.proposed old.2.2 c.in-Some.ensures comes
            (possible_seen M (named_ids c.args.members c.args.spares c.args.observers) before old.0 c.in-Some.event true old.1 old.4 did.can.possible) more.proposed more.few,
      ),
      more.members ∙ old.3,
      more.ids ∙ old.4,
      old.5,
      did.kept,
    )

pub returns-clause-report : goal.returns-clause-report
returns-clause-report g c =
    let M = medium g.A.Disk.state g.A.Area.holds g.A.Area.IS_MIRRORED in
    let old = c.events.invariant in
    let now = parts_of c.events.world c.events.ledger in
    continues_end c.args.members c.args.spares c.args.observers c.requires.members c.requires.spares c.requires.observers M.is_mirrored old.0 _ _ c.args.events c.events.index now.proposed c.in_ok-summary.field-0 old.2.2
    c.in_default.ensures
    (c.in_ok-summary.ensures old.0 old.1 ∙ ap (λ (ms : List ℕ). summary_of ms old.0) old.3)

pub events-init : goal.events-init
events-init g c =
    let M = medium g.A.Disk.state g.A.Area.holds g.A.Area.IS_MIRRORED in
    let new = c.in_ok-world.ensures in
    let all : c.new-coming.result ≡ c.args.events = c.new-coming.ensures ∙ c.into_vec.ensures in
    let few : length c.args.events < 2 ^ 63 = first_of (search rules, omega arith) in
    let is : parts_of c.make_room.new.self c.world.inside.ledger ≡ c.in_ok-world.field-0 = ap (λ (w : ServerWorld _). parts_of w c.world.inside.ledger) c.make_room.ensures ∙ c.world.view_is in (
      reached c.args.members c.args.spares (observers_begun c.args.observers),
      subst (λ (z : Parts _ _). Shows M z (reached c.args.members c.args.spares (observers_begun c.args.observers))) (sym is) new.shows,
      (
        no_plans,
        subst (λ (z : Parts _ _). ArePlanned z.nodes no_plans) (sym is) new.planned,
        continues_first c.args.members c.args.spares c.args.observers M.is_mirrored _ c.args.events c.make_room.new.self.proposed all c.requires.events (ap (λ (z : Parts _ _). z.proposed) is ∙ new.proposed),
      ),
      ap (λ (z : Parts _ _). z.members) is ∙ new.members,
      ap (λ (z : Parts _ _). z.ids) is ∙ new.ids,
      few,
      subst (λ (w : ServerWorld _). IsWorld M (parts_of w c.world.inside.ledger)) (sym c.make_room.ensures) c.world.invariant,
    )
