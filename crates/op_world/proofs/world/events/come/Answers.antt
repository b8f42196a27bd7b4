use Rattle.std.proofs.Common.{sym, subst, ◌∙◌}
use Rattle.op_areas.specs.Media.{medium}
use Rattle.op_world.specs.Events.{parts_of, HappensAt}
use Rattle.op_world.proofs.Events.{due_comes, none_comes, not_due_comes, ok_weaker, told_comes, told_kept}
use Rattle.op_world.proofs.Plans.{told_nothing}
use Rattle.op_world.proofs.world.events.come.Goals as goal

pub returns-then-not-index-clause-comes : goal.returns-then-not-index-clause-comes
returns-then-not-index-clause-comes g c t plans show planned =
    let M = medium g.A.Disk.state g.A.Area.holds g.A.Area.IS_MIRRORED in
    let did = c.in_ok-place.ensures in
    not_due_comes M (parts_of c.args.world.now c.args.ledger.now) (parts_of c.happen.new.world c.happen.new.ledger) c.args.event t plans c.in_ok-place.field-0 c.in-Some.place c.in-Some.is (did.happens t plans show planned) c.requires.range
    c.index.result.now c.index.ensures c.if-not-index.true

pub returns-else-not-index-clause-comes : goal.returns-else-not-index-clause-comes
returns-else-not-index-clause-comes g c =
    let M = medium g.A.Disk.state g.A.Area.holds g.A.Area.IS_MIRRORED in
    let did = c.in_ok-place.ensures in
    ok_weaker M c.stop_at.result _ _
    (λ stops t plans show planned. due_comes M (parts_of c.args.world.now c.args.ledger.now) (parts_of c.happen.new.world c.happen.new.ledger) (parts_of c.stop_at.new.world c.stop_at.new.ledger) c.args.event t plans c.in_ok-place.field-0 c.in-Some.place c.in-Some.is
    (did.happens t plans show planned) did.kept (rw c.in-Some.is at did.place) c.requires.range c.index.result.now c.index.ensures c.if-not-index.false stops)
    c.stop_at.ensures.stops

pub returns-in_ok-plan_at-in-None-clause-comes : goal.returns-in_ok-plan_at-in-None-clause-comes
returns-in_ok-plan_at-in-None-clause-comes g c t plans show planned =
    let M = medium g.A.Disk.state g.A.Area.holds g.A.Area.IS_MIRRORED in
    let did = c.in_ok-place.ensures in
    let tells = sym c.by-planned.ensures ∙ c.in-Some-planned.is in
    told_comes M (parts_of c.args.world.now c.args.ledger.now) c.happen.new.world c.plan_at.new.world c.happen.new.ledger c.args.event c.in-Some-planned.pid c.in-Some-planned.planned tells did.kept did.can
    c.requires.range c.in_ok-place.field-0 c.in-None.is t plans show planned (did.happens t plans show planned) c.in_ok-plan_at-in-None.ensures

pub returns-in_ok-plan_at-in-None-clause-kept : goal.returns-in_ok-plan_at-in-None-clause-kept
returns-in_ok-plan_at-in-None-clause-kept g c =
    let M = medium g.A.Disk.state g.A.Area.holds g.A.Area.IS_MIRRORED in
    let did = c.in_ok-place.ensures in
    let tells = sym c.by-planned.ensures ∙ c.in-Some-planned.is in
    told_kept M (parts_of c.args.world.now c.args.ledger.now) c.happen.new.world c.plan_at.new.world c.happen.new.ledger c.args.event c.in-Some-planned.pid c.in-Some-planned.planned tells did.kept did.can
    c.in_ok-plan_at-in-None.ensures

pub returns-in_default-clause-comes : goal.returns-in_default-clause-comes
returns-in_default-clause-comes g c t plans show planned =
    let M = medium g.A.Disk.state g.A.Area.holds g.A.Area.IS_MIRRORED in
    let did = c.in_ok-place.ensures in
    let old = parts_of c.args.world.now c.args.ledger.now in
    let new = parts_of c.happen.new.world c.happen.new.ledger in
    none_comes M old new c.args.event t plans (subst (λ p. HappensAt M old c.args.event t plans p new) c.in-None.is (did.happens t plans show planned))
    (sym c.by-planned.ensures ∙ told_nothing c.by-planned.result c.in_default.not-Some) show planned
