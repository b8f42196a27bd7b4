use Rattle.std.proofs.Common.{ℕ, Option, sym, ap, subst, ◌∙◌}
use Rattle.std.proofs.lemmas.Result.{err_from_is_err_and}
use Rattle.op_types.specs.Ranges.{IsMember}
use Rattle.op_world.specs.Events.{parts_of}
use Rattle.op_replay_nodes.specs.declared.node_state.WorldNode.{WorldNode}
use Rattle.op_world.proofs.Events.{never_bad, stop_event, stop_in_range, stop_possible, stopped_at}
use Rattle.op_world.proofs.Plans.{get_any}
use Rattle.op_world.proofs.world.events.stop_at.Goals as goal
use Rattle.op_areas.specs.Media.{medium}

pub happen-requires-clause-range : goal.happen-requires-clause-range
happen-requires-clause-range g c =
    let M = medium g.A.Disk.state g.A.Area.holds g.A.Area.IS_MIRRORED in
    let w = c.args.world.now in
    let s = c.index.result.now in
    (stop_in_range M) (parts_of w c.args.ledger.now) s.pid c.requires.kept
    (subst (λ (n : (WorldNode _ _)). IsMember w.ids.items n.pid) (sym c.index.ensures) (stop_possible M (parts_of w c.args.ledger.now) c.args.place s c.requires.kept c.requires.there))

pub returns-in_err-happen-clause-never_bad : goal.returns-in_err-happen-clause-never_bad
returns-in_err-happen-clause-never_bad g c =
    let M = medium g.A.Disk.state g.A.Area.holds g.A.Area.IS_MIRRORED in
    let w = c.args.world.now in
    let s = c.index.result.now in
    let p = err_from_is_err_and c.from_residual.result c.from_residual.ensures.1 in
    let can = subst (λ (n : (WorldNode _ _)). IsMember w.ids.items n.pid) (sym c.index.ensures) (stop_possible M (parts_of w c.args.ledger.now) c.args.place s c.requires.kept c.requires.there) in
    rw (p.1, p.2) (never_bad M (Option ℕ) (Unit {0}) c.in_err-happen.field-0.0 (parts_of w c.args.ledger.now) (stop_event M c.args.line s.pid) can c.in_err-happen.ensures.bad)

pub returns-clause-stops : goal.returns-clause-stops
returns-clause-stops g c t plans show planned =
    let M = medium g.A.Disk.state g.A.Area.holds g.A.Area.IS_MIRRORED in
    let w = c.args.world.now in
    let s = c.index.result.now in
    stopped_at M (parts_of w c.args.ledger.now) (parts_of c.happen.new.world c.happen.new.ledger) c.args.line s.pid c.args.place c.in_ok-happen.field-0 t plans (c.in_ok-happen.ensures.happens t plans show planned)
    (λ d. ap (λ (n : WorldNode _ _). n.pid) (get_any w.servers.items c.args.place d s c.requires.there ∙ sym c.index.ensures))
