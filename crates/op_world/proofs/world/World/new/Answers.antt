use Rattle.std.proofs.Common.{List, ℕ, ap, subst, ◌∙◌}
use Rattle.op_runs.specs.Possible.{named_ids}
use Rattle.op_runs.specs.Schedules.{observers_begun}
use Rattle.op_executions.specs.Laws.{reached}
use Rattle.op_executions.proofs.Beginning.{begun_propose_none}
use Rattle.op_world.specs.Events.{parts_of}
use Rattle.op_world.specs.Worlds.{Shows}
use Rattle.op_world.proofs.Plans.{nothing_first}
use Rattle.op_world.proofs.Deeds.{first_kept, first_shows}
use Rattle.op_world.proofs.world.World.new.Goals as goal
use Rattle.op_areas.specs.Media.{medium}

pub invariant_of-result : goal.invariant_of-result
invariant_of-result g c =
    let M = medium g.A.Disk.state g.A.Area.holds g.A.Area.IS_MIRRORED in
    (first_kept M) c.in_ok-world.world c.new-2.result c.args.spares.now c.args.observers.now c.in_ok-world.ensures.run c.new-2.ensures

pub returns-clause-shows : goal.returns-clause-shows
returns-clause-shows g c =
    let M = medium g.A.Disk.state g.A.Area.holds g.A.Area.IS_MIRRORED in
    let w = c.in_ok-world.world in
    subst (λ (ms : List ℕ). Shows M (parts_of w c.new-2.result) (reached ms c.args.spares.now (observers_begun c.args.observers.now))) c.in_ok-world.ensures.members
    (first_shows M w c.new-2.result c.args.spares.now c.args.observers.now c.in_ok-world.ensures.run c.new-2.ensures)

pub returns-clause-ids : goal.returns-clause-ids
returns-clause-ids g c = c.in_ok-world.ensures.run.ids ∙ ap (λ (ms : List ℕ). named_ids ms c.args.spares.now c.args.observers.now) c.in_ok-world.ensures.members

pub returns-clause-proposed : goal.returns-clause-proposed
returns-clause-proposed g c = c.in_ok-world.ensures.run.proposed ∙ begun_propose_none c.args.observers.now

pub returns-clause-planned : goal.returns-clause-planned
returns-clause-planned g c = nothing_first c.in_ok-world.world.servers.items c.in_ok-world.ensures.first
