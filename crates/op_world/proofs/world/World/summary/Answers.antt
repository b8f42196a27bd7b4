use Rattle.std.proofs.Common.{◌≡◌, List, All, length, sym, ap, subst, ◌∙◌, rules}
use Rattle.op_runs.specs.Summary.{summary_of}
use Rattle.op_runs.specs.Schedules.{Seated}
use Rattle.op_world.specs.Events.{parts_of}
use Rattle.op_world.specs.Worlds.{Parts, Shows, ShowSeated}
use Rattle.op_replay_nodes.specs.declared.node_state.WorldNode.{WorldNode}
use Rattle.op_world.proofs.StandingNodes.{IsOpen, world_open, reported}
use Rattle.op_world.proofs.world.World.summary.Goals as goal
use Rattle.op_areas.specs.Media.{medium}

pub of_nodes-requires : goal.of_nodes-requires
of_nodes-requires g c =
    let M = medium g.A.Disk.state g.A.Area.holds g.A.Area.IS_MIRRORED in
    subst (λ (ns : List (WorldNode _ _)). (xs : List Seated) × (ShowSeated M) ns xs × All IsOpen xs) (sym c.deref.ensures.value) (world_open M _ c.self.invariant)

pub returns : goal.returns
returns g c t show =
    let M = medium g.A.Disk.state g.A.Area.holds g.A.Area.IS_MIRRORED in
    let w : (Parts _ _) = parts_of c.self.inside.world c.self.inside.ledger in
    let sent : c.len-sent.result ≡ length w.messages = first_of (search rules, cc) in
    (reported M) w c.self.invariant t (subst (λ (z : (Parts _ _)). Shows M z t) (sym c.self.view_is) show) c.in_ok-standing.standing.latest c.in_ok-lists.lists c.in_ok-standing.standing.lines c.len-sent.result
    (λ xs shown. c.in_ok-standing.ensures xs (subst (λ (ns : List (WorldNode _ _)). ShowSeated M ns xs) (sym c.deref.ensures.value) shown)) c.in_ok-lists.ensures sent
    ∙ ap (λ (z : (Parts _ _)). summary_of z.members t) c.self.view_is
