use Rattle.std.proofs.Common.{◌≡◌, refl, sym, subst}
use Rattle.std.proofs.lemmas.Result.{IfOk-weaker}
use Rattle.op_runs.specs.World.{Opens}
use Rattle.op_replay_nodes.specs.Became.{BecomesOf, IsNotUp}
use Rattle.op_replay_nodes.specs.Nodes.{kind_of, IsKept}
use Rattle.op_replay_nodes.specs.declared.node_state.NodeState.{NodeState}
use Rattle.op_replay_nodes.proofs.Doings.{adopted, did_open, in_range, not_up, only, opens_awaited}
use Rattle.op_replay_nodes.proofs.happening.WorldNode+A+A+Copies.open.Goals as goal
use Rattle.op_areas.specs.Media.{medium}

pub returns-in-Up : goal.returns-in-Up
returns-in-Up g c line =
    let M = medium g.A.Disk.state g.A.Area.holds g.A.Area.IS_MIRRORED in
    let old = c.args.self.now in
    (only M) c.nothing.result old old Opens line c.nothing.ensures (did_open M old line c.in-Up.field-0 c.in-Up.is c.requires.can.kept c.requires.due)

pub opened_any-requires : goal.opened_any-requires
opened_any-requires g c =
    let M = medium g.A.Disk.state g.A.Area.holds g.A.Area.IS_MIRRORED in
    let old = c.args.self.now in
    let same : old.state ≡ c.replace-state.result = sym c.replace-state.ensures.value in
    record {
      members = c.requires.members;
      kept = subst (λ (s : (NodeState _ _)). IsKept M (kind_of old) old.pid s) same c.requires.can.kept;
      range = in_range M old c.replace-state.result Opens same c.requires.can;
      down = subst (λ (s : (NodeState _ _)). IsNotUp s) same (not_up M old.state c.in_default.not-Up);
    }

pub returns : goal.returns
returns g c =
    let M = medium g.A.Disk.state g.A.Area.holds g.A.Area.IS_MIRRORED in
    let old = c.args.self.now in
    let r = c.in_ok-became.became in
    let awaited = opens_awaited M old.state (not_up M old.state c.in_default.not-Up) in
    IfOk-weaker c.adopt.result _ _
    (λ done a line. adopted M old _ c.adopt.new.self Opens line r done awaited awaited refl refl refl
    (subst (λ (s : (NodeState _ _)). BecomesOf M (kind_of old) old.pid old.plan s Opens line r) c.replace-state.ensures.value (c.in_ok-became.ensures line)) a)
    c.adopt.ensures
