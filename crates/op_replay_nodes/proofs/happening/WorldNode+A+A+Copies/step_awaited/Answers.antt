use Rattle.std.proofs.Common.{◌≡◌, ◌∙◌, true, refl, sym, ap, subst}
use Rattle.std.specs.Prelude.{IfOk}
use Rattle.std.proofs.lemmas.Result.{IfOk-weaker}
use Rattle.op_runs.specs.World.{Steps}
use Rattle.op_executions.specs.Servers.{CanDo, IsDoneAt}
use Rattle.op_replay_nodes.specs.Became.{BecomesOf, IsNotUp}
use Rattle.op_replay_nodes.specs.Nodes.{area_nodes, kind_of, is_awaited_at, IsKept, RunsAs}
use Rattle.op_replay_nodes.specs.declared.node_state.NodeState.{NodeState}
use Rattle.op_replay_nodes.specs.declared.node_state.NodeState.TheVariants as node
use Rattle.op_replay_nodes.specs.declared.node_state.WorldNode.{WorldNode}
use Rattle.op_replay_nodes.proofs.Doings.{adopted, not_up}
use Rattle.op_replay_nodes.proofs.Happenings.{admits_up}
use Rattle.op_replay_nodes.proofs.happening.WorldNode+A+A+Copies.step_awaited.Goals as goal
use Rattle.op_areas.specs.Media.{medium}

pub step_told-requires : goal.step_told-requires
step_told-requires g c =
    let M = medium g.A.Disk.state g.A.Area.holds g.A.Area.IS_MIRRORED in
    (admits_up M) c.args.self.now c.in-Up.node c.args.input (sym c.in-Up.ensures.value) c.requires.can

pub refuse-requires : goal.refuse-requires
refuse-requires g c =
    let M = medium g.A.Disk.state g.A.Area.holds g.A.Area.IS_MIRRORED in
    let old = c.args.self.now in
    let back : c.put.new.place ≡ old.state = c.put.ensures ∙ c.replace.ensures.value in
    record {
      can = subst (λ (s : (NodeState _ _)). let x : (WorldNode _ _) = record old { state = s } in CanDo (area_nodes M) x (Steps c.args.input)) (sym back) c.requires.can;
      due = c.requires.due;
      down = subst (λ (s : (NodeState _ _)). IsNotUp s) (sym c.put.ensures) (not_up M c.replace.result c.in_default-replace.not-Up);
    }

pub returns-in_ok-became-in-Up : goal.returns-in_ok-became-in-Up
returns-in_ok-became-in-Up g c =
    let M = medium g.A.Disk.state g.A.Area.holds g.A.Area.IS_MIRRORED in
    let old = c.args.self.now in
    let i = c.args.input in
    let r = c.in_ok-became-in-Up.became in
    let up : old.state ≡ node.Up c.in-Up.node = sym c.in-Up.ensures.value in
    let awaited : is_awaited_at old.state (Steps i) ≡ true = ap (λ (s : (NodeState _ _)). is_awaited_at s (Steps i)) up in
    let runs : RunsAs M (kind_of old) old.pid c.in-Up.node = subst (λ (s : (NodeState _ _)). IsKept M (kind_of old) old.pid s) up c.requires.can.kept in
    let became : BecomesOf M (kind_of old) old.pid old.plan old.state (Steps i) c.args.line r =
    subst (λ (s : (NodeState _ _)). BecomesOf M (kind_of old) old.pid old.plan s (Steps i) c.args.line r) (sym up) (c.in_ok-became-in-Up.ensures (kind_of old) runs) in
    IfOk-weaker c.adopt.result _ _ (λ done a. adopted M old _ c.adopt.new.self (Steps i) c.args.line r done awaited awaited refl refl refl became a) c.adopt.ensures

pub returns-in_default-replace : goal.returns-in_default-replace
returns-in_default-replace g c =
    let M = medium g.A.Disk.state g.A.Area.holds g.A.Area.IS_MIRRORED in
    let old = c.args.self.now in
    subst (λ (s : (NodeState _ _)). let x : (WorldNode _ _) = record old { state = s } in IfOk c.refuse.result (λ r. IsDoneAt (area_nodes M) tt x (Steps c.args.input) c.args.line c.refuse.new.self r.sends r.told)) (c.put.ensures ∙ c.replace.ensures.value) c.refuse.ensures
