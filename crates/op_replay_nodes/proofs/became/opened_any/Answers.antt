use Rattle.std.proofs.Common.{◌≡◌, ℕ, None, Some, sym, subst, ◌∙◌}
use Rattle.std.specs.Prelude.{IfOk}
use Rattle.std.proofs.lemmas.Result.{IfOk-weaker}
use Rattle.op_areas.specs.Media.{medium}
use Rattle.op_runs.specs.World.{Opens}
use Rattle.op_runs.specs.Possible.{kind_if}
use Rattle.op_replay_nodes.specs.Became.{BecomesOf, IsInRange}
use Rattle.op_replay_nodes.specs.Nodes.{HasFailed, IsKept, ShowsFailed}
use Rattle.op_replay_nodes.specs.declared.node_state.NodeState.TheVariants as states
use Rattle.op_replay_nodes.proofs.became.opened_any.Goals as goal

pub reopened-requires : goal.reopened-requires
reopened-requires g c =
    let M = medium g.A.Disk.state g.A.Area.holds g.A.Area.IS_MIRRORED in
    let a = c.args in
    let k = kind_if a.observes in
    let has : HasFailed k a.pid c.in-Failed.node = subst (λ s. IsKept M k a.pid s) c.in-Failed.is c.requires.kept in
    let range : IsInRange M k a.pid (states.Failed c.in-Failed.node) = subst (λ s. IsInRange M k a.pid s) c.in-Failed.is c.requires.range in
    let shown : ShowsFailed M c.in-Failed.node range.node.state range.node.status = range.shown in
    record { sound = has.sound; failed = λ none. let no : Some shown.count ≡ None = sym shown.failed ∙ none in cc }

pub returns-in-Failed : goal.returns-in-Failed
returns-in-Failed g c =
    let M = medium g.A.Disk.state g.A.Area.holds g.A.Area.IS_MIRRORED in
    let a = c.args in
    let k = kind_if a.observes in
    let has : HasFailed k a.pid c.in-Failed.node = subst (λ s. IsKept M k a.pid s) c.in-Failed.is c.requires.kept in
    let range : IsInRange M k a.pid (states.Failed c.in-Failed.node) = subst (λ s. IsInRange M k a.pid s) c.in-Failed.is c.requires.range in
    IfOk-weaker c.reopened.result _ _ (λ r all line. subst (λ s. BecomesOf M k a.pid a.plan s Opens line r) (sym c.in-Failed.is) (all k has range line)) c.reopened.ensures

pub returns-in-Down : goal.returns-in-Down
returns-in-Down g c =
    let M = medium g.A.Disk.state g.A.Area.holds g.A.Area.IS_MIRRORED in
    subst (λ s. IfOk c.opened_again.result (λ r. (line : ℕ) → BecomesOf M (kind_if c.args.observes) c.args.pid c.args.plan s Opens line r)) (sym c.in-Down.is) c.opened_again.ensures
