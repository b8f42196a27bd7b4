-- A member's step trims no further than the member had decided before it.
use Rattle.std.proofs.Common.{ℕ, ◌≤◌, List}
use Rattle.op_paxos.specs.Nodes.{Node}
use Rattle.op_paxos.specs.Worlds.{Input, step}
use Rattle.op_paxos.proofs.StepKeeping.{steps_keep}
use Rattle.op_configurations.specs.Servers.{Fate, Done, Stopped, fated}

-- what a step leaves trimmed was decided before, whether it ends or not
pub fated_low : (members : List ℕ) (p : ℕ) (node : Node) → node.trimmed ≤ node.decided → (f : Fate) (i : Input)
    → ((fated f (step members p node i)).node).trimmed ≤ node.decided
fated_low members p node low Done i = (steps_keep members p node i).low low
fated_low members p node low Stopped i = (steps_keep members p node i).low low
