-- Where nodes stand, as text.
use Rattle.std.specs.Prelude.{ℕ, List, [], ◌++◌, codes, decimal, Option, Some, None}
use Rattle.op_runs.specs.declared.summary.Running.{Running}
use Rattle.op_runs.specs.declared.summary.Running.TheVariants as running
use Rattle.op_runs.specs.declared.summary.NodeLine.{NodeLine}

-- where a node stands; a spare stands nowhere
abbrev pub at_text : Option (ℕ × ℕ × ℕ) → List ℕ
at_text None = codes " spare"
at_text (Some at) =
    codes " config " ++ decimal at.0 ++ codes " decided " ++ decimal at.1 ++ codes " trimmed "
    ++ decimal at.2

-- which configuration a node is joining
abbrev pub joining_text : Option ℕ → List ℕ
joining_text None = []
joining_text (Some conf) = codes " joining " ++ decimal conf

-- how a node runs
abbrev pub running_text : Running → List ℕ
running_text running.Up = []
running_text running.Down = codes " down"
running_text running.Failed = codes " failed"

-- the line of a node
abbrev pub node_text : NodeLine → List ℕ
node_text n =
    codes "node " ++ decimal n.pid ++ at_text n.at ++ joining_text n.joining ++ running_text n.running
    ++ codes "\n"
