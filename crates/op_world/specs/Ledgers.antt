-- The list of each configuration, as the code keeps it, and what a node's stored state adds to it.
use Rattle.std.specs.Prelude.{◌≡◌, ℕ, Bool, true, false, List, [], ◌++◌, length, get_or}
use Rattle.op_types.specs.declared.durable.Durable.{Durable}
use Rattle.op_types.specs.declared.log.Entry.{Entry}
use Rattle.op_spec.specs.Ledger.{decided_entries}
use Rattle.op_node.specs.Nodes.{node_of}
use Rattle.op_replay_nodes.specs.declared.node_state.NodeState.{NodeState}
use Rattle.op_replay_nodes.specs.declared.node_state.NodeState.TheVariants as node
use Rattle.op_replay_nodes.specs.declared.node_state.WorldNode.{WorldNode}

-- the list of a configuration, which stands at its number; it is empty where none is kept
abbrev pub list_at : List (List Entry) → ℕ → List Entry
list_at lists conf = get_or lists conf []

-- a stored state is shown: each list that it has decided more of gets its entries from the list's end on
abbrev pub ShowsMore : List (List Entry) → Durable → List (List Entry) → Type 0
ShowsMore old d new =
    (conf : ℕ) → list_at new conf ≡ list_at old conf ++ decided_entries d conf (length (list_at old conf))

-- a node shows what it has stored, if it is up; one that isn't showed it before
abbrev pub NodeShowsMore : {D C : Type 0} → List (List Entry) → NodeState D C → List (List Entry) → Type 0
NodeShowsMore old (node.Up n) new = ShowsMore old (node_of n).state.durable new
NodeShowsMore old (node.Failed n) new = new ≡ old
NodeShowsMore old (node.Down d) new = new ≡ old

-- so does a server, unless it observes
abbrev pub ShowsMoreIf :
    {D C : Type 0} → Bool → List (List Entry) → NodeState D C → List (List Entry) → Type 0
ShowsMoreIf true old n new = new ≡ old
ShowsMoreIf false old n new = NodeShowsMore old n new

abbrev pub ServerShowsMore :
    {D C : Type 0} → List (List Entry) → WorldNode D C → List (List Entry) → Type 0
ServerShowsMore old n new = ShowsMoreIf n.observes old n.state new
