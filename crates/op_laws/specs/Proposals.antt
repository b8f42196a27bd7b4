-- What comes at a node to be proposed together: commands, or a stop-sign.
use Rattle.std.specs.Prelude.{◌≡◌, ℕ, List, [], ◌∷◌, Option, None}
use Rattle.op_types.specs.declared.durable.Part.{Part}
use Rattle.op_types.specs.declared.log.Command.{Command}
use Rattle.op_types.specs.declared.log.Entry.{Entry}
use Rattle.op_types.specs.declared.log.Entry.TheVariants as entry
use Rattle.op_runs.specs.declared.events.What.{What}
use Rattle.op_runs.specs.declared.events.What.TheVariants as what
use Rattle.op_protocol.specs.Rows.{entries_of, refusal_of, stop_for}
use Rattle.op_runs.specs.World.{Node}

-- commands, or a stop-sign with the members of the next configuration
pub data Proposal : Type 0 where
  Commands : (commands : List Command) → Proposal
  Stop : (members : List ℕ) → Proposal

-- the event by which it comes at a node
abbrev pub event_of : ℕ → Proposal → What
event_of pid (Commands commands) = what.Commands pid commands
event_of pid (Stop members) = what.Stop pid members

-- its entries at a node with this part; a stop-sign has the number of the configuration after the part's
abbrev pub entries_at : Option Part → Proposal → List Entry
entries_at p (Commands commands) = entries_of commands
entries_at p (Stop members) = entry.Stop (stop_for p members) ∷ []

-- its entries at this node
abbrev pub entries_for : Node → Proposal → List Entry
entries_for n proposal = entries_at n.state.durable.part proposal

-- the node refuses none of them
abbrev pub IsTaken : Node → Proposal → Type 0
IsTaken n proposal =
    refusal_of n.pid n.state.volatile.role n.state.durable (entries_for n proposal) ≡ None
