-- What one node has trimmed each member has decided: so a Prepare that tells of a log as it is isn't dropped.
use Rattle.std.specs.Prelude.{◌≡◌, ◌≤◌, ℕ, List, Some}
use Rattle.op_types.specs.Changes.{len_of}
use Rattle.op_types.specs.declared.ballot.Ballot.{Ballot}
use Rattle.op_types.specs.declared.durable.Part.{Part}
use Rattle.op_runs.specs.World.{World, Node, Happening, node_at, first_world, run_of}
use Rattle.op_laws.specs.Runs.{RunInRange}
use Rattle.op_lockstep.specs.Reach.{IsOneOf, ProposeNoStop}
use Rattle.op_progress.specs.Progress.{PrepareSent, HasSuffix}

-- the node of this id stores this part
pub record StoresThere (w : World) (pid : ℕ) (p : Part) : Type 0 where
  pub node : Node
  pub at : node_at w.nodes pid ≡ Some node
  pub has : node.state.durable.part ≡ Some p

-- in each world that a run in range without stop-signs reaches, whatever happens in it, what a node has
-- trimmed each member has decided
abbrev pub TrimmedIsDecided : Type 0
TrimmedIsDecided =
    (members spares : List ℕ) (hs : List Happening) → RunInRange members spares hs → ProposeNoStop hs
    → let w : World = run_of (first_world members spares) hs in
    (p q : ℕ) → IsOneOf members p → (a b : Part) → StoresThere w p a → StoresThere w q b
    → b.trimmed ≤ a.decided

-- a Prepare of this ballot that tells of this part's log
abbrev pub prepare_telling : Ballot → Part → PrepareSent
prepare_telling b p =
    record { ballot = b; accepted = p.accepted; len = len_of p; decided = p.decided }

-- so who is asked has all that a member may lack which tells of its log as it is
abbrev pub PreparesAreTaken : Type 0
PreparesAreTaken =
    (members spares : List ℕ) (hs : List Happening) → RunInRange members spares hs → ProposeNoStop hs
    → let w : World = run_of (first_world members spares) hs in
    (p q : ℕ) → IsOneOf members p → (a b : Part) → StoresThere w p a → StoresThere w q b
    → (n : Ballot) → HasSuffix (prepare_telling n a) (Some b)
