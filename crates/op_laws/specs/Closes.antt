-- An Accepted by whose delivery a leader closes its configuration: all of its log is decided then.
use Rattle.std.specs.Prelude.{◌≡◌, ◌<◌, ◌+◌, ℕ, List, [], ◌∷◌, ◌++◌, Some, slice_get}
use Rattle.op_types.specs.declared.ballot.Ballot.{Ballot}
use Rattle.op_types.specs.declared.durable.Part.{Part}
use Rattle.op_types.specs.declared.log.Entry.{Entry}
use Rattle.op_types.specs.declared.messages.Body.TheVariants as body
use Rattle.op_protocol.specs.Configurations.{latest_of}
use Rattle.op_runs.specs.declared.events.What.TheVariants as what
use Rattle.op_runs.specs.World.{Node, Up, Happening, node_at, world_after}
use Rattle.op_runs.specs.Run.{Execution, first_execution, execution_with, execution_of}
use Rattle.op_laws.specs.Runs.{RunInRange}
use Rattle.op_laws.specs.Exchange.{IsMessage}
use Rattle.op_laws.specs.Alone.{IsKnownAt}

-- an Accepted comes at a node that is up, and the node is past its part's configuration then
pub record ClosesOnAccepted (t : Execution) (h : Happening) : Type 0 where
  pub node : Node
  pub is : node_at t.world.nodes node.pid ≡ Some node
  pub up : node.status ≡ Up
  pub part : Part
  pub has : node.state.durable.part ≡ Some part
  pub number : ℕ
  pub from : ℕ
  pub ballot : Ballot
  pub size : ℕ
  pub delivers : h.event.what ≡ what.Deliver number
  pub message : IsMessage t.world number part.conf from node.pid (body.Accepted ballot size)
  pub after : Node
  pub then : node_at (world_after t.world h).nodes node.pid ≡ Some after
  pub later : part.conf < latest_of after.state.durable

-- each entry of its log is decided by that delivery, in the configuration's list and at its place: so an
-- exchange that ends with it decides what stands in the log
abbrev pub ClosesWhole : Execution → Happening → Type 0
ClosesWhole t h =
    (n : ℕ) (e : Entry) (x : ClosesOnAccepted t h) → slice_get x.part.tail.items n ≡ Some e
    → IsKnownAt (execution_with t h).machine x.part.conf x.node.pid e (x.part.trimmed + n)

-- so it is from whatever state a run has come to
abbrev pub LogsAreClosedWhole : Type 0
LogsAreClosedWhole =
    (members spares : List ℕ) (early : List Happening) (h : Happening)
    → RunInRange members spares (early ++ h ∷ [])
    → ClosesWhole (execution_of (first_execution members spares) early) h
