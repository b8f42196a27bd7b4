-- A client that waits at a node waits until it is told, or until the node stops.
use Rattle.std.specs.Prelude.{◌≡◌, ◌⊎◌, ℕ, true, List, ◌++◌, Option, Some, None}
use Rattle.op_types.specs.declared.answers.Answer.{Answer}
use Rattle.op_types.specs.declared.durable.Durable.{Durable}
use Rattle.op_runs.specs.declared.summary.Line.{Line}
use Rattle.op_spec.specs.Machine.{IsAmong}
use Rattle.op_protocol.specs.State.{State}
use Rattle.op_protocol.specs.Serving.{waits}
use Rattle.op_runs.specs.World.{World, Node, NodeStatus, Up, Down, Failed, Happening, node_at, answer_line, world_after}

-- the client waits for its number at a node, which is up or has failed
abbrev pub WaitsIf : NodeStatus → State → ℕ → ℕ → Type 0
WaitsIf Up s client seq = waits s.waiting client seq ≡ true
WaitsIf (Down after) s client seq = ⊥
WaitsIf (Failed count after) s client seq = waits s.waiting client seq ≡ true

-- the same, where the node is there
abbrev pub WaitsAt : Option Node → ℕ → ℕ → Type 0
WaitsAt None client seq = ⊥
WaitsAt (Some n) client seq = WaitsIf n.status n.state client seq

-- the node has stopped
abbrev pub HasStopped : Option Node → Type 0
HasStopped None = ⊥
HasStopped (Some n) = (after : Durable) × (n.status ≡ Down after)

-- between two worlds the node tells the client what its command is answered, or that it is dropped
pub record IsTold (w u : World) (pid client seq : ℕ) : Type 0 where
  pub answer : Answer
  pub new : List Line
  pub lines_are : u.lines ≡ w.lines ++ new
  pub among : IsAmong new (answer_line pid client seq answer)

-- Whatever happens, a client that waits at a node waits there after it, unless the node stops or the client
-- is told. So a node that fails keeps who waits, also when it is opened again.
abbrev pub ClientsWait : Type 0
ClientsWait =
    (w : World) (h : Happening) (pid client seq : ℕ) → WaitsAt (node_at w.nodes pid) client seq
    → WaitsAt (node_at (world_after w h).nodes pid) client seq
    ⊎ (HasStopped (node_at (world_after w h).nodes pid) ⊎ IsTold w (world_after w h) pid client seq)
