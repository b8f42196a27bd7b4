-- Servers without disks, as their world is.
use Rattle.std.specs.Prelude.{◌≡◌, List}
use Rattle.op_runs.specs.declared.summary.Line.{Line}
use Rattle.op_runs.specs.World.{World, Sent}
use Rattle.op_executions.specs.Worlds.{ShowServers}
use Rattle.op_pure.specs.declared.node.PureNode.{PureNode}
use Rattle.op_pure.specs.Nodes.{pure_nodes}

-- all servers, all messages that were sent, and what the happenings gave to be reported
pub record Parts : Type 0 where
  pub nodes : List PureNode  -- rising by id
  pub messages : List Sent
  pub lines : List Line

-- the world is this one: of its servers those that vote are its nodes, and the others its observers
pub record Shows (w : Parts) (x : World) : Type 0 where
  pub servers : ShowServers pure_nodes w.nodes x.nodes x.observers
  pub messages : x.messages ≡ w.messages
  pub lines : x.lines ≡ w.lines
