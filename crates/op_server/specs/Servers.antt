-- A server, its state in the step table, and what its steps need.
use Rattle.std.specs.Prelude.{◌≡◌, Option, Some, None, IfSome}
use Rattle.op_types.specs.declared.durable.Part.{Part}
use Rattle.op_types.specs.declared.events.Input.{Input}
use Rattle.op_record.specs.Ranges.{BatchInRange}
use Rattle.op_reads.specs.Reads.{Reads}
use Rattle.op_protocol.specs.State.{State}
use Rattle.op_protocol.specs.Rows.{step_plan}
use Rattle.op_chain.specs.Chains as chains
use Rattle.op_chain.specs.Chains.{IsSoundChain}
use Rattle.op_server.specs.declared.server.Server.{Server}

-- the state of the step table that a server keeps
abbrev pub state_of : Server → State
state_of s = record (chains.state_of s.chain) { reads = s.reads }

-- reads are of this part: its members confirm them
abbrev pub AreOf : Option Part → Reads → Type 0
AreOf None reads = ⊥
AreOf (Some p) reads = reads.members ≡ p.members

-- what a server keeps in memory is of what it has stored, and so are the reads that wait
pub record IsSoundServer (s : Server) : Type 0 where
  pub chain : IsSoundChain s.chain
  pub reads : IfSome s.reads (AreOf (state_of s).durable.part)

-- the same server in the same state
pub record IsSame (old new : Server) : Type 0 where
  pub me : new.chain.me ≡ old.chain.me
  pub state : state_of new ≡ state_of old
  pub sound : IsSoundServer new

-- the server can plan this step: what the step stores is in range
pub record Admits (s : Server) (x : Input) : Type 0 where
  pub sound : IsSoundServer s
  pub range : BatchInRange (step_plan s.chain.me (state_of s) x).batch
