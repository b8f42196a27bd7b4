-- A plan that a server has made ready, and what comes of adopting it.
use Rattle.std.specs.Prelude.{◌≡◌, ◌≢◌, ◌≤◌, ◌++◌, ℕ, List, [], length, Option, Some, None, IfSome}
use Rattle.op_types.specs.declared.events.Input.{Input}
use Rattle.op_types.specs.declared.messages.Msg.{Msg}
use Rattle.op_protocol.specs.State.{Planned, state_after}
use Rattle.op_protocol.specs.Reading as reading
use Rattle.op_protocol.specs.Reading.{outcome_or}
use Rattle.op_protocol.specs.Rows.{step_plan}
use Rattle.op_chain.specs.Plans as chains
use Rattle.op_chain.specs.declared.chain_plan.ChainPlan.{ChainPlan}
use Rattle.op_chain.specs.declared.given.Given as chain_given
use Rattle.op_server.specs.Servers.{state_of, IsSoundServer}
use Rattle.op_server.specs.declared.asking.Asking.{Asking}
use Rattle.op_types.specs.declared.given.Given.{Given}
use Rattle.op_server.specs.declared.reading.Reading.{Reading}
use Rattle.op_server.specs.declared.server.Server.{Server}
use Rattle.op_server.specs.declared.server_plan.ServerPlan.{ServerPlan}

-- what an input does to the reads, as the step table says it
abbrev pub asking_of : Asking → reading.Asking
asking_of a = record { reads = a.reads; sends = a.sends; outcome = a.outcome }

-- a plan, with what comes of the reads, if anything does
abbrev pub with_reading : Option Reading → Planned → Planned
with_reading None p = p
with_reading (Some r) p =
    record p {
      reads = r.reads;
      sends = r.asked.items ++ p.sends;
      read_replies = r.replies;
      outcome = outcome_or r.outcome p.outcome;
    }

-- what the plan does when this server adopts it
abbrev pub planned_by : Server → ServerPlan → Planned
planned_by s plan = with_reading plan.reading (chains.planned_by s.chain plan.chain)

-- behind what is asked of other members, if it is anything, there is room for these messages
abbrev pub HasRoomBehind : List (ℕ × Msg) → Reading → Type 0
HasRoomBehind sends r = r.asked.items ≢ [] → length sends ≤ r.asked.room

-- there is for what the rest of the step sends
abbrev pub HasRoomToSend : Option Reading → ChainPlan → Type 0
HasRoomToSend o plan = IfSome o (HasRoomBehind plan.plan.sends)

-- What the step table plans for an input, made ready in the server.
pub record Plans (s : Server) (x : Input) (plan : ServerPlan) : Type 0 where
  pub sound : IsSoundServer s
  pub chain : chains.Plans s.chain x plan.chain
  pub table : planned_by s plan ≡ step_plan s.chain.me (state_of s) x
  pub room : HasRoomToSend plan.reading plan.chain

-- what a step gives out, with what comes of the reads
abbrev pub given_with : Reading → chain_given.Given → Given
given_with r g =
    record {
      sends = r.asked.items ++ g.sends;
      replies = g.replies;
      read_replies = r.replies;
      outcome = outcome_or r.outcome g.outcome;
    }

-- what a step gave out is what its plan gives out
pub record IsGiven (g : Given) (p : Planned) : Type 0 where
  pub sends : g.sends ≡ p.sends
  pub replies : g.replies ≡ p.replies
  pub read_replies : g.read_replies ≡ p.read_replies
  pub outcome : g.outcome ≡ p.outcome

-- the server is in the state after this plan, and gave out what the plan gives out
pub record Adopts (old : Server) (p : Planned) (new : Server) (g : Given) : Type 0 where
  pub me : new.chain.me ≡ old.chain.me
  pub state : state_of new ≡ state_after (state_of old) p
  pub sound : IsSoundServer new
  pub given : IsGiven g p
