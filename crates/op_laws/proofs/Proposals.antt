-- What is proposed comes by an input of its own, and ends nowhere before its end.
use Rattle.std.proofs.Common.{◌≡◌, ℕ, false, List, Option, Some, None, refl}
use Rattle.op_types.specs.declared.durable.Durable.{Durable}
use Rattle.op_types.specs.declared.durable.Part.{Part}
use Rattle.op_types.specs.declared.events.Input.{Input}
use Rattle.op_types.specs.declared.events.Input.TheVariants as input
use Rattle.op_protocol.specs.State.{State, Volatile}
use Rattle.op_protocol.specs.Rows.{brought_by, proposal_step, refusal_of, step_at}
use Rattle.op_runs.specs.World.{Sent, Steps, deed_of}
use Rattle.op_configurations.specs.Servers.{Letter}
use Rattle.op_refinement.proofs.Pure as pure
use Rattle.op_refinement.proofs.PartRows.{commands_end}
use Rattle.op_refinement.proofs.Inputs as inputs
use Rattle.op_refinement.proofs.Inputs.{proposal_event}
use Rattle.op_laws.specs.Proposals.{Proposal, event_of, entries_at}
use Rattle.op_laws.specs.Proposals as proposed

-- the input by which it comes
abbrev pub input_of : Proposal → Input
input_of (proposed.Commands commands) = input.Commands commands
input_of (proposed.Stop members) = input.Stop members

pub deed_is : (messages : List Sent) (pid : ℕ) (x : Proposal) → deed_of messages (event_of pid x) ≡ Some (record { pid = pid; doing = Steps (input_of x) })
deed_is messages pid (proposed.Commands commands) = refl
deed_is messages pid (proposed.Stop members) = refl

pub step_is : (me : ℕ) (d : Durable) (v : Volatile) (x : Proposal) → step_at me d v (input_of x) ≡ proposal_step me d v (entries_at d.part x)
step_is me d v (proposed.Commands commands) = refl
step_is me d v (proposed.Stop members) = refl

pub brings_nothing : (d : Durable) (v : Volatile) (x : Proposal) → brought_by d v (input_of x) ≡ None
brings_nothing d v (proposed.Commands commands) = refl
brings_nothing d v (proposed.Stop members) = refl

pub event_is : (me : ℕ) (s : State) (n : ℕ) (l : Letter) (x : Proposal)
    → inputs.event_of me s n l (input_of x) ≡ proposal_event (entries_at s.durable.part x) (refusal_of me s.volatile.role s.durable (entries_at s.durable.part x))
event_is me s n l (proposed.Commands commands) = refl
event_is me s n l (proposed.Stop members) = refl

-- nothing stands behind a stop-sign in it
pub ends_late : (p : Option Part) (x : Proposal) → pure.stops_early (entries_at p x) ≡ false
ends_late p (proposed.Commands commands) = commands_end commands
ends_late p (proposed.Stop members) = refl
