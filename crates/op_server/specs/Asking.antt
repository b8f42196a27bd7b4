-- What an input asks of the members, as code finds it out.
use Rattle.std.specs.Prelude.{◌≡◌, ℕ, Bool, true, false, Option, Some, None, option_map}
use Rattle.op_types.specs.RoleStates as state
use Rattle.op_types.specs.Rooms.{part_with_room}
use Rattle.op_types.specs.declared.durable.Part.{Part}
use Rattle.op_types.specs.declared.events.Input.{Input}
use Rattle.op_types.specs.declared.events.Input.TheVariants as input
use Rattle.op_reads.specs.Reads.{Reads, with_confirmed}
use Rattle.op_chain.specs.declared.lead.Lead.{Lead}

-- whether a read comes
abbrev pub is_read : Input → Bool
is_read (input.Read r) = true
is_read x = false

-- it is this part and this ballot that a node leads; the room of its log is left out
pub record Leads (p : Part) (k : Lead) (o : Option (Part × state.Leading)) : Type 0 where
  pub leading : state.Leading
  pub is : o ≡ Some (part_with_room 0 p, leading)
  pub ballot : k.ballot ≡ leading.ballot

-- reads, where a member confirms the ballot for a number, if it does
abbrev pub confirmed_by : Option ℕ → ℕ → Option Reads → Option Reads
confirmed_by None q reads = reads
confirmed_by (Some number) q reads = option_map (λ x. with_confirmed x number q) reads
