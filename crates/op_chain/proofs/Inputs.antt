-- What an input brings to a node that joins is what the step table says.
use Rattle.std.proofs.Common.{◌≡◌, ℕ, Bool, true, false, cond, List, Option, Some, None}
use Rattle.std.specs.Prelude.{nat_lt}
use Rattle.op_types.specs.Stages.{Pieces}
use Rattle.op_types.specs.declared.changes.Change.{Change}
use Rattle.op_types.specs.declared.durable.Joining.{Joining}
use Rattle.op_types.specs.declared.events.Input.{Input}
use Rattle.op_types.specs.declared.events.Input.TheVariants as input
use Rattle.op_types.specs.declared.messages.Body.{Body}
use Rattle.op_protocol.specs.Joining.{brought_to}
use Rattle.op_chain.specs.Bringing.{brings}

kept_by : (b : Bool) (y : Option (List Change)) (batch : List Change) → cond b None y ≡ Some batch → y ≡ Some batch
kept_by true y batch is = absurd cc
kept_by false y batch is = is

-- some message brings it
pub brought_parts : (latest : ℕ) (j : Option Joining) (o : Option Pieces) (x : Input) (batch : List Change) → brings latest j o x ≡ Some batch → (c : ℕ) × (b : Body) × (brought_to j o c b ≡ Some batch)
brought_parts latest j o (input.Deliver q m) batch is = (m.conf, m.body, kept_by (nat_lt m.conf latest) (brought_to j o m.conf m.body) batch is)
brought_parts latest j o _ batch is = absurd cc
