-- What connections took once the writes of a turn are over.
use Rattle.std.specs.Prelude.{◌≡◌, ◌⊎◌, [], ℕ, List, Bool, true, false, fold, ◌==◌, if◌then◌else◌, Option, Some}
use Rattle.op_outside.specs.Nets.{Call, Waited, Wrote}
use Rattle.op_outside.specs.declared.net.Took.{Took}
use Rattle.op_outside.specs.declared.net.Took.TheVariants.{NotYet}
use Rattle.op_serving.specs.State.{is_open}
use Rattle.op_serving.specs.Inputs.{State}
use Rattle.op_serving.specs.declared.serve_end.ServeEnd.TheVariants as ends
use Rattle.op_serving.specs.Pump.{Stage, turn, stop}
use Rattle.op_serving.specs.Promise.{life}

-- a write took nothing
abbrev pub is_not_yet : Option Took → Bool
is_not_yet (Some NotYet) = true
is_not_yet _ = false

-- whether the last write of a connection since the last wait took nothing, once this call was made too
abbrev pub is_full_after : ℕ → Bool → Call → Bool
is_full_after c full (Waited ms a) = false
is_full_after c full (Wrote d piece a) = if d == c then is_not_yet a else full
is_full_after c full _ = full

-- the same of all calls
abbrev pub is_full : ℕ → List Call → Bool
is_full c calls = fold (is_full_after c) false calls

-- between two turns, or at an end for which no fault of the net is the cause
abbrev pub IsBetween : Stage → Type 0
IsBetween turn = Unit {0}
IsBetween (stop ends.NetFault) = ⊥
IsBetween (stop e) = Unit {0}
IsBetween _ = ⊥

-- No command and no message waits to be given, and each open connection took all that was said for it, unless
-- its last write took nothing.
pub record IsDone (calls : List Call) (s : State) : Type 0 where
  pub given : s.loop.gathered ≡ []
  pub brought : s.loop.brought ≡ []
  pub taken : (c : ℕ) → is_open c s.loop ≡ true →
      ((life c s.deeds).said ≡ (life c s.deeds).taken) ⊎ (is_full c calls ≡ true)
