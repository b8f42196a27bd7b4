-- Runs of the serving loop, from before its first turn.
use Rattle.std.specs.Prelude.{◌≡◌, ◌++◌, ◌∷◌, [], ℕ, List}
use Rattle.std.specs.FinMap as map
use Rattle.op_types.specs.declared.events.Input.{Input}
use Rattle.op_outside.specs.Nets.{Call}
use Rattle.op_serving.specs.Cores.{Standing}
use Rattle.op_serving.specs.Fates.{Fate}
use Rattle.op_serving.specs.Inputs.{State, Luck, Deed, enters, kept}
use Rattle.op_serving.specs.Pump.{Settings, Pump, Answer, after, calls}

-- before the first turn no connection is open, nobody waits, no command and no message is to be given, and
-- nothing has happened
pub record Begins (s : State) : Type 0 where
  pub sessions : s.loop.sessions ≡ []
  pub askers : s.loop.askers ≡ map.empty
  pub gathered : s.loop.gathered ≡ []
  pub brought : s.loop.brought ≡ []
  pub lost : s.loop.lost ≡ []
  pub deeds : s.deeds ≡ []

-- the input that a deed tells, a lost one too, with what came of it
abbrev pub input_of : Deed → List (Input × Fate)
input_of (enters who i f) = (i, f) ∷ []
input_of _ = []

-- those of all deeds
abbrev pub inputs : List Deed → List (Input × Fate)
inputs [] = []
inputs (d ∷ ds) = input_of d ++ inputs ds

-- what a state tells of where memory was wanting, and of what came of the inputs that were not lost
abbrev pub luck_of : State → Luck
luck_of s = record { marks = s.loop.lost; fates = kept s.deeds }

-- by these answers of net and clock, and with the losses that its end tells, the loop came to this end
abbrev pub IsRun : Settings → (Standing → List ℕ) → List Answer → Pump → Pump → Type 0
IsRun o line answers p end = end ≡ after o (luck_of end.driver) line answers p

-- the calls of the net that it made
abbrev pub calls_of : Settings → (Standing → List ℕ) → List Answer → Pump → Pump → List Call
calls_of o line answers p end = calls o (luck_of end.driver) line answers p
