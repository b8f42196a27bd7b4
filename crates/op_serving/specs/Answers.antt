-- What net and clock may answer.
use Rattle.std.specs.Prelude.{◌≤◌, ◌∷◌, [], ℕ, List, length, IfSome}
use Rattle.op_fields.specs.Reads.{IsBytes}
use Rattle.op_outside.specs.Nets.{most_happenings, SawBytes}
use Rattle.op_outside.specs.declared.net.Took.{Took}
use Rattle.op_outside.specs.declared.net.Took.TheVariants as took
use Rattle.op_serving.specs.Cores.{Standing}
use Rattle.op_serving.specs.Inputs.{Luck}
use Rattle.op_serving.specs.Pump.{piece_len, Settings, Pump, Ask, wait, clock, dial, ready, read_from, write_to, nothing, Answer, was_waited, was_told, was_dialled, was_readied, was_seen, was_written, no_answer, ask, answered, shut}

-- a write takes some bytes of what it was given
abbrev pub TookOf : ℕ → Took → Type 0
TookOf len (took.Bytes n) = (1 ≤ n) × (n ≤ len)
TookOf len _ = Unit {0}

-- an answer is of what was asked
abbrev pub IsAnswer : Ask → Answer → Type 0
IsAnswer (wait ms) (was_waited a) = IfSome a (λ k. k ≤ most_happenings)
IsAnswer clock (was_told t) = Unit {0}
IsAnswer (dial addr) (was_dialled a) = Unit {0}
IsAnswer (ready i) (was_readied a) = Unit {0}
IsAnswer (read_from c) (was_seen (SawBytes bytes)) =
    (1 ≤ length bytes) × (length bytes ≤ piece_len) × IsBytes bytes
IsAnswer (read_from c) (was_seen a) = Unit {0}
IsAnswer (write_to c piece) (was_written a) = IfSome a (TookOf (length piece))
IsAnswer nothing no_answer = Unit {0}
IsAnswer _ _ = ⊥

module _ (o : Settings) (l : Luck) (line : Standing → List ℕ) where
  -- each of these answers is of what is asked then
  abbrev pub Answers : List Answer → Pump → Type 0
  Answers [] p = Unit {0}
  Answers (a ∷ more) p = IsAnswer (ask o l line p) a × Answers more (shut o l line (answered o l line a p))

-- what the clock told
abbrev pub time_of : Answer → List ℕ
time_of (was_told t) = t ∷ []
time_of _ = []
