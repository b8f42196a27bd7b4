-- Objects outside that play a script in memory, and keep the calls that were made of them.
use Rattle.std.specs.Prelude.{◌+◌, ◌==◌, min, ℕ, Bool, List, [], ◌∷◌, drop, Option, Some, None, Result, Ok, Err, if◌then◌else◌}
use Rattle.std.specs.List.{list_any}
use Rattle.op_outside.specs.Causes.{last_count}

-- what is told: what was kept, or nothing once a part of it found no memory
abbrev pub told_of : {A : Type 0} → Bool → List A → Option (List A)
told_of forgot kept = if forgot then None else Some kept

-- the first that is left of a script, or this after its end
abbrev pub first_or : {A : Type 0} → A → List A → A
first_or x [] = x
first_or x (y ∷ ys) = y

-- one more, of a count that stays at its end
abbrev pub one_more : ℕ → ℕ
one_more n = min (n + 1) last_count

-- the next call, after so many, is one of those that fail
abbrev pub fails_next : ℕ → List ℕ → Bool
fails_next calls fails = list_any (λ call. call == one_more calls) fails

-- how many calls have failed after one that answered so
abbrev pub faults_after : {T E : Type 0} → ℕ → Result T E → ℕ
faults_after faults (Ok x) = faults
faults_after faults (Err e) = one_more faults

-- what is left of a script after a call that answered so: one that fails takes nothing of it
abbrev pub left_after : {A T E : Type 0} → List A → Result T E → List A
left_after script (Ok x) = drop 1 script
left_after script (Err e) = script
