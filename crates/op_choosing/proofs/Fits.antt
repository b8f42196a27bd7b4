-- The log that is chosen goes on from the own one, and ends within the positions.
use Rattle.std.proofs.Common.{◌≡◌, ℕ, ◌+◌, ◌≤◌, Bool, true, false, cond, eqb, ltb, leb, ◌&&◌, ◌||◌, not, List, [], ◌∷◌, length, Option, Some, None, IfSome, refl, arith}
use Rattle.std.proofs.lemmas.Bool.{false≢true, and_parts}
use Rattle.std.proofs.lemmas.Bool.Decides.{nat_tests}
use Rattle.op_types.specs.Changes.{len_of}
use Rattle.op_types.specs.declared.durable.Part.{Part}
use Rattle.op_types.specs.declared.role.Promised.{Promised}
use Rattle.op_types.specs.RoleStates.{promise_of}
use Rattle.op_protocol.specs.Promises.{is_above, is_usable, Choice, own_choice, choice_of, better, best}
use Rattle.op_plans.specs.Positions.{FitsPositions}
use Rattle.op_choosing.specs.Choosing.{IsAdmitted, AreAdmitted, ChoiceFits}

-- ---- logs in order

-- by three numbers
abbrev Above : ℕ → ℕ → ℕ → ℕ → ℕ → ℕ → Bool
Above a b m c d n = (ltb c a || (eqb c a && ltb d b)) || ((eqb a c && eqb b d) && ltb n m)

above_own : (a b m c d n x y o : ℕ) → Above a b m c d n ≡ true → Above x y o c d n ≡ false → Above a b m x y o ≡ true
above_own a b m c d n x y o h g = grind (arith, nat_tests)

not_above : (a b m x y o : ℕ) → Above a b m x y o ≡ true → Above x y o a b m ≡ false
not_above a b m x y o h = grind (arith, nat_tests)

not_above_self : (a b m : ℕ) → Above a b m a b m ≡ false
not_above_self a b m = grind (arith, nat_tests)

-- ---- one choice

fits-own : (p : Part) → FitsPositions p → ChoiceFits p (own_choice p)
fits-own p fits = record {
  low = fits.decided;
  high = omega arith;
  small = omega (arith, fits.small);
  above = not_above_self p.accepted.number p.accepted.pid (len_of p);
}

-- a usable promise above the own log goes on from it
abbrev Starts : Part → Promised → Type 0
Starts p k = (p.decided ≤ k.start) × (k.start ≤ len_of p)

starts_by : (a l m s : Bool) → a ≡ true → (not a || (l && (m && s))) ≡ true → (l ≡ true) × (m ≡ true)
starts_by true true true true is usable = (refl, refl)
starts_by true false m s is usable = absurd (false≢true usable)
starts_by true true false s is usable = absurd (false≢true usable)
starts_by true true true false is usable = absurd (false≢true usable)
starts_by false l m s is usable = absurd (false≢true is)

starts : (p : Part) (k : Promised) → is_above k.accepted k.len p.accepted (len_of p) ≡ true → is_usable p k ≡ true → Starts p k
starts p k above usable =
    let parts = starts_by (is_above k.accepted k.len p.accepted (len_of p)) (leb p.decided k.start) (leb k.start (len_of p)) (eqb (k.start + length k.entries) k.len) above usable in
    (grind (arith, nat_tests), grind (arith, nat_tests))

fits-promise : (p : Part) (k : Promised) → IsAdmitted k → is_above k.accepted k.len p.accepted (len_of p) ≡ true → is_usable p k ≡ true → ChoiceFits p (choice_of k)
fits-promise p k admitted above usable =
    let s = starts p k above usable in
    record {
      low = s.0;
      high = s.1;
      small = admitted;
      above = not_above k.accepted.number k.accepted.pid k.len p.accepted.number p.accepted.pid (len_of p) above;
    }

-- the better of a promise and a choice
fits-by : (p : Part) (k : Promised) (c : Choice) (taken : Bool) → (is_usable p k && is_above k.accepted k.len c.accepted c.len) ≡ taken → IsAdmitted k → ChoiceFits p c → ChoiceFits p (cond taken (choice_of k) c)
fits-by p k c true is admitted f =
    let parts = and_parts (is_usable p k) (is_above k.accepted k.len c.accepted c.len) is in
    fits-promise p k admitted (above_own k.accepted.number k.accepted.pid k.len c.accepted.number c.accepted.pid c.len p.accepted.number p.accepted.pid (len_of p) parts.1 f.above) parts.0
fits-by p k c false is admitted f = f

fits-better : (p : Part) (o : Option Promised) (c : Choice) → IfSome o IsAdmitted → ChoiceFits p c → ChoiceFits p (better p o c)
fits-better p None c admitted f = f
fits-better p (Some k) c admitted f = fits-by p k c (is_usable p k && is_above k.accepted k.len c.accepted c.len) refl admitted f

-- ---- all promises

admitted_by : (b : Bool) (k : Promised) (o : Option Promised) → IsAdmitted k → IfSome o IsAdmitted → IfSome (cond b (Some k) o) IsAdmitted
admitted_by true k o one rest = one
admitted_by false k o one rest = rest

admitted_of : (promises : List Promised) (q : ℕ) → AreAdmitted promises → IfSome (promise_of promises q) IsAdmitted
admitted_of [] q all = tt
admitted_of (k ∷ promises) q all = admitted_by (eqb k.from q) k (promise_of promises q) all.0 (admitted_of promises q all.1)

fits-best : (p : Part) (promises : List Promised) (members : List ℕ) (c : Choice) → AreAdmitted promises → ChoiceFits p c → ChoiceFits p (best p promises members c)
fits-best p promises [] c all f = f
fits-best p promises (q ∷ members) c all f = fits-best p promises members (better p (promise_of promises q) c) all (fits-better p (promise_of promises q) c (admitted_of promises q all) f)

pub best_fits : (p : Part) (promises : List Promised) → FitsPositions p → AreAdmitted promises → ChoiceFits p (best p promises p.members (own_choice p))
best_fits p promises fits all = fits-best p promises p.members (own_choice p) all (fits-own p fits)
