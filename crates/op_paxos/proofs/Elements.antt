-- Elements of lists by number: which are among a list.
use Rattle.std.proofs.Common.{◌≡◌, ℕ, zero, suc, ◌<◌, ◌≤◌, inl, inr, List, [], ◌∷◌, ◌++◌, length, ap, arith, Some}
use Rattle.std.specs.Prelude.{slice_get}
use Rattle.op_spec.specs.Machine.{IsAmong}
use Rattle.op_paxos.proofs.Membership.{in_from_get}

-- an element that came
pub get_new : {A : Type 0} (xs ys : List A) (k : ℕ) (x : A) → length xs ≤ k → slice_get (xs ++ ys) k ≡ Some x → IsAmong ys x
get_new [] ys k x le e = in_from_get ys k x e
get_new (y ∷ xs) ys zero x le e = absurd (omega arith)
get_new (y ∷ xs) ys (suc k) x le e = get_new xs ys k x (omega arith) e

-- where an element stands
pub in_get : {A : Type 0} (x : A) (xs : List A) → IsAmong xs x → (k : ℕ) × (k < length xs) × (slice_get xs k ≡ Some x)
in_get x [] h = absurd h
in_get x (y ∷ xs) (inl e) = (0, omega arith, ap Some e)
in_get x (y ∷ xs) (inr h) = let a = in_get x xs h in (suc a.0, omega (arith, a.1), a.2)
