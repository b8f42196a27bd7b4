-- Which servers a node knows.
use Rattle.std.proofs.Common.{◌≡◌, ℕ, [], ◌∷◌, List, Bool, true, false, Some, is_some, IfSome, if◌then◌else◌, refl, arith, inl, inr}
use Rattle.std.proofs.lemmas.Bool.{cases_Bool}
use Rattle.std.specs.BTreeMap.{is_at}
use Rattle.std.specs.Map.{keys_of}
use Rattle.std.specs.Ordering.{nat_cmp}
use Rattle.op_types.specs.Ranges.{AreRising, IsPid}
use Rattle.op_serving.specs.State.{Table, find, is_known, stranger_in}

-- a server stands in a table exactly where its id is one of the table's
pub found_known : {X : Type 0} (q : ℕ) (t : Table X) → is_some (find q t) ≡ is_known (keys_of t) q
found_known q [] = refl
found_known q (e ∷ t) = elim (cases_Bool (is_at (nat_cmp q) e.0)) [
  | inl h ↦ rw h refl
  | inr h ↦ rw h (found_known q t)
]

-- a stranger among members is a server
pub stranger_pid : (ids : List ℕ) (low : ℕ) (ms : List ℕ) → AreRising low ms → IfSome (stranger_in ids ms) IsPid
stranger_pid ids low [] h = tt
stranger_pid ids low (m ∷ ms) h = by_known (is_known ids m) (stranger_pid ids m ms h.2)
  where
    by_known : (b : Bool) → IfSome (stranger_in ids ms) IsPid → IfSome (if b then stranger_in ids ms else Some m) IsPid
    by_known true rest = rest
    by_known false rest = (omega (arith, h.0), h.1)
