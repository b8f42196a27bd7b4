-- Counts that rose above their marks in the opening of a mirror.
use Rattle.std.proofs.Common.{◌≡◌, inl, inr, ℕ, Bool, true, ◌||◌, ◌==◌, ap, ◌∙◌, arith}
use Rattle.std.specs.Prelude.{nat_lt}
use Rattle.std.proofs.Math.Bool.{or-true}
use Rattle.std.proofs.lemmas.Bool.{true≢false, lt-ltb}
use Rattle.std.proofs.lemmas.Bool.Decides.{Decides-eqb}
use Rattle.op_outside.specs.Causes.{FaultsRose, Rises, last_count}
use Rattle.op_mirror.specs.Marks.{has_risen, IsMarked}

has_risen-from : (mark count : ℕ) → FaultsRose mark count → has_risen mark count ≡ true
has_risen-from mark count (inl lt) = ap (λ (b : Bool). b || (count == last_count)) (lt-ltb mark count lt)
has_risen-from mark count (inr last) = ap (λ (b : Bool). nat_lt mark count || b) ((Decides-eqb count last_count).1 last) ∙ or-true (nat_lt mark count)

-- of a copy in which no call failed
pub marked_still : (mark count now : ℕ) → mark ≡ count → now ≡ count → IsMarked true mark now
marked_still mark count now is same = record { later = omega arith; rose = λ out. absurd (true≢false out) }

-- of one in which one did
pub marked_rose : (lives : Bool) (mark count now : ℕ) → mark ≡ count → Rises count now → IsMarked lives mark now
marked_rose lives mark count now is up = record {
  later = let le = up.later in omega arith;
  rose = λ out. has_risen-from mark now (rose up.rose);
}
  where
    rose : FaultsRose count now → FaultsRose mark now
    rose (inl lt) = inl (omega arith)
    rose (inr last) = inr last
