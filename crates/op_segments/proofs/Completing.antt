-- The bytes of a piece's base, with the piece.
use Rattle.std.proofs.Common.{◌≡◌, ℕ, zero, suc, ◌+◌, ◌<◌, ◌≤◌, ◌==◌, ◌&&◌, Bool, true, false, List, [], ◌∷◌, length, replicate, Option, Some, None, is_some, refl, sym, ap, ◌∙◌, true≢false, arith}
use Rattle.std.specs.Prelude.{nat_eq}
use Rattle.std.proofs.lemmas.Bool.{cond-true, cond-false, eq-eqb, eqb-true}
use Rattle.op_types.specs.Stages.{Pieces, bytes_with, bytes_with_at, bytes_of, with_byte, whole_bytes}
use Rattle.op_types.specs.declared.runs.Piece.{Piece}
use Rattle.op_segments.specs.Staging.{are_of, whole_with}

abbrev Places : Type 0
Places = List (Option ℕ)

-- ---- a base of which no byte came

abbrev nothing : ℕ → Places
nothing n = replicate n None

all_come : (n : ℕ) (bytes : List ℕ) → length bytes ≡ n → whole_bytes (bytes_with (nothing n) bytes) ≡ Some bytes
all_come zero [] is = refl
all_come zero (b ∷ bytes) is = absurd (omega arith)
all_come (suc n) [] is = absurd (omega arith)
all_come (suc n) (b ∷ bytes) is = ap (with_byte (Some b)) (all_come n bytes (omega arith))

some_lack : (n : ℕ) (bytes : List ℕ) → length bytes < n → whole_bytes (bytes_with (nothing n) bytes) ≡ None
some_lack zero bytes lt = absurd (omega arith)
some_lack (suc n) [] lt = refl
some_lack (suc n) (b ∷ bytes) lt = ap (with_byte (Some b)) (some_lack n bytes (omega arith))

all_fresh : (n from : ℕ) (bytes : List ℕ) → from + length bytes ≤ n → length bytes ≡ n → whole_bytes (bytes_with_at (nothing n) from bytes) ≡ Some bytes
all_fresh n zero bytes within is = all_come n bytes is
all_fresh n (suc from) bytes within is = absurd (omega arith)

some_fresh : (n from : ℕ) (bytes : List ℕ) → from + length bytes ≤ n → length bytes < n → whole_bytes (bytes_with_at (nothing n) from bytes) ≡ None
some_fresh n zero bytes within lt = some_lack n bytes lt
some_fresh zero (suc from) bytes within lt = absurd (omega arith)
some_fresh (suc n) (suc from) bytes within lt = refl

-- ---- a piece

-- the pieces that are staged are of its base
pub with_staged : (s : Pieces) (p : Piece) → (s.at == p.at && length s.bytes == p.total) ≡ true → whole_with (Some s) p ≡ whole_bytes (bytes_with_at s.bytes p.from p.bytes)
with_staged s p is = ap (λ (l : Places). whole_bytes (bytes_with_at l p.from p.bytes)) (cond-true (s.at == p.at && length s.bytes == p.total) s.bytes (replicate p.total None) is)

-- none of them is
fresh_of : (o : Option Pieces) (p : Piece) → are_of p o ≡ false → bytes_of o p.at p.total ≡ nothing p.total
fresh_of None p is = refl
fresh_of (Some s) p is = cond-false (s.at == p.at && length s.bytes == p.total) s.bytes (nothing p.total) is

pub with_fresh : (o : Option Pieces) (p : Piece) → are_of p o ≡ false → p.from + length p.bytes ≤ p.total → length p.bytes ≡ p.total → whole_with o p ≡ Some p.bytes
with_fresh o p not within is =
    ap (λ (l : Places). whole_bytes (bytes_with_at l p.from p.bytes)) (fresh_of o p not) ∙ all_fresh p.total p.from p.bytes within is

pub with_lack : (o : Option Pieces) (p : Piece) → are_of p o ≡ false → p.from + length p.bytes ≤ p.total → length p.bytes < p.total → whole_with o p ≡ None
with_lack o p not within lt =
    ap (λ (l : Places). whole_bytes (bytes_with_at l p.from p.bytes)) (fresh_of o p not) ∙ some_fresh p.total p.from p.bytes within lt

test_by : (o : Option Pieces) (p : Piece) (b : Bool) → nat_eq (length p.bytes) p.total ≡ b → are_of p o ≡ false → p.from + length p.bytes ≤ p.total → b ≡ is_some (whole_with o p)
test_by o p true is not within = sym (ap is_some (with_fresh o p not within (eqb-true (length p.bytes) p.total is)))
test_by o p false is not within = sym (ap is_some (with_lack o p not within (omega (arith, λ (e : length p.bytes ≡ p.total). true≢false (sym (eq-eqb (length p.bytes) p.total e) ∙ is)))))

-- a piece alone is whole where it has all bytes
pub fresh_is : (o : Option Pieces) (p : Piece) → are_of p o ≡ false → p.from + length p.bytes ≤ p.total → nat_eq (length p.bytes) p.total ≡ is_some (whole_with o p)
fresh_is o p not within = test_by o p (nat_eq (length p.bytes) p.total) refl not within
