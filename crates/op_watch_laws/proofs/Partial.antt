-- Bytes of which some came: those of one base.
use Rattle.std.proofs.Common.{◌≡◌, ℕ, zero, suc, ◌==◌, ◌&&◌, List, [], ◌∷◌, length, take, drop, Option, Some, None, refl, sym, ap₂, ◌∙◌, subst}
use Rattle.std.specs.Prelude.{IfSome, replicate}
use Rattle.std.proofs.lemmas.Bool.{cond_both, and_parts, eqb-true}
use Rattle.op_types.specs.Stages.{Pieces, kept_or, bytes_with, bytes_with_at, bytes_of, with_piece, with_byte, whole_bytes}
use Rattle.op_types.specs.declared.runs.Piece.{Piece}

-- each byte that came is that of these at its place
abbrev pub Partial : List (Option ℕ) → List ℕ → Type 0
Partial [] [] = Unit {0}
Partial (o ∷ held) (b ∷ bytes) = IfSome o (λ c. c ≡ b) × Partial held bytes
Partial _ _ = ⊥

pub partial_none : (bytes : List ℕ) → Partial (replicate (length bytes) None) bytes
partial_none [] = tt
partial_none (b ∷ bytes) = (tt, partial_none bytes)

kept_is : (o : Option ℕ) (b : ℕ) → IfSome o (λ c. c ≡ b) → IfSome (kept_or o b) (λ c. c ≡ b)
kept_is None b k = refl
kept_is (Some c) b k = k

partial_with : (held : List (Option ℕ)) (bytes : List ℕ) (n : ℕ) → Partial held bytes → Partial (bytes_with held (take n bytes)) bytes
partial_with [] [] n k = tt
partial_with [] (b ∷ bytes) n k = absurd k
partial_with (o ∷ held) [] n k = absurd k
partial_with (o ∷ held) (b ∷ bytes) zero k = k
partial_with (o ∷ held) (b ∷ bytes) (suc n) k = (kept_is o b k.0, partial_with held bytes n k.1)

pub partial_at : (held : List (Option ℕ)) (bytes : List ℕ) (from n : ℕ) → Partial held bytes → Partial (bytes_with_at held from (take n (drop from bytes))) bytes
partial_at held bytes zero n k = partial_with held bytes n k
partial_at [] [] (suc from) n k = tt
partial_at [] (b ∷ bytes) (suc from) n k = absurd k
partial_at (o ∷ held) [] (suc from) n k = absurd k
partial_at (o ∷ held) (b ∷ bytes) (suc from) n k = (k.0, partial_at held bytes from n k.1)

none_some : {A : Type 0} (a : A) → None ≡ Some a → ⊥
none_some a e = cc

some_same : {A : Type 0} (a b : A) → Some a ≡ Some b → a ≡ b
some_same a b e = cc

pub partial_whole : (held : List (Option ℕ)) (bytes all : List ℕ) → Partial held bytes → whole_bytes held ≡ Some all → all ≡ bytes
partial_whole [] [] all k e = sym (some_same [] all e)
partial_whole [] (b ∷ bytes) all k e = absurd k
partial_whole (o ∷ held) [] all k e = absurd k
partial_whole (None ∷ held) (b ∷ bytes) all k e = absurd (none_some all e)
partial_whole (Some c ∷ held) (b ∷ bytes) all k e = by (whole_bytes held) (λ rest h. partial_whole held bytes rest k.1 h) e
  where
    by : (o : Option (List ℕ)) → ((rest : List ℕ) → o ≡ Some rest → rest ≡ bytes) → with_byte (Some c) o ≡ Some all → all ≡ b ∷ bytes
    by None h z = absurd (none_some all z)
    by (Some rest) h z = sym (some_same (c ∷ rest) all z) ∙ ap₂ (λ (x : ℕ) (y : List ℕ). x ∷ y) k.0 (h rest refl)

-- what came of the base at a place, with so many bytes
pub partial_of : (o : Option Pieces) (at : ℕ) (bytes : List ℕ) → IfSome o (λ x. x.at ≡ at → Partial x.bytes bytes) → Partial (bytes_of o at (length bytes)) bytes
partial_of None at bytes k = partial_none bytes
partial_of (Some x) at bytes k =
    cond_both (x.at == at && length x.bytes == length bytes) x.bytes (replicate (length bytes) None) (λ (held : List (Option ℕ)). Partial held bytes)
    (λ e. k (eqb-true x.at at (and_parts (x.at == at) (length x.bytes == length bytes) e).0)) (λ _. partial_none bytes)

-- a piece more
pub partial_piece : (o : Option Pieces) (p : Piece) (bytes : List ℕ) → p.total ≡ length bytes → p.bytes ≡ take (length p.bytes) (drop p.from bytes) → IfSome o (λ x. x.at ≡ p.at → Partial x.bytes bytes)
    → Partial (with_piece o p).bytes bytes
partial_piece o p bytes total is k =
    subst (λ (bs : List ℕ). Partial (bytes_with_at (bytes_of o p.at p.total) p.from bs) bytes) (sym is)
    (subst (λ (n : ℕ). Partial (bytes_with_at (bytes_of o p.at n) p.from (take (length p.bytes) (drop p.from bytes))) bytes) (sym total)
    (partial_at (bytes_of o p.at (length bytes)) bytes p.from (length p.bytes) (partial_of o p.at bytes k)))
