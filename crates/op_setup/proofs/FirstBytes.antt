-- A text is cut at its first byte of one kind in one way.
use Rattle.std.proofs.Common.{◌≡◌, ℕ, ◌+◌, ◌<◌, Bool, true, false, cond, eqb, ltb, Option, Some, None, List, [], ◌∷◌, ◌++◌, length, take, drop, refl, sym, ap, ◌∙◌, arith}
use Rattle.std.specs.Prelude.{All}
use Rattle.std.specs.List.{position_or_len}
use Rattle.std.proofs.Math.Seq.{drop-append-add}
use Rattle.std.proofs.lemmas.Bool.Decides.{nat_tests}
use Rattle.std.proofs.lemmas.List.Elements.{All-head, All-tail}
use Rattle.op_setup.specs.Splits.{IsSplit}

-- the byte is this one
abbrev pub is_byte : ℕ → ℕ → Bool
is_byte byte b = eqb b byte

-- where the first one stands, as `position` gives it
abbrev pub first_at : ℕ → List ℕ → Option ℕ
first_at byte text = cond (ltb (position_or_len (is_byte byte) text) (length text)) (Some (position_or_len (is_byte byte) text)) None

-- a byte is another one
abbrev Differs : ℕ → ℕ → Type 0
Differs byte b = b ≡ byte → ⊥

-- ---- what is cut has its first such byte where it is cut

place_of : (byte : ℕ) (before after : List ℕ) → All (Differs byte) before → position_or_len (is_byte byte) (before ++ byte ∷ after) ≡ length before
place_of byte [] after lacks = let same : eqb byte byte ≡ true = grind (arith, nat_tests) in rw same refl
place_of byte (b ∷ before) after lacks =
    let differs : Differs byte b = All-head (Differs byte) b before lacks in
    let no : eqb b byte ≡ false = grind (arith, nat_tests) in
    rw no (ap (λ (n : ℕ). 1 + n) (place_of byte before after (All-tail (Differs byte) b before lacks)) ∙ omega arith)

within : (before after : List ℕ) (byte : ℕ) → length before < length (before ++ byte ∷ after)
within [] after byte = omega arith
within (b ∷ before) after byte = let more = within before after byte in omega arith

pub first_of : (byte : ℕ) (text before after : List ℕ) → IsSplit text byte before after → first_at byte text ≡ Some (length before)
first_of byte text before after split =
    let place : position_or_len (is_byte byte) text ≡ length before = rw split.is (place_of byte before after split.lacks) in
    let there : length before < length text = rw split.is (within before after byte) in
    let found : ltb (length before) (length text) ≡ true = grind (arith, nat_tests) in
    rw (place, found) refl

-- ---- two cuts are one

taken : (before after : List ℕ) → take (length before) (before ++ after) ≡ before
taken [] after = refl
taken (b ∷ before) after = ap (λ (bs : List ℕ). b ∷ bs) (taken before after)

left : (before after : List ℕ) (byte : ℕ) → drop (length before + 1) (before ++ byte ∷ after) ≡ after
left before after byte = drop-append-add before (byte ∷ after) 1

same_some : (m n : ℕ) → Some m ≡ Some n → m ≡ n
same_some m n e = cc

pub one_split : (byte : ℕ) (text a b x y : List ℕ) → IsSplit text byte a b → IsSplit text byte x y → (a ≡ x) × (b ≡ y)
one_split byte text a b x y one two =
    let place : length a ≡ length x = same_some _ _ (sym (first_of byte text a b one) ∙ first_of byte text x y two) in (
      sym (taken a (byte ∷ b)) ∙ ap (take (length a)) (sym one.is ∙ two.is) ∙ ap (λ (n : ℕ). take n (x ++ byte ∷ y)) place ∙ taken x (byte ∷ y),
      sym (left a b byte) ∙ ap (drop (length a + 1)) (sym one.is ∙ two.is) ∙ ap (λ (n : ℕ). drop (n + 1) (x ++ byte ∷ y)) place ∙ left x y byte,
    )
