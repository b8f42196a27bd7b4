-- Bytes are told by their encoding.
use Rattle.std.proofs.Common.{◌≡◌, ℕ, ◌/◌, ◌%◌, ◌<◌, Bool, true, false, List, [], ◌∷◌, ◌++◌, All, cond, refl, sym, arith}
use Rattle.std.proofs.lemmas.Bool.Decides.{nat_tests}
use Rattle.std.proofs.lemmas.List.Elements.{All-head, All-tail}
use Rattle.std.specs.Fmt.{digit_glyph}
use Rattle.std.specs.List.{flat_map}
use Rattle.op_text.specs.Percent.{is_plain, escaped, encoded, encoded_byte}

one_digit : (m n : ℕ) → m < 16 → n < 16 → digit_glyph true m ≡ digit_glyph true n → m ≡ n
one_digit m n hm hn e = grind (arith, nat_tests)

one_byte : (a b : ℕ) → a / 16 ≡ b / 16 → a % 16 ≡ b % 16 → a ≡ b
one_byte a b e f = omega arith

pub percent_is_escaped : (b : ℕ) → is_plain b ≡ true → 37 ≡ b → ⊥
percent_is_escaped b is e = grind (arith, nat_tests)

-- a byte, where the test says whether it is plain
abbrev pub encoded_as : Bool → ℕ → List ℕ
encoded_as plain b = cond plain (b ∷ []) (escaped b)

pub first_same : (p q : Bool) (a b : ℕ) (more rest : List ℕ) → a < 256 → b < 256 → (p ≡ true → 37 ≡ a → ⊥) → (q ≡ true → 37 ≡ b → ⊥)
    → encoded_as p a ++ more ≡ encoded_as q b ++ rest → (a ≡ b) × (more ≡ rest)
first_same true true a b more rest ha hb pa qb e = (cc, cc)
first_same true false a b more rest ha hb pa qb e = absurd (pa refl cc)
first_same false true a b more rest ha hb pa qb e = absurd (qb refl cc)
first_same false false a b more rest ha hb pa qb e =
    let high : a / 16 ≡ b / 16 = one_digit (a / 16) (b / 16) (omega arith) (omega arith) cc in
    let low : a % 16 ≡ b % 16 = one_digit (a % 16) (b % 16) (omega arith) (omega arith) cc in
    (one_byte a b high low, cc)

not_empty : (p : Bool) (b : ℕ) (more : List ℕ) → [] ≡ encoded_as p b ++ more → ⊥
not_empty true b more e = cc
not_empty false b more e = cc

not_percent : (p : Bool) (b : ℕ) (more : List ℕ) → (p ≡ true → 37 ≡ b → ⊥) → 37 ∷ [] ≡ encoded_as p b ++ more → ⊥
not_percent true b more pb e = pb refl cc
not_percent false b more pb e = cc

abbrev pub IsByte : ℕ → Type 0
IsByte b = b < 256

all_same : (xs ys : List ℕ) → All IsByte xs → All IsByte ys → flat_map encoded_byte xs ≡ flat_map encoded_byte ys → xs ≡ ys
all_same [] [] ha hb e = refl
all_same [] (b ∷ ys) ha hb e = absurd (not_empty (is_plain b) b (flat_map encoded_byte ys) e)
all_same (a ∷ xs) [] ha hb e = absurd (not_empty (is_plain a) a (flat_map encoded_byte xs) (sym e))
all_same (a ∷ xs) (b ∷ ys) ha hb e =
    let parts = first_same (is_plain a) (is_plain b) a b (flat_map encoded_byte xs) (flat_map encoded_byte ys) (All-head IsByte a xs ha) (All-head IsByte b ys hb) (percent_is_escaped a) (percent_is_escaped b) e in
    let rest = all_same xs ys (All-tail IsByte a xs ha) (All-tail IsByte b ys hb) parts.1 in
    cc (parts.0, rest)

-- a encoding is of one list of bytes
pub one_encoding_of : (xs ys : List ℕ) → All IsByte xs → All IsByte ys → encoded xs ≡ encoded ys → xs ≡ ys
one_encoding_of [] [] ha hb e = refl
one_encoding_of [] (b ∷ ys) ha hb e = absurd (not_percent (is_plain b) b (flat_map encoded_byte ys) (percent_is_escaped b) e)
one_encoding_of (a ∷ xs) [] ha hb e = absurd (not_percent (is_plain a) a (flat_map encoded_byte xs) (percent_is_escaped a) (sym e))
one_encoding_of (a ∷ xs) (b ∷ ys) ha hb e = all_same (a ∷ xs) (b ∷ ys) ha hb e
