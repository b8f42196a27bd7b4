-- A word of digits is read from the left, and is what `decimal` writes of its value where it doesn't begin with a zero.
use Rattle.std.proofs.Common.{◌≡◌, ℕ, zero, suc, ◌+◌, ◌*◌, ◌^◌, ◌<◌, ◌≤◌, List, [], ◌∷◌, length, get_or, drop, drop-cons, refl, sym, ap, subst, ◌∙◌, arith}
use Rattle.std.specs.Fmt.{decimal}
use Rattle.std.specs.Str.Parse.{AllDigits, digits_value_after, digits_value}
use Rattle.std.specs.Char.{digit_value}
use Rattle.std.proofs.lemmas.Fmt.{decimal-digits_value, decimal_digit, decimal_is_IsNumeral, first_decimal}
use Rattle.std.proofs.lemmas.List.{drop_all}
use Rattle.std.proofs.lemmas.Str.Parse.{IsNumeralModel}
use Rattle.op_text.specs.Digits.{IsValueOf}

-- the value of digits after a number is at least the number
pub least_value : (n : ℕ) (ds : List ℕ) → n ≤ digits_value_after 10 n ds
least_value n [] = omega arith
least_value n (d ∷ ds) = omega (arith, least_value (n * 10 + digit_value d) ds)

numerals : IsNumeralModel (AllDigits 10) (digits_value 10)
numerals = record { to = λ ds h. h; from = λ ds h. h; same = λ ds h. refl }

-- a word with a leading zero is `0`
abbrev pub LeadsAlone : List ℕ → Type 0
LeadsAlone word = get_or word 0 0 ≡ 48 → length word ≡ 1

-- a value's word
pub decimal_of_value : (word : List ℕ) (n : ℕ) → 0 < length word → LeadsAlone word → IsValueOf word n → (n < 2 ^ 64) × (word ≡ decimal n)
decimal_of_value word n some lead h = (h.0, sym (subst (λ m. decimal m ≡ word) h.2 (decimal-digits_value numerals word h.1 some lead (subst (λ m. m < 2 ^ 64) (sym h.2) h.0))))

-- a word's value
pub value_of_decimal : (word : List ℕ) (n : ℕ) → n < 2 ^ 64 → word ≡ decimal n → IsValueOf word n
value_of_decimal word n small e = let k = decimal_is_IsNumeral n small in subst (λ w. IsValueOf w n) (sym e) (small, k.0.1, k.1)

-- ---- a word read from the left

-- all of it is read
pub all_read : (word : List ℕ) (at value : ℕ) → length word ≤ at → value < 2 ^ 64 → digits_value_after 10 value (drop at word) ≡ digits_value 10 word → (AllDigits 10 (drop at word) → AllDigits 10 word) → IsValueOf word value
all_read word at value end small is whole =
    let none : drop at word ≡ [] = drop_all at word end in
    (small, whole (subst (AllDigits 10) (sym none) tt), sym is ∙ ap (digits_value_after 10 value) none)

-- the digits of a word have no value that fits, since those up to the next one have none
pub too_great : (word : List ℕ) (at value n : ℕ) → at < length word → (value * 10 + digit_value (get_or word at 0) < 2 ^ 64 → ⊥) → n < 2 ^ 64 → digits_value_after 10 value (drop at word) ≡ n → ⊥
too_great word at value n more over small is =
    let next : drop at word ≡ get_or word at 0 ∷ drop (suc at) word = drop-cons word at 0 more in
    let least = least_value (value * 10 + digit_value (get_or word at 0)) (drop (suc at) word) in
    over (omega (arith, least, sym is ∙ ap (digits_value_after 10 value) next, small))

-- a decimal begins with a zero where it is nothing else
pub one_zero : (n : ℕ) → n < 2 ^ 64 → LeadsAlone (decimal n)
one_zero zero small = λ e. ap length (decimal_digit 0 (omega arith))
one_zero (suc n) small = λ e. absurd (omega (arith, first_decimal (suc n) (omega arith) small, e))
