-- Decimal digits. Only what is inside the crate speaks of this.
use Rattle.std.specs.Prelude.{◌≡◌, ◌^◌, ◌<◌, ℕ, List}
use Rattle.std.specs.Str.Parse.{AllDigits, digits_value}

-- the word is digits with this value, which fits
abbrev pub IsValueOf : List ℕ → ℕ → Type 0
IsValueOf word n = (n < 2 ^ 64) × AllDigits 10 word × (digits_value 10 word ≡ n)
