-- The percent encoding of keys and values.
use Rattle.std.specs.Prelude.{◌≡◌, ◌==◌, ℕ, ◌/◌, ◌%◌, ◌<◌, ◌≤◌, Bool, true, false, ◌||◌, IsTrue, if◌then◌else◌}
use Rattle.std.specs.Prelude.{List, [], ◌∷◌, ◌++◌, length, All}
use Rattle.std.specs.Char.{is_ascii_alphanumeric}
use Rattle.std.specs.Fmt.{digit_glyph}
use Rattle.std.specs.List.{flat_map, list_all}

-- each number is a byte's
abbrev pub AreBytes : List ℕ → Type 0
AreBytes xs = All (λ x. x < 256) xs

-- the byte `.`
abbrev pub dot : ℕ
dot = 46

-- the byte `_`
abbrev pub underscore : ℕ
underscore = 95

-- the byte `%`, which begins an escape
abbrev pub percent : ℕ
percent = 37

-- a letter, a digit, `.` or `_`, which stands for itself
abbrev pub is_plain : ℕ → Bool
is_plain b = is_ascii_alphanumeric b || b == dot || b == underscore

-- each byte stands for itself
abbrev pub AllPlain : List ℕ → Type 0
AllPlain bytes = IsTrue (list_all is_plain bytes)

-- a byte's value in two upper-case hexadecimal digits, after `%`
abbrev pub escaped : ℕ → List ℕ
escaped b = percent ∷ digit_glyph true (b / 16) ∷ digit_glyph true (b % 16) ∷ []

-- a byte of a key or a value, as text
abbrev pub encoded_byte : ℕ → List ℕ
encoded_byte b = if is_plain b then b ∷ [] else escaped b

-- a key or a value, as text: `%` alone for no bytes
abbrev pub encoded : List ℕ → List ℕ
encoded [] = percent ∷ []
encoded (b ∷ bytes) = flat_map encoded_byte (b ∷ bytes)

-- the word begins with the byte's escape, and `more` is after it
abbrev pub BeginsEscaped : List ℕ → ℕ → List ℕ → Type 0
BeginsEscaped word b more = (b < 256) × (is_plain b ≡ false) × (word ≡ escaped b ++ more)

-- the word begins with the byte's encoding, and `more` is after it
abbrev pub BeginsEncoded : List ℕ → ℕ → List ℕ → Type 0
BeginsEncoded word b more = (b < 256) × (word ≡ encoded_byte b ++ more)

-- the word is these bytes' encodings, one after the other
abbrev pub AreEncoded : List ℕ → List ℕ → Type 0
AreEncoded word bytes = AreBytes bytes × (flat_map encoded_byte bytes ≡ word)

-- the word encodes these bytes
abbrev pub IsEncoded : List ℕ → List ℕ → Type 0
IsEncoded word bytes = AreBytes bytes × (encoded bytes ≡ word)

-- the word is so many bytes' encodings, one after the other
abbrev pub CountsEncoded : List ℕ → ℕ → Type 0
CountsEncoded word count = (bytes : List ℕ) × AreEncoded word bytes × (length bytes ≡ count)

-- the word encodes so many bytes
abbrev pub EncodesCount : List ℕ → ℕ → Type 0
EncodesCount word count = (bytes : List ℕ) × IsEncoded word bytes × (length bytes ≡ count)

-- the word encodes these bytes, which are from `least` to `most`
abbrev pub IsEncodedWithin : ℕ → ℕ → List ℕ → List ℕ → Type 0
IsEncodedWithin least most word bytes = (least ≤ length bytes) × (length bytes ≤ most) × IsEncoded word bytes
