-- What a function took, against what reading gives.
use Rattle.std.specs.Global.{Vec}
use Rattle.std.specs.Prelude.{◌≡◌, ◌≤◌, ◌<◌, ◌+◌, ℕ, List, length, take, drop, Result, Ok, Err}
use Rattle.std.specs.Int.{Width, byte_len, from_be_bytes}
use Rattle.op_fields.specs.declared.fail.Short.{Short}
use Rattle.op_fields.specs.declared.fail.TakeFail.{TakeFail}
use Rattle.op_fields.specs.declared.fail.TakeFail.TheVariants.{Bad, NoMemory}

-- the number that the bytes at a place encode
abbrev pub number_at : Width → List ℕ → ℕ → ℕ
number_at w bytes at = from_be_bytes w (take (byte_len w) (drop at bytes))

-- all its bytes are there, and they encode this number
abbrev pub IsNumberAt : Width → List ℕ → ℕ → ℕ → Type 0
IsNumberAt w bytes at n = (at + byte_len w ≤ length bytes) × (n ≡ number_at w bytes at)

-- too few bytes remain for a number at this place
abbrev pub IsShortAt : Width → List ℕ → ℕ → Short → Type 0
IsShortAt w bytes at e = (e.at ≡ at) × (length bytes < at + byte_len w)

-- a length stands at this place, and after it as many bytes, which are these
pub record IsCountedAt (w : Width) (bytes : List ℕ) (at : ℕ) (text : List ℕ) : Type 0 where
  pub within : at + byte_len w + length text ≤ length bytes
  pub count : length text ≡ number_at w bytes at
  pub is : text ≡ take (length text) (drop (at + byte_len w) bytes)

-- too few bytes remain for a length at this place, or after it
abbrev pub IsShortCounted : Width → List ℕ → ℕ → Short → Type 0
IsShortCounted w bytes at e = (e.at ≡ at) × (length bytes < at + byte_len w + number_at w bytes at)

-- why nothing was read, against what reading gives
abbrev pub Fails : {Y : Type 0} → TakeFail → Result Y ℕ → Type 0
Fails NoMemory read = Unit {0}
Fails (Bad at) read = read ≡ Err at

-- what a function returned is what reading gives, unless memory ran out
abbrev pub Gives : {Y : Type 0} → Result Y TakeFail → Result Y ℕ → Type 0
Gives (Ok x) read = read ≡ Ok x
Gives (Err e) read = Fails e read

-- the same of a slice, by its bytes
abbrev pub GivesSlice : {S : Type 0} → (S → List ℕ) → Result (S × ℕ) TakeFail → Result (List ℕ × ℕ) ℕ → Type 0
GivesSlice see (Ok x) read = read ≡ Ok (see x.0, x.1)
GivesSlice see (Err e) read = Fails e read

-- the same of a vector, by its items
abbrev pub GivesVec : {A : Type 0} → Result (Vec A × ℕ) TakeFail → Result (List A × ℕ) ℕ → Type 0
GivesVec (Ok x) read = read ≡ Ok (x.0.items, x.1)
GivesVec (Err e) read = Fails e read

-- where it is bad, this holds of the place
abbrev pub IfBad : {Y : Type 0} → Result Y TakeFail → (ℕ → Type 0) → Type 0
IfBad (Err (Bad at)) p = p at
IfBad _ p = Unit {0}
