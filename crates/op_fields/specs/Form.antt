-- Formats of bytes: what encodes a value, which values have an encoding, and how one is read from a place on.
use Rattle.std.specs.Prelude.{◌≤◌, ◌+◌, ◌++◌, ℕ, zero, suc, Bool, IsTrue, List, [], ◌∷◌, length, take, drop, Option, Some, None, Result, Ok, Err, nat_lt, ◌==◌, if◌then◌else◌}
use Rattle.std.specs.List.{flat_map}
use Rattle.std.specs.Int.{Width, w8, byte_len, from_be_bytes, to_be_bytes}

-- a value and the place after it, or the place of the first field that is short or out of range
abbrev pub Read : Type 0 → Type 0
Read A = Result (A × ℕ) ℕ

-- a further step, unless the first failed
infixl 10 ◌>>=◌
abbrev pub ◌>>=◌ : {A B : Type 0} → Result A ℕ → (A → Result B ℕ) → Result B ℕ
(Ok x) >>= f = f x
(Err at) >>= f = Err at

-- the bytes of a number, the highest first; kept closed, so that goals name it and don't compute it
unfoldable pub encoded : Width → ℕ → List ℕ
encoded w n = to_be_bytes w n

-- how a value is encoded, which values have an encoding, and how one is read
pub record Form (A : Type 0) : Type 1 where
  pub text : A → List ℕ
  pub fits : A → Type 0
  pub read : List ℕ → ℕ → Read A

-- a big-endian number from low to high
abbrev pub number_read : Width → ℕ → ℕ → List ℕ → ℕ → Read ℕ
number_read w low high bytes at =
    if nat_lt (length bytes) (at + byte_len w) then Err at else
    if nat_lt (from_be_bytes w (take (byte_len w) (drop at bytes))) low then Err at else
    if nat_lt high (from_be_bytes w (take (byte_len w) (drop at bytes))) then Err at else
    Ok (from_be_bytes w (take (byte_len w) (drop at bytes)), at + byte_len w)

-- such a number, with its bytes
abbrev pub number : Width → ℕ → ℕ → Form ℕ
number w low high = record {
  text = λ n. encoded w n;
  fits = λ n. (low ≤ n) × (n ≤ high);
  read = number_read w low high;
}

-- a length from low to high, and so many bytes; any fault is at the length's place
abbrev pub counted_read : Width → ℕ → ℕ → List ℕ → ℕ → Read (List ℕ)
counted_read w low high bytes at =
    number_read w low high bytes at >>= λ n.
    if nat_lt (length bytes) (n.1 + n.0) then Err at else Ok (take n.0 (drop n.1 bytes), n.1 + n.0)

-- such bytes, with their length
abbrev pub counted : Width → ℕ → ℕ → Form (List ℕ)
counted w low high = record {
  text = λ bs. encoded w (length bs) ++ bs;
  fits = λ bs. (low ≤ length bs) × (length bs ≤ high);
  read = counted_read w low high;
}

-- one, and then another, which may depend on it
abbrev pub pair : {A B : Type 0} → Form A → (A → Form B) → Form (A × B)
pair f g = record {
  text = λ x. f.text x.0 ++ (g x.0).text x.1;
  fits = λ x. f.fits x.0 × (g x.0).fits x.1;
  read = λ bytes at. f.read bytes at >>= λ a. (g a.0).read bytes a.1 >>= λ b. Ok ((a.0, b.0), b.1);
}

-- the same under another type, where this says which have an encoding
abbrev pub fitted : {A B : Type 0} → (A → B) → (B → A) → (B → Type 0) → Form A → Form B
fitted to from fits f = record {
  text = λ b. f.text (from b);
  fits = fits;
  read = λ bytes at. f.read bytes at >>= λ a. Ok (to a.0, a.1);
}

-- those that pass a test; one that doesn't is a fault at its first byte
abbrev pub tested : {A : Type 0} → (A → Bool) → Form A → Form A
tested test f = record {
  text = f.text;
  fits = λ a. f.fits a × IsTrue (test a);
  read = λ bytes at. f.read bytes at >>= λ a. if test a.0 then Ok a else Err at;
}

-- items; the form of each may depend on the one before it, by its key, but not its encoding
abbrev pub Items : {A : Type 0} → (ℕ → Form A) → (A → ℕ) → ℕ → List A → Type 0
Items f key low [] = Unit {0}
Items f key low (x ∷ xs) = (f low).fits x × Items f key (key x) xs

-- so many items, one after the other
unfoldable pub items_read : {A : Type 0} → (ℕ → Form A) → (A → ℕ) → ℕ → ℕ → List ℕ → ℕ → Read (List A)
items_read f key zero low bytes at = Ok ([], at)
items_read f key (suc n) low bytes at =
    (f low).read bytes at >>= λ x.
    items_read f key n (key x.0) bytes x.1 >>= λ xs. Ok (x.0 ∷ xs.0, xs.1)

-- a count and the items
abbrev pub listed : {A : Type 0} → Width → ℕ → ℕ → (ℕ → Form A) → (A → ℕ) → ℕ → Form (List A)
listed w low high f key first = record {
  text = λ xs. encoded w (length xs) ++ flat_map (f 0).text xs;
  fits = λ xs. (low ≤ length xs) × (length xs ≤ high) × Items f key first xs;
  read = λ bytes at. number_read w low high bytes at >>= λ n. items_read f key n.0 first bytes n.1;
}

-- the flag: 1 where there is a value
abbrev pub optional_tag : {A : Type 0} → Option A → ℕ
optional_tag None = 0
optional_tag (Some a) = 1

-- what stands after the flag
abbrev pub optional_body : {A : Type 0} → Form A → Option A → List ℕ
optional_body f None = []
optional_body f (Some a) = f.text a

-- a value that is there fits
abbrev pub optional_fits : {A : Type 0} → Form A → Option A → Type 0
optional_fits f None = Unit {0}
optional_fits f (Some a) = f.fits a

-- a flag, and the value where there is one
abbrev pub optional : {A : Type 0} → Form A → Form (Option A)
optional f = record {
  text = λ o. encoded w8 (optional_tag o) ++ optional_body f o;
  fits = λ o. optional_fits f o;
  read = λ bytes at. number_read w8 0 1 bytes at >>= λ t.
      if t.0 == 0 then Ok (None, t.1) else f.read bytes t.1 >>= λ a. Ok (Some a.0, a.1);
}

-- what stands after a tag, by the tag
abbrev pub Options : Type 0 → Type 0
Options B = ℕ → List ℕ → ℕ → Read B

-- one tag more, and what stands after it
abbrev pub option : {A B : Type 0} → ℕ → Form A → (A → B) → Options B → Options B
option t f make others tag bytes at =
    if tag == t then (f.read bytes at >>= λ a. Ok (make a.0, a.1)) else others tag bytes at

-- no tag is left; this is never read, since a tag has its range
abbrev pub no_option : {B : Type 0} → Options B
no_option tag bytes at = Err at

-- a tag from 1 to high, and what stands after it
abbrev pub choice : {B : Type 0} → ℕ → (B → ℕ) → (B → List ℕ) → (B → Type 0) → Options B → Form B
choice high tag_of body fits options = record {
  text = λ b. encoded w8 (tag_of b) ++ body b;
  fits = fits;
  read = λ bytes at. number_read w8 1 high bytes at >>= λ t. options t.0 bytes t.1;
}

-- a whole body, of which nothing is left over; the first byte left over is a fault
abbrev pub whole : {A : Type 0} → Form A → List ℕ → Result A ℕ
whole f bytes = f.read bytes 0 >>= λ a. if nat_lt a.1 (length bytes) then Err a.1 else Ok a.0
