-- Words that don't begin with `-`.
use Rattle.std.proofs.Common.{◌≡◌, ℕ, ◌<◌, ◌^◌, Bool, true, false, cond, eqb, List, [], ◌∷◌, ◌++◌, refl, arith, None, codes, decimal}
use Rattle.std.specs.Prelude.{bytes_eq, flat_map, slice_index}
use Rattle.std.specs.Net.Text.{dotted_text, ipv4_text}
use Rattle.std.specs.Int.{w32, to_be_bytes}
use Rattle.std.proofs.lemmas.Bool.Decides.{nat_tests}
use Rattle.std.proofs.lemmas.Fmt.{decimal_is_IsNumeral}
use Rattle.std.proofs.lemmas.Str.Parse.{digit_from_value}
use Rattle.std.specs.Str.Parse.{IsNumeral}
use Rattle.clap.specs.Lexer.{long_of, short_of}
use Rattle.op_outside.specs.declared.net.Addr.{Addr}
use Rattle.op_types.specs.declared.log.Op.{Op}
use Rattle.op_types.specs.declared.log.Op.TheVariants.{Put, Del, Get, Cas, Many, Forget}
use Rattle.op_text.specs.Operations.{op_name}
use Rattle.op_text.specs.Percent.{encoded, encoded_byte, escaped, is_plain}
use Rattle.op_setup.specs.Addresses.{addr_text}
use Rattle.op_setup.specs.Tasks.{is_flag}
use Rattle.op_setup.proofs.AddressTexts.{host_bytes}

-- what clap tells of a word that is no flag
pub record IsPlainWord (w : List ℕ) : Type 0 where
  pub flag : is_flag w ≡ false
  pub long : long_of w ≡ None
  pub short : short_of w ≡ None
  pub bare : bytes_eq w (codes "--") ≡ false

-- the word begins with another byte
abbrev BeginsPlain : List ℕ → Type 0
BeginsPlain [] = ⊥
BeginsPlain (b ∷ w) = eqb b 45 ≡ false

plain_from : (w : List ℕ) → BeginsPlain w → IsPlainWord w
plain_from [] h = absurd h
plain_from (b ∷ w) h =
    let turned : eqb 45 b ≡ false = grind (arith, nat_tests) in
    record { flag = rw turned refl; long = rw h refl; short = rw h refl; bare = rw h refl }

begins_more : (w v : List ℕ) → BeginsPlain w → BeginsPlain (w ++ v)
begins_more [] v h = absurd h
begins_more (b ∷ w) v h = h

numeral_begins : (w : List ℕ) → IsNumeral 10 w → BeginsPlain w
numeral_begins [] h = absurd (omega (arith, h.0))
numeral_begins (b ∷ w) h = let digit = digit_from_value b h.1.0 in grind (arith, nat_tests)

decimal_begins : (n : ℕ) → n < 2 ^ 64 → BeginsPlain (decimal n)
decimal_begins n h = numeral_begins (decimal n) (decimal_is_IsNumeral n h).0

pub plain_decimal : (n : ℕ) → n < 2 ^ 64 → IsPlainWord (decimal n)
plain_decimal n h = plain_from (decimal n) (decimal_begins n h)

dotted_begins : (a b c d : ℕ) → a < 2 ^ 64 → BeginsPlain (dotted_text a b c d)
dotted_begins a b c d h =
    let one = decimal a ++ codes "." in
    let two = one ++ decimal b ++ codes "." in
    let three = two ++ decimal c ++ codes "." in
    let first = begins_more (decimal a) (codes ".") (decimal_begins a h) in
    let second = begins_more (one ++ decimal b) (codes ".") (begins_more one (decimal b) first) in
    let third = begins_more (two ++ decimal c) (codes ".") (begins_more two (decimal c) second) in
    begins_more three (decimal d) third

host_begins : (o : List ℕ) → slice_index o 0 < 2 ^ 64 → BeginsPlain (ipv4_text o)
host_begins o h = dotted_begins (slice_index o 0) (slice_index o 1) (slice_index o 2) (slice_index o 3) h

pub plain_addr : (a : Addr) → IsPlainWord (addr_text a)
plain_addr a =
    let fits : slice_index (to_be_bytes w32 a.host) 0 < 2 ^ 64 = omega (arith, host_bytes a.host 0) in
    let host = ipv4_text (to_be_bytes w32 a.host) in
    plain_from (addr_text a) (begins_more (host ++ codes ":") (decimal a.port) (begins_more host (codes ":") (host_begins (to_be_bytes w32 a.host) fits)))

byte_begins : (p : Bool) (b : ℕ) → is_plain b ≡ p → BeginsPlain (cond p (b ∷ []) (escaped b))
byte_begins true b is = grind (arith, nat_tests)
byte_begins false b is = refl

encoded_begins : (bytes : List ℕ) → BeginsPlain (encoded bytes)
encoded_begins [] = refl
encoded_begins (b ∷ bytes) = begins_more (encoded_byte b) (flat_map encoded_byte bytes) (byte_begins (is_plain b) b refl)

pub plain_encoded : (bytes : List ℕ) → IsPlainWord (encoded bytes)
plain_encoded bytes = plain_from (encoded bytes) (encoded_begins bytes)

pub plain_op_name : (op : Op) → IsPlainWord (op_name op)
plain_op_name (Put key value) = plain_from (codes "put") refl
plain_op_name (Del key) = plain_from (codes "del") refl
plain_op_name (Get key) = plain_from (codes "get") refl
plain_op_name (Cas key old new) = plain_from (codes "cas") refl
plain_op_name (Many writes) = plain_from (codes "many") refl
plain_op_name (Forget client) = plain_from (codes "forget") refl
