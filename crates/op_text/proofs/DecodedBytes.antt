-- A word is decoded byte by byte, and what is left may encode nothing.
use Rattle.std.proofs.Common.{◌≡◌, ℕ, ◌*◌, ◌/◌, ◌<◌, ◌≤◌, Bool, true, false, Option, Some, None, List, [], ◌∷◌, ◌++◌, length, refl, sym, ap, ◌∙◌, arith, append-nil, append_assoc, length-append}
use Rattle.std.proofs.lemmas.Bool.{false≢true}
use Rattle.std.proofs.lemmas.List.{flat_map_more}
use Rattle.std.proofs.lemmas.List.Elements.{All-head, All-nil, All-push, All-same, All-tail}
use Rattle.std.specs.List.{flat_map}
use Rattle.std.specs.Option.{IfNone}
use Rattle.op_text.specs.Percent.{AreBytes, AreEncoded, BeginsEncoded, BeginsEscaped, CountsEncoded, EncodesCount, IsEncoded, IsEncodedWithin, escaped, is_plain, encoded, encoded_byte, percent}
use Rattle.op_text.proofs.UnambiguousEncoding.{IsByte, encoded_as, first_same, one_encoding_of, percent_is_escaped}

-- no bytes are encoded as the word, one after the other
abbrev pub EncodesNone : List ℕ → Type 0
EncodesNone word = (bytes : List ℕ) → AreEncoded word bytes → ⊥

-- no byte's encoding begins the word
abbrev pub BeginsWithNone : List ℕ → Type 0
BeginsWithNone word = (b : ℕ) (more : List ℕ) → BeginsEncoded word b more → ⊥

none_first : (word : List ℕ) (bytes : List ℕ) → 0 < length word → BeginsWithNone word → AreEncoded word bytes → ⊥
none_first [] bytes some none h = absurd (omega arith)
none_first (a ∷ word) [] some none h = absurd (let e : [] ≡ a ∷ word = h.1 in cc)
none_first (a ∷ word) (b ∷ bytes) some none h = none b (flat_map encoded_byte bytes) (All-head IsByte b bytes h.0, sym h.1)

-- where no byte's encoding begins a word
pub none_here : (word : List ℕ) → 0 < length word → BeginsWithNone word → EncodesNone word
none_here word some none = λ bytes h. none_first word bytes some none h

after_one : (b : ℕ) (word after bytes : List ℕ) → 0 < length word → BeginsEncoded word b after → EncodesNone after → AreEncoded word bytes → ⊥
after_one b [] after bytes some first none h = absurd (omega arith)
after_one b (a ∷ word) after [] some first none h = absurd (let e : [] ≡ a ∷ word = h.1 in cc)
after_one b (a ∷ word) after (c ∷ bytes) some first none h =
    let parts = first_same (is_plain c) (is_plain b) c b (flat_map encoded_byte bytes) after (All-head IsByte c bytes h.0) first.0 (percent_is_escaped c) (percent_is_escaped b) (h.1 ∙ first.1) in
    none bytes (All-tail IsByte c bytes h.0, parts.1)

-- where no bytes are encoded after the first one
pub none_after : (b : ℕ) (word after : List ℕ) → 0 < length word → BeginsEncoded word b after → EncodesNone after → EncodesNone word
none_after b word after some first none = λ bytes h. after_one b word after bytes some first none h

prefix_as : (p : Bool) (b first : ℕ) (word after more : List ℕ) → is_plain b ≡ p → is_plain first ≡ false → word ≡ first ∷ after → (is_plain b ≡ false → word ≡ escaped b ++ more → ⊥) → word ≡ encoded_as p b ++ more → ⊥
prefix_as true b first word after more is plain here none e =
    let same : b ≡ first = cc in
    false≢true (sym plain ∙ ap is_plain (sym same) ∙ is)
prefix_as false b first word after more is plain here none e = none is e

no_prefix : (b first : ℕ) (word after more : List ℕ) → is_plain first ≡ false → word ≡ first ∷ after → (is_plain b ≡ false → word ≡ escaped b ++ more → ⊥) → word ≡ encoded_byte b ++ more → ⊥
no_prefix b first word after more plain here none e = prefix_as (is_plain b) b first word after more refl plain here none e

-- where the first byte isn't plain, and no escape begins the word
pub no_prefix_from : {T : Type 0} (r : Option T) (first : ℕ) (word after : List ℕ) → is_plain first ≡ false → word ≡ first ∷ after
    → IfNone r ((b : ℕ) (more : List ℕ) → BeginsEscaped word b more → ⊥) → IfNone r (BeginsWithNone word)
no_prefix_from None first word after plain here none = λ b more h. no_prefix b first word after more plain here (λ p e. none b more (h.0, p, e)) h.1
no_prefix_from (Some x) first word after plain here none = tt

-- ---- whole words

-- bytes that are encoded as the word, one after the other
pub encoded_whole : (word bytes : List ℕ) → 0 < length word → AreEncoded word bytes → IsEncoded word bytes
encoded_whole word [] some h = absurd (let e : [] ≡ word = h.1 in omega (arith, ap (length {A = ℕ}) e))
encoded_whole word (b ∷ bytes) some h = h

-- a word other than `%` is its bytes' encodings, one after the other
pub encoded_each : (word bytes : List ℕ) → (word ≡ percent ∷ [] → ⊥) → IsEncoded word bytes → AreEncoded word bytes
encoded_each word [] other h = absurd (other (sym h.1))
encoded_each word (b ∷ bytes) other h = h

-- ---- lengths

short_byte : (p : Bool) (b : ℕ) → length (encoded_as p b) ≤ 3
short_byte true b = omega arith
short_byte false b = omega arith

short_bytes : (bytes : List ℕ) → length (flat_map encoded_byte bytes) ≤ 3 * length bytes
short_bytes [] = omega arith
short_bytes (b ∷ bytes) = omega (arith, length-append (encoded_byte b) (flat_map encoded_byte bytes), short_byte (is_plain b) b, short_bytes bytes)

short_encoding : (bytes : List ℕ) (most : ℕ) → 1 ≤ most → length bytes ≤ most → length (encoded bytes) ≤ 3 * most
short_encoding [] most some few = omega arith
short_encoding (b ∷ bytes) most some few = omega (arith, short_bytes (b ∷ bytes))

-- a word of more than three letters a byte encodes more bytes
pub too_long : (word : List ℕ) (most : ℕ) → 1 ≤ most → most < length word / 3 → (bytes : List ℕ) → length bytes ≤ most → encoded bytes ≡ word → ⊥
too_long word most some long bytes few e = omega (arith, short_encoding bytes most some few, ap (length {A = ℕ}) e)

-- ---- a word read byte by byte

-- these bytes' encodings begin the word, and this is after them
pub record IsReadTo (bytes rest word : List ℕ) : Type 0 where
  pub small : AreBytes bytes
  pub read : flat_map encoded_byte bytes ++ rest ≡ word
  pub none : EncodesNone rest → EncodesNone word

-- nothing is read
pub read_nothing : (bytes word : List ℕ) → bytes ≡ [] → IsReadTo bytes word word
read_nothing bytes word none = record { small = All-same IsByte bytes [] none (All-nil IsByte); read = rw none refl; none = λ h. h }

-- one byte more is read
pub read_more : (bytes more : List ℕ) (b : ℕ) (rest after word : List ℕ) → IsReadTo bytes rest word → 0 < length rest → BeginsEncoded rest b after → more ≡ bytes ++ b ∷ [] → IsReadTo more after word
read_more bytes more b rest after word before some first one =
    record {
      small = All-same IsByte more (bytes ++ b ∷ []) one (All-push IsByte bytes b before.small first.0);
      read = rw one (
          ap (λ (prefix : List ℕ). prefix ++ after) (sym (flat_map_more encoded_byte [] bytes b))
          ∙ append_assoc (flat_map encoded_byte bytes) (encoded_byte b) after ∙ ap (λ (left : List ℕ). flat_map encoded_byte bytes ++ left) (sym first.1) ∙ before.read
          );
      none = λ none. before.none (none_after b rest after some first none);
    }

-- all is read
pub read_all : (bytes rest word : List ℕ) → IsReadTo bytes rest word → length rest ≡ 0 → AreEncoded word bytes
read_all bytes [] word before end = (before.small, sym (append-nil (flat_map encoded_byte bytes)) ∙ before.read)
read_all bytes (b ∷ rest) word before end = absurd (omega arith)

-- ---- how many bytes a word encodes

pub count_whole : (word : List ℕ) (count : ℕ) → 0 < length word → CountsEncoded word count → EncodesCount word count
count_whole word count some h = (h.0, encoded_whole word h.0 some h.1, h.2)

pub count_each : (word : List ℕ) (count : ℕ) → (word ≡ percent ∷ [] → ⊥) → EncodesCount word count → CountsEncoded word count
count_each word count other h = (h.0, encoded_each word h.0 other h.1, h.2)

-- a word that encodes so many bytes
pub within_by_count : (word : List ℕ) (least most count : ℕ) → EncodesCount word count → least ≤ count → count ≤ most → (bytes : List ℕ) × IsEncodedWithin least most word bytes
within_by_count word least most count h low high = (h.0, (omega (arith, h.2), omega (arith, h.2), h.1))

-- encodes no other number of them
pub count_within : (word : List ℕ) (least most count : ℕ) → EncodesCount word count → (bytes : List ℕ) × IsEncodedWithin least most word bytes → (least ≤ count) × (count ≤ most)
count_within word least most count h found =
    let same : h.0 ≡ found.0 = one_encoding_of h.0 found.0 h.1.0 found.1.2.0 (h.1.1 ∙ sym found.1.2.1) in
    let equal : count ≡ length found.0 = sym h.2 ∙ ap length same in
    (omega (arith, equal, found.1.0), omega (arith, equal, found.1.1))
