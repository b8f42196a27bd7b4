-- Bytes that stand for themselves are their own encoding.
use Rattle.std.proofs.Common.{◌≡◌, ℕ, ◌<◌, ◌≤◌, true, false, eqb, List, [], ◌∷◌, ◌++◌, refl, ap, ◌∙◌, arith, length}
use Rattle.std.proofs.lemmas.Bool.{and_parts}
use Rattle.std.proofs.lemmas.Bool.Decides.{nat_tests}
use Rattle.std.proofs.lemmas.List.Elements.{All-nil, All-cons}
use Rattle.std.specs.List.{flat_map, list_all}
use Rattle.op_text.specs.Percent.{AreBytes, AreEncoded, IsEncodedWithin, is_plain, encoded, encoded_byte}
use Rattle.op_text.proofs.UnambiguousEncoding.{IsByte}

plain_below : (b : ℕ) → is_plain b ≡ true → b < 128
plain_below b h = grind (arith, nat_tests)

-- plain bytes are bytes
plain_small : (bytes : List ℕ) → list_all is_plain bytes ≡ true → AreBytes bytes
plain_small [] h = All-nil IsByte
plain_small (b ∷ bytes) h =
    let parts = and_parts (is_plain b) (list_all is_plain bytes) h in
    All-cons IsByte b bytes (omega (arith, plain_below b parts.0)) (plain_small bytes parts.1)

encoded_byte-plain : (b : ℕ) → is_plain b ≡ true → encoded_byte b ≡ b ∷ []
encoded_byte-plain b h = rw h refl

flat_map-plain : (bytes : List ℕ) → list_all is_plain bytes ≡ true → flat_map encoded_byte bytes ≡ bytes
flat_map-plain [] h = refl
flat_map-plain (b ∷ bytes) h =
    let parts = and_parts (is_plain b) (list_all is_plain bytes) h in
    ap (λ (first : List ℕ). first ++ flat_map encoded_byte bytes) (encoded_byte-plain b parts.0)
    ∙ ap (λ (rest : List ℕ). b ∷ rest) (flat_map-plain bytes parts.1)

-- plain bytes are their own encoding
pub encoded_plain : (bytes : List ℕ) → eqb (length bytes) 0 ≡ false → list_all is_plain bytes ≡ true → encoded bytes ≡ bytes
encoded_plain [] some h = cc
encoded_plain (b ∷ bytes) some h = flat_map-plain (b ∷ bytes) h

-- a word of plain bytes is their encodings, one after the other
pub plain_encoded : (word : List ℕ) → list_all is_plain word ≡ true → AreEncoded word word
plain_encoded word h = (plain_small word h, flat_map-plain word h)

-- a word of plain bytes, which are from `least` to `most`, encodes itself
pub plain_within : (least most : ℕ) (word : List ℕ) → eqb (length word) 0 ≡ false → least ≤ length word → length word ≤ most → list_all is_plain word ≡ true → IsEncodedWithin least most word word
plain_within least most word some low high h = (low, high, (plain_small word h, encoded_plain word some h))
