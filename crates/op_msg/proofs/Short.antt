-- A message in range has an encoding where its bytes are few enough to be counted.
use Rattle.std.proofs.Common.{ℕ, ◌^◌, ◌<◌, ◌≤◌, List, ◌++◌, length, arith}
use Rattle.std.specs.Int.{w8, w32, w64}
use Rattle.op_fields.specs.Form.{encoded}
use Rattle.op_types.specs.declared.messages.Body.{Body}
use Rattle.op_types.specs.declared.messages.Body.TheVariants as variant
use Rattle.op_types.specs.declared.messages.Msg.{Msg}
use Rattle.op_entry.proofs.Lengths.{right_within}
use Rattle.op_msg.specs.Ranges.{greatest_length, CountsAreShort, BodyIsShort, AddressedInRange}
use Rattle.op_msg.specs.Forms.{place, body_tag, body_text, msg, addressed}

abbrev counted_text : List ℕ → List ℕ
counted_text b = encoded w64 (length b) ++ b

right : (a b : List ℕ) → length (a ++ b) ≤ greatest_length → length b ≤ greatest_length
right a b h = right_within a b greatest_length h

body_is_short : (b : Body) → CountsAreShort b → length (body_text b) ≤ greatest_length → BodyIsShort b
body_is_short (variant.BasePart at b) counts h = right (encoded w64 (length b)) b (right (place.text at) (counted_text b) h)
body_is_short _ counts h = counts

-- what stands after the tag
abbrev conf_text : Msg → List ℕ
conf_text m = encoded w32 m.conf ++ body_text m.body

-- what stands after the sender
abbrev to_text : ℕ × ℕ × Msg → List ℕ
to_text x = encoded w32 x.1 ++ msg.text x.2

pub short_fits : (x : ℕ × ℕ × Msg) → AddressedInRange x → CountsAreShort x.2.body → length (addressed.text x) < 2 ^ 64 → addressed.fits x
short_fits x range counts lt =
    let whole : length (addressed.text x) ≤ greatest_length = omega (arith, lt) in
    let sent = right (encoded w32 x.0) (to_text x) whole in
    let said = right (encoded w32 x.1) (msg.text x.2) sent in
    let tagged = right (encoded w8 (body_tag x.2.body)) (conf_text x.2) said in
    (range, body_is_short x.2.body counts (right (encoded w32 x.2.conf) (body_text x.2.body) tagged))
