use Rattle.std.specs.Net.Addr.{ipv4_octets}
use Rattle.std.specs.Net.Text.{ipv4_text}
use Rattle.op_setup.specs.Addresses.{colon}
use Rattle.std.proofs.Common.{◌≡◌, ◌∷◌, ◌++◌, List, ℕ, sym, ap, ◌∙◌, decimal, arith}
use Rattle.std.specs.Net.Socket.{v4_ip, v4_port}
use Rattle.op_setup.proofs.AddressTexts.{is_read, read_in_range, read_parts, socket_parts, socket_text_from, written_port}
use Rattle.op_setup.proofs.addresses.socket.Goals as goal

pub returns-in_default : goal.returns-in_default
returns-in_default c = λ s h. c.in_default.ensures.value s (is_read _ s h)

pub returns-in_default-after_colon : goal.returns-in_default-after_colon
returns-in_default-after_colon c = λ s h.
    let parts = socket_parts c.args.text.now s h in
    let is = rw c.in_default-after_colon.is at c.after_colon.ensures _ _ parts.0 (c.as_bytes.ensures.value ∙ parts.1) in
    absurd cc

pub returns-in_default-number : goal.returns-in_default-number
returns-in_default-number c = λ s h.
    let parts = socket_parts c.args.text.now s h in
    let is = rw c.in-Some.is at c.after_colon.ensures _ _ parts.0 (c.as_bytes.ensures.value ∙ parts.1) in
    let same : c.in-Some.digits.now ≡ decimal (v4_port s) = cc in
    let none = rw c.in_default-number.is at c.number.ensures in
    none (v4_port s) (omega (arith, h.0.1), same)

pub returns : goal.returns
returns c =
    let read = read_parts c.args.text.now c.in-Ok.socket c.in-Ok.ensures.value in
    let is = rw c.in-Some.is at c.after_colon.ensures _ _ read.1 (c.as_bytes.ensures.value ∙ read.2) in
    let same : c.in-Some.digits.now ≡ read.0 = cc in
    let number = rw c.in-Some-number.is at c.number.ensures in
    let own : read.0 ≡ decimal (v4_port c.in-Ok.socket) = written_port c.in-Some-number.field-0 read.0 _ number.0 (sym same ∙ number.1) read.3 in
    socket_text_from c.args.text.now c.in-Ok.socket (read_in_range _ _ c.in-Ok.ensures.value) (read.2 ∙ ap (λ (w : List ℕ). ipv4_text (ipv4_octets (v4_ip c.in-Ok.socket)) ++ colon ∷ w) own)
