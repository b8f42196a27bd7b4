use Rattle.std.proofs.Common.{◌≡◌, ◌++◌, codes, decimal, rules, arith, sym, ap, ◌∙◌}
use Rattle.std.specs.Int.{w32, to_be_bytes}
use Rattle.std.specs.Net.Addr.{ipv4_octets, ipv4_bits}
use Rattle.std.specs.Net.Socket.{v4_ip, v4_port}
use Rattle.std.specs.Net.Text.{ipv4_text}
use Rattle.op_setup.specs.Addresses.{IsSocketText}
use Rattle.op_setup.proofs.AddressTexts.{addr_is_socket, bits_bytes, is_read, one_socket, socket_of}
use Rattle.op_setup.proofs.addresses.addr.Goals as goal

pub returns-in_default : goal.returns-in_default
returns-in_default c = λ a h.
    let none = rw c.in_default.is at c.socket.ensures in none (socket_of a) (addr_is_socket _ a h)

pub returns-then-port-eq0 : goal.returns-then-port-eq0
returns-then-port-eq0 c = λ a h.
    let found : IsSocketText c.args.text.now c.in-Some.socket = rw c.in-Some.is at c.socket.ensures in
    let same : c.in-Some.socket ≡ socket_of a = one_socket _ _ _ (is_read _ _ found) (addr_is_socket _ a h) in
    let port : v4_port c.in-Some.socket ≡ a.port = ap v4_port same in
    omega (arith, port, c.port.ensures, c.if-port-eq0.true, h.0.port)

pub returns : goal.returns
returns c =
    let found : IsSocketText c.args.text.now c.in-Some.socket = rw c.in-Some.is at c.socket.ensures in
    let bits : c.to_bits.result ≡ ipv4_bits (v4_ip c.in-Some.socket) = c.to_bits.ensures ∙ ap ipv4_bits c.ip.ensures in
    let bytes : to_be_bytes w32 c.to_bits.result ≡ ipv4_octets (v4_ip c.in-Some.socket) = bits_bytes _ _ found.0.0 bits in
    let port : c.port-2.result ≡ v4_port c.in-Some.socket = c.port-2.ensures in
    let fits = found.0.1 in (
      record { host = search (rules, c.to_bits.type_inv); port = omega (arith, c.port.ensures, port, c.if-port-eq0.false); port_fits = omega (arith, port, fits) },
      found.1 ∙ ap (λ o. ipv4_text o ++ codes ":" ++ decimal (v4_port c.in-Some.socket)) (sym bytes) ∙ ap (λ p. ipv4_text (to_be_bytes w32 c.to_bits.result) ++ codes ":" ++ decimal p) (sym port),
    )
