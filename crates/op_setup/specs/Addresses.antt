-- The text of an address.
use Rattle.std.specs.Prelude.{◌≡◌, ◌≤◌, ◌<◌, ◌^◌, ℕ, List, ◌++◌, All, codes, decimal}
use Rattle.std.specs.Int.{w32, to_be_bytes}
use Rattle.std.specs.Net.Text.{ipv4_text}
use Rattle.std.specs.Net.Socket.{IsSocketAddrV4}
use Rattle.std.specs.Net.Text.{socket_v4_text}
use Rattle.std.specs.declared.net.socket_addr.SocketAddrV4.{SocketAddrV4}
use Rattle.op_outside.specs.declared.net.Addr.{Addr}

-- a host of 32 bits, and a port from 1 of 16
pub record AddrInRange (a : Addr) : Type 0 where
  pub host : a.host < 2 ^ 32
  pub port : 1 ≤ a.port
  pub port_fits : a.port < 2 ^ 16

-- the four numbers of the host with dots between them, a colon and the port, in decimal digits
abbrev pub addr_text : Addr → List ℕ
addr_text a = ipv4_text (to_be_bytes w32 a.host) ++ codes ":" ++ decimal a.port

-- the text is this address
abbrev pub IsAddr : List ℕ → Addr → Type 0
IsAddr text a = AddrInRange a × (text ≡ addr_text a)

-- the text is this address of std, whose port has no leading zeros.
-- Only what is inside the crate speaks of this
abbrev pub IsSocketText : List ℕ → SocketAddrV4 → Type 0
IsSocketText text s = IsSocketAddrV4 s × (text ≡ socket_v4_text s)

-- the byte `:`, before the port
abbrev pub colon : ℕ
colon = 58

-- no byte is `:`
abbrev pub HasNoColon : List ℕ → Type 0
HasNoColon text = All (λ b. b ≡ colon → ⊥) text
