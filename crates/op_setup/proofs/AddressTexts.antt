-- An address as text: it is one address at most, and std reads it as written.
use Rattle.std.proofs.Common.{◌≡◌, ℕ, zero, suc, ◌+◌, ◌<◌, ◌^◌, ◌%◌, ◌/◌, Bool, false, cond, eqb, ltb, Option, Some, None, List, [], ◌∷◌, ◌++◌, length, drop, get_or, codes, decimal, refl, sym, ap, ◌∙◌, subst, append_assoc, arith, lit<}
use Rattle.std.specs.List.{position_from, position_or_len}
use Rattle.std.specs.Str.Parse.{AllDigits, digits_value}
use Rattle.std.proofs.Math.Seq.{drop-append-add}
use Rattle.std.proofs.lemmas.Bool.Decides.{nat_tests}
use Rattle.std.proofs.lemmas.Fmt.{decimal_is_IsNumeral}
use Rattle.std.proofs.lemmas.Iterator.Adapters.{position_from-zero}
use Rattle.std.proofs.lemmas.List.Elements.{All-append, All-cons, All-head, All-nil, All-tail}
use Rattle.std.proofs.lemmas.Str.Parse.{digit_from_value}
use Rattle.std.specs.Int.{w32, to_be_bytes, from_be_bytes, byte_at}
use Rattle.std.proofs.lemmas.Nat.{from_be_bytes-to_be_bytes_4, be_bytes_4}
use Rattle.std.specs.declared.net.socket_addr.SocketAddrV4.{SocketAddrV4}
use Rattle.std.specs.declared.net.ipv4_addr.Ipv4Addr.{Ipv4Addr}
use Rattle.std.specs.Net.Addr.{ipv4_octets, ipv4_bits, IsIpv4Addr}
use Rattle.std.specs.Net.Socket.{v4_ip, v4_port, IsSocketAddrV4}
use Rattle.std.specs.Net.Text.{dotted_text, ipv4_text, socket_v4_text}
use Rattle.std.specs.Net.Grammar.{IsDotted, IsSocketV4Text}
use Rattle.std.proofs.NetLemmas.Texts.{IsDotted-ipv4_text, IsPortText-decimal}
use Rattle.std.proofs.NetLemmas.Theorems.{IsSocketV4Text_unique}
use Rattle.op_outside.specs.declared.net.Addr.{Addr}
use Rattle.op_setup.specs.Addresses.{AddrInRange, HasNoColon, IsAddr, IsSocketText, colon}

-- ---- ranges

mod_fits : (n : ℕ) → n % 256 < 2 ^ 8
mod_fits n = omega arith

byte_fits : (i n : ℕ) → byte_at i n < 2 ^ 8
byte_fits zero n = mod_fits n
byte_fits (suc i) n = mod_fits (n / 256 ^ suc i)

pub host_bytes : (n k : ℕ) → get_or (to_be_bytes w32 n) k 0 < 2 ^ 8
host_bytes n zero = byte_fits 3 n
host_bytes n (suc zero) = byte_fits 2 n
host_bytes n (suc (suc zero)) = byte_fits 1 n
host_bytes n (suc (suc (suc zero))) = byte_fits 0 n
host_bytes n (suc (suc (suc (suc k)))) = lit< tt

-- an address as std has it
abbrev pub socket_of : Addr → SocketAddrV4
socket_of a = record { ip = record { octets = to_be_bytes w32 a.host }; port = a.port }

pub socket_in_range : (a : Addr) → AddrInRange a → IsSocketAddrV4 (socket_of a)
socket_in_range a h = ((refl, host_bytes a.host), h.port_fits)

four_fit : (a b c d k : ℕ) → a < 256 → b < 256 → c < 256 → d < 256 → get_or (a ∷ b ∷ c ∷ d ∷ []) k 0 < 2 ^ 8
four_fit a b c d zero ha hb hc hd = ha
four_fit a b c d (suc zero) ha hb hc hd = hb
four_fit a b c d (suc (suc zero)) ha hb hc hd = hc
four_fit a b c d (suc (suc (suc zero))) ha hb hc hd = hd
four_fit a b c d (suc (suc (suc (suc k)))) ha hb hc hd = lit< tt

dotted_in_range : (text octets : List ℕ) → IsDotted text octets → (length octets ≡ 4) × ((k : ℕ) → get_or octets k 0 < 2 ^ 8)
dotted_in_range text octets h =
    (ap length h.value, λ k. let P : List ℕ → Type 0 = λ o. get_or o k 0 < 2 ^ 8 in subst P (sym h.value) (four_fit h.a h.b h.c h.d k h.fit.0 h.fit.1 h.fit.2 h.fit.3))

-- what std reads is in range
pub read_in_range : (text : List ℕ) (s : SocketAddrV4) → IsSocketV4Text text s → IsSocketAddrV4 s
read_in_range text s h = (dotted_in_range h.0 (ipv4_octets (v4_ip s)) h.3, h.4.3)

-- ---- one address

written_is_read : (s : SocketAddrV4) → IsSocketAddrV4 s → IsSocketV4Text (socket_v4_text s) s
written_is_read s h = (
  _,
  58 ∷ decimal (v4_port s),
  append_assoc (ipv4_text (ipv4_octets (v4_ip s))) (58 ∷ []) (decimal (v4_port s)),
  IsDotted-ipv4_text _ h.0.0 h.0.1,
  IsPortText-decimal _ h.1,
)

-- a text that std would write is one that it reads
pub is_read : (text : List ℕ) (s : SocketAddrV4) → IsSocketText text s → IsSocketV4Text text s
is_read text s h = let P : List ℕ → Type 0 = λ t. IsSocketV4Text t s in subst P (sym h.1) (written_is_read s h.0)

pub one_socket : (text : List ℕ) (s t : SocketAddrV4) → IsSocketV4Text text s → IsSocketText text t → s ≡ t
one_socket text s t hs ht = IsSocketV4Text_unique text s t hs (is_read text t ht)

-- an address's text is that of std
pub addr_is_socket : (text : List ℕ) (a : Addr) → IsAddr text a → IsSocketText text (socket_of a)
addr_is_socket text a h = (socket_in_range a h.0, h.1)

abbrev addr : ℕ → ℕ → Addr
addr host port = record { host = host; port = port }

pub one_addr : (text : List ℕ) (a b : Addr) → IsAddr text a → IsAddr text b → a ≡ b
one_addr text a b ha hb =
    let same = one_socket text (socket_of a) (socket_of b) (is_read text (socket_of a) (addr_is_socket text a ha)) (addr_is_socket text b hb) in
    let bytes : to_be_bytes w32 a.host ≡ to_be_bytes w32 b.host = ap (λ (s : SocketAddrV4). ipv4_octets (v4_ip s)) same in
    let host : a.host ≡ b.host = sym (from_be_bytes-to_be_bytes_4 a.host ha.0.host) ∙ ap (from_be_bytes w32) bytes ∙ from_be_bytes-to_be_bytes_4 b.host hb.0.host in
    ap (λ (n : ℕ). addr n a.port) host ∙ ap (addr b.host) (ap v4_port same)

-- the bits of an address are its four numbers
pub bits_bytes : (ip : Ipv4Addr) (n : ℕ) → IsIpv4Addr ip → n ≡ ipv4_bits ip → to_be_bytes w32 n ≡ ipv4_octets ip
unfolding ipv4_bits
bits_bytes ip n h e = be_bytes_4 (ipv4_octets ip) n h.0 h.1 e

-- ---- where the port begins

abbrev pub is_colon : ℕ → Bool
is_colon b = eqb b colon

colon_from : (i : ℕ) (host port : List ℕ) → HasNoColon host → position_from is_colon i (host ++ colon ∷ port) ≡ Some (i + length host)
colon_from i [] port h = ap Some (omega arith)
colon_from i (b ∷ host) port h =
    let no : eqb b 58 ≡ false = (let other = All-head (λ x. x ≡ colon → ⊥) b host h in grind (arith, nat_tests)) in
    let more : Some (i + 1 + length host) ≡ Some (i + length (b ∷ host)) = ap Some (omega arith) in
    rw no (colon_from (i + 1) host port (All-tail (λ x. x ≡ colon → ⊥) b host h) ∙ more)

-- where the first `:` stands, as `position` gives it
abbrev pub colon_at : List ℕ → Option ℕ
colon_at text = cond (ltb (position_or_len is_colon text) (length text)) (Some (position_or_len is_colon text)) None

pub colon_after : (text host port : List ℕ) → HasNoColon host → text ≡ host ++ colon ∷ port → colon_at text ≡ Some (length host)
colon_after text host port h e = rw e (position_from-zero is_colon (host ++ colon ∷ port) ∙ colon_from 0 host port h ∙ ap Some (omega arith))

pub port_after : (text host port : List ℕ) → text ≡ host ++ colon ∷ port → drop (length host + 1) text ≡ port
port_after text host port e = rw e (drop-append-add host (colon ∷ port) 1)

numeral_no_colon : (w : List ℕ) → AllDigits 10 w → HasNoColon w
numeral_no_colon [] h = All-nil (λ b. b ≡ colon → ⊥)
numeral_no_colon (b ∷ w) h = (let digit = digit_from_value b h.0 in All-cons (λ x. x ≡ colon → ⊥) b w (λ e. omega (arith, digit, e)) (numeral_no_colon w h.1))

decimal_no_colon : (n : ℕ) → n < 256 → HasNoColon (decimal n)
decimal_no_colon n h = numeral_no_colon (decimal n) (decimal_is_IsNumeral n (omega arith)).0.1

dot_no_colon : HasNoColon (codes ".")
dot_no_colon = All-cons (λ x. x ≡ colon → ⊥) 46 [] (λ e. absurd (omega (arith, e))) (All-nil (λ b. b ≡ colon → ⊥))

joined_no_colon : (w v : List ℕ) → HasNoColon w → HasNoColon v → HasNoColon (w ++ v)
joined_no_colon w v hw hv = All-append (λ x. x ≡ colon → ⊥) w v hw hv

pub dotted_no_colon : (a b c d : ℕ) → a < 256 → b < 256 → c < 256 → d < 256 → HasNoColon (dotted_text a b c d)
dotted_no_colon a b c d ha hb hc hd =
    let one = joined_no_colon (decimal a) (codes ".") (decimal_no_colon a ha) dot_no_colon in
    let two = joined_no_colon _ (codes ".") (joined_no_colon _ (decimal b) one (decimal_no_colon b hb)) dot_no_colon in
    let three = joined_no_colon _ (codes ".") (joined_no_colon _ (decimal c) two (decimal_no_colon c hc)) dot_no_colon in
    joined_no_colon _ (decimal d) three (decimal_no_colon d hd)

-- the text of an address is its host's, a colon and its port's
pub socket_parts : (text : List ℕ) (s : SocketAddrV4) → IsSocketText text s → HasNoColon (ipv4_text (ipv4_octets (v4_ip s))) × (text ≡ ipv4_text (ipv4_octets (v4_ip s)) ++ colon ∷ decimal (v4_port s))
socket_parts text s h =
    let o = ipv4_octets (v4_ip s) in
    let fits : (k : ℕ) → get_or o k 0 < 2 ^ 8 = h.0.0.1 in
    (dotted_no_colon _ _ _ _ (fits 0) (fits 1) (fits 2) (fits 3), h.1 ∙ append_assoc (ipv4_text o) (58 ∷ []) (decimal (v4_port s)))

-- and one that std reads so is the address's, if its port has no leading zeros
pub read_parts : (text : List ℕ) (s : SocketAddrV4) → IsSocketV4Text text s → (port : List ℕ) × HasNoColon (ipv4_text (ipv4_octets (v4_ip s))) × (text ≡ ipv4_text (ipv4_octets (v4_ip s)) ++ colon ∷ port) × (digits_value 10 port ≡ v4_port s)
read_parts text s h =
    let o = ipv4_octets (v4_ip s) in
    let dotted = h.3 in
    let host : h.0 ≡ ipv4_text o = dotted.spelled ∙ ap ipv4_text (sym dotted.value) in
    let free : HasNoColon (dotted_text dotted.a dotted.b dotted.c dotted.d) = dotted_no_colon dotted.a dotted.b dotted.c dotted.d dotted.fit.0 dotted.fit.1 dotted.fit.2 dotted.fit.3 in
    (h.4.0, subst HasNoColon (sym dotted.spelled ∙ host) free, h.2 ∙ ap (λ w. w ++ h.1) host ∙ ap (λ w. ipv4_text o ++ w) h.4.1, h.4.2.1)

-- digits that write a number as `decimal` does write what they are worth
pub written_port : (n : ℕ) (digits : List ℕ) (port : ℕ) → n < 2 ^ 64 → digits ≡ decimal n → digits_value 10 digits ≡ port → digits ≡ decimal port
written_port n digits port fits e worth = e ∙ ap decimal (sym (decimal_is_IsNumeral n fits).1 ∙ ap (digits_value 10) (sym e) ∙ worth)

pub socket_text_from : (text : List ℕ) (s : SocketAddrV4) → IsSocketAddrV4 s → text ≡ ipv4_text (ipv4_octets (v4_ip s)) ++ colon ∷ decimal (v4_port s) → IsSocketText text s
socket_text_from text s fits e = (fits, e ∙ sym (append_assoc (ipv4_text (ipv4_octets (v4_ip s))) (58 ∷ []) (decimal (v4_port s))))
