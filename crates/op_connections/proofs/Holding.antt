-- What waits for the rest of a hello or a frame is shorter than the longest of them.
use Rattle.std.proofs.Common.{◌≡◌, ◌<◌, ◌+◌, ◌∷◌, [], ℕ, Bool, true, false, List, length, take, drop, nat_lt, ◌==◌, if◌then◌else◌, refl, arith}
use Rattle.std.proofs.lemmas.Bool.{ltb-true, ltb-false}
use Rattle.std.specs.Int.{w32, from_be_bytes}
use Rattle.op_types.specs.declared.events.Input.{Input}
use Rattle.op_frame.specs.Framing.{Stream, width_of, left}
use Rattle.op_serving.specs.declared.greeting.Greeting.{Greeting}
use Rattle.op_serving.specs.declared.greeting.Greeting.TheVariants as greets
use Rattle.op_serving.specs.declared.kind.Kind.{Kind}
use Rattle.op_serving.specs.declared.kind.Kind.TheVariants.{Unknown, Peer, Client}
use Rattle.op_serving.specs.Reading.{Front, partial, refused, frame, framed, first_frame, greeted, greeting, front_of, client_byte, peer_byte, client_stream, hello_len}
use Rattle.op_connections.specs.Hearing.{longest}
use Rattle.op_connections.proofs.Keeping.{formed}
use Rattle.op_connections.proofs.Fronting.{waits}

-- a part of a frame
part_short : (k kind : Kind) (x z : Stream) → first_frame k x ≡ partial kind z → length x.held < x.head + x.limit
unfolding first_frame
part_short k kind x z e = by_head (nat_lt (length x.held) x.head) refl e
  where
    n : ℕ
    n = from_be_bytes (width_of x.head) (take x.head x.held)

    whole_or_part : Bool → Front
    whole_or_part b = if b then partial k x else frame k (take n (drop x.head x.held)) (left x (drop (x.head + n) x.held))

    by_length : (b : Bool) → nat_lt (length x.held) (x.head + n) ≡ b → nat_lt x.limit n ≡ false → whole_or_part b ≡ partial kind z → length x.held < x.head + x.limit
    by_length true short few f = omega (arith, ltb-true (length x.held) (x.head + n) short, ltb-false x.limit n few)
    by_length false short few f = absurd cc

    by_limit : (b : Bool) → nat_lt x.limit n ≡ b → (if b then refused k x else whole_or_part (nat_lt (length x.held) (x.head + n))) ≡ partial kind z → length x.held < x.head + x.limit
    by_limit true few f = absurd cc
    by_limit false few f = by_length (nat_lt (length x.held) (x.head + n)) refl few f

    by_head : (b : Bool) → nat_lt (length x.held) x.head ≡ b → (if b then partial k x else framed k x n) ≡ partial kind z → length x.held < x.head + x.limit
    by_head true short f = omega (arith, ltb-true (length x.held) x.head short)
    by_head false short f = by_limit (nat_lt x.limit n) refl f

-- a part of a hello
silent_short : (held : List ℕ) → greeting held ≡ greets.Silent → length held < hello_len
unfolding greeting
silent_short [] e = omega arith
silent_short (b ∷ bytes) e = by_client (b == client_byte) e
  where
    hello_or_part : Bool → Greeting
    hello_or_part s = if s then greets.Silent else greets.Peer (from_be_bytes w32 (take 4 bytes))

    by_length : (s : Bool) → nat_lt (length bytes) 4 ≡ s → hello_or_part s ≡ greets.Silent → length (b ∷ bytes) < hello_len
    by_length true h f = omega (arith, ltb-true (length bytes) 4 h)
    by_length false h f = absurd cc

    by_peer : (p : Bool) → (if p then hello_or_part (nat_lt (length bytes) 4) else greets.Strange) ≡ greets.Silent → length (b ∷ bytes) < hello_len
    by_peer true f = by_length (nat_lt (length bytes) 4) refl f
    by_peer false f = absurd cc

    by_client : (k : Bool) → (if k then greets.Client else (if b == peer_byte then hello_or_part (nat_lt (length bytes) 4) else greets.Strange)) ≡ greets.Silent → length (b ∷ bytes) < hello_len
    by_client true f = absurd cc
    by_client false f = by_peer (b == peer_byte) f

greeted_short : (x : Stream) (g : Greeting) → greeting x.held ≡ g → greeted g x ≡ partial Unknown x → length x.held < hello_len
greeted_short x greets.Silent is e = silent_short x.held is
greeted_short x greets.Client is e = absurd (let other : Unknown ≡ Client = (waits Client Unknown (client_stream x.held) x e).same in cc)
greeted_short x (greets.Peer q) is e = absurd cc
greeted_short x greets.Strange is e = absurd cc

pub held_short : (k : Kind) (x : Stream) (ws : List Input) → formed k x ws → front_of k x ≡ partial k x → length x.held < longest k
held_short Unknown x ws f e = greeted_short x (greeting x.held) refl e
held_short (Peer q h) x ws f e = let short = part_short (Peer q h) (Peer q h) x x e in omega (arith, f.head_is, f.limit_is, short)
held_short Client x ws f e = let short = part_short Client Client x x e in omega (arith, f.head_is, f.limit_is, short)
