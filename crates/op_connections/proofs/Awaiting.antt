-- A read deals with all whole frames: what is held then begins none.
use Rattle.std.proofs.Common.{◌≡◌, ◌≤◌, ◌<◌, ◌+◌, ◌-◌, ◌∷◌, [], ℕ, Bool, true, false, List, length, take, drop, nat_lt, if◌then◌else◌, refl, sym, ◌∙◌, ap, subst, arith}
use Rattle.std.proofs.lemmas.Bool.{ltb-false, lt-ltb}
use Rattle.std.proofs.lemmas.List.{length-drop}
use Rattle.std.specs.Int.{from_be_bytes}
use Rattle.op_types.specs.declared.events.Input.{Input}
use Rattle.op_frame.specs.Framing.{Stream, width_of, left}
use Rattle.op_serving.specs.declared.greeting.Greeting.{Greeting}
use Rattle.op_serving.specs.declared.greeting.Greeting.TheVariants as greets
use Rattle.op_serving.specs.declared.kind.Kind.{Kind}
use Rattle.op_serving.specs.declared.kind.Kind.TheVariants.{Unknown, Peer, Client}
use Rattle.op_serving.specs.Reading.{Front, partial, refused, hello, frame, framed, first_frame, greeted, greeting, front_of, client_stream, hello_len}
use Rattle.op_connections.proofs.Keeping.{formed}
use Rattle.op_connections.proofs.Fronting.{waits}

-- ---- what stands at the front

-- of what is held at a part nothing more is taken
abbrev pub Again : Front → Type 0
Again (partial kind z) = front_of kind z ≡ partial kind z
Again _ = Unit {0}

first_again : (k : Kind) (x : Stream) (w : Front) → front_of k x ≡ first_frame k x → first_frame k x ≡ w → Again w
first_again k x (partial kind z) known e =
    let f = waits k kind x z e in
    subst (λ (v : Kind). front_of v z ≡ partial v z) (sym f.same) (subst (λ (v : Stream). front_of k v ≡ partial k v) (sym f.stream)
    (known ∙ e ∙ ap (λ v. partial v z) f.same ∙ ap (partial k) f.stream))
first_again k x (refused kind z) known e = tt
first_again k x (hello q z) known e = tt
first_again k x (frame kind body z) known e = tt

greeted_again : (x : Stream) (g : Greeting) → greeting x.held ≡ g → Again (greeted g x)
greeted_again x greets.Silent e = ap (λ g. greeted g x) e
greeted_again x greets.Client e = first_again Client (client_stream x.held) (first_frame Client (client_stream x.held)) refl refl
greeted_again x (greets.Peer q) e = tt
greeted_again x greets.Strange e = tt

pub again : (k : Kind) (x : Stream) → Again (front_of k x)
again Unknown x = greeted_again x (greeting x.held) refl
again (Peer q h) x = first_again (Peer q h) x (first_frame (Peer q h) x) refl refl
again Client x = first_again Client x (first_frame Client x) refl refl

-- behind a frame or a hello less is held
abbrev pub Shorter : ℕ → Front → Type 0
Shorter m (frame kind body z) = length z.held + 1 ≤ m
Shorter m (hello q z) = length z.held ≤ m - 1
Shorter m _ = Unit {0}

pub shorter_less : (m n : ℕ) (w : Front) → m ≤ n → Shorter m w → Shorter n w
shorter_less m n (partial kind z) le s = tt
shorter_less m n (refused kind z) le s = tt
shorter_less m n (hello q z) le s = omega (arith, le, s)
shorter_less m n (frame kind body z) le s = omega (arith, le, s)

first_shorter : (k : Kind) (x : Stream) → 1 ≤ x.head → Shorter (length x.held) (first_frame k x)
unfolding first_frame
first_shorter k x some = by_head (nat_lt (length x.held) x.head)
  where
    n : ℕ
    n = from_be_bytes (width_of x.head) (take x.head x.held)

    by_length : (b : Bool) → nat_lt (length x.held) (x.head + n) ≡ b → Shorter (length x.held) (if b then partial k x else frame k (take n (drop x.head x.held)) (left x (drop (x.head + n) x.held)))
    by_length true e = tt
    by_length false e = omega (arith, ltb-false (length x.held) (x.head + n) e, length-drop (x.head + n) x.held, some)

    by_limit : (b : Bool) → Shorter (length x.held) (if b then refused k x else (if nat_lt (length x.held) (x.head + n) then partial k x else frame k (take n (drop x.head x.held)) (left x (drop (x.head + n) x.held))))
    by_limit true = tt
    by_limit false = by_length (nat_lt (length x.held) (x.head + n)) refl

    by_head : (b : Bool) → Shorter (length x.held) (if b then partial k x else framed k x n)
    by_head true = tt
    by_head false = by_limit (nat_lt x.limit n)

greeted_shorter : (x : Stream) (g : Greeting) → Shorter (length x.held) (greeted g x)
greeted_shorter x greets.Silent = tt
greeted_shorter x greets.Client = shorter_less (length (drop 1 x.held)) (length x.held) (first_frame Client (client_stream x.held)) (omega (arith, length-drop 1 x.held)) (first_shorter Client (client_stream x.held) (omega arith))
greeted_shorter x (greets.Peer q) = omega (arith, length-drop hello_len x.held)
greeted_shorter x greets.Strange = tt

pub shorter : (k : Kind) (x : Stream) (ws : List Input) → formed k x ws → Shorter (length x.held) (front_of k x)
shorter Unknown x ws f = greeted_shorter x (greeting x.held)
shorter (Peer q h) x ws f = first_shorter (Peer q h) x (omega (arith, f.head_is))
shorter Client x ws f = first_shorter Client x (omega (arith, f.head_is))

-- where nothing is held, nothing stands there
first_none : (k : Kind) (x : Stream) → length x.held < x.head → first_frame k x ≡ partial k x
unfolding first_frame
first_none k x lt = ap (λ (b : Bool). if b then partial k x else framed k x (from_be_bytes (width_of x.head) (take x.head x.held))) (lt-ltb (length x.held) x.head lt)

greeting_none : (held : List ℕ) → length held ≤ 0 → greeting held ≡ greets.Silent
unfolding greeting
greeting_none [] le = refl
greeting_none (b ∷ held) le = absurd (omega (arith, le))

pub nothing_held : (k : Kind) (x : Stream) (ws : List Input) → formed k x ws → length x.held ≤ 0 → front_of k x ≡ partial k x
nothing_held Unknown x ws f le = ap (λ g. greeted g x) (greeting_none x.held le)
nothing_held (Peer q h) x ws f le = first_none (Peer q h) x (omega (arith, f.head_is, le))
nothing_held Client x ws f le = first_none Client x (omega (arith, f.head_is, le))
