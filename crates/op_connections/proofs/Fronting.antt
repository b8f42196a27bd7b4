-- What stands at the front of what a connection has read: a frame, the first bytes of a peer or of a client, or a part.
use Rattle.std.proofs.Common.{◌≡◌, ◌<◌, ◌≤◌, ◌+◌, ◌++◌, ◌∷◌, [], ℕ, Bool, true, false, List, length, take, drop, nat_lt, ◌==◌, if◌then◌else◌, refl, sym, ◌∙◌, ap, subst, inl, inr, arith}
use Rattle.std.proofs.lemmas.Bool.{eqb-true, ltb-false}
use Rattle.std.proofs.lemmas.List.{length-take-le, take-append-drop}
use Rattle.std.specs.Int.{from_be_bytes, w32}
use Rattle.op_types.specs.declared.events.Input.{Input}
use Rattle.op_fields.specs.Form.{encoded}
use Rattle.op_fields.specs.Reads.{IsBytes, limit_of}
use Rattle.op_fields.proofs.Formats.{wide32, IsBytes-take, IsBytes-drop}
use Rattle.op_frame.specs.Framing.{Stream, IsHead, IsBody, IsWhole, Tells, BeginsWith, width_of, frame_of, left}
use Rattle.op_frame.proofs.Heads.{wide_head}
use Rattle.op_frame.proofs.Wholes.{frame_there}
use Rattle.op_serving.specs.declared.greeting.Greeting.TheVariants as greets
use Rattle.op_serving.specs.declared.kind.Kind.{Kind}
use Rattle.op_serving.specs.declared.kind.Kind.TheVariants.{Unknown, Peer, Client}
use Rattle.op_serving.specs.Reading.{Front, partial, refused, frame, framed, greeting, first_frame, client_byte, peer_byte, hello_len, client_limit, peer_limit}
use Rattle.op_serving.specs.Turns.{hello}
use Rattle.op_connections.proofs.Hearing.{IsFrame}
use Rattle.op_connections.proofs.Keeping.{formed}

-- ---- a frame

tells_length : (head : ℕ) (bytes : List ℕ) (n : ℕ) → IsHead head → IsBytes bytes → head ≤ length bytes → n < limit_of (width_of head) → n ≡ from_be_bytes (width_of head) (take head bytes) → Tells head bytes n
tells_length head bytes n h each le lt e =
    let w = wide_head head h in
    record {
      within = le;
      fits = lt;
      told = sym (ap (encoded (width_of head)) e ∙ w.0.back (take head bytes) (length-take-le head bytes le ∙ sym w.1) (IsBytes-take head bytes each));
    }

-- what a frame that was found is
pub record Found (kind k : Kind) (x z : Stream) (body : List ℕ) : Type 0 where
  pub same : k ≡ kind
  pub begins : BeginsWith x body z.held
  pub rest : z ≡ left x z.held
  pub bytes : IsBytes z.held

-- no whole frame: all is as it was
pub record Waits (kind k : Kind) (x z : Stream) : Type 0 where
  pub same : k ≡ kind
  pub stream : z ≡ x

module _ (kind k : Kind) (x z : Stream) where
  abbrev whole_or_part : ℕ → Front
  whole_or_part n = if nat_lt (length x.held) (x.head + n) then partial kind x else frame kind (take n (drop x.head x.held)) (left x (drop (x.head + n) x.held))

  body_found : (body : List ℕ) (n : ℕ) → IsBytes x.held → IsWhole x n → frame kind (take n (drop x.head x.held)) (left x (drop (x.head + n) x.held)) ≡ frame k body z → Found kind k x z body
  body_found body n each w e =
      let is_kind : k ≡ kind = cc in
      let is_body : take n (drop x.head x.held) ≡ body = cc in
      let is_rest : left x (drop (x.head + n) x.held) ≡ z = cc in
      let held : drop (x.head + n) x.held ≡ z.held = ap (λ (y : Stream). y.held) is_rest in
      record {
        same = is_kind;
        begins = subst (λ (y : List ℕ). BeginsWith x body y) held (subst (λ (y : List ℕ). BeginsWith x y (drop (x.head + n) x.held)) is_body (frame_there x n w));
        rest = sym is_rest ∙ ap (left x) held;
        bytes = subst IsBytes held (IsBytes-drop (x.head + n) x.held each);
      }

  framed_found : (body : List ℕ) (n : ℕ) → IsBytes x.held → (n ≤ x.limit → Tells x.head x.held n) → framed kind x n ≡ frame k body z → Found kind k x z body
  framed_found body n each tells e = by_limit (nat_lt x.limit n) refl e
    where
      by_length : (b : Bool) → n ≤ x.limit → nat_lt (length x.held) (x.head + n) ≡ b
          → (if b then partial kind x else frame kind (take n (drop x.head x.held)) (left x (drop (x.head + n) x.held))) ≡ frame k body z → Found kind k x z body
      by_length true allowed h f = absurd cc
      by_length false allowed h f = body_found body n each (record { told = tells allowed; allowed = allowed; within = ltb-false (length x.held) (x.head + n) h }) f

      by_limit : (b : Bool) → nat_lt x.limit n ≡ b → (if b then refused kind x else whole_or_part n) ≡ frame k body z → Found kind k x z body
      by_limit true h f = absurd cc
      by_limit false h f = by_length (nat_lt (length x.held) (x.head + n)) (ltb-false x.limit n h) refl f

  frame_found : (body : List ℕ) → IsHead x.head → x.limit < limit_of (width_of x.head) → IsBytes x.held → first_frame kind x ≡ frame k body z → Found kind k x z body
  unfolding first_frame
  frame_found body h fits each e = by_head (nat_lt (length x.held) x.head) refl e
    where
      by_head : (b : Bool) → nat_lt (length x.held) x.head ≡ b → (if b then partial kind x else framed kind x (from_be_bytes (width_of x.head) (take x.head x.held))) ≡ frame k body z → Found kind k x z body
      by_head true g f = absurd cc
      by_head false g f =
          let n : ℕ = from_be_bytes (width_of x.head) (take x.head x.held) in
          framed_found body n each (λ allowed. tells_length x.head x.held n h each (ltb-false (length x.held) x.head g) (omega (arith, allowed, fits)) refl) f

  -- of a peer, or of a client
  pub found : (body : List ℕ) → (kind ≡ Unknown → ⊥) → formed kind x [] → IsBytes x.held → first_frame kind x ≡ frame k body z → Found kind k x z body
  found body known form each e = by_kind kind refl form
    where
      by_kind : (y : Kind) → kind ≡ y → formed y x [] → Found kind k x z body
      by_kind Unknown is f = absurd (known is)
      by_kind (Peer q n) is f = frame_found body (inr f.head_is) (rw (f.head_is, f.limit_is) (omega arith)) each e
      by_kind Client is f = frame_found body (inl f.head_is) (rw (f.head_is, f.limit_is) (omega arith)) each e

  -- ---- a part of one

  framed_waits : (n : ℕ) → framed kind x n ≡ partial k z → Waits kind k x z
  framed_waits n e = by_limit (nat_lt x.limit n) e
    where
      by_length : (b : Bool) → (if b then partial kind x else frame kind (take n (drop x.head x.held)) (left x (drop (x.head + n) x.held))) ≡ partial k z → Waits kind k x z
      by_length true f = record { same = cc; stream = cc }
      by_length false f = absurd cc

      by_limit : (b : Bool) → (if b then refused kind x else whole_or_part n) ≡ partial k z → Waits kind k x z
      by_limit true f = absurd cc
      by_limit false f = by_length (nat_lt (length x.held) (x.head + n)) f

  -- or a head that tells too long a body
  framed_stops : (n : ℕ) → framed kind x n ≡ refused k z → Waits kind k x z
  framed_stops n e = by_limit (nat_lt x.limit n) e
    where
      by_length : (b : Bool) → (if b then partial kind x else frame kind (take n (drop x.head x.held)) (left x (drop (x.head + n) x.held))) ≡ refused k z → Waits kind k x z
      by_length true f = absurd cc
      by_length false f = absurd cc

      by_limit : (b : Bool) → (if b then refused kind x else whole_or_part n) ≡ refused k z → Waits kind k x z
      by_limit true f = record { same = cc; stream = cc }
      by_limit false f = by_length (nat_lt (length x.held) (x.head + n)) f

  pub stops : first_frame kind x ≡ refused k z → Waits kind k x z
  unfolding first_frame
  stops e = by_head (nat_lt (length x.held) x.head) e
    where
      by_head : (b : Bool) → (if b then partial kind x else framed kind x (from_be_bytes (width_of x.head) (take x.head x.held))) ≡ refused k z → Waits kind k x z
      by_head true f = absurd cc
      by_head false f = framed_stops (from_be_bytes (width_of x.head) (take x.head x.held)) f

  pub waits : first_frame kind x ≡ partial k z → Waits kind k x z
  unfolding first_frame
  waits e = by_head (nat_lt (length x.held) x.head) e
    where
      by_head : (b : Bool) → (if b then partial kind x else framed kind x (from_be_bytes (width_of x.head) (take x.head x.held))) ≡ partial k z → Waits kind k x z
      by_head true f = record { same = cc; stream = cc }
      by_head false f = framed_waits (from_be_bytes (width_of x.head) (take x.head x.held)) f

-- it is a frame of that kind
pub is_frame : (kind k : Kind) (x z : Stream) (body : List ℕ) → (kind ≡ Unknown → ⊥) → formed kind x [] → Found kind k x z body → IsFrame kind (frame_of x.head body) body
is_frame Unknown k x z body known f h = absurd (known refl)
is_frame (Peer q n) k x z body known f h = (ap (λ m. frame_of m body) f.head_is, subst (λ m. IsBody m peer_limit body) f.head_is (subst (λ m. IsBody x.head m body) f.limit_is h.begins.allowed))
is_frame Client k x z body known f h = (ap (λ m. frame_of m body) f.head_is, subst (λ m. IsBody m client_limit body) f.head_is (subst (λ m. IsBody x.head m body) f.limit_is h.begins.allowed))

-- what is left has the same form
pub form_left : (kind : Kind) (x z : Stream) (ws : List Input) → formed kind x ws → z ≡ left x z.held → formed kind z ws
form_left Unknown x z ws f e = tt
form_left (Peer q n) x z ws f e = record { head_is = ap (λ (y : Stream). y.head) e ∙ f.head_is; limit_is = ap (λ (y : Stream). y.limit) e ∙ f.limit_is }
form_left Client x z ws f e = record { head_is = ap (λ (y : Stream). y.head) e ∙ f.head_is; limit_is = ap (λ (y : Stream). y.limit) e ∙ f.limit_is }

-- ---- the first bytes

pub greeting_client : (held : List ℕ) → greeting held ≡ greets.Client → held ≡ client_byte ∷ drop 1 held
unfolding greeting
greeting_client [] e = absurd cc
greeting_client (b ∷ bytes) e = by_client (b == client_byte) refl e
  where
    no_client : (p s : Bool) → (if p then (if s then greets.Silent else greets.Peer (from_be_bytes w32 (take 4 bytes))) else greets.Strange) ≡ greets.Client → ⊥
    no_client true true f = cc
    no_client true false f = cc
    no_client false s f = cc

    by_client : (k : Bool) → (b == client_byte) ≡ k → (if k then greets.Client else (if b == peer_byte then (if nat_lt (length bytes) 4 then greets.Silent else greets.Peer (from_be_bytes w32 (take 4 bytes))) else greets.Strange)) ≡ greets.Client
        → b ∷ bytes ≡ client_byte ∷ bytes
    by_client true h f = ap (λ n. n ∷ bytes) (eqb-true b client_byte h)
    by_client false h f = absurd (no_client (b == peer_byte) (nat_lt (length bytes) 4) f)

-- a peer's hello, told back
hello_back : (q b : ℕ) (bytes : List ℕ) → IsBytes bytes → b ≡ peer_byte → 4 ≤ length bytes → q ≡ from_be_bytes w32 (take 4 bytes) → b ∷ bytes ≡ hello q ++ drop hello_len (b ∷ bytes)
unfolding hello encoded
hello_back q b bytes each is le e =
    let number : encoded w32 q ≡ take 4 bytes = ap (encoded w32) e ∙ wide32.back (take 4 bytes) (length-take-le 4 bytes le) (IsBytes-take 4 bytes each) in
    ap (λ n. n ∷ bytes) is ∙ ap (λ l. peer_byte ∷ l) (sym (take-append-drop 4 bytes)) ∙ ap (λ l. peer_byte ∷ (l ++ drop 4 bytes)) (sym number)

pub greeting_peer : (q : ℕ) (held : List ℕ) → IsBytes held → greeting held ≡ greets.Peer q → held ≡ hello q ++ drop hello_len held
unfolding greeting
greeting_peer q [] each e = absurd cc
greeting_peer q (b ∷ bytes) each e = by_client (b == client_byte) e
  where
    by_length : (s : Bool) → nat_lt (length bytes) 4 ≡ s → b ≡ peer_byte → (if s then greets.Silent else greets.Peer (from_be_bytes w32 (take 4 bytes))) ≡ greets.Peer q → b ∷ bytes ≡ hello q ++ drop hello_len (b ∷ bytes)
    by_length true h is f = absurd cc
    by_length false h is f = hello_back q b bytes (IsBytes-drop 1 (b ∷ bytes) each) is (ltb-false (length bytes) 4 h) cc

    by_peer : (p : Bool) → (b == peer_byte) ≡ p → (if p then (if nat_lt (length bytes) 4 then greets.Silent else greets.Peer (from_be_bytes w32 (take 4 bytes))) else greets.Strange) ≡ greets.Peer q → b ∷ bytes ≡ hello q ++ drop hello_len (b ∷ bytes)
    by_peer true h f = by_length (nat_lt (length bytes) 4) refl (eqb-true b peer_byte h) f
    by_peer false h f = absurd cc

    by_client : (k : Bool) → (if k then greets.Client else (if b == peer_byte then (if nat_lt (length bytes) 4 then greets.Silent else greets.Peer (from_be_bytes w32 (take 4 bytes))) else greets.Strange)) ≡ greets.Peer q → b ∷ bytes ≡ hello q ++ drop hello_len (b ∷ bytes)
    by_client true f = absurd cc
    by_client false f = by_peer (b == peer_byte) refl f
