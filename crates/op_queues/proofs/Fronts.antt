-- What a head and what is behind it come to: a frame, a part of one, or one that is too long.
use Rattle.std.proofs.Common.{◌≡◌, ℕ, ◌+◌, ◌<◌, ◌≤◌, List, [], ◌++◌, length, take, drop, false, nat_lt, if◌then◌else◌, refl, sym, ap, ◌∙◌, arith, inl, inr, length-append}
use Rattle.std.proofs.lemmas.Bool.{cases_Bool, le-ltb, lt-ltb, ltb-false}
use Rattle.std.proofs.lemmas.List.{append-nil, take_at, drop_at, drop-drop, length-drop, take-append-le}
use Rattle.std.specs.Int.{from_be_bytes}
use Rattle.op_frame.specs.Framing.{Stream, IsHead, width_of, frame_of, Tells, IsPartial, TellsTooLong, BeginsWith, left}
use Rattle.op_frame.proofs.Heads.{wide_head}
use Rattle.op_frame.proofs.Wholes.{frame_tells, frame_after}
use Rattle.op_serving.specs.declared.kind.Kind.{Kind}
use Rattle.op_serving.specs.Reading.{partial, refused, frame, framed, first_frame}

-- the number that a head tells
told_number : (head : ℕ) (bytes : List ℕ) (n : ℕ) → IsHead head → Tells head bytes n → from_be_bytes (width_of head) (take head bytes) ≡ n
told_number head bytes n h t = let w = wide_head head h in ap (from_be_bytes (width_of head)) t.told ∙ w.0.again n t.fits

has_head : (kind : Kind) (x : Stream) (n : ℕ) → IsHead x.head → Tells x.head x.held n → first_frame kind x ≡ framed kind x n
unfolding first_frame
has_head kind x n h t =
    let there : nat_lt (length x.held) x.head ≡ false = le-ltb (length x.held) x.head t.within in
    ap (λ b. if b then partial kind x else framed kind x (from_be_bytes (width_of x.head) (take x.head x.held))) there
    ∙ ap (framed kind x) (told_number x.head x.held n h t)

pub too_long_is : (kind : Kind) (x : Stream) (n : ℕ) → IsHead x.head → TellsTooLong x n → first_frame kind x ≡ refused kind x
too_long_is kind x n h t = has_head kind x n h t.told ∙ rw (lt-ltb x.limit n t.above) refl

pub frame_is : (kind : Kind) (x : Stream) (body rest : List ℕ) → IsHead x.head → BeginsWith x body rest → first_frame kind x ≡ frame kind body (left x rest)
frame_is kind x body rest h b =
    let n : ℕ = length body in
    let t : Tells x.head x.held n = frame_tells x.head x.held body rest x.limit h b.allowed b.split in
    let after : drop x.head x.held ≡ body ++ rest = frame_after x.head x.held body rest h b.split in
    let enough : length x.held ≡ x.head + n + length rest = omega (arith, ap length after, length-append body rest, length-drop x.head x.held, t.within) in
    let short : nat_lt x.limit n ≡ false = le-ltb x.limit n b.allowed.within in
    let whole : nat_lt (length x.held) (x.head + n) ≡ false = le-ltb (length x.held) (x.head + n) (omega (arith, enough)) in
    let is_body : take n (drop x.head x.held) ≡ body = ap (take n) after ∙ take_at body rest n refl in
    let is_rest : drop (x.head + n) x.held ≡ rest = sym (drop-drop n x.head x.held) ∙ ap (drop n) after ∙ drop_at body rest n refl in
    has_head kind x n h t
    ∙ rw (short, whole) (ap (λ y. frame kind y (left x (drop (x.head + n) x.held))) is_body ∙ ap (λ y. frame kind body (left x y)) is_rest)

pub partial_is : (kind : Kind) (x : Stream) → IsHead x.head → IsPartial x → first_frame kind x ≡ partial kind x
unfolding first_frame
partial_is kind x h (inl short) =
    ap (λ b. if b then partial kind x else framed kind x (from_be_bytes (width_of x.head) (take x.head x.held))) (lt-ltb (length x.held) x.head short)
partial_is kind x h (inr (body, missing, allowed, some, e)) = elim (cases_Bool (nat_lt (length x.held) x.head)) [
  | inl g ↦ ap (λ b. if b then partial kind x else framed kind x (from_be_bytes (width_of x.head) (take x.head x.held))) g
  | inr g ↦ (
      let n : ℕ = length body in
      let le : x.head ≤ length x.held = ltb-false (length x.held) x.head g in
      let more : List ℕ = x.held ++ missing in
      let whole : more ≡ frame_of x.head body ++ [] = e ∙ sym (append-nil (frame_of x.head body)) in
      let t : Tells x.head more n = frame_tells x.head more body [] x.limit h allowed whole in
      let here : Tells x.head x.held n = record { within = le; fits = t.fits; told = sym (take-append-le x.head x.held missing le) ∙ t.told } in
      let after : drop x.head more ≡ body ++ [] = frame_after x.head more body [] h whole in
      let less : length x.held < x.head + n =
      omega (arith, ap length after, length-append body [], length-drop x.head more, length-append x.held missing, some, t.within) in
      let short : nat_lt x.limit n ≡ false = le-ltb x.limit n allowed.within in
      has_head kind x n h here ∙ rw (short, lt-ltb (length x.held) (x.head + n) less) refl)
]

-- a frame is no longer than what is held
pub frame_fits : (x : Stream) (body rest : List ℕ) → IsHead x.head → BeginsWith x body rest → x.head + length body ≤ length x.held
frame_fits x body rest h b =
    let t : Tells x.head x.held (length body) = frame_tells x.head x.held body rest x.limit h b.allowed b.split in
    let after : drop x.head x.held ≡ body ++ rest = frame_after x.head x.held body rest h b.split in
    omega (arith, ap length after, length-append body rest, length-drop x.head x.held, t.within)

-- a head has a byte
pub some_head : (head : ℕ) → IsHead head → 1 ≤ head
some_head head (inl e) = omega arith
some_head head (inr e) = omega arith
