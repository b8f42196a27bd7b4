-- A frame that is written in place: room for the head, the body, and then the length into the room.
use Rattle.std.proofs.Common.{◌≡◌, ◌+◌, ◌++◌, ℕ, List, length, take, drop, ◌-◌, refl, ◌∙◌, ap, arith, append_assoc}
use Rattle.std.proofs.lemmas.List.{take_at, drop_at, drop-drop, length-append}
use Rattle.op_fields.specs.Form.{encoded}
use Rattle.op_frame.specs.Framing.{IsHead, width_of, frame_of}
use Rattle.op_frame.proofs.Heads.{wide_head}

-- how long a frame is
pub frame_len : (head : ℕ) → IsHead head → (body : List ℕ) → length (frame_of head body) ≡ head + length body
frame_len head h body =
    let w = wide_head head h in length-append (encoded (width_of head) (length body)) body ∙ ap (λ n. n + length body) (w.0.len (length body) ∙ w.1)

-- what stands behind the room for a head
pub behind_room : (start head : ℕ) (bytes : List ℕ) → drop (start + head - start) (drop start bytes) ≡ drop (start + head) bytes
behind_room start head bytes = drop-drop (start + head - start) start bytes ∙ ap (λ n. drop n bytes) (omega arith)

module _ (head : ℕ) (is_head : IsHead head) (old room body out : List ℕ) (is : out ≡ (old ++ room) ++ body) (whole : length room ≡ head) where
  pub out_len : length out ≡ length old + head + length body
  out_len = ap length is ∙ length-append (old ++ room) body ∙ ap (λ n. n + length body) (length-append old room ∙ ap (λ n. length old + n) whole)

  pub out_body : drop (length old + head) out ≡ body
  out_body = ap (drop (length old + head)) is ∙ drop_at (old ++ room) body (length old + head) (length-append old room ∙ ap (λ n. length old + n) whole)

  pub out_front : take (length old) out ≡ old
  out_front = ap (take (length old)) (is ∙ append_assoc old room body) ∙ take_at old (room ++ body) (length old) refl

  pub laid_frame : (laid rest : List ℕ) (n : ℕ) → n ≡ length out → laid ≡ take (length old) out ++ frame_of head (drop (length old + head) out)
      → take n (laid ++ rest) ≡ old ++ frame_of head body
  laid_frame laid rest n len e =
      let frame : laid ≡ old ++ frame_of head body =
      e ∙ ap (λ (l : List ℕ). l ++ frame_of head (drop (length old + head) out)) out_front ∙ ap (λ (l : List ℕ). old ++ frame_of head l) out_body in
      let size = ap length frame ∙ length-append old (frame_of head body) in
      let long : length laid ≡ n = omega (arith, len, out_len, size, frame_len head is_head body) in
      take_at laid rest n long ∙ frame
