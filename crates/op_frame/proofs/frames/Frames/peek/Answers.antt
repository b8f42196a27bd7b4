use Rattle.std.proofs.Common.{◌≡◌, ap, sym, ◌∙◌, ◌+◌, ◌-◌, List, ℕ, drop, take, length, arith}
use Rattle.std.proofs.lemmas.List.{length-take-le, length-drop}
use Rattle.op_frame.specs.Framing.{Stream}
use Rattle.op_frame.proofs.Wholes.{frame_given}
use Rattle.op_frame.proofs.frames.Frames.peek.Goals as goal

pub returns-clause-body : goal.returns-clause-body
returns-clause-body c =
    let s : Stream = c.args.self.now in
    let head : ℕ = c.self.inside.head in
    let len : ℕ = c.in_ok-len.len in
    let w = c.in_ok-len.ensures.whole in
    let is_head : head ≡ s.head = ap (λ (x : Stream). x.head) c.self.view_is in
    let body : List ℕ = take (head + len - head) (drop head c.held.result.now) in
    let is_body : body ≡ take (head + len - head) (drop head s.held) = ap (λ (t : List ℕ). take (head + len - head) (drop head t)) c.held.ensures in
    let count : head + len - head ≡ len = omega arith in
    let size : length body ≡ len = ap length (is_body ∙ ap (λ n. take n (drop head s.held)) count ∙ ap (λ n. take len (drop n s.held)) is_head) ∙ length-take-le len (drop s.head s.held) (omega (arith, length-drop s.head s.held, w.within)) in
    let rest : drop (s.head + length body) s.held ≡ drop (head + len) s.held = ap (λ n. drop (s.head + n) s.held) size ∙ ap (λ n. drop (n + len) s.held) (sym is_head) in
    frame_given s head len body (drop (s.head + length body) s.held) w is_head is_body rest
