use Rattle.std.proofs.Common.{rules, ◌≡◌, ◌++◌, List, ℕ, length, refl, ◌∙◌, ap, inr, arith, take, drop, ◌+◌}
use Rattle.std.specs.Int.{w64}
use Rattle.op_fields.specs.Form.{encoded}
use Rattle.op_fields.proofs.Formats.{wide64}
use Rattle.op_frame.specs.Framing.{frame_of}
use Rattle.op_msg.specs.Forms.{addressed}
use Rattle.op_serving.specs.Wire.{peer_frame}
use Rattle.op_queues.proofs.Framings.{out_len, laid_frame}
use Rattle.op_queues.proofs.encoding.put_message.Goals as goal

pub lay_long-requires : goal.lay_long-requires
lay_long-requires c =
    let old : List ℕ = c.args.out.now.items in
    let body : List ℕ = addressed.text (c.args.from, c.args.to, c.args.m.now) in
    let is : c.put.new.out.items ≡ (old ++ encoded w64 0) ++ body = c.in-Ok.ensures.ok ∙ ap (λ l. l ++ body) c.in_ok-put_u64.ensures.ok in
    let start : c.len-start.result ≡ length old = search rules in
    omega (arith, start, ap length c.as_mut_slice.ensures.value, out_len 8 (inr refl) old (encoded w64 0) body c.put.new.out.items is (wide64.len 0))

pub returns-clause-ok : goal.returns-clause-ok
unfolding peer_frame
returns-clause-ok c =
    let old : List ℕ = c.args.out.now.items in
    let body : List ℕ = addressed.text (c.args.from, c.args.to, c.args.m.now) in
    let out : List ℕ = c.put.new.out.items in
    let is : out ≡ (old ++ encoded w64 0) ++ body = c.in-Ok.ensures.ok ∙ ap (λ l. l ++ body) c.in_ok-put_u64.ensures.ok in
    let len : c.put.new.out.len ≡ length out = search rules in
    let start : c.len-start.result ≡ length old = search rules in
    let laid : c.lay_long.new.bytes ≡ take (length old) out ++ frame_of 8 (drop (length old + 8) out) =
    c.lay_long.ensures ∙ ap (λ l. take c.len-start.result l ++ frame_of 8 (drop (c.len-start.result + 8) l)) c.as_mut_slice.ensures.value
    ∙ ap (λ n. take n out ++ frame_of 8 (drop (n + 8) out)) start in
    laid_frame 8 (inr refl) old (encoded w64 0) body out is (wide64.len 0) c.lay_long.new.bytes
    (drop (length c.lay_long.new.bytes) out) c.put.new.out.len len laid
