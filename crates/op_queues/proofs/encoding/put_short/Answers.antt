use Rattle.std.proofs.Common.{rules, ◌≡◌, ◌++◌, List, ℕ, length, refl, ◌∙◌, ap, inl, arith, take, drop, ◌+◌}
use Rattle.std.specs.Int.{w32}
use Rattle.op_fields.specs.Form.{encoded}
use Rattle.op_fields.proofs.Formats.{wide32}
use Rattle.op_frame.specs.Framing.{frame_of}
use Rattle.op_command.specs.Replies.{reply_form}
use Rattle.op_serving.specs.Wire.{client_frame}
use Rattle.op_queues.proofs.Framings.{out_len, laid_frame}
use Rattle.op_queues.proofs.encoding.put_short.Goals as goal

pub overflow_sub-len-2 : goal.overflow_sub-len-2
overflow_sub-len-2 c =
    let old : List ℕ = c.args.out.now.items in
    let body : List ℕ = reply_form.text c.args.reply.now in
    let out : List ℕ = c.put_reply.new.out.items in
    let is : out ≡ (old ++ encoded w32 0) ++ body = c.in_ok-put_reply.ensures.ok ∙ ap (λ l. l ++ body) c.in_ok-put_u32.ensures.ok in
    let start : c.len-start.result ≡ length old = search rules in
    let len : c.len.result ≡ length out = search rules in
    omega (arith, start, len, out_len 4 (inl refl) old (encoded w32 0) body out is (wide32.len 0))

pub lay_short-requires : goal.lay_short-requires
lay_short-requires c =
    let old : List ℕ = c.args.out.now.items in
    let body : List ℕ = reply_form.text c.args.reply.now in
    let out : List ℕ = c.put_reply.new.out.items in
    let is : out ≡ (old ++ encoded w32 0) ++ body = c.in_ok-put_reply.ensures.ok ∙ ap (λ l. l ++ body) c.in_ok-put_u32.ensures.ok in
    let start : c.len-start.result ≡ length old = search rules in
    let len : c.len.result ≡ length out = search rules in
    omega (arith, start, len, ap length c.as_mut_slice.ensures.value, c.in-Ok.ensures.1, out_len 4 (inl refl) old (encoded w32 0) body out is (wide32.len 0))

pub returns-clause-ok : goal.returns-clause-ok
unfolding client_frame
returns-clause-ok c =
    let old : List ℕ = c.args.out.now.items in
    let body : List ℕ = reply_form.text c.args.reply.now in
    let out : List ℕ = c.put_reply.new.out.items in
    let is : out ≡ (old ++ encoded w32 0) ++ body = c.in_ok-put_reply.ensures.ok ∙ ap (λ l. l ++ body) c.in_ok-put_u32.ensures.ok in
    let len : c.put_reply.new.out.len ≡ length out = search rules in
    let start : c.len-start.result ≡ length old = search rules in
    let laid : c.lay_short.new.bytes ≡ take (length old) out ++ frame_of 4 (drop (length old + 4) out) =
    c.lay_short.ensures ∙ ap (λ l. take c.len-start.result l ++ frame_of 4 (drop (c.len-start.result + 4) l)) c.as_mut_slice.ensures.value
    ∙ ap (λ n. take n out ++ frame_of 4 (drop (n + 4) out)) start in
    laid_frame 4 (inl refl) old (encoded w32 0) body out is (wide32.len 0) c.lay_short.new.bytes
    (drop (length c.lay_short.new.bytes) out) c.put_reply.new.out.len len laid
