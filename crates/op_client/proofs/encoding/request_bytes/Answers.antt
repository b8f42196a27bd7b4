use Rattle.std.proofs.Common.{rules, refl, ◌≡◌, ◌++◌, ℕ, List, [], ◌∷◌, length}
use Rattle.std.specs.Int.{w32}
use Rattle.op_types.specs.declared.events.Request.{Request}
use Rattle.op_fields.specs.Form.{encoded}
use Rattle.op_command.specs.Requests.{request_form}
use Rattle.op_client.specs.Rules.{client_byte, request_bytes}
use Rattle.op_client.proofs.encoding.request_bytes.Goals as goal

-- the first byte, the head, and the body
put_together : (r : Request) (first head all body : List ℕ) (len : ℕ) → body ≡ request_form.text r → len ≡ length body
    → first ≡ client_byte ∷ [] → head ≡ first ++ encoded w32 len → all ≡ head ++ body → all ≡ request_bytes r
unfolding request_bytes
put_together r first head all body len b l f h a = rw (a, h, f, l, b) refl

pub returns : goal.returns
returns c =
    put_together c.args.request.now c.in_ok-out.out.items c.put_u32.new.out.items c.extend_from_slice.new.self.items c.put_request.new.out.items c.in-Ok.len
    (search rules) (search rules) (search rules) (search rules) (search rules)
