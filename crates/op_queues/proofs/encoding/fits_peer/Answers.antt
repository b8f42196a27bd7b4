use Rattle.std.proofs.Common.{rules, ◌≡◌, List, ℕ, ◌++◌, length, ◌∙◌, ap, sym}
use Rattle.std.specs.Prelude.{nat_le}
use Rattle.op_types.specs.Limits.{most_peer_body}
use Rattle.op_msg.specs.Forms.{addressed}
use Rattle.op_serving.proofs.Fits.{counted_fits}
use Rattle.op_queues.proofs.encoding.fits_peer.Goals as goal

pub returns : goal.returns
returns c =
    let body : List ℕ = addressed.text (c.args.from, c.args.to, c.args.m.now) in
    let is : c.put.new.out.items ≡ body = c.in_ok-put.ensures.ok ∙ ap (λ l. l ++ body) c.new-body.ensures.items in
    let len : c.len.result ≡ length c.put.new.out.items = search rules in
    ap (λ n. nat_le n most_peer_body) (len ∙ ap length is) ∙ sym (counted_fits c.args.from c.args.to c.args.m.now c.read_counts.ensures)
