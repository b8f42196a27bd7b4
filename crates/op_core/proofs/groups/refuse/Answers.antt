use Rattle.std.proofs.Common.{◌≡◌, ◌+◌, ◌-◌, ◌++◌, ◌∷◌, [], ℕ, List, take, vec_len, ap, ◌∙◌, append_assoc, arith}
use Rattle.std.proofs.Math.ListN.{replicate}
use Rattle.std.proofs.lemmas.List.{replicate_more}
use Rattle.op_core.specs.Groups.{Told, failed_with}
use Rattle.op_core.proofs.groups.refuse.Goals as goal

pub results-preserved : goal.results-preserved
results-preserved c =
    let r : Told = failed_with c.args.count in
    let kept : List Told = take c.args.from c.args.results.now.items in
    let inv = c.results.invariant in
    let n : ℕ = vec_len c.results.results - c.args.from in
    let next : n + 1 ≡ vec_len c.push_reserved.new.self - c.args.from = omega (arith, c.push_reserved.ensures.len, inv.some) in
    record {
      items = c.push_reserved.ensures.items ∙ ap (λ (rs : List Told). rs ++ r ∷ []) inv.items ∙ append_assoc kept (replicate n r) (r ∷ []) ∙ ap (λ (rs : List Told). kept ++ rs) (replicate_more n r)
          ∙ ap (λ (k : ℕ). kept ++ replicate k r) next;
      few = omega (arith, c.push_reserved.ensures.len, c.results-test.true);
      some = omega (arith, c.push_reserved.ensures.len, inv.some);
      len = inv.len;
      room = c.push_reserved.ensures.capacity ∙ inv.room;
    }
