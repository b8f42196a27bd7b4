use Rattle.std.proofs.Common.{◌≡◌, ◌<◌, ℕ, List, length, get_or, ap, sym, ◌∙◌, arith, rules}
use Rattle.op_executions.specs.Ids.{count_below}
use Rattle.op_executions.proofs.Spares.{at_any, same_there, new_there}
use Rattle.op_executions.proofs.ids.put_id.Goals.{else-place-len-via-then-place-len+else-index-pid, else-place-len-via-else-place-len}
use Rattle.op_executions.proofs.ids.put_id.Goals as goal

pub returns-then-index-pid : goal.returns-then-index-pid
returns-then-index-pid c =
    let ids = c.args.ids.now.items in
    let place = c.count_below-place.result in
    let counted : place ≡ count_below ids c.args.pid = c.count_below-place.ensures.count ∙ ap (λ (ks : List ℕ). count_below ks c.args.pid) c.deref.ensures.value in
    let there : place < length ids = first_of (search rules, omega arith) in
    same_there ids c.args.pid place counted there (at_any ids place 0 c.index.result.now there ∙ sym c.index.ensures ∙ c.if-index-pid.true)

pub returns : goal.returns
returns c =
    let ids = c.args.ids.now.items in
    let place = c.count_below-place.result in
    let counted : place ≡ count_below ids c.args.pid = c.count_below-place.ensures.count ∙ ap (λ (ks : List ℕ). count_below ks c.args.pid) c.deref.ensures.value in
    let new : place < length ids → get_or ids place 0 ≡ c.args.pid → ⊥ =
    elim c.else-place-len.branch [
      | else-place-len-via-then-place-len+else-index-pid w ↦ λ there same. w.if-index-pid.false (w.index.ensures ∙ at_any ids place w.index.result.now 0 there ∙ same)
      | else-place-len-via-else-place-len w ↦ λ there same. absurd (omega (arith, there, w.if-place-len.false, c.len.ensures))
    ] in
    c.in_ok-insert.ensures.items ∙ new_there ids c.args.pid place counted new
