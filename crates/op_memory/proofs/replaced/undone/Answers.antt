use Rattle.std.proofs.Common.{◌≡◌, ℕ, ◌+◌, ◌-◌, take, sym, ◌∙◌, ap, arith}
use Rattle.op_memory.specs.Undoing.{undone}
use Rattle.op_memory.proofs.Undoing.{undone_more}
use Rattle.op_memory.proofs.replaced.undone.Goals as goal

pub calls-preserved : goal.calls-preserved
calls-preserved c =
    let all = c.args.replaced.now in
    let n : ℕ = c.calls.count - 1 in
    let more : n + 1 ≡ c.calls.count = omega (arith, c.calls-test.true) in
    record {
      within = omega (arith, c.calls.invariant.within);
      left =
          ap (undone (take n all)) c.in_ok-undo.ensures
          ∙ sym (undone_more all n c.index-replaced-count.result c.calls.bytes.items (omega (arith, more, c.calls.invariant.within)) c.index-replaced-count.is)
          ∙ ap (λ (k : ℕ). undone (take k all) c.calls.bytes.items) more
          ∙ c.calls.invariant.left;
    }
