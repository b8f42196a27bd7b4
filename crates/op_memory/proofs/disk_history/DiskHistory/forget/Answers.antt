use Rattle.std.proofs.Common.{◌≡◌, List, take, ap, ◌∙◌}
use Rattle.op_memory.specs.declared.replaced.Replaced.{Replaced}
use Rattle.op_memory.specs.Histories.{start_of}
use Rattle.op_memory.specs.Images.{state_of, fresh}
use Rattle.op_memory.specs.Undoing.{undone}
use Rattle.op_memory.proofs.Pending.{state_of-split, state_of-first, tied_split}
use Rattle.op_memory.proofs.Undoing.{undoes_from}
use Rattle.op_memory.proofs.disk_history.DiskHistory.forget.Goals as goal

pub returns-clause-state : goal.returns-clause-state
returns-clause-state c =
    let h = c.args.self in
    let k = c.last_sync-done.result in
    let left = c.remove_front-2.new.items.items in
    let base : undone left h.bytes.items ≡ (state_of (fresh (start_of h)) (take k h.calls.items)).content =
    ap (λ (l : List Replaced). undone l h.bytes.items) c.remove_front-2.ensures ∙ h.undoes.gives k in
    state_of-split (start_of h) h.calls.items c.deref.result.now k (undone left h.bytes.items) c.deref.ensures.value c.last_sync-done.ensures.synced base
    c.remove_front.new.items.items c.remove_front.ensures

pub invariant_of-result : goal.invariant_of-result
invariant_of-result c =
    let h = c.args.self in
    let k = c.last_sync-done.result in
    let rest = c.remove_front.new.items.items in
    let left = c.remove_front-2.new.items.items in
    let base : undone left h.bytes.items ≡ (state_of (fresh (start_of h)) (take k h.calls.items)).content =
    ap (λ (l : List Replaced). undone l h.bytes.items) c.remove_front-2.ensures ∙ h.undoes.gives k in
    record {
      undoes = undoes_from h.calls.items rest h.replaced.items left h.bytes.items k h.undoes c.remove_front.ensures c.remove_front-2.ensures
          (λ n. state_of-first (start_of h) h.calls.items c.deref.result.now k (undone left h.bytes.items) c.deref.ensures.value c.last_sync-done.ensures.synced base rest n c.remove_front.ensures);
      tied =
          tied_split (start_of h) h.calls.items c.deref.result.now k (undone left h.bytes.items) c.deref.ensures.value c.last_sync-done.ensures.synced base
          rest h.bytes.items c.remove_front.ensures h.tied;
    }
