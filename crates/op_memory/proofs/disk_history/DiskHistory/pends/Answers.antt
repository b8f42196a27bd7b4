use Rattle.std.proofs.Common.{◌≡◌, drop, ◌∙◌, ap, subst}
use Rattle.std.specs.Prelude.{IfOk}
use Rattle.op_memory.specs.Images.{State, state_of, fresh}
use Rattle.op_memory.specs.Histories.{history_state, start_of}
use Rattle.op_memory.specs.Pends.{IsPendsOf}
use Rattle.op_memory.proofs.Pending.{state_of-split}
use Rattle.op_memory.proofs.disk_history.DiskHistory.pends.Goals as goal

pub returns : goal.returns
returns c =
    let h = c.args.self.now in
    let k = c.last_sync-synced.result in
    let same : state_of (fresh c.in_ok-content_at.field-0.items) c.split_at.result.1.now ≡ history_state h =
    state_of-split (start_of h) h.calls.items c.deref.result.now k c.in_ok-content_at.field-0.items c.deref.ensures.value c.last_sync-synced.ensures.synced
    c.in_ok-content_at.ensures c.split_at.result.1.now (c.split_at.ensures.back ∙ ap (drop k) c.as_slice.ensures.value) in
    subst (λ (s : State). IfOk c.gather_all.result (IsPendsOf s.pending)) same c.gather_all.ensures
