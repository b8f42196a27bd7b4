use Rattle.std.proofs.Common.{◌≡◌, ℕ, Vec, Global, take}
use Rattle.std.proofs.lemmas.Result.{IfOk-weaker}
use Rattle.op_memory.specs.Histories.{start_of, history_state}
use Rattle.op_memory.specs.Images.{state_of, fresh, LeftNow}
use Rattle.op_memory.proofs.Pending.{base_split}
use Rattle.op_memory.proofs.Left.{base_left}
use Rattle.op_memory.proofs.disk_history.DiskHistory.synced.Goals as goal

pub returns-clause-base : goal.returns-clause-base
returns-clause-base c =
    let h = c.args.self.now in
    let k = c.last_sync.result in
    IfOk-weaker c.content_at.result (λ (x : Vec ℕ Global). x.items ≡ (state_of (fresh (start_of h)) (take k h.calls.items)).content)
    (λ (x : Vec ℕ Global). x.items ≡ (history_state h).pending.base)
    (λ x to. base_split (start_of h) h.calls.items c.deref.result.now k x.items c.deref.ensures.value c.last_sync.ensures.synced to c.last_sync.ensures.pending)
    c.content_at.ensures

pub returns-clause-left : goal.returns-clause-left
returns-clause-left c =
    let h = c.args.self.now in
    IfOk-weaker c.content_at.result (λ (x : Vec ℕ Global). x.items ≡ (history_state h).pending.base)
    (λ (x : Vec ℕ Global). LeftNow (start_of h) h.calls.items x.items)
    (λ x is. base_left (start_of h) h.calls.items x.items is)
    (returns-clause-base c)
