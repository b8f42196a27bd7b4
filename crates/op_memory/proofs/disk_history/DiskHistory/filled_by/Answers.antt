use Rattle.std.proofs.Common.{◌≡◌, ℕ, Vec, Global, List, take, length, ◌∙◌, ap, sym, subst, refl}
use Rattle.std.specs.Prelude.{IfOk}
use Rattle.std.proofs.lemmas.List.{take-take}
use Rattle.op_memory.specs.declared.call.Call.{Call}
use Rattle.op_memory.specs.Histories.{start_of}
use Rattle.op_memory.specs.Images.{State, state_of, fresh, IsFilled}
use Rattle.op_memory.proofs.Pending.{state_of-split}
use Rattle.op_memory.proofs.disk_history.DiskHistory.filled_by.Goals as goal

pub returns : goal.returns
returns c =
    let h = c.args.self.now in
    let calls = c.args.calls.now in
    let k = c.last_sync-synced.result in
    let there : take k h.calls.items ≡ take k calls = sym (ap (take k) c.requires ∙ take-take k (length calls) h.calls.items c.last_sync-synced.ensures.within) in
    let same : state_of (fresh c.in_ok-content_at.field-0.items) c.split_at.result.1.now ≡ state_of (fresh (start_of h)) calls =
    state_of-split (start_of h) calls calls k c.in_ok-content_at.field-0.items refl c.last_sync-synced.ensures.synced
    (c.in_ok-content_at.ensures ∙ ap (λ (l : List Call). (state_of (fresh (start_of h)) l).content) there) c.split_at.result.1.now c.split_at.ensures.back in
    subst (λ (s : State). IfOk c.fill_all.result (λ (x : Vec ℕ Global). IsFilled s.pending c.args.byte x.items)) same c.fill_all.ensures
