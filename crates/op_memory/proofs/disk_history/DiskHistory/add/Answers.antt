use Rattle.std.proofs.Common.{◌≡◌, List, [], ◌∷◌, ◌++◌, ◌∙◌, ap, subst, sym, ℕ}
use Rattle.op_memory.specs.declared.call.Call.{Call}
use Rattle.op_memory.specs.declared.replaced.Replaced.{Replaced}
use Rattle.op_outside.specs.Disks.{GoesOn}
use Rattle.op_memory.specs.Images.{after, edit_of, fresh, known}
use Rattle.op_memory.specs.Histories.{known_of, start_of}
use Rattle.op_memory.specs.Undoing.{before, undone}
use Rattle.op_memory.proofs.Moments.{goes_on_same}
use Rattle.op_memory.proofs.Undoing.{undoes_push, tied_after, state_after, synced_after, goes_on_after}
use Rattle.op_memory.proofs.disk_history.DiskHistory.add.Goals as goal

pub invariant_of-self-2 : goal.invariant_of-self-2
invariant_of-self-2 c =
    let k = c.args.self.now in
    let call = c.args.call in
    let r = c.in_ok-replaced.replaced in
    let calls = c.push_reserved.new.self.items in
    let all = c.push_reserved-2.new.self.items in
    let next = c.run.new.bytes.items in
    let more : calls ≡ k.calls.items ++ call ∷ [] = c.push_reserved.ensures.items ∙ ap (λ (l : List Call). l ++ call ∷ []) c.reserve.ensures.items in
    let most : all ≡ k.replaced.items ++ r ∷ [] = c.push_reserved-2.ensures.items ∙ ap (λ (l : List Replaced). l ++ r ∷ []) c.reserve-2.ensures.items in
    let back : before r next ≡ k.bytes.items =
    ap (before r) c.in_ok-run.ensures.ok ∙ subst (λ (b : List ℕ). before r (after call (fresh b)).content ≡ b) c.deref.ensures.value c.in_ok-replaced.ensures in
    let tied = tied_after k.calls.items calls call more k.replaced.items all r most k.bytes.items next back k.tied c.requires c.in_ok-run.ensures.ok in
    record { undoes = undoes_push k.calls.items calls call more k.replaced.items all r most k.bytes.items next back k.undoes tied; tied = tied }

pub returns-clause-added : goal.returns-clause-added
returns-clause-added c =
    let k = c.args.self.now in
    let call = c.args.call in
    let r = c.in_ok-replaced.replaced in
    let calls = c.push_reserved.new.self.items in
    let all = c.push_reserved-2.new.self.items in
    let next = c.run.new.bytes.items in
    let more : calls ≡ k.calls.items ++ call ∷ [] = c.push_reserved.ensures.items ∙ ap (λ (l : List Call). l ++ call ∷ []) c.reserve.ensures.items in
    let most : all ≡ k.replaced.items ++ r ∷ [] = c.push_reserved-2.ensures.items ∙ ap (λ (l : List Replaced). l ++ r ∷ []) c.reserve-2.ensures.items in
    let back : before r next ≡ k.bytes.items =
    ap (before r) c.in_ok-run.ensures.ok ∙ subst (λ (b : List ℕ). before r (after call (fresh b)).content ≡ b) c.deref.ensures.value c.in_ok-replaced.ensures in
    record {
      state = state_after k.calls.items calls call more k.replaced.items all r most k.bytes.items next back k.tied c.requires c.in_ok-run.ensures.ok;
      bytes = c.in_ok-run.ensures.ok;
      synced = synced_after k.calls.items calls call more k.replaced.items all r most k.bytes.items next back k.tied c.requires c.in_ok-run.ensures.ok;
    }

pub returns-clause-goes_on : goal.returns-clause-goes_on
returns-clause-goes_on c =
    let k = c.args.self.now in
    let call = c.args.call in
    let r = c.in_ok-replaced.replaced in
    let calls = c.push_reserved.new.self.items in
    let all = c.push_reserved-2.new.self.items in
    let next = c.run.new.bytes.items in
    let more : calls ≡ k.calls.items ++ call ∷ [] = c.push_reserved.ensures.items ∙ ap (λ (l : List Call). l ++ call ∷ []) c.reserve.ensures.items in
    let most : all ≡ k.replaced.items ++ r ∷ [] = c.push_reserved-2.ensures.items ∙ ap (λ (l : List Replaced). l ++ r ∷ []) c.reserve-2.ensures.items in
    let back : before r next ≡ k.bytes.items =
    ap (before r) c.in_ok-run.ensures.ok ∙ subst (λ (b : List ℕ). before r (after call (fresh b)).content ≡ b) c.deref.ensures.value c.in_ok-replaced.ensures in
    goes_on_after k.calls.items calls call more k.replaced.items all r most k.bytes.items next back k.tied c.requires c.in_ok-run.ensures.ok

pub returns-in_err-run-clause-goes_on : goal.returns-in_err-run-clause-goes_on
returns-in_err-run-clause-goes_on c f i g j =
    let k = c.args.self.now in
    let edit = edit_of c.args.call in
    let next = c.run.new.bytes.items in
    let all = c.reserve-2.new.self.items in
    subst (λ (l : List Call). GoesOn edit (known_of k f i) (known (undone all next) l next g j)) (sym c.reserve.ensures.items)
    (subst (λ (l : List Replaced). GoesOn edit (known_of k f i) (known (undone l next) k.calls.items next g j)) (sym c.reserve-2.ensures.items)
    (subst (λ (b : List ℕ). GoesOn edit (known_of k f i) (known (undone k.replaced.items b) k.calls.items b g j)) (sym c.in_err-run.ensures.err)
    (goes_on_same edit (start_of k) k.calls.items k.bytes.items k.tied.image f i g j)))
