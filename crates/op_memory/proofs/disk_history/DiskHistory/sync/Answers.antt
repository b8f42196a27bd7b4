use Rattle.std.proofs.Common.{◌≡◌, List, [], ◌∷◌, ◌++◌, ◌∙◌, ap, subst, refl, ℕ}
use Rattle.op_memory.specs.declared.call.Call.{Call}
use Rattle.op_memory.specs.declared.call.Call.TheVariants.{Sync}
use Rattle.op_memory.specs.declared.replaced.Replaced.{Replaced}
use Rattle.op_memory.specs.Undoing.{before}
use Rattle.op_memory.proofs.Undoing.{undoes_push, tied_after, state_after, synced_after, goes_on_after}
use Rattle.op_memory.proofs.disk_history.DiskHistory.sync.Goals as goal

pub invariant_of-self-2 : goal.invariant_of-self-2
invariant_of-self-2 c =
    let k = c.args.self.now in
    let r = c.nothing.result in
    let calls = c.push_reserved.new.self.items in
    let all = c.push_reserved-2.new.self.items in
    let bytes = k.bytes.items in
    let more : calls ≡ k.calls.items ++ Sync ∷ [] = c.push_reserved.ensures.items ∙ ap (λ (l : List Call). l ++ Sync ∷ []) c.reserve.ensures.items in
    let most : all ≡ k.replaced.items ++ r ∷ [] = c.push_reserved-2.ensures.items ∙ ap (λ (l : List Replaced). l ++ r ∷ []) c.reserve-2.ensures.items in
    let back : before r bytes ≡ bytes = subst (λ (b : List ℕ). before r b ≡ b) c.deref.ensures.value c.nothing.ensures in
    let tied = tied_after k.calls.items calls Sync more k.replaced.items all r most bytes bytes back k.tied _ refl in
    record { undoes = undoes_push k.calls.items calls Sync more k.replaced.items all r most bytes bytes back k.undoes tied; tied = tied }

pub returns-clause-added : goal.returns-clause-added
returns-clause-added c =
    let k = c.args.self.now in
    let r = c.nothing.result in
    let calls = c.push_reserved.new.self.items in
    let all = c.push_reserved-2.new.self.items in
    let bytes = k.bytes.items in
    let more : calls ≡ k.calls.items ++ Sync ∷ [] = c.push_reserved.ensures.items ∙ ap (λ (l : List Call). l ++ Sync ∷ []) c.reserve.ensures.items in
    let most : all ≡ k.replaced.items ++ r ∷ [] = c.push_reserved-2.ensures.items ∙ ap (λ (l : List Replaced). l ++ r ∷ []) c.reserve-2.ensures.items in
    let back : before r bytes ≡ bytes = subst (λ (b : List ℕ). before r b ≡ b) c.deref.ensures.value c.nothing.ensures in
    record {
      state = state_after k.calls.items calls Sync more k.replaced.items all r most bytes bytes back k.tied _ refl;
      bytes = refl;
      synced = synced_after k.calls.items calls Sync more k.replaced.items all r most bytes bytes back k.tied _ refl;
    }

pub returns-clause-goes_on : goal.returns-clause-goes_on
returns-clause-goes_on c =
    let k = c.args.self.now in
    let r = c.nothing.result in
    let calls = c.push_reserved.new.self.items in
    let all = c.push_reserved-2.new.self.items in
    let bytes = k.bytes.items in
    let more : calls ≡ k.calls.items ++ Sync ∷ [] = c.push_reserved.ensures.items ∙ ap (λ (l : List Call). l ++ Sync ∷ []) c.reserve.ensures.items in
    let most : all ≡ k.replaced.items ++ r ∷ [] = c.push_reserved-2.ensures.items ∙ ap (λ (l : List Replaced). l ++ r ∷ []) c.reserve-2.ensures.items in
    let back : before r bytes ≡ bytes = subst (λ (b : List ℕ). before r b ≡ b) c.deref.ensures.value c.nothing.ensures in
    goes_on_after k.calls.items calls Sync more k.replaced.items all r most bytes bytes back k.tied _ refl
