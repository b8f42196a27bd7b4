-- What a read gives after some calls, and what it would give had the last one taken place.
use Rattle.std.proofs.Common.{◌≡◌, ℕ, List, [], ◌∷◌, ◌++◌, refl, sym, ◌∙◌, ap}
use Rattle.op_memory.specs.declared.call.Call.{Call}
use Rattle.op_memory.specs.declared.call.Call.TheVariants.{Write, StoppedWrite, Cut, StoppedCut, Sync}
use Rattle.op_memory.specs.Images.{State, fresh, after, state_of, completed}
use Rattle.op_memory.proofs.Moments.{state-push}

completed-after : (call : Call) (s : State) → completed call (after call s).content ≡ (after call s).whole
completed-after (Write at v) s = refl
completed-after (StoppedWrite at v) s = refl
completed-after (Cut n) s = refl
completed-after (StoppedCut n) s = refl
completed-after Sync s = refl

pub completed_last : (s : State) (calls prefix : List Call) (call : Call) (bytes : List ℕ) → calls ≡ prefix ++ call ∷ [] → bytes ≡ (state_of s calls).content → completed call bytes ≡ (state_of s calls).whole
completed_last s calls prefix call bytes is same =
    let there : state_of s calls ≡ after call (state_of s prefix) = ap (λ (l : List Call). state_of s l) is ∙ state-push s prefix call in
    ap (completed call) (same ∙ ap (λ (t : State). t.content) there) ∙ completed-after call (state_of s prefix) ∙ ap (λ (t : State). t.whole) (sym there)

pub none_last : (start : List ℕ) (calls : List Call) (bytes : List ℕ) → calls ≡ [] → bytes ≡ (state_of (fresh start) calls).content → bytes ≡ (state_of (fresh start) calls).whole
none_last start calls bytes none same =
    let there : state_of (fresh start) calls ≡ fresh start = ap (λ (l : List Call). state_of (fresh start) l) none in
    same ∙ ap (λ (t : State). t.content) there ∙ ap (λ (t : State). t.whole) (sym there)
