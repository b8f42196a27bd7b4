-- A disk whose calls are undone.
use Rattle.std.proofs.Common.{◌≡◌, ⊎_elim, ℕ, ◌+◌, ◌<◌, ◌≤◌, List, [], ◌∷◌, ◌++◌, length, get_or, take, drop, refl, sym, ◌∙◌, ap, subst, arith, length-append, length-drop, append_assoc}
use Rattle.std.proofs.lemmas.List.{take_all, take_more, drop_all, drop-drop, take-append-le, drop-append-le, take-append-drop, length-take-le}
use Rattle.std.proofs.lemmas.Bool.{cases_lt}
use Rattle.op_memory.specs.declared.call.Call.{Call}
use Rattle.op_memory.specs.declared.replaced.Replaced.{Replaced}
use Rattle.op_memory.specs.Images.{State, fresh, state_of, after, edit_of, known, overlaid, IsWithin, IfSync, LeftNow}
use Rattle.op_outside.specs.Disks.{GoesOn}
use Rattle.op_memory.proofs.Moments.{state_of-more, tied_push, goes_on_push, synced_push}
use Rattle.op_memory.specs.Tied.{Tied}
use Rattle.op_memory.specs.Undoing.{before, undone, Undoes}

pub undone-push : (replaced : List Replaced) (r : Replaced) (bytes : List ℕ) → undone (replaced ++ r ∷ []) bytes ≡ undone replaced (before r bytes)
undone-push [] r bytes = refl
undone-push (x ∷ replaced) r bytes = ap (before x) (undone-push replaced r bytes)

pub undone_more : (replaced : List Replaced) (n : ℕ) (r : Replaced) (bytes : List ℕ) → n < length replaced → r ≡ get_or replaced n r
    → undone (take (n + 1) replaced) bytes ≡ undone (take n replaced) (before r bytes)
undone_more replaced n r bytes lt is =
    ap (λ (l : List Replaced). undone l bytes) (take_more replaced n r lt)
    ∙ ap (λ (x : Replaced). undone (take n replaced ++ x ∷ []) bytes) (sym is)
    ∙ undone-push (take n replaced) r bytes

-- one call more
module _ (calls new : List Call) (call : Call) (more : new ≡ calls ++ call ∷ []) (replaced next_replaced : List Replaced) (r : Replaced) (most : next_replaced ≡ replaced ++ r ∷ [])
    (bytes next : List ℕ) (back : before r next ≡ bytes) where
  -- the disk began with the same bytes
  pub same_start : undone next_replaced next ≡ undone replaced bytes
  same_start = ap (λ (l : List Replaced). undone l next) most ∙ undone-push replaced r next ∙ ap (undone replaced) back

  earlier : (k : ℕ) → k ≤ length replaced → k ≤ length calls → Undoes calls replaced bytes
      → undone (drop k next_replaced) next ≡ (state_of (fresh (undone next_replaced next)) (take k new)).content
  earlier k le fits undoes =
      ap (λ (l : List Replaced). undone (drop k l) next) most
      ∙ ap (λ (l : List Replaced). undone l next) (drop-append-le k replaced (r ∷ []) le)
      ∙ undone-push (drop k replaced) r next
      ∙ ap (undone (drop k replaced)) back
      ∙ undoes.gives k
      ∙ ap (λ (b : List ℕ). (state_of (fresh b) (take k calls)).content) (sym same_start)
      ∙ ap (λ (l : List Call). (state_of (fresh (undone next_replaced next)) l).content) (sym (ap (take k) more ∙ take-append-le k calls (call ∷ []) fits))

  now : (k : ℕ) → length next_replaced ≤ k → length new ≤ k → Tied (undone next_replaced next) new next
      → undone (drop k next_replaced) next ≡ (state_of (fresh (undone next_replaced next)) (take k new)).content
  now k le fits tied =
      ap (λ (l : List Replaced). undone l next) (drop_all k next_replaced le)
      ∙ tied.is
      ∙ ap (λ (l : List Call). (state_of (fresh (undone next_replaced next)) l).content) (sym (take_all k new fits))

  pub undoes_push : Undoes calls replaced bytes → Tied (undone next_replaced next) new next → Undoes new next_replaced next
  undoes_push undoes tied =
      let size : length new ≡ length calls + 1 = omega (arith, ap length more, length-append calls (call ∷ [])) in
      let count : length next_replaced ≡ length replaced + 1 = omega (arith, ap length most, length-append replaced (r ∷ [])) in
      let each : length replaced ≡ length calls = undoes.each in
      record {
        each = omega (arith, size, count, each);
        gives = λ k. ⊎_elim
            (λ (lt : k < length new). earlier k (omega (arith, size, count, each)) (omega (arith, size)) undoes)
            (λ (ge : length new ≤ k). now k (omega (arith, size, count, each)) ge tied)
            (cases_lt k (length new));
      }

  -- what add promises, of the bytes with which the disk begins then
  module _ (tied : Tied (undone replaced bytes) calls bytes) (within : IsWithin call bytes) (to : next ≡ (after call (fresh bytes)).content) where
    pub tied_after : Tied (undone next_replaced next) new next
    tied_after = subst (λ (b : List ℕ). Tied b new next) (sym same_start) (tied_push (undone replaced bytes) calls new call more bytes next tied within to)

    pub state_after : state_of (fresh (undone next_replaced next)) new ≡ after call (state_of (fresh (undone replaced bytes)) calls)
    state_after = ap (λ (b : List ℕ). state_of (fresh b) new) same_start ∙ state_of-more (undone replaced bytes) calls new call more

    pub synced_after : IfSync call next (LeftNow (undone next_replaced next) new)
    synced_after = subst (λ (b : List ℕ). IfSync call next (LeftNow b new)) (sym same_start) (synced_push (undone replaced bytes) calls new call more bytes next tied within to)

    pub goes_on_after : (f i g j : ℕ) → GoesOn (edit_of call) (known (undone replaced bytes) calls bytes f i) (known (undone next_replaced next) new next g j)
    goes_on_after f i g j =
        subst (λ (b : List ℕ). GoesOn (edit_of call) (known (undone replaced bytes) calls bytes f i) (known b new next g j)) (sym same_start)
        (goes_on_push (undone replaced bytes) calls new call more bytes next tied within to f i g j)

-- the calls from some place on, once those before are let go
pub undoes_from : (calls rest : List Call) (replaced left : List Replaced) (bytes : List ℕ) (k : ℕ) → Undoes calls replaced bytes → rest ≡ drop k calls → left ≡ drop k replaced
    → ((n : ℕ) → state_of (fresh (undone left bytes)) (take n rest) ≡ state_of (fresh (undone replaced bytes)) (take (k + n) calls)) → Undoes rest left bytes
undoes_from calls rest replaced left bytes k undoes back behind same = record {
  each = let each : length replaced ≡ length calls = undoes.each in omega (arith, each, ap length back, ap length behind, length-drop k calls, length-drop k replaced);
  gives = λ n.
      ap (λ (l : List Replaced). undone (drop n l) bytes) behind
      ∙ ap (λ (l : List Replaced). undone l bytes) (drop-drop n k replaced)
      ∙ undoes.gives (k + n)
      ∙ ap (λ (s : State). s.content) (sym (same n));
}

-- what a write replaced, laid back
pub restored : (bytes piece : List ℕ) (at : ℕ) → at ≤ length bytes → take (length bytes) (overlaid (overlaid bytes at piece) at (take (length piece) (drop at bytes))) ≡ bytes
restored bytes piece at le =
    let n : ℕ = length piece in
    let first : List ℕ = take at bytes in
    let rest : List ℕ = drop at bytes in
    let over : List ℕ = overlaid bytes at piece in
    let past : List ℕ = drop (at + length (take n rest)) over in
    let size : length first ≡ at = length-take-le at bytes le in
    let all : length (first ++ piece) ≡ at + n = omega (arith, size, length-append first piece) in
    let front : take at over ≡ first =
    take-append-le at (first ++ piece) (drop (at + n) bytes) (omega (arith, all)) ∙ take-append-le at first piece (omega (arith, size)) ∙ take_all at first (omega (arith, size)) in
    ap (λ (l : List ℕ). take (length bytes) ((l ++ take n rest) ++ past)) front
    ∙ ⊎_elim
    (λ (short : n < length rest).
    let there : past ≡ drop n rest =
    ap (λ (k : ℕ). drop (at + k) over) (length-take-le n rest (omega (arith, short)))
    ∙ drop-append-le (at + n) (first ++ piece) (drop (at + n) bytes) (omega (arith, all))
    ∙ ap (λ (l : List ℕ). l ++ drop (at + n) bytes) (drop_all (at + n) (first ++ piece) (omega (arith, all)))
    ∙ sym (drop-drop n at bytes) in
    ap (λ (l : List ℕ). take (length bytes) ((first ++ take n rest) ++ l)) there
    ∙ ap (λ (l : List ℕ). take (length bytes) l) (append_assoc first (take n rest) (drop n rest) ∙ ap (λ (l : List ℕ). first ++ l) (take-append-drop n rest) ∙ take-append-drop at bytes)
    ∙ take_all (length bytes) bytes (omega arith))
    (λ (long : length rest ≤ n).
    ap (λ (l : List ℕ). take (length bytes) ((first ++ l) ++ past)) (take_all n rest long)
    ∙ ap (λ (l : List ℕ). take (length bytes) (l ++ past)) (take-append-drop at bytes)
    ∙ take-append-le (length bytes) bytes past (omega arith)
    ∙ take_all (length bytes) bytes (omega arith))
    (cases_lt n (length rest))
