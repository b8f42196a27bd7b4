-- A last call in which the disk stopped.
use Rattle.std.proofs.Common.{◌≡◌, ℕ, Bool, true, false, List, [], ◌∷◌, ◌++◌, refl, sym, ◌∙◌, ap, arith}
use Rattle.std.specs.Prelude.{if◌then◌else◌}
use Rattle.op_memory.specs.declared.call.Call.{Call}
use Rattle.op_memory.specs.declared.call.Call.TheVariants.{Write, StoppedWrite, Cut, StoppedCut, Sync}
use Rattle.op_outside.specs.Pendings.{IsImage}
use Rattle.op_memory.specs.Images.{State, state_of, fresh, after, is_stop, ends_in_stop, without_stop, IsFilled, LeftNow}
use Rattle.op_memory.proofs.Moments.{state_now, now_left}
use Rattle.op_memory.proofs.Filled.{filled_image}

pub without_last : (calls : List Call) (call : Call) → without_stop (calls ++ call ∷ []) ≡ (if is_stop call then calls else calls ++ call ∷ [])
without_last [] call = refl
without_last (a ∷ []) call = elim (is_stop call) as (λ (b : Bool). a ∷ (if b then [] else call ∷ []) ≡ (if b then a ∷ [] else a ∷ call ∷ [])) [ true ↦ refl | false ↦ refl ]
without_last (a ∷ b ∷ calls) call =
    ap (λ (l : List Call). a ∷ l) (without_last (b ∷ calls) call)
    ∙ elim (is_stop call) as (λ (s : Bool). a ∷ (if s then b ∷ calls else b ∷ calls ++ call ∷ []) ≡ (if s then a ∷ b ∷ calls else a ∷ b ∷ calls ++ call ∷ [])) [ true ↦ refl | false ↦ refl ]

ends_last : (calls : List Call) (call : Call) → ends_in_stop (calls ++ call ∷ []) ≡ is_stop call
ends_last [] call = refl
ends_last (a ∷ []) call = refl
ends_last (a ∷ b ∷ calls) call = ends_last (b ∷ calls) call

-- what a crash may leave before a call in which the disk stops it may leave after it
stop_leaves : (call : Call) (s : State) (x : List ℕ) → is_stop call ≡ true → IsImage s.pending x → IsImage (after call s).pending x
stop_leaves (Write at v) s x is im = absurd (cc)
stop_leaves (StoppedWrite at v) s x is im = record { no_shorter = im.no_shorter; no_longer = let top = im.no_longer in omega arith; same = λ p below un. im.same p below un.1 }
stop_leaves (Cut n) s x is im = absurd (cc)
stop_leaves (StoppedCut n) s x is im = record { no_shorter = let bot = im.no_shorter in omega arith; no_longer = im.no_longer; same = λ p below un. im.same p (omega arith) un }
stop_leaves Sync s x is im = absurd (cc)

last_leaves : (s : State) (calls : List Call) (x : List ℕ) → IsImage (state_of s (without_stop calls)).pending x → IsImage (state_of s calls).pending x
last_leaves s [] x im = im
last_leaves s (call ∷ []) x im =
    let at : (b : Bool) → is_stop call ≡ b → IsImage (state_of s (if b then [] else call ∷ [])).pending x → IsImage (after call s).pending x
    = λ b is. elim b as (λ (b : Bool). is_stop call ≡ b → IsImage (state_of s (if b then [] else call ∷ [])).pending x → IsImage (after call s).pending x)
    [ true ↦ λ t i. stop_leaves call s x t i | false ↦ λ t i. i ] is in
    at (is_stop call) refl im
last_leaves s (call ∷ next ∷ calls) x im = last_leaves (after call s) (next ∷ calls) x im

-- an image that is filled without it is one that a crash may leave
pub filled_before_left : (start : List ℕ) (calls : List Call) (byte : ℕ) (x : List ℕ) → IsFilled (state_of (fresh start) (without_stop calls)).pending byte x → LeftNow start calls x
filled_before_left start calls byte x is =
    now_left start calls x (last_leaves (fresh start) calls x
    (filled_image (state_of (fresh start) (without_stop calls)).pending byte x (state_now start (without_stop calls)).ordered is))

-- calls that end with this one, in which the disk stopped or didn't
module _ (calls rest : List Call) (call : Call) (is : calls ≡ rest ++ call ∷ []) where
  without_is : without_stop calls ≡ (if is_stop call then rest else rest ++ call ∷ [])
  without_is = ap without_stop is ∙ without_last rest call

  pub without_stopped : is_stop call ≡ true → rest ≡ without_stop calls
  without_stopped stops = sym (without_is ∙ ap (λ (b : Bool). if b then rest else rest ++ call ∷ []) stops)

  pub without_running : is_stop call ≡ false → calls ≡ without_stop calls
  without_running runs = is ∙ sym (without_is ∙ ap (λ (b : Bool). if b then rest else rest ++ call ∷ []) runs)

  pub ends_as : is_stop call ≡ ends_in_stop calls
  ends_as = sym (ap ends_in_stop is ∙ ends_last rest call)
