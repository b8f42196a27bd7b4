-- How what a crash may have left goes on from call to call.
use Rattle.std.proofs.Common.{◌≡◌, ◌⊎◌, inl, inr, ⊎_elim, ℕ, ◌+◌, ◌<◌, ◌≤◌, List, [], ◌∷◌, ◌++◌, length, take, drop, refl, sym, ◌∙◌, ap, subst, arith, length-append, length-take, length-drop}
use Rattle.std.proofs.lemmas.List.{take_all, take-append-le}
use Rattle.std.proofs.lemmas.Bool.{cases_lt}
use Rattle.op_outside.specs.Moments.{Moment, Before}
use Rattle.op_outside.specs.Moments.Moment.{At, Both}
use Rattle.op_memory.specs.declared.call.Call.{Call}
use Rattle.op_memory.specs.declared.call.Call.TheVariants.{Write, StoppedWrite, Cut, StoppedCut, Sync}
use Rattle.op_outside.specs.Disks.{Edit, TornOf, GoesOn}
use Rattle.op_memory.specs.Tied.{Tied}
use Rattle.op_memory.proofs.Images.{write_follows, cut_follows, write_image, cut_image, sync_only}
use Rattle.op_outside.specs.Pendings.{IsImage}
use Rattle.op_memory.specs.Images.{State, fresh, overlaid, after, state_of, edit_of, IsWithin, IfSync, LeftSince, LeftNow, known}

pub state-push : (s : State) (calls : List Call) (call : Call) → state_of s (calls ++ call ∷ []) ≡ after call (state_of s calls)
state-push s [] call = refl
state-push s (c ∷ calls) call = state-push (after c s) calls call

-- the lengths stand in order, and what a read gives is no longer than the greatest
pub record InOrder (s : State) : Type 0 where
  pub ordered : s.pending.low ≤ s.pending.high
  pub within : length s.content ≤ s.pending.high
  pub above : s.pending.low ≤ length s.pending.base
  pub below : length s.pending.base ≤ s.pending.high

in_order-after : (call : Call) (s : State) → InOrder s → InOrder (after call s)
in_order-after (Write at v) s o = record {
  ordered = let a = o.ordered in omega arith;
  within = let a = o.within in omega (arith, length-append (take at s.content ++ v.items) (drop (at + length v.items) s.content), length-append (take at s.content) v.items, length-take at s.content, length-drop (at + length v.items) s.content);
  above = o.above;
  below = let a = o.below in omega arith;
}
in_order-after (StoppedWrite at v) s o = record { ordered = let a = o.ordered in omega arith; within = let a = o.within in omega arith; above = o.above; below = let a = o.below in omega arith }
in_order-after (Cut n) s o = record { ordered = let a = o.ordered in omega arith; within = let a = o.within in omega (arith, length-take n s.content); above = let a = o.above in omega arith; below = o.below }
in_order-after (StoppedCut n) s o = record { ordered = let a = o.ordered in omega arith; within = o.within; above = let a = o.above in omega arith; below = o.below }
in_order-after Sync s o = record { ordered = omega arith; within = omega arith; above = omega arith; below = omega arith }

pub in_order : (s : State) (calls : List Call) → InOrder s → InOrder (state_of s calls)
in_order s [] o = o
in_order s (c ∷ calls) o = in_order (after c s) calls (in_order-after c s o)

pub left_now : (start : List ℕ) (calls : List Call) (x : List ℕ) → LeftSince start calls (At (length calls)) x → IsImage (state_of (fresh start) calls).pending x
left_now start calls x left =
    subst (λ (l : List Call). IsImage (state_of (fresh start) l).pending x) (take_all left.0 calls left.1) left.3

pub now_left : (start : List ℕ) (calls : List Call) (x : List ℕ) → IsImage (state_of (fresh start) calls).pending x → LeftSince start calls (At (length calls)) x
now_left start calls x im = (length calls, omega arith, omega arith, subst (λ (l : List Call). IsImage (state_of (fresh start) l).pending x) (sym (take_all (length calls) calls (omega arith))) im)

pub state_now : (start : List ℕ) (calls : List Call) → InOrder (state_of (fresh start) calls)
state_now start calls = in_order (fresh start) calls (record { ordered = omega arith; within = omega arith; above = omega arith; below = omega arith })

-- what a crash now may leave, one since an earlier moment may
pub now_too : (start : List ℕ) (calls : List Call) (t : Moment) (x : List ℕ) → Before t (At (length calls)) → LeftNow start calls x → LeftSince start calls t x
now_too start calls (At n) x le now = (now.0, omega (arith, le, now.1), now.2, now.3)
now_too start calls (Both a b) x le now = absurd le

-- a call more: a crash since then leaves what one before it did, or what one now may
module _ (start : List ℕ) (calls new : List Call) (call : Call) (more : new ≡ calls ++ call ∷ []) where
  size : length new ≡ length calls + 1
  size = omega (arith, ap length more, length-append calls (call ∷ []))

  prefix : (k : ℕ) → k ≤ length calls → take k new ≡ take k calls
  prefix k le = ap (λ (l : List Call). take k l) more ∙ take-append-le k calls (call ∷ []) le

  pub state_of-more : state_of (fresh start) new ≡ after call (state_of (fresh start) calls)
  state_of-more = ap (λ (l : List Call). state_of (fresh start) l) more ∙ state-push (fresh start) calls call

  nothing_else : (t : Moment) (x : List ℕ) → Before t (At (length calls)) → LeftSince start new t x → LeftSince start calls t x ⊎ LeftNow start new x
  nothing_else (At n) x le left = ⊎_elim
      (λ (lt : left.0 < length new). inl (left.0, left.1, omega (arith, size), subst (λ (l : List Call). IsImage (state_of (fresh start) l).pending x) (prefix left.0 (omega (arith, size))) left.3))
      (λ (ge : length new ≤ left.0). inr (left.0, ge, left.2, left.3))
      (cases_lt left.0 (length new))
  nothing_else (Both a b) x le left = absurd left

  keeps : (t : Moment) (x : List ℕ) → Before t (At (length calls)) → LeftSince start calls t x → LeftSince start new t x
  keeps (At n) x le past = (past.0, past.1, omega (arith, past.2, size), subst (λ (l : List Call). IsImage (state_of (fresh start) l).pending x) (sym (prefix past.0 past.2)) past.3)
  keeps (Both a b) x le past = absurd past

  -- the images after it
  image_after : (x : List ℕ) → LeftNow start new x → IsImage (after call (state_of (fresh start) calls)).pending x
  image_after x left = subst (λ (s : State). IsImage s.pending x) state_of-more (left_now start new x left)

-- an image after a call is one of before, torn by the call
torn_by : (call : Call) (s : State) → InOrder s → IsImage s.pending s.content → IsWithin call s.content → (x : List ℕ) → IsImage (after call s).pending x → TornOf (edit_of call) (IsImage s.pending) x
torn_by (Write at v) s o im within x left = write_follows s.pending at (length v.items) o.ordered (let w = o.within in omega (arith, within)) x left
torn_by (StoppedWrite at v) s o im within x left = write_follows s.pending at (length v.items) o.ordered (let w = o.within in omega (arith, within)) x left
torn_by (Cut n) s o im within x left = cut_follows s.pending n o.ordered x left
torn_by (StoppedCut n) s o im within x left = cut_follows s.pending n o.ordered x left
torn_by Sync s o im within x left = let same = (sync_only s.content).no_other x left in (s.content, im, same)

-- what a read gives after a call, and what it would give had the call taken place, are images then
read_after : (call : Call) (s : State) → IsImage s.pending s.content → IsWithin call s.content → IsImage (after call s).pending (after call s).content × IsImage (after call s).pending (after call s).whole
read_after (Write at v) s im within = let laid = write_image s.pending at v.items s.content within im in (laid, laid)
read_after (StoppedWrite at v) s im within =
    (record { no_shorter = im.no_shorter; no_longer = let top = im.no_longer in omega arith; same = λ p below un. im.same p below un.1 }, write_image s.pending at v.items s.content within im)
read_after (Cut n) s im within = let left = cut_image s.pending n s.content im in (left, left)
read_after (StoppedCut n) s im within =
    (record { no_shorter = let bot = im.no_shorter in omega arith; no_longer = im.no_longer; same = λ p below un. im.same p (omega arith) un }, cut_image s.pending n s.content im)
read_after Sync s im within = let same = (sync_only s.content).itself in (same, same)

-- the content after a call goes by the content before it
pub content-after : (call : Call) (s t : State) → s.content ≡ t.content → (after call s).content ≡ (after call t).content
content-after (Write at v) s t e = ap (λ (l : List ℕ). overlaid l at v.items) e
content-after (StoppedWrite at v) s t e = e
content-after (Cut n) s t e = ap (λ (l : List ℕ). take n l) e
content-after (StoppedCut n) s t e = e
content-after Sync s t e = e

if_sync : (call : Call) (s : State) (bytes : List ℕ) (may_leave : List ℕ → Type 0) → bytes ≡ (after call s).content → may_leave bytes → ((x : List ℕ) → may_leave x → IsImage (after call s).pending x) → IfSync call bytes may_leave
if_sync (Write at v) s bytes may_leave is here has = tt
if_sync (StoppedWrite at v) s bytes may_leave is here has = tt
if_sync (Cut n) s bytes may_leave is here has = tt
if_sync (StoppedCut n) s bytes may_leave is here has = tt
if_sync Sync s bytes may_leave is here has = record { no_other = λ x left. (sync_only s.content).no_other x (has x left) ∙ sym is; itself = here }

module _ (start : List ℕ) (calls new : List Call) (call : Call) (more : new ≡ calls ++ call ∷ []) (bytes next : List ℕ) (tied : Tied start calls bytes)
    (within : IsWithin call bytes) (to : next ≡ (after call (fresh bytes)).content) where
  abbrev before : State
  before = state_of (fresh start) calls

  there : IsImage before.pending before.content
  there = subst (λ (b : List ℕ). IsImage before.pending b) tied.is tied.image

  fits : IsWithin call before.content
  fits = subst (IsWithin call) tied.is within

  same : next ≡ (after call before).content
  same = to ∙ content-after call (fresh bytes) before tied.is

  pub tied_push : Tied start new next
  tied_push =
      let state = state_of-more start calls new call more in
      let images = read_after call before there fits in
      record {
        is = same ∙ ap (λ (s : State). s.content) (sym state);
        image = subst (λ (b : List ℕ). IsImage (state_of (fresh start) new).pending b) (sym same) (subst (λ (s : State). IsImage s.pending (after call before).content) (sym state) images.0);
        whole = subst (λ (s : State). IsImage s.pending s.whole) (sym state) images.1;
      }

  torn : (x : List ℕ) → LeftNow start new x → TornOf (edit_of call) (LeftNow start calls) x
  torn x left =
      let from = torn_by call before (state_now start calls) there fits x (image_after start calls new call more x left) in
      (from.0, now_left start calls from.0 from.1, from.2)

  pub goes_on_push : (f i g j : ℕ) → GoesOn (edit_of call) (known start calls bytes f i) (known start new next g j)
  goes_on_push f i g j = record {
    later = omega (arith, size start calls new call more);
    nothing_else = λ t x le left. ⊎_elim (λ past. inl past) (λ now. inr (torn x now)) (nothing_else start calls new call more t x le left);
    keeps = keeps start calls new call more;
    now_too = now_too start new;
    image = now_left start new next tied_push.image;
  }

  pub synced_push : IfSync call next (LeftNow start new)
  synced_push = if_sync call before next (LeftNow start new) same (now_left start new next tied_push.image) (image_after start calls new call more)

-- a disk that stays as it is goes on, whatever was asked of it
pub goes_on_same : (edit : Edit) (start : List ℕ) (calls : List Call) (bytes : List ℕ) → IsImage (state_of (fresh start) calls).pending bytes → (f i g j : ℕ)
    → GoesOn edit (known start calls bytes f i) (known start calls bytes g j)
goes_on_same edit start calls bytes image f i g j = record {
  later = omega arith;
  nothing_else = λ t c before left. inl left;
  keeps = λ t c before left. left;
  now_too = now_too start calls;
  image = now_left start calls bytes image;
}
