-- The disk that is not called stays, by either order of the two.
use Rattle.std.proofs.Common.{◌≡◌, ℕ, ◌≤◌, Bool, true, false, List, [], ◌∷◌, ◌++◌, length, refl, sym, subst, arith}
use Rattle.op_outside.specs.Disks.{DiskState, MayLeave}
use Rattle.op_store.specs.Stored.{Disks, HaveImages, disks_with, chosen, other, chosen_disk, other_disk, len_at_format}
use Rattle.op_store.specs.declared.store.Store.{Store}

module _ {D : Type 0} (state : D → DiskState) where
  -- what holds of a disk still holds of it
  pub on_chosen : (b : Bool) (P : DiskState → Type 0) (x y u v : D) → chosen b x y ≡ chosen b u v → P (chosen_disk b (disks_with state u v)) → P (chosen_disk b (disks_with state x y))
  on_chosen false P x y u v same h = subst (λ (w : D). P (state w)) (sym same) h
  on_chosen true P x y u v same h = subst (λ (w : D). P (state w)) (sym same) h

  pub on_other : (b : Bool) (P : DiskState → Type 0) (x y u v : D) → other b x y ≡ other b u v → P (other_disk b (disks_with state u v)) → P (other_disk b (disks_with state x y))
  on_other false P x y u v same h = subst (λ (w : D). P (state w)) (sym same) h
  on_other true P x y u v same h = subst (λ (w : D). P (state w)) (sym same) h

-- what holds of a store holds of one that is equal
pub along : {D : Type 0} (old new : Store D) → new ≡ old → (P : Store D → Type 0) → P old → P new
along old new is P h = subst P (sym is) h

-- what holds of both disks, whichever is chosen
pub first_rests : (b : Bool) (P : DiskState → Type 0) (disks : Disks) → P (chosen_disk b disks) → P (other_disk b disks) → P disks.first
first_rests false P disks one two = one
first_rests true P disks one two = two

pub second_rests : (b : Bool) (P : DiskState → Type 0) (disks : Disks) → P (chosen_disk b disks) → P (other_disk b disks) → P disks.second
second_rests false P disks one two = two
second_rests true P disks one two = one

-- what holds of the two in order holds of them as they are
pub in_order : (b : Bool) (P : List ℕ → List ℕ → Type 0) (disks : Disks) → P (chosen b (chosen_disk b disks).content (other_disk b disks).content) (other b (chosen_disk b disks).content (other_disk b disks).content) → P disks.first.content disks.second.content
in_order false P disks h = h
in_order true P disks h = h

-- what a read gives of both
pub images_of : (b : Bool) (disks : Disks) → MayLeave (chosen_disk b disks) (chosen_disk b disks).content → MayLeave (other_disk b disks) (other_disk b disks).content → HaveImages disks
images_of false disks one two = (one, two)
images_of true disks one two = (two, one)

-- a record more leaves the length with the first record alone
pub base_stays : (bodies : List (List ℕ)) (one : List ℕ) → 1 ≤ length bodies → len_at_format (bodies ++ one ∷ []) ≡ len_at_format bodies
base_stays [] one some = absurd (omega arith)
base_stays (b ∷ bodies) one some = refl
