-- A mirror that is taken apart, and put together again.
use Rattle.std.specs.Prelude.{◌≡◌, ◌↔◌}
use Rattle.op_outside.specs.Disks.{DiskState}
use Rattle.op_mirror.specs.declared.halves.Halves.{Halves}
use Rattle.op_mirror.specs.Marks.{AreMarked}
use Rattle.op_mirror.specs.declared.mirror.Mirror.{Mirror}

-- a copy that is out has failed since the mirror was opened, and none has a count below its mark
abbrev pub AreMarkedBy : Halves → (first second : DiskState) → Type 0
AreMarkedBy h first second =
    AreMarked h.gone h.is_dead h.faults h.first_mark first.faults h.second_mark second.faults

-- the mirror is made of these
pub record IsMadeOf {D : Type 0} {g : _} (state : D → DiskState) (first second : D) (h : Halves)
    (m : Mirror D g) : Type 0 where
  pub first_is : m.first ≡ first
  pub second_is : m.second ≡ second
  pub gone : m.gone ≡ h.gone
  pub is_dead : m.is_dead ≡ h.is_dead
  pub faults : m.faults ≡ h.faults
  pub calls : m.calls ≡ h.calls
  pub first_mark : m.first_mark ≡ h.first_mark
  pub second_mark : m.second_mark ≡ h.second_mark

-- what a mirror is made of stays so of a copy: what a read gives, what is pending, and how often it failed
pub record StaysSame (old new : DiskState) : Type 0 where
  pub model : new.obeys ↔ old.obeys
  pub content : new.content ≡ old.content
  pub pending : new.pending ≡ old.pending
  pub faults : new.faults ≡ old.faults

-- only the first copy is another one
pub record IsSameButFirst {D : Type 0} {g : _} (old new : Mirror D g) : Type 0 where
  pub second : new.second ≡ old.second
  pub gone : new.gone ≡ old.gone
  pub is_dead : new.is_dead ≡ old.is_dead
  pub faults : new.faults ≡ old.faults
  pub calls : new.calls ≡ old.calls
  pub first_mark : new.first_mark ≡ old.first_mark
  pub second_mark : new.second_mark ≡ old.second_mark

-- a mirror has the copies of an earlier one: each has its mark, and had failed so often when it was opened
pub record HasSameCopies {D : Type 0} {g : _} (state : D → DiskState) (old new : Mirror D g) : Type 0 where
  pub first : (state new.first).mark ≡ (state old.first).mark
  pub second : (state new.second).mark ≡ (state old.second).mark
  pub first_count : new.first_mark ≡ old.first_mark
  pub second_count : new.second_mark ≡ old.second_mark
