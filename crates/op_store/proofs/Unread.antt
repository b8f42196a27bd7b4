-- Which area isn't read, and why.
use Rattle.std.proofs.Common.{inl, inr, ℕ, List}
use Rattle.op_journal.specs.Readings.{HasNoHeader}
use Rattle.op_store.specs.Failing.{IsUnreadAt, IsToldOrNoMemory}
use Rattle.op_store.specs.declared.fail.StoreFail.{StoreFail}
use Rattle.op_store.specs.declared.fail.StoreFail.TheVariants.{DiskFault, Damaged, NewerVersion, NoMemory}

pub unread_first : (x y : List ℕ) (e : StoreFail) → HasNoHeader x → IsUnreadAt 0 x e → IsToldOrNoMemory x y e
unread_first x y (DiskFault n) headless u = u
unread_first x y (Damaged a at) headless u = inl (u.0, u.1, (headless, u.2))
unread_first x y (NewerVersion a version) headless u = inl (u.0, u.1)
unread_first x y NoMemory headless u = absurd u

pub unread_second : (x y : List ℕ) (e : StoreFail) → (HasNoHeader x → ⊥) → HasNoHeader y → IsUnreadAt 1 y e → IsToldOrNoMemory x y e
unread_second x y (DiskFault n) sound headless u = u
unread_second x y (Damaged a at) sound headless u = inr (inl (u.0, u.1, sound, (headless, u.2)))
unread_second x y (NewerVersion a version) sound headless u = inr (u.0, sound, u.1)
unread_second x y NoMemory sound headless u = absurd u
