-- How calls add up, one run after another.
use Rattle.std.proofs.Common.{ℕ, ◌+◌, ◌≤◌, Result, Ok, Err, refl, arith}
use Rattle.std.specs.Prelude.{IsErr}
use Rattle.op_outside.specs.Disks.{DiskState, Counts, CountsUpTo, Costs}

-- so many calls were made of a disk that obeys the model
abbrev pub HasMade : ℕ → DiskState → DiskState → Type 0
HasMade n old new = old.obeys → Counts n old.calls new.calls

-- and so many at most
abbrev pub HasMadeUpTo : ℕ → DiskState → DiskState → Type 0
HasMadeUpTo n old new = old.obeys → CountsUpTo n old.calls new.calls

-- a run in which all was done, and one after it
module _ (m n : ℕ) (old mid new : DiskState) (obeys : old.obeys → mid.obeys) (one : HasMade m old mid) where
  pub costs_then : HasMade n mid new → HasMade (m + n) old new
  costs_then two f = let c : Counts m old.calls mid.calls = one f in let d : Counts n mid.calls new.calls = two (obeys f) in omega (arith, c, d)

  -- the one after it fails
  pub costs_until : {T E : Type 0} (r : Result T E) → IsErr r → Costs n mid new r → HasMadeUpTo (m + n) old new
  costs_until (Ok y) err two f = absurd (cc)
  costs_until (Err e) err two f =
      let c : Counts m old.calls mid.calls = one f in
      let d : CountsUpTo n mid.calls new.calls = two (obeys f) in
      (omega (arith, c, d), omega (arith, c, d))

-- the first run fails, of more that were to come
pub costs_less : {T E : Type 0} (m n : ℕ) (old new : DiskState) (r : Result T E) → IsErr r → m ≤ n → Costs m old new r → HasMadeUpTo n old new
costs_less m n old new (Ok x) err le one = absurd (cc)
costs_less m n old new (Err e) err le one = λ f. let c : CountsUpTo m old.calls new.calls = one f in (c.0, omega (arith, c.1))

-- all of it was done, and no more was to come
pub costs_at_most : (m n : ℕ) (old new : DiskState) → 1 ≤ m → m ≤ n → HasMade m old new → HasMadeUpTo n old new
costs_at_most m n old new some le one f = let c : Counts m old.calls new.calls = one f in (omega (arith, c), omega (arith, c))

-- what an answer that fails tells
pub costs_failing : {T E : Type 0} (n : ℕ) (old new : DiskState) (s : Result T E) → IsErr s → HasMadeUpTo n old new → Costs n old new s
costs_failing n old new (Ok x) failed made = absurd (cc)
costs_failing n old new (Err e) failed made = made

-- a run in which all was done, and one after it, of whose answer nothing is known
pub costs_on : {T E : Type 0} (m n : ℕ) (old mid new : DiskState) → (old.obeys → mid.obeys) → HasMade m old mid → (r : Result T E) → Costs n mid new r → Costs (m + n) old new r
costs_on m n old mid new obeys one (Ok x) two = costs_then m n old mid new obeys one two
costs_on {T = T} {E = E} m n old mid new obeys one (Err e) two =
    let r : Result T E = Err e in
    costs_until m n old mid new obeys one r refl two
