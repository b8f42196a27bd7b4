-- An area of the first version is carried over: one disk is cut, and then an area is begun on the other.
use Rattle.std.proofs.Common.{◌≡◌, ◌⊎◌, inl, inr, ⊎_elim, ℕ, ◌+◌, ◌≤◌, ◌<◌, Bool, true, false, List, Result, Ok, Err, refl, sym, ◌∙◌, ap, subst, arith}
use Rattle.std.specs.Prelude.{OnOk, IfOk, IfErr, ◌-◌, ◌^◌}
use Rattle.op_outside.specs.Disks.{DiskState, IsAtRest, LeavesOnly, MayLeave, Called, Kept, Counts, CountsUpTo, Costs}
use Rattle.op_outside.proofs.Runs.{started}
use Rattle.op_journal.specs.declared.head.Head.{Head}
use Rattle.op_journal.specs.Areas.{IsGeneration, HoldsRecords, IsSettled}
use Rattle.op_journal.specs.declared.head.Version.TheVariants.{One}
use Rattle.op_journal.specs.Appends.{Trims}
use Rattle.op_journal.specs.Calls.{format_calls}
use Rattle.op_journal.specs.declared.fail.DiskFault.{DiskFault as Fault}
use Rattle.op_store.specs.Stored.{IsStuck, Disks, Obey, HaveImages, KeepBoth, disks_with, chosen, other, chosen_disk, other_disk}
use Rattle.op_store.specs.Openings.{CountsCarrying, CountsAtMost, IsFitArea, carried_area}
use Rattle.op_store.specs.declared.area.OpenArea.{OpenArea}
use Rattle.op_store.specs.declared.fail.StoreFail.{StoreFail}
use Rattle.op_store.specs.declared.fail.StoreFail.TheVariants.{DiskFault, Damaged, NewerVersion, NoMemory}
use Rattle.op_types.specs.Rooms.{no_needs, with_room}
use Rattle.op_types.specs.declared.durable.Durable.{Durable}
use Rattle.op_record.specs.Ranges.{DurableInRange}
use Rattle.op_record.specs.declared.body.Rec.TheVariants.{Whole}
use Rattle.op_record.proofs.Rests.{in_range_rests}
use Rattle.std.proofs.lemmas.Bool.Decides.{leb_tells, eqb_tells}
use Rattle.op_store.specs.Records.{IsBodyOf}
use Rattle.op_store.specs.Failing.{IsFault}
use Rattle.op_store.proofs.AreaDisks.{on_chosen, on_other}

-- a cut that is done stays so
pub trims_on : {S E T F : Type 0} (head : Head) (bodies : List (List ℕ)) (end : ℕ) (old new : DiskState) (x : S) (r : Result T F) → Trims {T = S} {E = E} head bodies end old new (Ok x) → Trims head bodies end old new r
trims_on head bodies end old new x (Ok y) t = record { settled = t.settled; crash = t.crash }
trims_on head bodies end old new x (Err e) t = record { settled = tt; crash = t.crash }

-- one that isn't done leaves the records
pub trims_not : {S E T F : Type 0} (head : Head) (bodies : List (List ℕ)) (end : ℕ) (old new : DiskState) (q : Result S E) (e : F) → Trims head bodies end old new q → Trims {T = T} head bodies end old new (Err e)
trims_not head bodies end old new q e t = record { settled = tt; crash = t.crash }

pub trims_none : {T F : Type 0} (head : Head) (bodies : List (List ℕ)) (end : ℕ) (disk : DiskState) (e : F) → Trims {T = T} head bodies end disk disk (Err e)
trims_none head bodies end disk e = record { settled = tt; crash = started (HoldsRecords head bodies) disk }

-- a durable state in range keeps no room, so that its record is its own
pub rested_body : (d : Durable) (framed : List ℕ) → DurableInRange d → IsBodyOf (Whole (with_room no_needs d)) framed → IsBodyOf (Whole d) framed
rested_body d framed range is = subst (λ (e : Durable). IsBodyOf (Whole e) framed) (in_range_rests d range) is

-- ---- calls

module _ {D : Type 0} (state : D → DiskState) (b closed : Bool) (end len : ℕ) (u v m n : D) (beside : other b m n ≡ other b u v) where
  abbrev before : Disks
  before = disks_with state u v

  abbrev mid : Disks
  mid = disks_with state m n

  chosen_obeys : (k : Bool) → Obey before → (chosen_disk k before).obeys
  chosen_obeys false obey = obey.0
  chosen_obeys true obey = obey.1

  other_obeys : (k : Bool) → Obey before → (other_disk k before).obeys
  other_obeys false obey = obey.1
  other_obeys true obey = obey.0

  calls_at_most : {T E : Type 0} (q : Result T E) → (chosen_disk b before).obeys → (end + 1 < len → Costs 2 (chosen_disk b before) (chosen_disk b mid) q) → (len ≤ end + 1 → chosen b m n ≡ chosen b u v)
      → CountsAtMost 2 (chosen_disk b before).calls (chosen_disk b mid).calls
  calls_at_most q obeys cut idle = ⊎_elim (λ le. inl (on_chosen state b (λ disk. disk.calls ≡ (chosen_disk b before).calls) m n u v (idle le.1) refl)) (λ lt. inr (some q (cut lt.1))) (leb_tells len (end + 1))
    where
      some : {S F : Type 0} (p : Result S F) → Costs 2 (chosen_disk b before) (chosen_disk b mid) p → CountsUpTo 2 (chosen_disk b before).calls (chosen_disk b mid).calls
      some (Ok x) c = let two = c obeys in (omega (arith, two), omega (arith, two))
      some (Err e) c = c obeys

  -- the cut isn't done
  pub counts_uncut : {T E : Type 0} (q : Result T E) (count : ℕ) → Obey before → (end + 1 < len → Costs 2 (chosen_disk b before) (chosen_disk b mid) q) → (len ≤ end + 1 → chosen b m n ≡ chosen b u v)
      → CountsCarrying {T = OpenArea} b closed end len before mid (Err (DiskFault count))
  counts_uncut q count obey cut idle =
      (calls_at_most q (chosen_obeys b obey) cut idle, inl (on_other state b (λ disk. disk.calls ≡ (other_disk b before).calls) m n u v beside refl))

  module _ (x y : D) (still : chosen b x y ≡ chosen b m n) where
    abbrev after : Disks
    after = disks_with state x y

    same_chosen : (chosen_disk b after).calls ≡ (chosen_disk b mid).calls
    same_chosen = on_chosen state b (λ disk. disk.calls ≡ (chosen_disk b mid).calls) x y m n still refl

    same_other : (other_disk b mid).calls ≡ (other_disk b before).calls
    same_other = on_other state b (λ disk. disk.calls ≡ (other_disk b before).calls) m n u v beside refl

    mid_obeys : Obey before → (other_disk b mid).obeys
    mid_obeys obey = on_other state b (λ disk. disk.obeys) m n u v beside (other_obeys b obey)

    -- it is done, and then an area is begun, or not
    pub counts_cut : {T : Type 0} (E : Type 0) (t : T) (r : Result OpenArea StoreFail) → Obey before → (end + 1 < len → Costs {T = T} {E = E} 2 (chosen_disk b before) (chosen_disk b mid) (Ok t)) → (len ≤ end + 1 → chosen b m n ≡ chosen b u v)
        → Costs (format_calls closed) (other_disk b mid) (other_disk b after) r → IfErr r IsFault → CountsCarrying b closed end len before after r
    counts_cut E t (Ok a) obey cut idle format fault = (
      λ more. (let two = cut more (chosen_obeys b obey) in same_chosen ∙ two),
      λ le. same_chosen ∙ on_chosen state b (λ disk. disk.calls ≡ (chosen_disk b before).calls) m n u v (idle le) refl,
      (let c = format (mid_obeys obey) in omega (arith, c, same_other)),
    )
    counts_cut {T = T} E t (Err (DiskFault k)) obey cut idle format fault =
        let q : Result T E = Ok t in
        let most = calls_at_most q (chosen_obeys b obey) cut idle in
        let c = format (mid_obeys obey) in (
          ⊎_elim (λ same. inl (same_chosen ∙ same)) (λ some. inr (let a = some.0 in let z = some.1 in (omega (arith, a, same_chosen), omega (arith, z, same_chosen)))) most,
          inr (let a = c.0 in let z = c.1 in (omega (arith, a, same_other), omega (arith, z, same_other))),
        )
    counts_cut E t (Err (Damaged a k)) obey cut idle format fault = absurd fault
    counts_cut E t (Err (NewerVersion a k)) obey cut idle format fault = absurd fault
    counts_cut E t (Err NoMemory) obey cut idle format fault = absurd fault
