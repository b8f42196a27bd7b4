-- What was taken is stored at once, or a disk fails.
use Rattle.std.proofs.Common.{◌≡◌, ◌≢◌, ℕ, List, [], Ok, Err, inl, ⊎_elim, refl, arith}
use Rattle.op_types.specs.Changes.{Applies, durable_after}
use Rattle.op_types.specs.declared.changes.Change.{Change}
use Rattle.op_types.specs.declared.durable.Durable.{Durable}
use Rattle.op_outside.specs.Disks.{DiskState}
use Rattle.op_outside.specs.Causes.{FaultsRose}
use Rattle.op_outside.specs.Disks.{LeavesOnly}
use Rattle.op_record.specs.declared.body.Rec.TheVariants.{Step, Whole}
use Rattle.op_store.specs.Failing.{faults}
use Rattle.op_store.specs.Records.{IsBodyOf}
use Rattle.op_store.specs.Stored.{chosen_disk, other_disk}
use Rattle.op_store.specs.Stores.{Represents, Commits, Checkpoints, GoesOnOrFails, Appended, Switched, Passes, StandsBeforeOrAfter, IsBelowOrNext, disks_of}
use Rattle.op_store.specs.declared.store.Store.{Store}
use Rattle.op_store.proofs.CommitCrashes.{image_stored}
use Rattle.op_node.specs.Reopenings.{StoreOneOf}
use Rattle.op_node.specs.Steps.{Steps}
use Rattle.op_node.specs.declared.bound.Bound.TheVariants.{Kept}
use Rattle.op_node.specs.Taking.{StoresAtOnce}
use Rattle.op_node.specs.declared.fail.StepFail.TheVariants.{DiskFail}
use Rattle.op_journal.specs.declared.fail.DiskFault.{DiskFault}
use Rattle.op_node.proofs.Reopenings.{obeys, obey_still}
use Rattle.op_node.proofs.StoreSteps.{steps_idle, steps_checkpointed, steps_uncheckpointed}

module _ {D : Type 0} (state : D → DiskState) (d : Durable) (changes : List Change) (old new : Store D) where
  -- a fault leaves the state before all that was to be stored, or behind all of it
  pub at_once_left : (k : ℕ) → StoresAtOnce state d changes old new (Err (record { count = k })) → Represents state d old → StoreOneOf d (durable_after d changes) (disks_of state new)
  at_once_left k at r =
      let commits = at.commits r in
      record {
        obey = obey_still (disks_of state old) (disks_of state new) at.kept (obeys state d old r);
        read = commits.left;
        left = λ x y one two. ⊎_elim
            (λ was. inl (image_stored d old.is_second old.generation old.end old.base old.is_closed (disks_of state old) r x y was.0 was.1))
            (λ is. is) (commits.crash.now x y one two);
      }

  -- what is known of what is stored as a step's batch is
  pub at_once_ended : changes ≢ [] → Steps {T = Unit {0}} state d changes old new (Ok tt) → StoresAtOnce state d changes old new (Ok Kept)
  at_once_ended some s =
      record {
        commits = λ r. let k = s.commits r in record { stored = k.stored; left = tt; crash = k.crash };
        calls = λ _. s.calls some (λ err. cc);
        idle = λ none. absurd (some none);
        ready = s.ready;
        cause = record { later = s.cause.0; ok = s.cause.1; err = λ err. absurd (cc) };
        told = tt;
        kept = s.kept;
        step = s;
      }

  pub at_once_failed : (e : DiskFault) → changes ≢ [] → Steps {T = Unit {0}} state d changes old new (Err (DiskFail e.count)) → StoresAtOnce state d changes old new (Err e)
  at_once_failed e some s =
      record {
        commits = λ r. let c = s.commits r in record { stored = tt; left = c.left; crash = c.crash };
        calls = λ _. s.calls some (λ err. cc);
        idle = λ none. absurd (some none);
        ready = λ ready. tt;
        cause = record { later = s.cause.0; ok = tt; err = λ err. s.cause.1.1 };
        told = s.cause.1.0;
        kept = s.kept;
        step = s;
      }

-- with nothing to store
pub at_once_idle : {D : Type 0} (state : D → DiskState) (d : Durable) (changes : List Change) (s : Store D) → changes ≡ [] → StoresAtOnce state d changes s s (Ok Kept)
at_once_idle state d changes s none =
    let idle : Steps {T = Unit {0}} state d changes s s (Ok tt) = steps_idle state d changes s tt none in
    record {
      commits = λ r. let k = idle.commits r in record { stored = k.stored; left = tt; crash = k.crash };
      calls = λ some. absurd (some none);
      idle = λ _. (refl, refl);
      ready = λ ready. ready;
      cause = record { later = omega arith; ok = refl; err = λ err. absurd (cc) };
      told = tt;
      kept = idle.kept;
      step = idle;
    }

-- a commit, and then a checkpoint, whatever comes of it
module _ {D : Type 0} (state : D → DiskState) (d : Durable) (changes : List Change) (framed whole : List ℕ) (is : IsBodyOf (Step changes) framed) (applies : Applies d changes) (some : changes ≢ []) (old mid new : Store D)
    (is_whole : IsBodyOf (Whole (durable_after d changes)) whole) (passes : Passes old framed)
    (commits : (d : Durable) (batch : List Change) → Represents state d old → IsBodyOf (Step batch) framed → Applies d batch → Commits state {T = Unit {0}} {E = DiskFault} d batch old mid (Ok tt))
    (alone : (d : Durable) (batch : List Change) → Represents state d old → IsBodyOf (Step batch) framed → Applies d batch
    → LeavesOnly (StandsBeforeOrAfter old.generation d batch) (chosen_disk old.is_second (disks_of state old)) (chosen_disk old.is_second (disks_of state mid)))
    (ends : GoesOnOrFails state {T = Unit {0}} old mid (Ok tt)) (appended : Appended state {T = Unit {0}} {E = DiskFault} framed old mid (Ok tt))
    (next_alone : (e : Durable) → Represents state e mid → IsBodyOf (Whole e) whole
    → LeavesOnly (IsBelowOrNext mid.is_second mid.generation e) (other_disk mid.is_second (disks_of state mid)) (other_disk mid.is_second (disks_of state new))) where
  pub at_once_checkpointed : (Represents state d old → Checkpoints state {T = Unit {0}} {E = DiskFault} (durable_after d changes) mid new (Ok tt))
      → GoesOnOrFails state {T = Unit {0}} mid new (Ok tt) → Switched state {T = Unit {0}} {E = DiskFault} mid new (Ok tt) → StoresAtOnce state d changes old new (Ok Kept)
  at_once_checkpointed checkpoints ended switched =
      at_once_ended state d changes old new some
      (steps_checkpointed state d changes framed whole is applies some old mid new is_whole passes commits alone ends appended next_alone switched.uncalled (λ r. (checkpoints r).stored) ended switched)

  pub at_once_uncheckpointed : (e : DiskFault) → (Represents state d old → Checkpoints state {T = Unit {0}} {E = DiskFault} (durable_after d changes) mid new (Err e))
      → GoesOnOrFails state {T = Unit {0}} mid new (Err e) → Switched state {T = Unit {0}} {E = DiskFault} mid new (Err e) → StoresAtOnce state d changes old new (Err e)
  at_once_uncheckpointed e checkpoints ended switched =
      let rose : FaultsRose (faults (disks_of state mid)) (faults (disks_of state new)) = ended.cause.err refl in
      at_once_failed state d changes old new e some
      (steps_uncheckpointed state d changes framed whole is applies some old mid new is_whole passes commits alone ends appended next_alone switched.uncalled e.count (λ r. (checkpoints r).left) ended.cause.later rose ended.told ended.kept switched.calls)
