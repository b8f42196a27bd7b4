-- What a node's folder and its areas say.
use Rattle.std.proofs.Common.{◌≡◌, ℕ, ◌<◌, ◌≤◌, min, Bool, true, false, not, eqb, List, [], ◌∷◌, ◌++◌, length, length-take, take, drop, Result, Ok, Err, Some, refl, sym, ap, ◌∙◌, subst, arith}
use Rattle.std.specs.Prelude.{OnOk, slice_index}
use Rattle.std.proofs.Math.Nat.{min_comm}
use Rattle.std.proofs.lemmas.Bool.Decides.{nat_tests}
use Rattle.std.proofs.lemmas.List.{take_min}
use Rattle.op_outside.specs.Causes.{FaultsRose}
use Rattle.op_outside.specs.Disks.{DiskState, Does, Holds, IsSynced}
use Rattle.op_outside.specs.Disks.Edit.{Nothing, Write}
use Rattle.op_outside.specs.declared.disk.DiskFail.{DiskFail}
use Rattle.op_outside.proofs.Runs.{goes_on_still, now_torn}
use Rattle.op_journal.specs.Areas.{open_gate}
use Rattle.op_journal.specs.Beginnings.{HasNone}
use Rattle.op_journal.specs.Readings.{IsNew}
use Rattle.op_setup.specs.Identities.{begun_line}
use Rattle.op_serve.specs.Folders.{FailsToMark, IsMarkedBegun, IsMarking, SaysEmpty, marking_of, most_text}

-- ---- whether there is an area

pub none_short : (content : List ℕ) (n : ℕ) → n ≤ 1 → n ≡ length content → HasNone content
none_short content n few is = (false, omega (arith, few, is))

pub first_says : (content first : List ℕ) (b : Bool) → 1 < length content → first ≡ take 1 (drop 0 content) → b ≡ not (eqb (slice_index first 0) open_gate) → SaysEmpty b content
first_says [] first b lt is e = absurd (omega arith)
first_says (x ∷ []) first b lt is e = absurd (omega arith)
first_says (x ∷ y ∷ rest) first b lt is e = by (eqb x open_gate) refl (e ∙ ap (λ (bs : List ℕ). not (eqb (slice_index bs 0) open_gate)) is)
  where
    by : (t : Bool) → eqb x open_gate ≡ t → b ≡ not (eqb x open_gate) → SaysEmpty b (x ∷ y ∷ rest)
    by true same says =
        let is_open : x ≡ open_gate = grind (arith, nat_tests) in
        let has : b ≡ false = says ∙ ap not same in
        subst (λ (t : Bool). SaysEmpty t (x ∷ y ∷ rest)) (sym has) (λ none. never none.0 none.1 is_open)
      where
        never : (closed : Bool) → IsNew (x ∷ y ∷ rest) closed → x ≡ open_gate → ⊥
        never false short opened = absurd (omega (arith, short))
        never true long opened = long.1 opened
    by false differs says =
        let has : b ≡ true = says ∙ ap not differs in
        let other : x ≡ open_gate → ⊥ = (λ opened. let same : eqb x open_gate ≡ true = grind (arith, nat_tests) in let both : true ≡ false = sym same ∙ differs in absurd cc) in
        subst (λ (t : Bool). SaysEmpty t (x ∷ y ∷ rest)) (sym has) (true, (omega arith, other))

-- ---- the first bytes of a disk

pub taken_start : (content : List ℕ) (len : ℕ) → len ≡ length content → take (min len most_text) content ≡ take most_text content
taken_start content len is = rw (is, min_comm (length content) most_text) (take_min most_text content)

taken : (before after : List ℕ) → take (length before) (before ++ after) ≡ before
taken [] after = refl
taken (b ∷ before) after = ap (λ (bs : List ℕ). b ∷ bs) (taken before after)

-- what was read of it into the front of a buffer
pub start_of : (content buf rest : List ℕ) (n k len : ℕ) → length buf ≡ n → buf ≡ take k (drop 0 content) → n ≡ min len most_text → len ≡ length content
    → take n (buf ++ rest) ≡ take most_text content
start_of content buf rest n k len size is small at =
    let whole : take n (buf ++ rest) ≡ buf = subst (λ (m : ℕ). take m (buf ++ rest) ≡ buf) size (taken buf rest) in
    let counted : min k (length content) ≡ n = sym (length-take _ _) ∙ ap (λ (bs : List ℕ). length bs) (sym is) ∙ size in
    whole ∙ is ∙ sym (take_min k content) ∙ ap (λ (m : ℕ). take m content) (counted ∙ small) ∙ taken_start content len at

-- ---- the folder is told

module _ (at : ℕ) (old mid new : DiskState) where
  pub unwritten : {T : Type 0} (e : DiskFail) → Does {T = T} {E = DiskFail} (Write at begun_line) old mid (Err e) → FailsToMark at old mid
  unwritten e does = record {
    model = does.model;
    mark = does.mark;
    rose = does.cause.err refl;
    left = λ obey c left. now_torn (Write at begun_line) old mid (does.goes_on obey) c left;
  }

  module _ {T U : Type 0} (x : T) (wrote : Does {E = DiskFail} (Write at begun_line) old mid (Ok x)) where
    synced : (y : U) → Does {E = DiskFail} Nothing mid new (Ok y) → IsSynced new → IsMarkedBegun at old new
    synced y does is = record {
      model = (λ z. wrote.model.0 (does.model.0 z), λ z. does.model.1 (wrote.model.1 z));
      mark = does.mark ∙ wrote.mark;
      no_fault = does.cause.ok ∙ wrote.cause.ok;
      written = λ obey. subst (Holds old.content at begun_line) (sym (does.done (wrote.model.1 obey))) (wrote.done obey);
      synced = is;
    }

    unsynced : (e : DiskFail) → Does {T = U} {E = DiskFail} Nothing mid new (Err e) → FailsToMark at old new
    unsynced e does = record {
      model = (λ z. wrote.model.0 (does.model.0 z), λ z. does.model.1 (wrote.model.1 z));
      mark = does.mark ∙ wrote.mark;
      rose = subst (λ (n : ℕ). FaultsRose n new.faults) wrote.cause.ok (does.cause.err refl);
      left = λ obey c left. now_torn (Write at begun_line) old new (goes_on_still (Write at begun_line) old mid new (wrote.goes_on obey) (does.goes_on (wrote.model.1 obey))) c left;
    }

-- a sync behind the line's write
pub marks_so : {G : Type 0} (state : G → DiskState) (at : ℕ) (old mid new : G) (r : Result (Unit {0}) DiskFail) → Does {T = Unit {0}} {E = DiskFail} (Write at begun_line) (state old) (state mid) (Ok tt)
    → Does Nothing (state mid) (state new) r → OnOk r (IsSynced (state new)) → IsMarking state (Some at) old new (marking_of r)
marks_so state at old mid new (Ok y) wrote does is = synced at (state old) (state mid) (state new) tt wrote y does is
marks_so state at old mid new (Err e) wrote does is = unsynced at (state old) (state mid) (state new) tt wrote e does
