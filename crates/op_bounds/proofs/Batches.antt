-- A batch whose changes each fit the part before them applies, is in range, and leaves the part in range.
use Rattle.std.proofs.Common.{◌≡◌, ◌≤◌, ◌+◌, ◌-◌, ℕ, List, [], ◌∷◌, ◌++◌, length, take, drop, map, Some, refl, arith, length-append, All}
use Rattle.std.proofs.lemmas.List.Elements.{All-nil, All-cons}
use Rattle.std.proofs.lemmas.List.{length-take-le, length-drop}
use Rattle.op_types.specs.Limits.{positions_end}
use Rattle.op_types.specs.Ranges.{IsConf, IsPlace, BallotInRange, MembersInRange}
use Rattle.op_types.specs.Changes.{len_of, part_with, durable_with, durable_after, Applies}
use Rattle.op_types.specs.declared.durable.Part.{Part}
use Rattle.op_types.specs.declared.durable.Durable.{Durable}
use Rattle.op_types.specs.declared.changes.Change.{Change}
use Rattle.op_types.specs.declared.changes.Change.TheVariants as change
use Rattle.op_spec.specs.Service.{base_bytes}
use Rattle.op_kv.specs.Bases.{IsBase}
use Rattle.op_record.specs.Ranges.{PartInRange, ChangeInRange}
use Rattle.op_protocol.specs.Bases.{service_at}
use Rattle.op_protocol.specs.Parts.{part_after}
use Rattle.op_protocol.specs.Rows.{based}
use Rattle.op_protocol.proofs.Based.{with_base}
use Rattle.op_bounds.specs.Messages.{BallotOf}
use Rattle.op_bounds.specs.States.{PartOf}
use Rattle.op_bounds.proofs.Entries.{EntriesIn, entries_range, entries_names, entries_of_both, both_entries, first_entries, last_entries}

-- a part in range but for its base
pub record PartCore (p : Part) : Type 0 where
  pub conf : IsConf p.conf
  pub members : MembersInRange p.members
  pub promised : BallotInRange p.promised
  pub accepted : BallotInRange p.accepted
  pub len : IsPlace (len_of p)
  pub decided : (p.trimmed ≤ p.decided) × (p.decided ≤ len_of p)
  pub room : p.tail.room ≡ 0

-- a part in range but for its base, which names known ids
pub record PartIn (Known : ℕ → Type 0) (p : Part) : Type 0 where
  pub range : PartCore p
  pub members : All Known p.members
  pub promised : BallotOf Known p.promised
  pub accepted : BallotOf Known p.accepted
  pub entries : EntriesIn Known p.conf p.tail.items

-- ---- from what is stored, and to it

pub part_in : (Known : ℕ → Type 0) (p : Part) → PartInRange p → PartOf Known p → PartIn Known p
part_in Known p r of =
    record {
      range = record { conf = r.conf; members = r.members; promised = r.promised; accepted = r.accepted; len = r.len; decided = r.decided; room = r.room };
      members = of.members;
      promised = of.promised;
      accepted = of.accepted;
      entries = record { each = entries_of_both Known p.tail.items r.entries of.entries; ends = r.ends };
    }

pub part_in_range : (Known : ℕ → Type 0) (p : Part) (x : List ℕ) → PartIn Known p → IsBase x → PartInRange (with_base p x)
part_in_range Known p x k base =
    let r = k.range in
    record {
      conf = r.conf;
      members = r.members;
      promised = r.promised;
      accepted = r.accepted;
      base = base;
      len = r.len;
      entries = entries_range Known p.tail.items k.entries.each;
      ends = k.entries.ends;
      decided = r.decided;
      room = r.room;
    }

pub part_of : (Known : ℕ → Type 0) (p : Part) (x : List ℕ) → PartIn Known p → PartOf Known (with_base p x)
part_of Known p x k = record { members = k.members; promised = k.promised; accepted = k.accepted; entries = entries_names Known p.tail.items k.entries.each }

-- ---- changes

-- the change fits the part
abbrev pub ChangeFits : (ℕ → Type 0) → Part → Change → Type 0
ChangeFits Known p (change.Promise b) = BallotOf Known b
ChangeFits Known p (change.Accept b) = BallotOf Known b
ChangeFits Known p (change.CutTo n) = (p.decided ≤ n) × (n ≤ len_of p)
ChangeFits Known p (change.Append es) = (len_of p + length es ≤ positions_end) × EntriesIn Known p.conf es
ChangeFits Known p (change.Decided x) = (p.decided ≤ x) × (x ≤ len_of p)
ChangeFits Known p (change.Trim x base) = (p.trimmed ≤ x) × (x ≤ p.decided)
ChangeFits Known p _ = ⊥

-- each change fits what those before it made
abbrev pub BatchFits : (ℕ → Type 0) → Part → List Change → Type 0
BatchFits Known p [] = Unit {0}
BatchFits Known p (c ∷ batch) = ChangeFits Known p c × BatchFits Known (part_with p c) batch

pub after_one : (Known : ℕ → Type 0) (p : Part) (c : Change) → PartIn Known p → ChangeFits Known p c → PartIn Known (part_with p c)
after_one Known p (change.Promise b) k fit =
    let r = k.range in
    record {
      range = record { conf = r.conf; members = r.members; promised = fit.range; accepted = r.accepted; len = r.len; decided = r.decided; room = r.room };
      members = k.members;
      promised = fit;
      accepted = k.accepted;
      entries = k.entries;
    }
after_one Known p (change.Accept b) k fit =
    let r = k.range in
    record {
      range = record { conf = r.conf; members = r.members; promised = r.promised; accepted = fit.range; len = r.len; decided = r.decided; room = r.room };
      members = k.members;
      promised = k.promised;
      accepted = fit;
      entries = k.entries;
    }
after_one Known p (change.CutTo n) k fit =
    let r = k.range in
    let size : length (take (n - p.trimmed) p.tail.items) ≡ n - p.trimmed = length-take-le (n - p.trimmed) p.tail.items (omega (arith, fit.1)) in
    record {
      range = record { conf = r.conf; members = r.members; promised = r.promised; accepted = r.accepted; len = omega (arith, size, fit.1, r.len); decided = (r.decided.0, omega (arith, size, fit.0)); room = r.room };
      members = k.members;
      promised = k.promised;
      accepted = k.accepted;
      entries = first_entries Known p.conf (n - p.trimmed) p.tail.items k.entries;
    }
after_one Known p (change.Append es) k fit =
    let r = k.range in
    let size : length (p.tail.items ++ es) ≡ length p.tail.items + length es = length-append p.tail.items es in
    record {
      range = record { conf = r.conf; members = r.members; promised = r.promised; accepted = r.accepted; len = omega (arith, size, fit.0); decided = (r.decided.0, omega (arith, size, r.decided)); room = r.room };
      members = k.members;
      promised = k.promised;
      accepted = k.accepted;
      entries = both_entries Known p.conf p.tail.items es k.entries fit.1;
    }
after_one Known p (change.Decided x) k fit =
    let r = k.range in
    record {
      range = record { conf = r.conf; members = r.members; promised = r.promised; accepted = r.accepted; len = r.len; decided = (omega (arith, r.decided, fit), fit.1); room = r.room };
      members = k.members;
      promised = k.promised;
      accepted = k.accepted;
      entries = k.entries;
    }
after_one Known p (change.Trim x base) k fit =
    let r = k.range in
    let size : length (drop (x - p.trimmed) p.tail.items) ≡ length p.tail.items - (x - p.trimmed) = length-drop (x - p.trimmed) p.tail.items in
    record {
      range = record { conf = r.conf; members = r.members; promised = r.promised; accepted = r.accepted; len = omega (arith, size, fit, r.len, r.decided); decided = (fit.1, omega (arith, size, fit, r.decided)); room = r.room };
      members = k.members;
      promised = k.promised;
      accepted = k.accepted;
      entries = last_entries Known p.conf (x - p.trimmed) p.tail.items k.entries;
    }
after_one Known p (change.Close named base) k fit = absurd fit
after_one Known p (change.JoinBegin conf members olds len) k fit = absurd fit
after_one Known p (change.JoinDonor q trimmed) k fit = absurd fit
after_one Known p (change.JoinBase at base) k fit = absurd fit
after_one Known p (change.JoinPart at es) k fit = absurd fit
after_one Known p (change.JoinDone base) k fit = absurd fit
after_one Known p (change.Rebase c members at base) k fit = absurd fit

-- ---- a batch

pub fits_both : (Known : ℕ → Type 0) (p : Part) (a b : List Change) → BatchFits Known p a → BatchFits Known (part_after p a) b → BatchFits Known p (a ++ b)
fits_both Known p [] b fa fb = fb
fits_both Known p (c ∷ a) b fa fb = (fa.0, fits_both Known (part_with p c) a b fa.1 fb)

pub part_after-both : (p : Part) (a b : List Change) → part_after p (a ++ b) ≡ part_after (part_after p a) b
part_after-both p [] b = refl
part_after-both p (c ∷ a) b = part_after-both (part_with p c) a b

pub after_batch : (Known : ℕ → Type 0) (p : Part) (batch : List Change) → PartIn Known p → BatchFits Known p batch → PartIn Known (part_after p batch)
after_batch Known p [] k fit = k
after_batch Known p (c ∷ batch) k fit = after_batch Known (part_with p c) batch (after_one Known p c k fit.0) fit.1

-- ---- a batch with its bases

-- the bases that a part gives to what it trims
abbrev HasBases : Part → Type 0
HasBases p = (x : ℕ) → IsBase (base_bytes (service_at p x))

range_one : (Known : ℕ → Type 0) (o p : Part) (c : Change) → HasBases o → PartIn Known p → ChangeFits Known p c → ChangeInRange (based o c)
range_one Known o p (change.Promise b) has k fit = fit.range
range_one Known o p (change.Accept b) has k fit = fit.range
range_one Known o p (change.CutTo n) has k fit = omega (arith, k.range.len)
range_one Known o p (change.Append es) has k fit = record { few = omega arith; each = entries_range Known es fit.1.each }
range_one Known o p (change.Decided x) has k fit = omega (arith, k.range.len)
range_one Known o p (change.Trim x base) has k fit = (omega (arith, k.range.len, k.range.decided), has x)
range_one Known o p (change.Close named base) has k fit = absurd fit
range_one Known o p (change.JoinBegin conf members olds len) has k fit = absurd fit
range_one Known o p (change.JoinDonor q trimmed) has k fit = absurd fit
range_one Known o p (change.JoinBase at base) has k fit = absurd fit
range_one Known o p (change.JoinPart at es) has k fit = absurd fit
range_one Known o p (change.JoinDone base) has k fit = absurd fit
range_one Known o p (change.Rebase c members at base) has k fit = absurd fit

pub range_batch : (Known : ℕ → Type 0) (o p : Part) (batch : List Change) → HasBases o → PartIn Known p → BatchFits Known p batch → All ChangeInRange (map (based o) batch)
range_batch Known o p [] has k fit = All-nil ChangeInRange
range_batch Known o p (c ∷ batch) has k fit =
    All-cons ChangeInRange (based o c) (map (based o) batch) (range_one Known o p c has k fit.0) (range_batch Known o (part_with p c) batch has (after_one Known p c k fit.0) fit.1)

-- what a batch with its bases makes of a part with a base
pub record Rebased (p q : Part) : Type 0 where
  pub bytes : List ℕ
  pub base : IsBase bytes
  pub is : q ≡ with_base p bytes

-- a durable state with this part
abbrev pub with_part : Durable → Part → Durable
with_part d p = record d { part = Some p }

-- it applies, and leaves the part with some base
pub record Lands (d : Durable) (o q : Part) (x : List ℕ) (batch : List Change) : Type 0 where
  pub applies : Applies (with_part d (with_base q x)) (map (based o) batch)
  pub left : Rebased (part_after q batch) (part_after (with_base q x) (map (based o) batch))
  pub stored : durable_after (with_part d (with_base q x)) (map (based o) batch) ≡ with_part d (part_after (with_base q x) (map (based o) batch))

pub lands : (Known : ℕ → Type 0) (d : Durable) (o q : Part) (x : List ℕ) (batch : List Change) → HasBases o → IsBase x → BatchFits Known q batch → Lands d o q x batch
lands Known d o q x [] has base fit = record { applies = tt; left = record { bytes = x; base = base; is = refl }; stored = refl }
lands Known d o q x (change.Promise b ∷ batch) has base fit =
    let k = lands Known d o (part_with q (change.Promise b)) x batch has base fit.1 in record { applies = (tt, k.applies); left = k.left; stored = k.stored }
lands Known d o q x (change.Accept b ∷ batch) has base fit =
    let k = lands Known d o (part_with q (change.Accept b)) x batch has base fit.1 in record { applies = (tt, k.applies); left = k.left; stored = k.stored }
lands Known d o q x (change.CutTo n ∷ batch) has base fit =
    let k = lands Known d o (part_with q (change.CutTo n)) x batch has base fit.1 in record { applies = (fit.0, k.applies); left = k.left; stored = k.stored }
lands Known d o q x (change.Append es ∷ batch) has base fit =
    let k = lands Known d o (part_with q (change.Append es)) x batch has base fit.1 in
    record { applies = ((fit.0.0, fit.0.1.ends), k.applies); left = k.left; stored = k.stored }
lands Known d o q x (change.Decided n ∷ batch) has base fit =
    let k = lands Known d o (part_with q (change.Decided n)) x batch has base fit.1 in record { applies = (fit.0, k.applies); left = k.left; stored = k.stored }
lands Known d o q x (change.Trim n old ∷ batch) has base fit =
    let k = lands Known d o (part_with q (change.Trim n old)) (base_bytes (service_at o n)) batch has (has n) fit.1 in
    record { applies = (fit.0, k.applies); left = k.left; stored = k.stored }
lands Known d o q x (change.Close named b ∷ batch) has base fit = absurd fit.0
lands Known d o q x (change.JoinBegin conf members olds len ∷ batch) has base fit = absurd fit.0
lands Known d o q x (change.JoinDonor p trimmed ∷ batch) has base fit = absurd fit.0
lands Known d o q x (change.JoinBase at b ∷ batch) has base fit = absurd fit.0
lands Known d o q x (change.JoinPart at es ∷ batch) has base fit = absurd fit.0
lands Known d o q x (change.JoinDone b ∷ batch) has base fit = absurd fit.0
lands Known d o q x (change.Rebase c members at b ∷ batch) has base fit = absurd fit.0

-- ---- one batch after another

pub applies_both : (d : Durable) (a b : List Change) → Applies d a → Applies (durable_after d a) b → Applies d (a ++ b)
applies_both d [] b x y = y
applies_both d (c ∷ a) b x y = (x.0, applies_both (durable_with d c) a b x.1 y)
