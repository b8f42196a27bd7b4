-- A batch in range that applies keeps a durable state in range.
use Rattle.std.proofs.Common.{◌≡◌, ℕ, zero, suc, ◌+◌, ◌-◌, ◌≤◌, ◌<◌, Bool, true, false, List, [], ◌∷◌, ◌++◌, length, take, drop, Option, Some, None, refl, arith, length-append, length-drop, All}
use Rattle.std.specs.Prelude.{IfSome, is_some, if◌then◌else◌}
use Rattle.std.specs.declared.cmp.Ordering.{Ordering}
use Rattle.std.specs.declared.cmp.Ordering.TheVariants.{Less, Equal, Greater}
use Rattle.std.specs.Ordering.{nat_cmp, is_eq, match_ordering, MatchOrdering}
use Rattle.std.specs.Cmp.{ranks}
use Rattle.std.specs.BTreeMap.{insert_entry}
use Rattle.std.proofs.lemmas.List.Elements.{All-cons, All-head, All-tail, All-append, All-take, All-drop}
use Rattle.std.proofs.lemmas.List.{length-take-le}
use Rattle.op_types.specs.Limits.{greatest_pid, last_conf}
use Rattle.op_types.specs.Ranges.{IsPlace, MembersInRange, EntryInRange}
use Rattle.op_types.specs.Stops.{stop_of, stop_at_end, named_by}
use Rattle.op_types.specs.Joinings.{Base, held_at, held_with_entry, held_with, with_first, held_run, covered}
use Rattle.op_types.specs.Changes.{IsCommand, IsEnded, decided_tail, part_with, part_option_with, new_part, part_based, closed_by, part_after_closed, durable_closing, durable_joined, joining_with, joining_option_with, durable_joining, durable_with, durable_after, PartApplies, PartOptionApplies, JoiningApplies, JoiningOptionApplies, ChangeApplies, Applies}
use Rattle.op_types.specs.declared.log.Entry.{Entry}
use Rattle.op_types.specs.declared.log.Entry.TheVariants as entry
use Rattle.op_types.specs.declared.durable.Part.{Part}
use Rattle.op_types.specs.declared.durable.Closed.{Closed}
use Rattle.op_types.specs.declared.durable.Joining.{Joining}
use Rattle.op_types.specs.declared.durable.Durable.{Durable}
use Rattle.op_types.specs.declared.changes.Change.{Change}
use Rattle.op_types.specs.declared.changes.Change.TheVariants as change
use Rattle.op_kv.specs.Bases.{IsBase}
use Rattle.op_record.specs.Ranges.{PartInRange, ClosedInRange, DonorsInRange, HeldInRange, JoiningInRange, DurableInRange, ChangeInRange}

-- ---- a part

part_after : (p : Part) (c : Change) → PartInRange p → ChangeInRange c → PartApplies p c → PartInRange (part_with p c)
part_after p (change.Promise b) r range applies =
    record { conf = r.conf; members = r.members; promised = range; accepted = r.accepted; base = r.base; len = r.len; entries = r.entries; ends = r.ends; decided = r.decided; room = r.room }
part_after p (change.Accept b) r range applies =
    record { conf = r.conf; members = r.members; promised = r.promised; accepted = range; base = r.base; len = r.len; entries = r.entries; ends = r.ends; decided = r.decided; room = r.room }
part_after p (change.CutTo n) r range applies =
    let size : length (take (n - p.trimmed) p.tail.items) ≡ n - p.trimmed = length-take-le (n - p.trimmed) p.tail.items (omega (arith, applies.1)) in
    record {
      conf = r.conf;
      members = r.members;
      promised = r.promised;
      accepted = r.accepted;
      base = r.base;
      len = omega (arith, size, applies.1, r.len);
      entries = All-take EntryInRange (n - p.trimmed) p.tail.items r.entries;
      ends = λ last. All-take IsCommand (n - p.trimmed) p.tail.items (r.ends last);
      decided = (r.decided.0, omega (arith, size, applies, r.decided));
      room = r.room;
    }
part_after p (change.Append es) r range applies =
    let size : length (p.tail.items ++ es) ≡ length p.tail.items + length es = length-append p.tail.items es in
    record {
      conf = r.conf;
      members = r.members;
      promised = r.promised;
      accepted = r.accepted;
      base = r.base;
      len = omega (arith, size, applies.0);
      entries = All-append EntryInRange p.tail.items es r.entries range.each;
      ends = λ last. All-append IsCommand p.tail.items es (r.ends last) (applies.1 last);
      decided = (r.decided.0, omega (arith, size, r.decided));
      room = r.room;
    }
part_after p (change.Decided x) r range applies =
    record { conf = r.conf; members = r.members; promised = r.promised; accepted = r.accepted; base = r.base; len = r.len; entries = r.entries; ends = r.ends; decided = (omega (arith, r.decided, applies), applies.1); room = r.room }
part_after p (change.Trim x base) r range applies =
    let size : length (drop (x - p.trimmed) p.tail.items) ≡ length p.tail.items - (x - p.trimmed) = length-drop (x - p.trimmed) p.tail.items in
    record {
      conf = r.conf;
      members = r.members;
      promised = r.promised;
      accepted = r.accepted;
      base = range.1;
      len = omega (arith, size, applies, r.decided, r.len);
      entries = All-drop EntryInRange (x - p.trimmed) p.tail.items r.entries;
      ends = λ last. All-drop IsCommand (x - p.trimmed) p.tail.items (r.ends last);
      decided = (applies.1, omega (arith, size, applies, r.decided));
      room = r.room;
    }
part_after p (change.Close named base) r range applies = r
part_after p (change.JoinBegin conf members olds len) r range applies = absurd applies
part_after p (change.JoinDonor q trimmed) r range applies = absurd applies
part_after p (change.JoinBase at base) r range applies = absurd applies
part_after p (change.JoinPart at es) r range applies = absurd applies
part_after p (change.JoinDone base) r range applies = absurd applies
part_after p (change.Rebase conf members at base) r range applies = absurd applies

option_after : (o : Option Part) (c : Change) → IfSome o PartInRange → ChangeInRange c → PartOptionApplies o c → IfSome (part_option_with o c) PartInRange
option_after None c r range applies = absurd applies
option_after (Some p) c r range applies = part_after p c r range applies

-- ---- a part is closed

stop_members : (e : Entry) → EntryInRange e → is_some (stop_of e) ≡ true → MembersInRange (named_by (stop_of e))
stop_members (entry.Command c) range is = absurd (cc)
stop_members (entry.Stop s) range is = range.members

-- whom the stop-sign at the end of a list names
named_in_range : (es : List Entry) → All EntryInRange es → is_some (stop_at_end es) ≡ true → MembersInRange (named_by (stop_at_end es))
named_in_range [] range is = absurd (cc)
named_in_range (e ∷ []) range is = stop_members e (All-head EntryInRange e [] range) is
named_in_range (e ∷ f ∷ es) range is = named_in_range (f ∷ es) (All-tail EntryInRange e (f ∷ es) range) is

ended_some : (es : List Entry) → is_some (stop_at_end es) ≡ true → 1 ≤ length es
ended_some [] is = absurd (cc)
ended_some (e ∷ es) is = omega arith

based_in_range : (conf : ℕ) (members : List ℕ) (at : ℕ) (base : List ℕ) → 1 ≤ conf → conf ≤ last_conf → MembersInRange members → IsPlace at → IsBase base → PartInRange (part_based conf members at base)
based_in_range conf members at base low high range place is =
    record {
      conf = (low, high);
      members = range;
      promised = record { number = omega arith; pid = omega arith; owner = λ some. absurd (omega arith) };
      accepted = record { number = omega arith; pid = omega arith; owner = λ some. absurd (omega arith) };
      base = is;
      len = omega (arith, place);
      entries = λ k d lt. absurd (omega arith);
      ends = λ last k d lt. absurd (omega arith);
      decided = (omega arith, omega arith);
      room = refl;
    }

new_part_in_range : (conf : ℕ) (members base : List ℕ) → 1 ≤ conf → conf ≤ last_conf → MembersInRange members → IsBase base → PartInRange (new_part conf members base)
new_part_in_range conf members base low high range is = based_in_range conf members 0 base low high range (omega arith) is

closed_in_range : (p : Part) → PartInRange p → IsEnded p → ClosedInRange (closed_by p)
closed_in_range p r ended =
    let count = p.decided - p.trimmed in
    let size : length (decided_tail p) ≡ count = length-take-le count p.tail.items (omega (arith, r.decided)) in
    let each = All-take EntryInRange count p.tail.items r.entries in
    let some = ended_some (decided_tail p) ended.0 in
    record {
      conf = (r.conf.0, ended.1);
      olds = r.members;
      next = named_in_range (decided_tail p) each ended.0;
      base = r.base;
      len = (omega (arith, some), omega (arith, size, r.decided, r.len));
      entries = each;
    }

part_closing : (l : Closed) (named : Bool) (base : List ℕ) → ClosedInRange l → IsBase base → IfSome (part_after_closed l named base) PartInRange
part_closing l true base r is = new_part_in_range (l.conf + 1) l.next base (omega arith) (omega (arith, r.conf.1)) r.next is
part_closing l false base r is = tt

closing_after : (o : Option Part) (d : Durable) (named : Bool) (base : List ℕ) → IfSome o PartInRange → DurableInRange d → IsBase base → PartOptionApplies o (change.Close named base)
    → DurableInRange (durable_closing o d named base)
closing_after None d named base part r is applies = absurd applies
closing_after (Some p) d named base part r is applies =
    let closed = closed_in_range p part applies in
    record { part = part_closing (closed_by p) named base closed is; closed = closed; joining = r.joining }

-- ---- donors

inserted_few : {X : Type 0} (q : ℕ) (v : X) (xs : List (ℕ × X)) → length (insert_entry nat_cmp xs q v) ≤ length xs + 1
inserted_few q v [] = omega arith
inserted_few {X = X} q v (x ∷ xs) = by_order (nat_cmp q x.0) (inserted_few q v xs)
  where
    by_order : (o : Ordering) → length (insert_entry nat_cmp xs q v) ≤ length xs + 1
        → length (match_ordering o ((q, v) ∷ x ∷ xs) ((x.0, v) ∷ xs) (x ∷ insert_entry nat_cmp xs q v)) ≤ length (x ∷ xs) + 1
    by_order Less h = omega arith
    by_order Equal h = omega arith
    by_order Greater h = omega (arith, h)

donor_inserted : (len q trimmed : ℕ) → q ≤ greatest_pid → trimmed ≤ len → (low : ℕ) (donors : List (ℕ × ℕ)) → low < q → DonorsInRange len low donors → DonorsInRange len low (insert_entry nat_cmp donors q trimmed)
donor_inserted len q trimmed small within low [] above r = (above, small, within, tt)
donor_inserted len q trimmed small within low (x ∷ xs) above r = by_order (nat_cmp q x.0) (ranks q x.0) (λ h. donor_inserted len q trimmed small within x.0 xs h r.3)
  where
    by_order : (o : Ordering) → MatchOrdering o (q < x.0) (q ≡ x.0) (x.0 < q) → (x.0 < q → DonorsInRange len x.0 (insert_entry nat_cmp xs q trimmed))
        → DonorsInRange len low (match_ordering o ((q, trimmed) ∷ x ∷ xs) ((x.0, trimmed) ∷ xs) (x ∷ insert_entry nat_cmp xs q trimmed))
    by_order Less h next = (above, small, within, (h, r.1, r.2, r.3))
    by_order Equal h next = (r.0, r.1, within, r.3)
    by_order Greater h next = (r.0, r.1, r.2, next h)

-- ---- what is held

entry_inserted : (len n : ℕ) (e : Entry) → n < len → EntryInRange e → (low : ℕ) (held : List (ℕ × Entry)) → low ≤ n → HeldInRange len low held → HeldInRange len low (insert_entry nat_cmp held n e)
entry_inserted len n e below range low [] from r = (from, below, range, tt)
entry_inserted len n e below range low (x ∷ xs) from r = by_order (nat_cmp n x.0) (ranks n x.0) (λ h. entry_inserted len n e below range (x.0 + 1) xs (omega (arith, h)) r.3)
  where
    by_order : (o : Ordering) → MatchOrdering o (n < x.0) (n ≡ x.0) (x.0 < n) → (x.0 < n → HeldInRange len (x.0 + 1) (insert_entry nat_cmp xs n e))
        → HeldInRange len low (match_ordering o ((n, e) ∷ x ∷ xs) ((x.0, e) ∷ xs) (x ∷ insert_entry nat_cmp xs n e))
    by_order Less h next = (from, below, range, (omega (arith, h), r.1, r.2, r.3))
    by_order Equal h next = (r.0, r.1, range, r.3)
    by_order Greater h next = (r.0, r.1, r.2, next h)

entry_held : (len n : ℕ) (e : Entry) (held : List (ℕ × Entry)) → n < len → EntryInRange e → HeldInRange len 0 held → HeldInRange len 0 (held_with_entry held n e)
entry_held len n e held below range r =
    elim (is_some (held_at held n)) as (λ b. HeldInRange len 0 (if b then held else insert_entry nat_cmp held n e))
    [ true ↦ r | false ↦ entry_inserted len n e below range 0 held (omega arith) r ]

entries_held : (len at : ℕ) (es : List Entry) (held : List (ℕ × Entry)) → at + length es ≤ len → All EntryInRange es → HeldInRange len 0 held → HeldInRange len 0 (held_with held at es)
entries_held len at [] held within range r = r
entries_held len at (e ∷ es) held within range r =
    entries_held len (at + 1) es (held_with_entry held at e) (omega (arith, within)) (All-tail EntryInRange e es range)
    (entry_held len at e held (omega (arith, within)) (All-head EntryInRange e es range) r)

-- an entry that is held, and a run of them

entry_there : (len n low : ℕ) (held : List (ℕ × Entry)) → HeldInRange len low held → IfSome (held_at held n) EntryInRange
entry_there len n low [] r = tt
entry_there len n low (x ∷ xs) r =
    elim (is_eq (nat_cmp n x.0)) as (λ b. IfSome (if b then Some x.1 else held_at xs n) EntryInRange)
    [ true ↦ r.2 | false ↦ entry_there len n (x.0 + 1) xs r.3 ]

abbrev AreEntries : ℕ → List Entry → Type 0
AreEntries count es = All EntryInRange es × (length es ≡ count)

first_there : (count : ℕ) (o : Option Entry) (p : Option (List Entry)) → IfSome o EntryInRange → IfSome p (AreEntries count) → IfSome (with_first o p) (AreEntries (suc count))
first_there count None p h k = tt
first_there count (Some e) None h k = tt
first_there count (Some e) (Some es) h k = (All-cons EntryInRange e es h k.0, omega (arith, k.1))

run_there : (len at count : ℕ) (held : List (ℕ × Entry)) → HeldInRange len 0 held → IfSome (held_run held at count) (AreEntries count)
run_there len at zero held r = (λ k d lt. absurd (omega arith), refl)
run_there len at (suc count) held r =
    first_there count (held_at held at) (held_run held (at + 1) count) (entry_there len at 0 held r) (run_there len (at + 1) count held r)

-- ---- while joining

joining_after : (j : Joining) (c : Change) → JoiningInRange j → ChangeInRange c → JoiningApplies j c → JoiningInRange (joining_with j c)
joining_after j (change.JoinDonor q trimmed) r range applies =
    let few = inserted_few q trimmed j.donors in
    record {
      conf = r.conf;
      members = r.members;
      olds = r.olds;
      len = r.len;
      few = omega (arith, few, applies.few);
      donors = donor_inserted j.len q trimmed range.0.1 applies.within 0 j.donors (omega (arith, range.0.0)) r.donors;
      base = r.base;
      held = r.held;
      room = r.room;
    }
joining_after j (change.JoinBase at base) r range applies =
    record { conf = r.conf; members = r.members; olds = r.olds; len = r.len; few = r.few; donors = r.donors; base = (applies.1, range.1); held = r.held; room = r.room }
joining_after j (change.JoinPart at es) r range applies =
    record {
      conf = r.conf;
      members = r.members;
      olds = r.olds;
      len = r.len;
      few = r.few;
      donors = r.donors;
      base = r.base;
      held = entries_held j.len at es j.held.items applies range.1.each r.held;
      room = r.room;
    }
joining_after j (change.JoinDone base) r range applies = r
joining_after j (change.Promise b) r range applies = absurd applies
joining_after j (change.Accept b) r range applies = absurd applies
joining_after j (change.CutTo n) r range applies = absurd applies
joining_after j (change.Append es) r range applies = absurd applies
joining_after j (change.Decided x) r range applies = absurd applies
joining_after j (change.Trim x base) r range applies = absurd applies
joining_after j (change.Close named base) r range applies = absurd applies
joining_after j (change.JoinBegin conf members olds len) r range applies = absurd applies
joining_after j (change.Rebase conf members at base) r range applies = absurd applies

joining_option_after : (o : Option Joining) (c : Change) → IfSome o JoiningInRange → ChangeInRange c → JoiningOptionApplies o c → IfSome (joining_option_with o c) JoiningInRange
joining_option_after None c r range applies = absurd applies
joining_option_after (Some j) c r range applies = joining_after j c r range applies

-- ---- a node that was joining goes on

module _ (j : Joining) (base : List ℕ) (d : Durable) (joining : JoiningInRange j) (is : IsBase base) (r : DurableInRange d) where
  joined_with : (b : Base) (o : Option (List Entry)) → b.0 ≤ j.len → IsBase b.1 → IfSome o (AreEntries (j.len - b.0)) → DurableInRange (durable_joined j base (Some b) o d)
  joined_with b None within based entries = r
  joined_with b (Some es) within based entries =
      record {
        part = new_part_in_range j.conf j.members base (omega (arith, joining.conf)) joining.conf.1 joining.members is;
        closed =
            record {
              conf = (omega (arith, joining.conf), omega (arith, joining.conf));
              olds = joining.olds;
              next = joining.members;
              base = based;
              len = (omega (arith, entries.1, within, joining.len), omega (arith, entries.1, within, joining.len));
              entries = entries.0;
            };
        joining = tt;
      }

  joined_after : (o : Option Base) → IfSome o (λ b. (b.0 ≤ j.len) × IsBase b.1) → DurableInRange (durable_joined j base o (covered o j.held.items j.len) d)
  joined_after None h = r
  joined_after (Some b) h = joined_with b (held_run j.held.items b.0 (j.len - b.0)) h.0 h.1 (run_there j.len b.0 (j.len - b.0) j.held.items joining.held)

joining_ends : (o : Option Joining) (d : Durable) (base : List ℕ) → IfSome o JoiningInRange → IsBase base → DurableInRange d → DurableInRange (durable_joining o d base)
joining_ends None d base joining is r = r
joining_ends (Some j) d base joining is r = joined_after j base d joining is r j.base joining.base

-- ---- a batch

change_after : (d : Durable) (c : Change) → DurableInRange d → ChangeInRange c → ChangeApplies d c → DurableInRange (durable_with d c)
change_after d (change.Promise b) r range applies = record { part = option_after d.part (change.Promise b) r.part range applies; closed = r.closed; joining = r.joining }
change_after d (change.Accept b) r range applies = record { part = option_after d.part (change.Accept b) r.part range applies; closed = r.closed; joining = r.joining }
change_after d (change.CutTo n) r range applies = record { part = option_after d.part (change.CutTo n) r.part range applies; closed = r.closed; joining = r.joining }
change_after d (change.Append es) r range applies = record { part = option_after d.part (change.Append es) r.part range applies; closed = r.closed; joining = r.joining }
change_after d (change.Decided x) r range applies = record { part = option_after d.part (change.Decided x) r.part range applies; closed = r.closed; joining = r.joining }
change_after d (change.Trim x base) r range applies = record { part = option_after d.part (change.Trim x base) r.part range applies; closed = r.closed; joining = r.joining }
change_after d (change.Close named base) r range applies = closing_after d.part d named base r.part r range applies
change_after d (change.JoinBegin conf members olds len) r range applies =
    record {
      part = r.part;
      closed = r.closed;
      joining =
          record {
            conf = range.0;
            members = range.1;
            olds = range.2;
            len = range.3;
            few = omega arith;
            donors = tt;
            base = tt;
            held = tt;
            room = refl;
          };
    }
change_after d (change.JoinDonor q trimmed) r range applies =
    record { part = r.part; closed = r.closed; joining = joining_option_after d.joining (change.JoinDonor q trimmed) r.joining range applies }
change_after d (change.JoinBase at base) r range applies =
    record { part = r.part; closed = r.closed; joining = joining_option_after d.joining (change.JoinBase at base) r.joining range applies }
change_after d (change.JoinPart at es) r range applies =
    record { part = r.part; closed = r.closed; joining = joining_option_after d.joining (change.JoinPart at es) r.joining range applies }
change_after d (change.JoinDone base) r range applies = joining_ends d.joining d base r.joining range r
change_after d (change.Rebase conf members at base) r range applies = record { part = based_in_range conf members at base range.0.0 range.0.1 range.1 range.2 range.3; closed = r.closed; joining = r.joining }

pub batch_after : (d : Durable) (batch : List Change) → DurableInRange d → All ChangeInRange batch → Applies d batch → DurableInRange (durable_after d batch)
batch_after d [] r range applies = r
batch_after d (c ∷ batch) r range applies =
    batch_after (durable_with d c) batch (change_after d c r (All-head ChangeInRange c batch range) applies.0) (All-tail ChangeInRange c batch range) applies.1
