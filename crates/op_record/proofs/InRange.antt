-- Parts, closed lists, what is held while joining and durable states fit exactly where their fields do.
use Rattle.std.proofs.Common.{◌≡◌, ℕ, ◌+◌, ◌-◌, ◌≤◌, Bool, true, false, eqb, IsTrue, List, [], ◌∷◌, length, get_or, Option, Some, None, refl, sym, ap, ◌∙◌, arith, true≢false}
use Rattle.std.specs.Prelude.{IfSome, All, not}
use Rattle.std.proofs.lemmas.List.Elements.{All-cons}
use Rattle.std.proofs.lemmas.Bool.{eqb-true, eq-eqb, ltb-true, lt-ltb}
use Rattle.op_types.specs.Limits.{last_conf, positions_end}
use Rattle.op_types.specs.Changes.{IsCommand}
use Rattle.op_types.specs.Ranges.{EntryInRange, EntriesInRange}
use Rattle.op_types.specs.declared.log.Entry.{Entry}
use Rattle.op_types.specs.declared.log.Entry.TheVariants as entries
use Rattle.op_types.specs.declared.durable.Part.{Part}
use Rattle.op_types.specs.declared.durable.Closed.{Closed}
use Rattle.op_types.specs.declared.durable.Joining.{Joining}
use Rattle.op_types.specs.declared.durable.Durable.{Durable}
use Rattle.op_kv.specs.Bases.{IsBase}
use Rattle.op_fields.specs.Form.{Form, Items, optional_fits}
use Rattle.op_fields.proofs.Composites.{each_fits, all_fit}
use Rattle.op_record.specs.Ranges.{IsShort, PartFits, ClosedFits, DonorsInRange, HeldInRange, JoiningFits, DurableFits}
use Rattle.op_record.specs.Forms.{may_stand, entry_in, part_fields, PartFields, part_of, fields_of_part, closed_fields, ClosedFields, closed_of, fields_of_closed, donor, held_base, held_entry, JoiningFields, joining_fields, joining_of, fields_of_joining, part, closed, joining, durable_fields, durable_of, fields_of_durable}

-- ---- entries of a configuration

only_commands : (c : ℕ) (e : Entry) → IsTrue (may_stand c e) → c ≡ last_conf → IsCommand e
only_commands c (entries.Command x) t last = tt
only_commands c (entries.Stop s) t last = true≢false (sym t ∙ ap not (eq-eqb c last_conf last))

refuted : (b : Bool) → (b ≡ true → ⊥) → IsTrue (not b)
refuted true h = absurd (h refl)
refuted false h = refl

stands : (c : ℕ) (e : Entry) → (c ≡ last_conf → IsCommand e) → IsTrue (may_stand c e)
stands c (entries.Command x) h = refl
stands c (entries.Stop s) h = refuted (eqb c last_conf) (λ is. h (eqb-true c last_conf is))

-- ---- a part

pub part_fits : (x : ℕ × PartFields) → part_fields.fits x → PartFits (part_of x)
part_fits x fit =
    let log = fit.1.1.1.1.1 in
    let each = each_fits (entry_in x.0) (λ _. 0) 0 x.1.1.1.1.1.1.0 log.1.0.2 in (
      record {
        conf = fit.0;
        members = fit.1.0;
        promised = fit.1.1.0;
        accepted = fit.1.1.1.0;
        base = fit.1.1.1.1.0.0;
        len = omega (arith, log.1.0.1, log.0.1);
        entries = λ k d lt. (each k d lt).0;
        ends = λ last k d lt. only_commands x.0 (get_or x.1.1.1.1.1.1.0 k d) (each k d lt).1 last;
        decided = log.1.1;
        room = refl;
      },
      fit.1.1.1.1.0.1,
    )

pub part_fields_fit : (p : Part) → PartFits p → part_fields.fits (fields_of_part p)
part_fields_fit p h =
    let fit = h.0 in
    let each : All (λ e. (entry_in p.conf).fits e) p.tail.items = λ k d lt. (fit.entries k d lt, stands p.conf (get_or p.tail.items k d) (λ last. fit.ends last k d lt)) in
    (fit.conf, (fit.members, (fit.promised, (fit.accepted, ((fit.base, h.1), ((omega arith, omega (arith, fit.len)), ((omega arith, omega (arith, fit.len), all_fit (entry_in p.conf) (λ _. 0) 0 p.tail.items each), fit.decided)))))))

pub same_part : (p : Part) → p.tail.room ≡ 0 → part_of (fields_of_part p) ≡ p
same_part p none = ap (λ (room : ℕ). let q : Part = record p { tail = record p.tail { room = room } } in q) (sym none)

-- ---- a closed list

pub closed_fits : (x : ClosedFields) → closed_fields.fits x → ClosedFits (closed_of x)
closed_fits x fit =
    let log = fit.1.1.1.1 in
    let some = ltb-true 0 (x.1.1.1.1.0 + length x.1.1.1.1.1) log.1.1 in (
      record {
        conf = (fit.0.0, omega (arith, fit.0.1));
        olds = fit.1.0;
        next = fit.1.1.0;
        base = fit.1.1.1.0.0;
        len = (omega (arith, some), omega (arith, log.1.0.few, log.0.1));
        entries = log.1.0.each;
      },
      fit.1.1.1.0.1,
    )

pub closed_fields_fit : (l : Closed) → ClosedFits l → closed_fields.fits (fields_of_closed l)
closed_fields_fit l h =
    let fit = h.0 in
    let log : EntriesInRange (positions_end - l.trimmed) l.tail = record { few = omega (arith, fit.len.1); each = fit.entries } in
    ((fit.conf.0, omega (arith, fit.conf.1)), (fit.olds, (fit.next, ((fit.base, h.1), ((omega arith, omega (arith, fit.len.1)), (log, lt-ltb 0 (l.trimmed + length l.tail) (omega (arith, fit.len.0))))))))

-- ---- what is held while joining

donors_fit : (len low : ℕ) (ds : List (ℕ × ℕ)) → DonorsInRange len low ds → Items (donor len) (λ d. d.0) low ds
donors_fit len low [] h = tt
donors_fit len low (d ∷ ds) h = ((((omega (arith, h.0), h.1), lt-ltb low d.0 h.0), (omega arith, h.2)), donors_fit len d.0 ds h.3)

donors_in_range : (len low : ℕ) (ds : List (ℕ × ℕ)) → Items (donor len) (λ d. d.0) low ds → DonorsInRange len low ds
donors_in_range len low [] h = tt
donors_in_range len low (d ∷ ds) h = (ltb-true low d.0 h.0.0.1, h.0.0.0.1, h.0.1.1, donors_in_range len d.0 ds h.1)

held_fits : (len low : ℕ) (xs : List (ℕ × Entry)) → HeldInRange len low xs → Items (held_entry len) (λ x. x.0 + 1) low xs
held_fits len low [] h = tt
held_fits len low (x ∷ xs) h = (((h.0, omega (arith, h.1)), h.2), held_fits len (x.0 + 1) xs h.3)

held_in_range : (len low : ℕ) (xs : List (ℕ × Entry)) → 1 ≤ len → Items (held_entry len) (λ x. x.0 + 1) low xs → HeldInRange len low xs
held_in_range len low [] some h = tt
held_in_range len low (x ∷ xs) some h = (h.0.0.0, omega (arith, h.0.0.1, some), h.0.1, held_in_range len (x.0 + 1) xs some h.1)

pub held_each : (len low : ℕ) (xs : List (ℕ × Entry)) → HeldInRange len low xs → All (λ x. EntryInRange x.1) xs
held_each len low [] h = λ k d lt. absurd (omega arith)
held_each len low (x ∷ xs) h = All-cons (λ x. EntryInRange x.1) x xs h.2 (held_each len (x.0 + 1) xs h.3)

-- positions below the end that rise are no more than the end
held_few : (len low : ℕ) (xs : List (ℕ × Entry)) → low ≤ len → HeldInRange len low xs → low + length xs ≤ len
held_few len low [] le h = omega (arith, le)
held_few len low (x ∷ xs) le h = omega (arith, h.0, held_few len (x.0 + 1) xs (omega (arith, h.1)) h.3)

base_in_range : (len : ℕ) (b : Option (ℕ × List ℕ)) → (held_base len).fits b → IfSome b (λ b. (b.0 ≤ len) × IsBase b.1)
base_in_range len None h = tt
base_in_range len (Some b) h = (h.0.1, h.1.0)

base_is_short : (len : ℕ) (b : Option (ℕ × List ℕ)) → (held_base len).fits b → IfSome b (λ b. IsShort b.1)
base_is_short len None h = tt
base_is_short len (Some b) h = h.1.1

base_fits : (len : ℕ) (b : Option (ℕ × List ℕ)) → IfSome b (λ b. (b.0 ≤ len) × IsBase b.1) → IfSome b (λ b. IsShort b.1) → (held_base len).fits b
base_fits len None h s = tt
base_fits len (Some b) h s = ((omega arith, h.0), (h.1, s))

pub joining_fits : (x : JoiningFields) → joining_fields.fits x → JoiningFits (joining_of x)
joining_fits x fit =
    let len : ℕ = x.1.1.1.0 in
    let pieces = fit.1.1.1.1 in (
      record {
        conf = fit.0;
        members = fit.1.0;
        olds = fit.1.1.0;
        len = fit.1.1.1.0;
        few = pieces.0.1;
        donors = donors_in_range len 0 x.1.1.1.1.0 pieces.0.2;
        base = base_in_range len x.1.1.1.1.1.0 pieces.1.0;
        held = held_in_range len 0 x.1.1.1.1.1.1 fit.1.1.1.0.0 pieces.1.1.2;
        room = refl;
      },
      base_is_short len x.1.1.1.1.1.0 pieces.1.0,
    )

pub joining_fields_fit : (j : Joining) → JoiningFits j → joining_fields.fits (fields_of_joining j)
joining_fields_fit j h =
    let fit = h.0 in
    (fit.conf, (fit.members, (fit.olds, (fit.len, ((omega arith, fit.few, donors_fit j.len 0 j.donors fit.donors), (base_fits j.len j.base fit.base h.1, (omega arith, omega (arith, fit.len.1, held_few j.len 0 j.held.items (omega arith) fit.held), held_fits j.len 0 j.held.items fit.held)))))))

pub same_joining : (j : Joining) → j.held.room ≡ 0 → joining_of (fields_of_joining j) ≡ j
same_joining j none = ap (λ (room : ℕ). let k : Joining = record j { held = record j.held { room = room } } in k) (sym none)

-- ---- a durable state

if_some : {A : Type 0} (f : Form A) (o : Option A) → optional_fits f o → IfSome o f.fits
if_some f None fit = tt
if_some f (Some a) fit = fit

some_fits : {A : Type 0} (f : Form A) (o : Option A) → IfSome o f.fits → optional_fits f o
some_fits f None fit = tt
some_fits f (Some a) fit = fit

pub durable_fits : (x : Option Part × (Option Closed × Option Joining)) → durable_fields.fits x → DurableFits (durable_of x)
durable_fits x fit = record { part = if_some part x.0 fit.0; closed = if_some closed x.1.0 fit.1.0; joining = if_some joining x.1.1 fit.1.1 }

pub durable_fields_fit : (d : Durable) → DurableFits d → durable_fields.fits (fields_of_durable d)
durable_fields_fit d fit = (some_fits part d.part fit.part, (some_fits closed d.closed fit.closed, some_fits joining d.joining fit.joining))
