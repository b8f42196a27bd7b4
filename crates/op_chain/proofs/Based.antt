-- A batch with its bases applies where it did, and leaves a sound node; the bases that a batch in range leaves are bases.
use Rattle.std.proofs.Common.{◌≡◌, ℕ, ◌≤◌, Bool, true, false, List, [], ◌∷◌, map, All, Option, Some, None, refl, sym, ap, ◌∙◌, subst, arith}
use Rattle.std.specs.Prelude.{IfSome}
use Rattle.std.proofs.lemmas.List.Elements.{All-nil, All-cons, All-head, All-tail}
use Rattle.op_types.specs.Limits.{positions_end}
use Rattle.op_types.specs.Changes.{part_with, part_option_with, PartOptionApplies, ChangeApplies, Applies, joining_with, joining_option_with, durable_joined, durable_with, durable_after}
use Rattle.op_types.specs.Joinings.{Base, cover_of}
use Rattle.op_types.specs.declared.changes.Change.{Change}
use Rattle.op_types.specs.declared.changes.Change.TheVariants as change
use Rattle.op_types.specs.declared.durable.Closed.{Closed}
use Rattle.op_types.specs.declared.durable.Durable.{Durable}
use Rattle.op_types.specs.declared.durable.Joining.{Joining}
use Rattle.op_types.specs.declared.durable.Part.{Part}
use Rattle.op_types.specs.declared.log.Entry.{Entry}
use Rattle.op_record.specs.Ranges.{ChangeInRange}
use Rattle.op_spec.specs.Service.{base_bytes}
use Rattle.op_protocol.specs.State.{Volatile, PartStep}
use Rattle.op_protocol.specs.Bases.{service_at}
use Rattle.op_protocol.specs.Rows.{based, based_batch}
use Rattle.op_protocol.proofs.Based.{with_base}
use Rattle.op_protocol.proofs.StepBatches.{IsInside}
use Rattle.op_kv.specs.Bases.{IsBase}
use Rattle.op_instance.specs.Sound.{IsSound, IsSoundNode, IsSoundStep, AreOfOneConf, BeginFits}
use Rattle.op_chain.specs.Bringing.{HasBase}
use Rattle.op_chain.specs.Chains.{HaveBases}
use Rattle.op_chain.specs.Plans.{based_step}

-- a durable state by its parts
abbrev pub of_parts : Option Part → Option Closed → Option Joining → Durable
of_parts o k j = record { part = o; closed = k; joining = j }

-- ---- what begins is in range

begin_fits : (c : Change) → ChangeInRange c → BeginFits c
begin_fits (change.JoinBegin conf members olds len) range =
    let low : len ≤ positions_end = range.3.1 in
    (range.0.1, omega arith)
begin_fits _ range = tt

begin_based : (p : Part) (c : Change) → ChangeInRange (based p c) → BeginFits c
begin_based p (change.JoinBegin conf members olds len) range = begin_fits (change.JoinBegin conf members olds len) range
begin_based p _ range = tt

all_fit : (batch : List Change) → All ChangeInRange batch → All BeginFits batch
all_fit [] all = All-nil BeginFits
all_fit (c ∷ batch) all = All-cons BeginFits c batch (begin_fits c (All-head ChangeInRange c batch all)) (all_fit batch (All-tail ChangeInRange c batch all))

all_fit_based : (p : Part) (batch : List Change) → All ChangeInRange (map (based p) batch) → All BeginFits batch
all_fit_based p [] all = All-nil BeginFits
all_fit_based p (c ∷ batch) all =
    All-cons BeginFits c batch (begin_based p c (All-head ChangeInRange (based p c) (map (based p) batch) all))
    (all_fit_based p batch (All-tail ChangeInRange (based p c) (map (based p) batch) all))

-- what a batch in range begins to join has a number
pub begins_fit : (o : Option Part) (batch : List Change) → All ChangeInRange (based_batch o batch) → All BeginFits batch
begins_fit None batch all = all_fit batch all
begins_fit (Some p) batch all = all_fit_based p batch all

-- ---- bases

part_base : (p : Part) (c : Change) → IsBase p.base → ChangeInRange c → IsBase (part_with p c).base
part_base p (change.Promise n) has range = has
part_base p (change.Accept n) has range = has
part_base p (change.CutTo n) has range = has
part_base p (change.Append es) has range = has
part_base p (change.Decided x) has range = has
part_base p (change.Trim x base) has range = range.1
part_base p _ has range = has

part_bases : (o : Option Part) (c : Change) → IfSome o (λ p. IsBase p.base) → ChangeInRange c → IfSome (part_option_with o c) (λ p. IsBase p.base)
part_bases None c has range = tt
part_bases (Some p) c has range = part_base p c has range

joining_base : (j : Joining) (c : Change) → HasBase j → ChangeInRange c → HasBase (joining_with j c)
joining_base j (change.JoinDonor q t) has range = has
joining_base j (change.JoinBase at base) has range = range.1
joining_base j (change.JoinPart at es) has range = has
joining_base j _ has range = has

joining_bases : (j : Option Joining) (c : Change) → IfSome j HasBase → ChangeInRange c → IfSome (joining_option_with j c) HasBase
joining_bases None c has range = tt
joining_bases (Some j) c has range = joining_base j c has range

closing_bases : (o : Option Part) (k : Option Closed) (j : Option Joining) (named : Bool) (base : List ℕ) → HaveBases (of_parts o k j) → IsBase base → HaveBases (durable_with (of_parts o k j) (change.Close named base))
closing_bases None k j named base has is = has
closing_bases (Some p) k j true base has is = record { part = is; joining = has.joining }
closing_bases (Some p) k j false base has is = record { part = tt; joining = has.joining }

joined_bases : (d : Durable) (j : Joining) (base : List ℕ) (b : Option Base) (es : Option (List Entry)) → HaveBases d → IsBase base → HaveBases (durable_joined j base b es d)
joined_bases d j base (Some b) (Some es) has is = record { part = is; joining = tt }
joined_bases d j base (Some b) None has is = has
joined_bases d j base None es has is = has

done_bases : (o : Option Part) (k : Option Closed) (j : Option Joining) (base : List ℕ) → HaveBases (of_parts o k j) → IsBase base → HaveBases (durable_with (of_parts o k j) (change.JoinDone base))
done_bases o k None base has is = has
done_bases o k (Some j) base has is = joined_bases (of_parts o k (Some j)) j base j.base (cover_of j) has is

bases_with : (d : Durable) (c : Change) → HaveBases d → ChangeInRange c → HaveBases (durable_with d c)
bases_with d (change.Promise n) has range = record { part = part_bases d.part (change.Promise n) has.part range; joining = has.joining }
bases_with d (change.Accept n) has range = record { part = part_bases d.part (change.Accept n) has.part range; joining = has.joining }
bases_with d (change.CutTo n) has range = record { part = part_bases d.part (change.CutTo n) has.part range; joining = has.joining }
bases_with d (change.Append es) has range = record { part = part_bases d.part (change.Append es) has.part range; joining = has.joining }
bases_with d (change.Decided x) has range = record { part = part_bases d.part (change.Decided x) has.part range; joining = has.joining }
bases_with d (change.Trim x base) has range = record { part = part_bases d.part (change.Trim x base) has.part range; joining = has.joining }
bases_with d (change.Close named base) has range = closing_bases d.part d.closed d.joining named base has range
bases_with d (change.JoinBegin c members olds len) has range = record { part = has.part; joining = tt }
bases_with d (change.JoinDonor q t) has range = record { part = has.part; joining = joining_bases d.joining (change.JoinDonor q t) has.joining range }
bases_with d (change.JoinBase at base) has range = record { part = has.part; joining = joining_bases d.joining (change.JoinBase at base) has.joining range }
bases_with d (change.JoinPart at es) has range = record { part = has.part; joining = joining_bases d.joining (change.JoinPart at es) has.joining range }
bases_with d (change.JoinDone base) has range = done_bases d.part d.closed d.joining base has range
bases_with d (change.Rebase conf members at base) has range = record { part = range.3; joining = has.joining }

-- a batch in range leaves bases
pub bases_after : (d : Durable) (batch : List Change) → HaveBases d → All ChangeInRange batch → HaveBases (durable_after d batch)
bases_after d [] has all = has
bases_after d (c ∷ batch) has all =
    bases_after (durable_with d c) batch (bases_with d c has (All-head ChangeInRange c batch all)) (All-tail ChangeInRange c batch all)

-- ---- a batch with its bases

-- the same part with this base, if there is one
abbrev part_rebased : Option Part → List ℕ → Option Part
part_rebased None x = None
part_rebased (Some q) x = Some (with_base q x)

abbrev rebased : Durable → List ℕ → Durable
rebased d x = record d { part = part_rebased d.part x }

part_one : (p : Part) (o : Option Part) (x : List ℕ) (c : Change) → (y : List ℕ) × (part_option_with (part_rebased o x) (based p c) ≡ part_rebased (part_option_with o c) y)
part_one p None x c = (x, refl)
part_one p (Some q) x (change.Promise n) = (x, refl)
part_one p (Some q) x (change.Accept n) = (x, refl)
part_one p (Some q) x (change.CutTo n) = (x, refl)
part_one p (Some q) x (change.Append es) = (x, refl)
part_one p (Some q) x (change.Decided n) = (x, refl)
part_one p (Some q) x (change.Trim n b) = (base_bytes (service_at p n), refl)
part_one p (Some q) x (change.Close named b) = (x, refl)
part_one p (Some q) x (change.JoinBegin c members olds len) = (x, refl)
part_one p (Some q) x (change.JoinDonor d t) = (x, refl)
part_one p (Some q) x (change.JoinBase at b) = (x, refl)
part_one p (Some q) x (change.JoinPart at es) = (x, refl)
part_one p (Some q) x (change.JoinDone b) = (x, refl)
part_one p (Some q) x (change.Rebase conf members at b) = (x, refl)

-- of a change of the part
of_part : (d : Durable) (o : Option Part) (q : Option Part) (x : List ℕ) → (y : List ℕ) × (o ≡ part_rebased q y) → (let a : Durable = record d { part = o } in let b : Durable = record d { part = q } in (y : List ℕ) × (a ≡ rebased b y))
of_part d o q x same = (same.0, ap (λ (r : Option Part). let e : Durable = record d { part = r } in e) same.1)

one_rebased : (p : Part) (d : Durable) (x : List ℕ) (c : Change) → IsInside c → (y : List ℕ) × (durable_with (rebased d x) (based p c) ≡ rebased (durable_with d c) y)
one_rebased p d x (change.Promise n) inside = of_part d _ _ x (part_one p d.part x (change.Promise n))
one_rebased p d x (change.Accept n) inside = of_part d _ _ x (part_one p d.part x (change.Accept n))
one_rebased p d x (change.CutTo n) inside = of_part d _ _ x (part_one p d.part x (change.CutTo n))
one_rebased p d x (change.Append es) inside = of_part d _ _ x (part_one p d.part x (change.Append es))
one_rebased p d x (change.Decided n) inside = of_part d _ _ x (part_one p d.part x (change.Decided n))
one_rebased p d x (change.Trim n b) inside = of_part d _ _ x (part_one p d.part x (change.Trim n b))
one_rebased p d x (change.Close named b) inside = absurd inside
one_rebased p d x (change.JoinBegin c members olds len) inside = (x, refl)
one_rebased p d x (change.JoinDonor q t) inside = (x, refl)
one_rebased p d x (change.JoinBase at b) inside = (x, refl)
one_rebased p d x (change.JoinPart at es) inside = (x, refl)
one_rebased p d x (change.JoinDone b) inside = absurd inside
one_rebased p d x (change.Rebase conf members at b) inside = absurd inside

part_applies : (p : Part) (o : Option Part) (x : List ℕ) (c : Change) → PartOptionApplies o c → PartOptionApplies (part_rebased o x) (based p c)
part_applies p None x c h = absurd h
part_applies p (Some q) x (change.Promise n) h = h
part_applies p (Some q) x (change.Accept n) h = h
part_applies p (Some q) x (change.CutTo n) h = h
part_applies p (Some q) x (change.Append es) h = h
part_applies p (Some q) x (change.Decided n) h = h
part_applies p (Some q) x (change.Trim n b) h = h
part_applies p (Some q) x (change.Close named b) h = h
part_applies p (Some q) x (change.JoinBegin c members olds len) h = h
part_applies p (Some q) x (change.JoinDonor d t) h = h
part_applies p (Some q) x (change.JoinBase at b) h = h
part_applies p (Some q) x (change.JoinPart at es) h = h
part_applies p (Some q) x (change.JoinDone b) h = h
part_applies p (Some q) x (change.Rebase conf members at b) h = h

one_applies : (p : Part) (d : Durable) (x : List ℕ) (c : Change) → ChangeApplies d c → ChangeApplies (rebased d x) (based p c)
one_applies p d x (change.Promise n) h = part_applies p d.part x (change.Promise n) h
one_applies p d x (change.Accept n) h = part_applies p d.part x (change.Accept n) h
one_applies p d x (change.CutTo n) h = part_applies p d.part x (change.CutTo n) h
one_applies p d x (change.Append es) h = part_applies p d.part x (change.Append es) h
one_applies p d x (change.Decided n) h = part_applies p d.part x (change.Decided n) h
one_applies p d x (change.Trim n b) h = part_applies p d.part x (change.Trim n b) h
one_applies p d x (change.Close named b) h = part_applies p d.part x (change.Close named b) h
one_applies p d x (change.JoinBegin c members olds len) h = h
one_applies p d x (change.JoinDonor q t) h = h
one_applies p d x (change.JoinBase at b) h = h
one_applies p d x (change.JoinPart at es) h = h
one_applies p d x (change.JoinDone b) h = h
one_applies p d x (change.Rebase conf members at b) h = h

-- where the batch applies and what it leaves, with its bases
record Rebases (p : Part) (d : Durable) (x : List ℕ) (batch : List Change) : Type 0 where
  applies : Applies (rebased d x) (map (based p) batch)
  base : List ℕ
  leaves : durable_after (rebased d x) (map (based p) batch) ≡ rebased (durable_after d batch) base

rebases : (p : Part) (d : Durable) (x : List ℕ) (batch : List Change) → All IsInside batch → Applies d batch → Rebases p d x batch
rebases p d x [] inside all = record { applies = tt; base = x; leaves = refl }
rebases p d x (c ∷ batch) inside all =
    let one = one_rebased p d x c (All-head IsInside c batch inside) in
    let rest : Rebases p (durable_with d c) one.0 batch = rebases p (durable_with d c) one.0 batch (All-tail IsInside c batch inside) all.1 in
    record {
      applies = (one_applies p d x c all.0, subst (λ (e : Durable). Applies e (map (based p) batch)) (sym one.1) rest.applies);
      base = rest.base;
      leaves = ap (λ (e : Durable). durable_after e (map (based p) batch)) one.1 ∙ rest.leaves;
    }

sound_rebased : (me : ℕ) (o : Option Part) (k : Option Closed) (j : Option Joining) (x : List ℕ) (v : Volatile) → IsSoundNode me (of_parts o k j) v → IsSoundNode me (rebased (of_parts o k j) x) v
sound_rebased me None k j x v sound = record { part = tt; closed = sound.closed; joining = sound.joining }
sound_rebased me (Some p) k j x v sound =
    let s : IsSound p v.role = sound.part.sound in
    let t : IsSound (with_base p x) v.role = record {
      conf = s.conf;
      positions = record { trimmed = s.positions.trimmed; decided = s.positions.decided; small = s.positions.small };
      members = s.members;
      log = s.log;
      promises = s.promises;
      stops = s.stops;
      stages = s.stages;
    } in
    record { part = record { sound = t; staged = sound.part.staged }; closed = sound.closed; joining = sound.joining }

same_rebased : (o q : Option Part) (x : List ℕ) → AreOfOneConf o q → AreOfOneConf (part_rebased o x) q
same_rebased None None x same = tt
same_rebased None (Some q) x same = same
same_rebased (Some p) None x same = same
same_rebased (Some p) (Some q) x same = same

part_step : (me : ℕ) (p : Part) (k : Option Closed) (j : Option Joining) (y : PartStep) → IsSoundStep me (of_parts (Some p) k j) y → All IsInside y.batch → IsSoundStep me (of_parts (Some p) k j) (based_step (Some p) y)
part_step me p k j y sound inside =
    let d : Durable = of_parts (Some p) k j in
    let e : Durable = durable_after d y.batch in
    let is : Rebases p d p.base y.batch = rebases p d p.base y.batch inside sound.applies in
    record {
      applies = is.applies;
      sound = subst (λ (z : Durable). IsSoundNode me z y.volatile) (sym is.leaves) (sound_rebased me e.part e.closed e.joining is.base y.volatile sound.sound);
      same = subst (λ (z : Durable). AreOfOneConf z.part (Some p)) (sym is.leaves) (same_rebased e.part (Some p) is.base sound.same);
    }

step_by : (me : ℕ) (o : Option Part) (k : Option Closed) (j : Option Joining) (y : PartStep) → IsSoundStep me (of_parts o k j) y → All IsInside y.batch → IsSoundStep me (of_parts o k j) (based_step o y)
step_by me None k j y sound inside = sound
step_by me (Some p) k j y sound inside = part_step me p k j y sound inside

-- a step with the bases of what it trims is as sound as the step
pub based_sound : (me : ℕ) (d : Durable) (y : PartStep) → IsSoundStep me d y → All IsInside y.batch → IsSoundStep me d (based_step d.part y)
based_sound me d y sound inside = step_by me d.part d.closed d.joining y sound inside
