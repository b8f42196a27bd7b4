-- A node that is opened is sound; what a disk holds in range can be opened.
use Rattle.std.proofs.Common.{◌≡◌, ℕ, ◌<◌, ◌≤◌, List, [], ◌∷◌, Option, Some, None, length, refl, sym, ap, ◌∙◌, subst, arith}
use Rattle.std.specs.Prelude.{IfSome}
use Rattle.op_types.specs.Ranges.{IsMember}
use Rattle.op_types.specs.Roles.{Role, Idle, role_of}
use Rattle.op_types.specs.Joinings.{Base}
use Rattle.op_types.specs.Rooms.{part_room, joining_room}
use Rattle.op_types.specs.declared.needs.Needs.{Needs}
use Rattle.op_types.specs.declared.durable.Closed.{Closed}
use Rattle.op_types.specs.declared.durable.Durable.{Durable}
use Rattle.op_types.specs.declared.durable.Joining.{Joining}
use Rattle.op_types.specs.declared.durable.Part.{Part}
use Rattle.op_record.specs.Ranges.{PartInRange, ClosedInRange, JoiningInRange, DurableInRange}
use Rattle.op_instance.specs.Memory.{IsKeptBy}
use Rattle.op_instance.specs.Sound.{IsSound, IsNodeOf, IfNodeOf, IsNode, IfListFits, IfJoiningFits}
use Rattle.op_instance.specs.declared.volatile.Volatile.{Volatile}
use Rattle.op_kv.specs.Bases.{IsBase}
use Rattle.op_chain.specs.Bringing.{HasBase}
use Rattle.op_chain.specs.Chains.{IsPartFor, IfPartFor, CanOpen}
use Rattle.op_chain.proofs.Closes.{none_staged}

has_member : (members : List ℕ) (me : ℕ) → IsMember members me → 0 < length members
has_member [] me is = absurd (cc)
has_member (p ∷ members) me is = omega arith

-- what a member keeps in memory is of its part, and it has no role
part_opened : (me : ℕ) (p : Part) (v : Volatile) → IsPartFor me p → role_of v.role ≡ Idle → v.staged.items ≡ [] → IsKeptBy me p v → IsNodeOf me p v
part_opened me p v fits idle none kept =
    let sound : IsSound p Idle = record { conf = fits.conf; positions = fits.positions; members = has_member p.members me fits.member; log = fits.log; promises = tt; stops = tt; stages = tt } in
    record { sound = subst (λ (r : Role). IsSound p r) (sym idle) sound; staged = none_staged p.conf v.staged.items none; kept = kept }

pub member_opened : (me : ℕ) (d : Durable) (p : Part) (v : Volatile) → CanOpen me d → d.part ≡ Some p → role_of v.role ≡ Idle → v.staged.items ≡ [] → IsKeptBy me p v → IsNode me d v
member_opened me d p v can is idle none kept =
    let fits : IsPartFor me p = subst (λ (o : Option Part). IfPartFor me o) is can.part in
    record { part = subst (λ (o : Option Part). IfNodeOf me o v) (sym is) (part_opened me p v fits idle none kept); closed = can.closed; joining = can.joining }

-- a server without a part keeps nothing of one
pub spare_opened : (me : ℕ) (d : Durable) (v : Volatile) → CanOpen me d → d.part ≡ None → IsNode me d v
spare_opened me d v can is = record { part = subst (λ (o : Option Part). IfNodeOf me o v) (sym is) tt; closed = can.closed; joining = can.joining }

-- what is kept in memory, by another name
pub node_as : (me : ℕ) (d : Durable) (v u : Volatile) → v ≡ u → IsNode me d u → IsNode me d v
node_as me d v u is node = subst (λ (x : Volatile). IsNode me d x) (sym is) node

-- ---- what a disk holds

-- a server of this id is a member of the part, and of the configuration that is joined, if there are such
pub record IsNamedIn (me : ℕ) (d : Durable) : Type 0 where
  pub part : IfSome d.part (λ p. IsMember p.members me)
  pub joining : IfSome d.joining (λ j. IsMember j.members me)

part_opens : (me : ℕ) (o : Option Part) → IfSome o PartInRange → IfSome o (λ p. IsMember p.members me) → IfPartFor me o
part_opens me None range named = tt
part_opens me (Some p) range named =
    record { conf = range.conf.1; member = named; positions = record { trimmed = range.decided.0; decided = range.decided.1; small = range.len }; log = range.ends }

closed_opens : (o : Option Closed) → IfSome o ClosedInRange → IfListFits o
closed_opens None range = tt
closed_opens (Some l) range = let low = range.len.1 in record { number = range.conf.1; len = omega arith }

base_within : (o : Option Base) (n : ℕ) → IfSome o (λ b. (b.0 ≤ n) × IsBase b.1) → IfSome o (λ b. b.0 ≤ n)
base_within None n range = tt
base_within (Some b) n range = range.0

base_is : (o : Option Base) (n : ℕ) → IfSome o (λ b. (b.0 ≤ n) × IsBase b.1) → IfSome o (λ b. IsBase b.1)
base_is None n range = tt
base_is (Some b) n range = range.1

joining_opens : (me : ℕ) (o : Option Joining) → IfSome o JoiningInRange → IfSome o (λ j. IsMember j.members me) → IfJoiningFits me o
joining_opens me None range named = tt
joining_opens me (Some j) range named =
    let low = range.conf.0 in
    let short = range.len.1 in
    record { number = omega arith; last = range.conf.1; len = omega arith; member = named; base = base_within j.base j.len range.base }

part_has : (o : Option Part) → IfSome o PartInRange → IfSome o (λ p. IsBase p.base)
part_has None range = tt
part_has (Some p) range = range.base

joining_has : (o : Option Joining) → IfSome o JoiningInRange → IfSome o HasBase
joining_has None range = tt
joining_has (Some j) range = base_is j.base j.len range.base

part_rests : (o : Option Part) → IfSome o PartInRange → part_room o ≡ 0
part_rests None range = refl
part_rests (Some p) range = range.room

joining_rests : (o : Option Joining) → IfSome o JoiningInRange → joining_room o ≡ 0
joining_rests None range = refl
joining_rests (Some j) range = range.room

-- a durable state in range can be opened by a server that it names
pub can_open : (me : ℕ) (d : Durable) → DurableInRange d → IsNamedIn me d → CanOpen me d
can_open me d range named =
    record {
      part = part_opens me d.part range.part named.part;
      closed = closed_opens d.closed range.closed;
      joining = joining_opens me d.joining range.joining named.joining;
      bases = record { part = part_has d.part range.part; joining = joining_has d.joining range.joining };
      rest =
          ap (λ (n : ℕ). let x : Needs = record { entries = n; held = joining_room d.joining } in x) (part_rests d.part range.part)
          ∙ ap (λ (n : ℕ). let x : Needs = record { entries = 0; held = n } in x) (joining_rests d.joining range.joining);
    }
