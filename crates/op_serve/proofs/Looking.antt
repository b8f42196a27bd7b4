-- Calls that only read a disk change nothing that a process is told by.
use Rattle.std.proofs.Common.{◌≡◌, ◌⊎◌, inl, inr, ℕ, Bool, true, false, List, Option, Some, None, Result, Ok, Err, refl, sym, ◌∙◌, subst, ⊎_elim}
use Rattle.std.proofs.lemmas.Bool.{false≢true}
use Rattle.op_outside.specs.Causes.{FaultsRose}
use Rattle.op_outside.specs.Disks.{DiskState, Does, MayLeave}
use Rattle.op_outside.specs.Disks.Edit.{Nothing}
use Rattle.op_outside.specs.declared.disk.Disk.{Ghosts}
use Rattle.op_outside.specs.declared.disk.DiskFail.{DiskFail}
use Rattle.op_outside.proofs.Runs.{now_torn}
use Rattle.op_mirror.specs.declared.gone.Gone.{Gone}
use Rattle.op_mirror.specs.declared.gone.Gone.TheVariants.{Neither, First, Second}
use Rattle.op_mirror.specs.declared.mirror.Mirror.{Mirror}
use Rattle.op_setup.specs.declared.config.Settings.{Settings}
use Rattle.op_status.specs.declared.status.Status.{Status}
use Rattle.op_status.specs.declared.status.Status.TheVariants as status
use Rattle.op_store.specs.Stored.{Disks, HaveImages}
use Rattle.op_node.specs.Reopenings.{IsOneOf}
use Rattle.op_cluster_laws.specs.Traces.{Lived}
use Rattle.op_serve.specs.Between.{GivesOnly, HoldLeftOf, LivingGive}
use Rattle.op_serve.specs.Folders.{AreOnlyRead, AreaLooks, asks_first, asks_copy, AreasLook, asks_one, asks_both, AsksFolder, Claims, HasAreas, Looks, MayBegin, has_no_name, is_to_begin, has_begun, is_nobodys, is_others, is_unreadable, OnlyRead, ReadsIll, ReadsWell}
use Rattle.op_serve.specs.Lives.{Leaves, MayFollow}
use Rattle.op_serve.specs.declared.claim.Claim.{Claim}
use Rattle.op_serve.specs.declared.node_disks.NodeDisks.{NodeDisks}

-- ---- one disk

pub same_only : (d : DiskState) → OnlyRead d d
same_only d = record { model = (λ x. x, λ x. x); mark = refl; left = λ obey c left. left; reads = λ obey. inl refl }

pub read_then : (old mid new : DiskState) → OnlyRead old mid → OnlyRead mid new → OnlyRead old new
read_then old mid new one two = record {
  model = (λ x. one.model.0 (two.model.0 x), λ x. two.model.1 (one.model.1 x));
  mark = two.mark ∙ one.mark;
  left = λ obey c left. one.left obey c (two.left (one.model.1 obey) c left);
  reads = λ obey. ⊎_elim
      (λ same. ⊎_elim (λ was. inl (same ∙ was)) (λ image. inr (subst (MayLeave old) (sym same) image)) (one.reads obey))
      (λ image. inr (one.left obey new.content image))
      (two.reads (one.model.1 obey));
}

pub well_then : (old mid new : DiskState) → ReadsWell old mid → ReadsWell mid new → ReadsWell old new
well_then old mid new one two = record {
  only = read_then old mid new one.only two.only;
  same = λ obey. two.same (one.only.model.1 obey) ∙ one.same obey;
  no_fault = two.no_fault ∙ one.no_fault;
}

pub ill_then : (old mid new : DiskState) → ReadsWell old mid → ReadsIll mid new → ReadsIll old new
ill_then old mid new one two = record {
  only = read_then old mid new one.only two.only;
  rose = subst (λ (n : ℕ). FaultsRose n new.faults) one.no_fault two.rose;
}

module _ {T E : Type 0} (old new : DiskState) where
  leaves_no_other : (r : Result T E) → Does Nothing old new r → old.obeys → (c : List ℕ) → MayLeave new c → MayLeave old c
  leaves_no_other r does obey c left =
      let torn = now_torn Nothing old new (does.goes_on obey) c left in subst (MayLeave old) (sym torn.2) torn.1

  only_read : (r : Result T E) → Does Nothing old new r → OnlyRead old new
  only_read r does = record {
    model = does.model;
    mark = does.mark;
    left = leaves_no_other r does;
    reads = λ obey. inr (leaves_no_other r does obey new.content (does.goes_on obey).image);
  }

  -- a call that changes nothing is done
  pub reads_well : (x : T) → Does {T = T} {E = E} Nothing old new (Ok x) → ReadsWell old new
  reads_well x does = record { only = only_read (Ok x) does; same = does.done; no_fault = does.cause.ok }

  -- or fails
  pub reads_ill : (e : E) → Does {T = T} {E = E} Nothing old new (Err e) → ReadsIll old new
  reads_ill e does = record { only = only_read (Err e) does; rose = does.cause.err refl }

-- ---- the disks of a node

module _ {D : Type 0} (disk : Ghosts D) where
  looked : (old new : D) (r : Result Bool DiskFail) → Looks (disk.state old) (disk.state new) r → OnlyRead (disk.state old) (disk.state new)
  looked old new (Ok b) look = look.0.only
  looked old new (Err e) look = look.only

  area_looked : (b : Bool) (first copy x y : D) (r : Result Bool DiskFail) → AreaLooks disk b first copy x y r
      → OnlyRead (disk.state first) (disk.state x) × OnlyRead (disk.state copy) (disk.state y)
  area_looked b first copy x y r (asks_first a look alone) = (looked first a r look, same_only (disk.state copy))
  area_looked b first copy x y r (asks_copy a c is ill look) = (ill.only, looked copy c r look)

  areas_looked : (b : Bool) (old new : NodeDisks D) (r : Result Bool DiskFail) → AreasLook disk b old new r → AreOnlyRead disk old new
  areas_looked b old new r (asks_one x y not_none look) =
      let one = area_looked b old.first old.first_copy x y r look in
      record { first = one.0; first_copy = one.1; second = same_only _; second_copy = same_only _; identity = same_only _ }
  areas_looked b old new r (asks_both x y u v one_look two_look) =
      let one = area_looked b old.first old.first_copy x y (Ok true) one_look in
      let two = area_looked b old.second old.second_copy u v r two_look in
      record { first = one.0; first_copy = one.1; second = two.0; second_copy = two.1; identity = same_only _ }

  has_areas : (b : Bool) (old new : NodeDisks D) (r : Result (Option ℕ) Status) → HasAreas disk b old new r → AreOnlyRead disk old new
  has_areas b old new (Ok None) h = areas_looked b old new _ h
  has_areas b old new (Ok (Some at)) h = absurd h
  has_areas b old new (Err status.NoIdentity) h = areas_looked b old new _ h
  has_areas b old new (Err status.DiskFault) h = areas_looked b old new _ h.1
  has_areas b old new (Err s) h = absurd h

  claimed : (id : ℕ) (name : List ℕ) (old new : D) (r : Result Claim DiskFail) → Claims id name (disk.state old) (disk.state new) r → OnlyRead (disk.state old) (disk.state new)
  claimed id name old new (Ok c) h = h.1.read.only
  claimed id name old new (Err e) h = h.only

  asked : (id : ℕ) (o : Settings) (old new : NodeDisks D) (r : Result Claim DiskFail) → AsksFolder disk id o old new r → AreOnlyRead disk old new
  asked id o old new r h =
      let only = claimed id h.name old.identity new.identity r h.claims in
      rw h.only (record { first = same_only _; first_copy = same_only _; second = same_only _; second_copy = same_only _; identity = only })

  then_read : (old mid new : NodeDisks D) → AreOnlyRead disk old mid → AreOnlyRead disk mid new → AreOnlyRead disk old new
  then_read old mid new one two = record {
    first = read_then _ _ _ one.first two.first;
    second = read_then _ _ _ one.second two.second;
    first_copy = read_then _ _ _ one.first_copy two.first_copy;
    second_copy = read_then _ _ _ one.second_copy two.second_copy;
    identity = read_then _ _ _ one.identity two.identity;
  }

  pub only_looks : (id : ℕ) (o : Settings) (old new : NodeDisks D) (r : Result (Option ℕ) Status) → MayBegin disk id o old new r → AreOnlyRead disk old new
  only_looks id o old new r (has_no_name none same) =
      rw same (record { first = same_only _; first_copy = same_only _; second = same_only _; second_copy = same_only _; identity = same_only _ })
  only_looks id o old new r (is_to_begin at asks) = asked id o old new _ asks
  only_looks id o old new r (has_begun mid asks areas) = then_read old mid new (asked id o old mid _ asks) (has_areas o.is_mirrored mid new r areas)
  only_looks id o old new r (is_nobodys asks) = asked id o old new _ asks
  only_looks id o old new r (is_others i n asks) = asked id o old new _ asks
  only_looks id o old new r (is_unreadable e asks) = asked id o old new _ asks

-- ---- without mirrors the areas are read well

same_well : (d : DiskState) → ReadsWell d d
same_well d = record { only = same_only d; same = λ obey. refl; no_fault = refl }

module _ {D : Type 0} (disk : Ghosts D) where
  -- both areas were
  abbrev AreasWell : NodeDisks D → NodeDisks D → Type 0
  AreasWell old new = ReadsWell (disk.state old.first) (disk.state new.first) × ReadsWell (disk.state old.second) (disk.state new.second)

  area_well : (first copy x y : D) (b : Bool) → AreaLooks disk false first copy x y (Ok b) → ReadsWell (disk.state first) (disk.state x)
  area_well first copy x y b (asks_first a look alone) = look.0
  area_well first copy x y b (asks_copy a c is ill look) = absurd (false≢true is)

  areas_well : (old new : NodeDisks D) (b : Bool) → AreasLook disk false old new (Ok b) → AreasWell old new
  areas_well old new b (asks_one x y not_none look) = (area_well old.first old.first_copy x y b look, same_well _)
  areas_well old new b (asks_both x y u v one_look two_look) = (area_well old.first old.first_copy x y true one_look, area_well old.second old.second_copy u v b two_look)

  has_areas_well : (b : Bool) (old new : NodeDisks D) (begins : Option ℕ) → HasAreas disk b old new (Ok begins) → b ≡ false → AreasWell old new
  has_areas_well b old new (Some at) h plain = absurd h
  has_areas_well false old new None h plain = areas_well old new false h
  has_areas_well true old new None h plain = absurd (false≢true (sym plain))

  pub looks_well : (id : ℕ) (o : Settings) (old new : NodeDisks D) (begins : Option ℕ) → MayBegin disk id o old new (Ok begins) → o.is_mirrored ≡ false → AreasWell old new
  looks_well id o old new begins (has_no_name none same) plain = rw same (same_well _, same_well _)
  looks_well id o old new begins (is_to_begin at asks) plain = rw asks.only (same_well _, same_well _)
  looks_well id o old new begins (has_begun mid asks areas) plain =
      subst (λ (m : NodeDisks D). AreasWell m new) asks.only (has_areas_well o.is_mirrored mid new begins areas plain)

-- ---- what is left of them

pub follows_still : (gone old seen : Disks) → ReadsWell old.first seen.first → ReadsWell old.second seen.second → old.first.obeys × old.second.obeys → MayFollow gone old → MayFollow gone seen
follows_still gone old seen first second obey follow =
    let a = first.same obey.0 in
    let b = second.same obey.1 in
    ⊎_elim
    (λ same. inl (a ∙ same.0, b ∙ same.1))
    (λ left. inr (subst (λ (c : List ℕ). MayLeave gone.first c) (sym a) left.0, subst (λ (c : List ℕ). MayLeave gone.second c) (sym b) left.1))
    follow

pub leaves_on : (l : Lived) (old seen : Disks) → OnlyRead old.first seen.first → OnlyRead old.second seen.second → HaveImages old → Leaves l old → Leaves l seen
leaves_on l old seen first second had k = record {
  left = k.left;
  is = k.is;
  stored = record {
    obey = (first.model.1 obey.0, second.model.1 obey.1);
    read = read;
    left = λ x y at_first at_second. k.stored.left x y (first.left obey.0 x at_first) (second.left obey.1 y at_second);
  };
  whole = k.whole;
}
  where
    obey : old.first.obeys × old.second.obeys
    obey = k.stored.obey

    image : (a b : DiskState) → MayLeave a a.content → (b.content ≡ a.content) ⊎ MayLeave a b.content → MayLeave a b.content
    image a b was (inl same) = subst (MayLeave a) (sym same) was
    image a b was (inr left) = left

    read : IsOneOf k.left.before.durable k.left.ahead.durable seen.first.content seen.second.content
    read = k.stored.left seen.first.content seen.second.content (image old.first seen.first had.0 (first.reads obey.0)) (image old.second seen.second had.1 (second.reads obey.1))

-- ---- what is left of the copies of a mirror

gives_still : (P : List ℕ → Type 0) (old new : DiskState) → OnlyRead old new → GivesOnly P old → GivesOnly P new
gives_still P old new only gives = record {
  obeys = only.model.1 gives.obeys;
  reads = ⊎_elim (λ same. subst P (sym same) gives.reads) (λ left. gives.leaves new.content left) (only.reads gives.obeys);
  leaves = λ x left. gives.leaves x (only.left gives.obeys x left);
}

living_still : (out : Gone) (P Q : List ℕ → Type 0) (a b x y : DiskState) → OnlyRead a x → OnlyRead b y → LivingGive out P Q a b → LivingGive out P Q x y
living_still Neither P Q a b x y first second gives = (gives_still P a x first gives.0, gives_still Q b y second gives.1)
living_still First P Q a b x y first second gives = gives_still Q b y second gives
living_still Second P Q a b x y first second gives = gives_still P a x first gives

pub held_still : {D : Type 0} (disk : Ghosts D) (out : Gone) (m : Mirror D disk) (a b x y : D) → OnlyRead (disk.state a) (disk.state x) → OnlyRead (disk.state b) (disk.state y)
    → HoldLeftOf disk out m a b → HoldLeftOf disk out m x y
held_still disk out m a b x y first second held =
    record { living = living_still out _ _ (disk.state a) (disk.state b) (disk.state x) (disk.state y) first second held.living; both = held.both }
