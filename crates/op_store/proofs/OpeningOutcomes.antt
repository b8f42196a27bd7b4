-- What an opening finds, tells and leaves, from what was read of both disks.
use Rattle.std.proofs.Common.{◌≡◌, ◌⊎◌, inl, inr, ⊎_elim, ℕ, ◌+◌, ◌≤◌, ◌<◌, Bool, true, false, List, [], ◌∷◌, ◌++◌, length, length-append, Result, Ok, Err, Some, None, refl, sym, ◌∙◌, ap, subst, arith}
use Rattle.std.specs.Prelude.{◌^◌, not, IsErr, IfOk, IfErr}
use Rattle.op_types.specs.declared.durable.Durable.{Durable}
use Rattle.op_outside.specs.Disks.{DiskState, MayLeave, IsAtRest, LeavesOnly, Counts, CountsUpTo, Costs}
use Rattle.op_outside.proofs.Runs.{started, weaker}
use Rattle.op_record.specs.declared.body.Rec.TheVariants.{Whole}
use Rattle.std.specs.Int.{w64}
use Rattle.op_fields.specs.Form.{encoded}
use Rattle.op_fields.proofs.Formats.{wide64}
use Rattle.op_journal.specs.Areas.{header, head_of, new_head, prefix, record_text, records_text, HasHeader, HasNewerVersion, HoldsRecords, IsArea, IsSettled}
use Rattle.op_journal.specs.Appends.{Trims}
use Rattle.op_journal.specs.Calls.{format_calls}
use Rattle.op_journal.specs.Readings.{IsReading, IsNew, HasNoHeader}
use Rattle.op_journal.specs.Openings.{IsReadFrom}
use Rattle.op_journal.specs.Beginnings.{HasNone, IsFormattable, IsOldOrNone, Formats}
use Rattle.op_journal.proofs.Headers.{length-header, header_long, newer_long}
use Rattle.op_journal.proofs.UniqueReading.{header_of}
use Rattle.op_store.specs.Records.{IsBodyOf, AllMake}
use Rattle.op_store.specs.Stored.{StandsAs, IsBelow, IsStuck, IsChosen, IsStored, StoreNothing, Disks, Obey, LeaveStill, HaveImages, len_at_format, chosen, other, chosen_disk, other_disk, rival_end}
use Rattle.op_store.specs.Readings.{BreaksIn, IsAreaFor, IsUnread, IsDamageOf, IsNewerOf, IsRead}
use Rattle.op_store.specs.Failing.{IsToldOrNoMemory, IsDamageOrStopped, IsNewerOrStopped, IsFaultOrNoMemory, IsFault}
use Rattle.op_store.specs.Openings.{Remains, Keeps, IsOpenedAs, OpensAreas, FindsAreas, FindsNone, BeginsArea, IsFit, IsFitFor, CountsOpened, CountsReadings, CountsRefused, CountsBeginning, CountsCarrying, CarriesOver, IsCarried, FindsArea, GoesOnWith, begun_area, carried_area}
use Rattle.op_store.specs.Stores.{IsBelowOrNext}
use Rattle.op_store.specs.declared.area.OpenArea.{OpenArea}
use Rattle.op_store.specs.declared.fail.StoreFail.{StoreFail}
use Rattle.op_store.specs.declared.fail.StoreFail.TheVariants.{DiskFault, Damaged, NewerVersion, NoMemory}
use Rattle.op_store.specs.declared.reading.Reading.{Reading}
use Rattle.op_store.specs.declared.reading.Reading.TheVariants as reading
use Rattle.op_store.proofs.UniqueState.{stands_area}
use Rattle.op_store.proofs.MadeInRange.{found_in_range}
use Rattle.op_store.proofs.UniquePairs.{stored_of, stored_or_damage, nothing_or_damage, one_damage, one_chosen, nothing_or_chosen, stored_or_newer, nothing_or_newer, one_newer_at, newer_or_damage}
use Rattle.op_store.proofs.PairRuns.{chosen_pairs_left, pairs_still, stored_at, stored_rival}
use Rattle.op_store.proofs.OpeningCalls.{readings_stopped, reads_chosen, resumed_calls, unresumed_calls, trimmed, untrimmed, begun_calls, unbegun_calls, carried_calls, uncarried_calls}
use Rattle.op_store.proofs.CheckpointCrashes.{stands_whole, open_next}
use Rattle.op_journal.specs.declared.head.Head.{Head}
use Rattle.op_journal.specs.declared.head.Version.{Version}
use Rattle.op_journal.specs.declared.head.Version.TheVariants.{One, Two}

-- an area and its closed gate are within the bytes, and so was its first record
area_room : (g : Head) (bodies : List (List ℕ)) (end : ℕ) (bytes : List ℕ) → IsArea g bodies end bytes → (end + 1 ≤ length bytes) × (len_at_format bodies ≤ length bytes)
area_room g bodies end bytes area = (closed, within bodies area)
  where
    whole : length bytes ≡ length (prefix g bodies) + length (area.records.gate ∷ area.records.rest)
    whole = ap length area.records.is ∙ length-append (prefix g bodies) (area.records.gate ∷ area.records.rest)

    closed : end + 1 ≤ length bytes
    closed = let place = area.place in omega (arith, whole, place)

    within : (bs : List (List ℕ)) → IsArea g bs end bytes → len_at_format bs ≤ length bytes
    within [] a = omega arith
    within (b ∷ bs) a =
        let size = ap length a.records.is ∙ length-append (prefix g (b ∷ bs)) (a.records.gate ∷ a.records.rest) in
        let split = length-append (header g) (165 ∷ (record_text b ++ records_text bs)) in
        let more = length-append (record_text b) (records_text bs) in
        let head = length-append (encoded w64 (length b)) b in
        let n = wide64.len (length b) in
        omega (arith, size, split, more, head, n, length-header g)

-- ---- an opening reads nothing of a byte at most

few_new : (bytes : List ℕ) (closed : Bool) → length bytes ≤ 1 → IsNew [] closed → IsNew bytes closed
few_new bytes true few new = let long : 2 ≤ 0 = new.0 in absurd (omega arith)
few_new bytes false few new = few

module _ (bytes read : List ℕ) (r : IsReading bytes read) where
  new_in : (closed : Bool) → IsNew read closed → IsNew bytes closed
  new_in closed new =
      ⊎_elim (λ few. few_new bytes closed few.0 (subst (λ (l : List ℕ). IsNew l closed) few.1 new)) (λ all. subst (λ (l : List ℕ). IsNew l closed) all.1 new) r

  -- what has more than a byte was read
  all_of : 2 ≤ length read → read ≡ bytes
  all_of long = ⊎_elim (λ few. let none : length read ≡ 0 = ap length few.1 in absurd (omega (arith, none, long))) (λ all. all.1) r

  all_back : 2 ≤ length bytes → read ≡ bytes
  all_back long = ⊎_elim (λ few. let small = few.0 in absurd (omega (arith, small, long))) (λ all. all.1) r

  headed : (g : Head) → HasHeader g read → read ≡ bytes
  headed g h = all_of (let long = header_long g read h in omega (arith, long))

  below_in : (end : ℕ) → IsBelow end read → IsBelow end bytes
  below_in end below =
      ⊎_elim (λ none. inl (none.0, new_in none.0 none.1)) (λ b. inr (b.0, subst (λ (l : List ℕ). HasHeader b.0 l) (headed b.0 b.1) b.1, b.2)) below

  no_header_in : HasNoHeader read → HasNoHeader bytes
  no_header_in h = subst HasNoHeader (all_of h.long) h

  no_header_back : HasNoHeader bytes → HasNoHeader read
  no_header_back h = subst HasNoHeader (sym (all_back h.long)) h

  -- what has a newer version has more than a byte
  newer_in : (version : ℕ) → HasNewerVersion version read → HasNewerVersion version bytes
  newer_in version n = subst (HasNewerVersion version) (all_of (let long = newer_long version read n in omega (arith, long))) n

  newer_back : (version : ℕ) → HasNewerVersion version bytes → HasNewerVersion version read
  newer_back version n = subst (HasNewerVersion version) (sym (all_back (let long = newer_long version bytes n in omega (arith, long)))) n

  unread_in : IsUnread read → IsUnread bytes
  unread_in h = (no_header_in h.0, λ version n. h.1 version (newer_back version n))

  stops_in : (g : Head) (at : ℕ) → HasHeader g read → BreaksIn g read at → BreaksIn g bytes at
  stops_in g at h stops = subst (λ (l : List ℕ). BreaksIn g l at) (headed g h) stops

-- ---- the same of two disks

module _ (x y a b : List ℕ) (one : IsReading x a) (two : IsReading y b) where
  stops_chosen : (is_second : Bool) (g : Head) (at : ℕ) → IsChosen is_second g a b → BreaksIn g (chosen is_second a b) at → IsChosen is_second g x y × BreaksIn g (chosen is_second x y) at
  stops_chosen false g at c stops =
      (record { header = subst (λ (l : List ℕ). HasHeader g l) (headed x a one g c.header) c.header; below = below_in y b two (g.generation + 1) c.below }, stops_in x a one g at c.header stops)
  stops_chosen true g at c stops =
      (record { header = subst (λ (l : List ℕ). HasHeader g l) (headed y b two g c.header) c.header; below = below_in x a one g.generation c.below }, stops_in y b two g at c.header stops)

  pub damage_in : (area at : ℕ) → IsDamageOf a b area at → IsDamageOf x y area at
  damage_in area at h =
      ⊎_elim (λ p. inl (p.0, p.1, unread_in x a one p.2))
      (λ more. ⊎_elim (λ p. inr (inl (p.0, p.1, λ damage. p.2 (no_header_back x a one damage), unread_in y b two p.3)))
      (λ p. let s = stops_chosen p.0 p.1 at p.2 p.4 in inr (inr (p.0, p.1, s.0, p.3, s.1))) more) h

  pub newer_of : (area version : ℕ) → IsNewerOf a b area version → IsNewerOf x y area version
  newer_of area version h =
      ⊎_elim (λ p. inl (p.0, newer_in x a one version p.1)) (λ p. inr (p.0, λ damage. p.1 (no_header_back x a one damage), newer_in y b two version p.2)) h

-- ---- what is told

fault_or_no_memory : (e : StoreFail) → IsFault e → IsFaultOrNoMemory e
fault_or_no_memory (DiskFault n) fault = fault
fault_or_no_memory (Damaged a n) fault = fault
fault_or_no_memory (NewerVersion a n) fault = fault
fault_or_no_memory NoMemory fault = tt

pub if_err_map : {T E : Type 0} (r : Result T E) (P Q : E → Type 0) → ((e : E) → P e → Q e) → IfErr r P → IfErr r Q
if_err_map (Ok x) P Q f h = tt
if_err_map (Err e) P Q f h = f e h

stopped_or_told : (x y : List ℕ) (e : StoreFail) → (IsToldOrNoMemory x y e ⊎ IsFaultOrNoMemory e) → (area at : ℕ) → IsDamageOf x y area at → IsDamageOrStopped area at e
stopped_or_told x y (DiskFault n) said area at here = tt
stopped_or_told x y (Damaged a n) said area at here = ⊎_elim (λ told. one_damage x y a area n at told here) (λ none. absurd none) said
stopped_or_told x y (NewerVersion a v) said area at here = ⊎_elim (λ told. absurd (newer_or_damage x y a v area at told here)) (λ none. absurd none) said
stopped_or_told x y NoMemory said area at here = tt

newer_or_told : (x y : List ℕ) (e : StoreFail) → (IsToldOrNoMemory x y e ⊎ IsFaultOrNoMemory e) → (area version : ℕ) → IsNewerOf x y area version → IsNewerOrStopped area version e
newer_or_told x y (DiskFault n) said area version here = tt
newer_or_told x y (Damaged a n) said area version here = ⊎_elim (λ told. absurd (newer_or_damage x y area version a n here told)) (λ none. absurd none) said
newer_or_told x y (NewerVersion a v) said area version here = ⊎_elim (λ told. one_newer_at x y a area v version told here) (λ none. absurd none) said
newer_or_told x y NoMemory said area version here = tt

-- an opening that a fault stops, or want of memory
pub opens_stopped : (fresh : Durable) (old new : Disks) (e : StoreFail) → IsFaultOrNoMemory e → Keeps fresh old new → MayLeave new.first new.first.content → MayLeave new.second new.second.content
    → CountsRefused e old new → OpensAreas fresh old new (Err e)
opens_stopped fresh old new (DiskFault n) none keeps image other_image calls =
    record { opened = tt; undamaged = tt; not_newer = tt; refusal = tt; complete = λ area at here. tt; newer = λ area version here. tt; crash = keeps; images = (image, other_image); calls = calls }
opens_stopped fresh old new (Damaged a n) none keeps image other_image calls = absurd none
opens_stopped fresh old new (NewerVersion a n) none keeps image other_image calls = absurd none
opens_stopped fresh old new NoMemory none keeps image other_image calls =
    record { opened = tt; undamaged = tt; not_newer = tt; refusal = tt; complete = λ area at here. tt; newer = λ area version here. tt; crash = keeps; images = (image, other_image); calls = calls }

-- what was read of both, with nothing changed and nothing pending
module _ (old mid : Disks) (obey : Obey old) (a b : List ℕ) (read_first : IsReadFrom old.first mid.first a) (read_second : IsReadFrom old.second mid.second b) where
  pub finds_damage : (e : StoreFail) → IsToldOrNoMemory a b e → CountsReadings old mid → FindsNone old mid e
  finds_damage (DiskFault n) said calls = absurd said
  finds_damage (Damaged area at) said calls =
      let here = damage_in old.first.content old.second.content a b (read_first.reading obey.0) (read_second.reading obey.1) area at said in
      record {
        calls = calls;
        refusal = (here, read_first.same obey.0, read_second.same obey.1);
        complete = stopped_or_told old.first.content old.second.content (Damaged area at) (inl here);
        newer = newer_or_told old.first.content old.second.content (Damaged area at) (inl here);
        images = ((read_first.rests obey.0).only.itself, (read_second.rests obey.1).only.itself);
      }
  finds_damage (NewerVersion area version) said calls =
      let here = newer_of old.first.content old.second.content a b (read_first.reading obey.0) (read_second.reading obey.1) area version said in
      record {
        calls = calls;
        refusal = (here, read_first.same obey.0, read_second.same obey.1);
        complete = stopped_or_told old.first.content old.second.content (NewerVersion area version) (inl here);
        newer = newer_or_told old.first.content old.second.content (NewerVersion area version) (inl here);
        images = ((read_first.rests obey.0).only.itself, (read_second.rests obey.1).only.itself);
      }
  finds_damage NoMemory said calls =
      record {
        calls = readings_stopped old mid calls;
        refusal = tt;
        complete = stopped_or_told old.first.content old.second.content NoMemory (inl tt);
        newer = newer_or_told old.first.content old.second.content NoMemory (inl tt);
        images = ((read_first.rests obey.0).only.itself, (read_second.rests obey.1).only.itself);
      }

area_fit : (bytes : List ℕ) (g : Head) (end base : ℕ) (d : Durable) → length bytes ≤ 2 ^ 62 → IsAreaFor g end base d bytes → IsFitFor g.generation end base d
area_fit bytes g end base d small a =
    let room = area_room g a.bodies end bytes a.area in
    (omega (arith, room.0, small), a.area.records.known, omega (arith, room.1, a.base_is, small), found_in_range g end base d bytes a)

-- whatever the disks are, what was read is in range
pub fit_in : (a b : List ℕ) (r : Reading) → length a ≤ 2 ^ 62 → length b ≤ 2 ^ 62 → IsRead a b r → IsFit r
fit_in a b (reading.New closed closed_other) one two h = tt
fit_in a b (reading.Area false g d end base closed) one two h = (area_fit a g end base d one h.0, h.3)
fit_in a b (reading.Area true g d end base closed) one two h = (area_fit b g end base d two h.0, h.3)

-- ---- what an opening leaves, once both disks are read

module _ (fresh : Durable) (old mid : Disks) (still : LeaveStill old mid) where
  abbrev Left : List ℕ → List ℕ → Type 0
  Left = Remains fresh old.first.content old.second.content

  pub keeps_still : Keeps fresh old mid
  keeps_still = pairs_still Left old mid still.first still.second

  -- nothing was found
  pub opens_none : (e : StoreFail) → FindsNone old mid e → OpensAreas fresh old mid (Err e)
  opens_none e f = record { opened = tt; undamaged = tt; not_newer = tt; refusal = f.refusal; complete = f.complete; newer = f.newer; crash = keeps_still; images = f.images; calls = f.calls }

  pub opens_none_of : (r : Result OpenArea StoreFail) → IsErr r → IfErr r (FindsNone old mid) → OpensAreas fresh old mid r
  opens_none_of (Ok x) err f = absurd (cc)
  opens_none_of (Err e) err f = opens_none e f

  content_of : (c : Bool) (disks : Disks) (P : List ℕ → List ℕ → Type 0) → P (chosen c disks.first.content disks.second.content) (other c disks.first.content disks.second.content)
      → P (chosen_disk c disks).content (other_disk c disks).content
  content_of false disks P h = h
  content_of true disks P h = h

  images_of : (c : Bool) (new : Disks) → MayLeave (chosen_disk c new) (chosen_disk c new).content → MayLeave (other_disk c new) (other_disk c new).content → HaveImages new
  images_of false new one two = (one, two)
  images_of true new one two = (two, one)

  -- an area is chosen, and what lies after its closed gate is cut
  module _ (c : Bool) (g : Head) (end base : ℕ) (d : Durable) (closed : Bool) (len : ℕ) (found : FindsAreas old mid (reading.Area c g d end base closed) len) where
    rests_both : (k : Bool) → IsAtRest (chosen_disk k mid) × IsAtRest (other_disk k mid)
    rests_both false = (found.rests_first, found.rests_second)
    rests_both true = (found.rests_second, found.rests_first)

    same_both : (k : Bool) → ((chosen_disk k mid).content ≡ (chosen_disk k old).content) × ((other_disk k mid).content ≡ (other_disk k old).content)
    same_both false = (found.same_first, found.same_second)
    same_both true = (found.same_second, found.same_first)

    there : IsAreaFor g end base d (chosen_disk c old).content × IsBelow (rival_end c g.generation) (other_disk c old).content × IsFormattable (other_disk c old).content closed × (IsStuck g → ⊥)
    there = content_of c old (λ x y. IsAreaFor g end base d x × IsBelow (rival_end c g.generation) y × IsFormattable y closed × (IsStuck g → ⊥)) found.found

    -- it is the chosen one
    chosen_there : IsChosen c g old.first.content old.second.content
    chosen_there = record {
      header = header_of g found.found.0.bodies (chosen c old.first.content old.second.content) found.found.0.area.records;
      below = found.found.1;
    }

    -- what holds of it holds of any that is chosen
    any_chosen : (P : Bool → Head → Type 0) → P c g → (k : Bool) (h : Head) → IsChosen k h old.first.content old.second.content → P k h
    any_chosen P holds k h is =
        let same = one_chosen k c h g old.first.content old.second.content is chosen_there in
        subst (λ (n : Head). P k n) (sym same.1) (subst (λ (b : Bool). P b g) (sym same.0) holds)

    stored : IsStored d old.first.content old.second.content
    stored = stored_of c g end base d old.first.content old.second.content found.found.0 found.found.1 found.found.3

    -- of the chosen area's disk
    pub area_there : IsAreaFor g end base d (chosen_disk c mid).content
    area_there = subst (λ (l : List ℕ). IsAreaFor g end base d l) (sym (same_both c).0) there.0

    pub rests_there : IsAtRest (chosen_disk c mid)
    rests_there = (rests_both c).0

    pub rests_beside : IsAtRest (other_disk c mid)
    rests_beside = (rests_both c).1

    resume_keeps : (new : Disks) → LeavesOnly (StandsAs g.generation d) (chosen_disk c mid) (chosen_disk c new) → LeavesOnly (λ image. ⊥) (other_disk c mid) (other_disk c new) → Keeps fresh old new
    resume_keeps new leaves others =
        chosen_pairs_left (StandsAs g.generation d) (λ image. ⊥) Left c old mid new still.first still.second found.rests_first found.rests_second found.same_first found.same_second leaves others
        (λ x stands. inl (d, stored, stored_at c g.generation d x (other_disk c old).content stands there.1))
        (λ y none. absurd none) (λ x y stands none. absurd none)

    resume_leaves : {T E : Type 0} (new : Disks) (r : Result T E) → Trims g area_there.bodies end (chosen_disk c mid) (chosen_disk c new) r → LeavesOnly (StandsAs g.generation d) (chosen_disk c mid) (chosen_disk c new)
    resume_leaves new r trims = weaker (HoldsRecords g area_there.bodies) (StandsAs g.generation d) (chosen_disk c mid) (chosen_disk c new) trims.crash
        (λ image h. record { version = g.version; bodies = area_there.bodies; records = h; make = area_there.make; not_stuck = there.3 })

    stands_old : StandsAs g.generation d (chosen_disk c old).content
    stands_old = stands_area (chosen_disk c old).content g end base d there.0 there.3

    -- and the other is begun, of the next generation
    carried_keeps : (new : Disks) → LeavesOnly (StandsAs g.generation d) (chosen_disk c mid) (chosen_disk c new) → LeavesOnly (IsBelowOrNext c g.generation d) (other_disk c mid) (other_disk c new) → Keeps fresh old new
    carried_keeps new leaves others =
        chosen_pairs_left (StandsAs g.generation d) (IsBelowOrNext c g.generation d) Left c old mid new still.first still.second found.rests_first found.rests_second found.same_first found.same_second leaves others
        (λ x stands. inl (d, stored, stored_at c g.generation d x (other_disk c old).content stands there.1))
        (λ y next. inl (d, stored, ⊎_elim (λ s. s) (λ s. s) (stored_rival c g.generation d d (chosen_disk c old).content y stands_old next)))
        (λ x y stands next. inl (d, stored, ⊎_elim (λ s. s) (λ s. s) (stored_rival c g.generation d d x y stands next)))

    finds_old : (v : Version) → g.version ≡ v → FindsArea c v end old
    finds_old v is = subst (λ (w : Version). FindsArea c w end old) is (record { generation = g.generation; chosen = chosen_there; bodies = there.0.bodies; area = there.0.area })

  module _ (a : OpenArea) (v : Version) (len : ℕ) (found : FindsAreas old mid (reading.Area a.is_second (head_of v a.generation) a.durable a.end a.base a.is_closed) len) (was_there : a.is_new ≡ false) where
    abbrev c : Bool
    c = a.is_second

    abbrev g : Head
    g = head_of v a.generation

    abbrev pub bodies : IsAreaFor g a.end a.base a.durable (chosen_disk c mid).content
    bodies = area_there c g a.end a.base a.durable a.is_closed len found

    -- one of the version of now is gone on with
    opens_ok : v ≡ Two → (new : Disks) (made : OpenArea) → made ≡ a → Trims {T = OpenArea} {E = StoreFail} g bodies.bodies a.end (chosen_disk c mid) (chosen_disk c new) (Ok made)
        → LeavesOnly (λ image. ⊥) (other_disk c mid) (other_disk c new) → IsAtRest (other_disk c new) → (other_disk c new).content ≡ (other_disk c mid).content → CountsOpened false c a.end old new → OpensAreas fresh old new (Ok made)
    opens_ok now new made is trims others rests same calls =
        let s = stored c g a.end a.base a.durable a.is_closed len found in
        let t = there c g a.end a.base a.durable a.is_closed len found in
        let r : Result OpenArea StoreFail = Ok made in
        let as_old = same ∙ (same_both c g a.end a.base a.durable a.is_closed len found c).1 in
        subst (λ (m : OpenArea). OpensAreas fresh old new (Ok m)) (sym is)
        (record {
          opened = record {
            found = subst (λ (k : Bool). IsOpenedAs fresh old.first.content old.second.content a.durable k) (sym was_there) s;
            is_open = record {
              settles = record {
                bodies = bodies.bodies;
                settled = subst (λ (w : Version). IsSettled (head_of w a.generation) bodies.bodies a.end (chosen_disk c new)) now trims.settled;
                make = subst (λ (w : Version). AllMake w None bodies.bodies (Some a.durable)) now bodies.make;
                base_is = bodies.base_is;
              };
              rests = rests;
              below = subst (λ (l : List ℕ). IsBelow (rival_end c a.generation) l) (sym as_old) t.1;
              formattable = subst (λ (l : List ℕ). IsFormattable l a.is_closed) (sym as_old) t.2;
            };
            begun = λ is_new. absurd (let e : false ≡ true = sym was_there ∙ is_new in cc);
            goes_on = any_chosen c g a.end a.base a.durable a.is_closed len found (λ k h. GoesOnWith h.version k h.generation a.durable c a.generation new)
                (subst (λ (w : Version). GoesOnWith w c a.generation a.durable c a.generation new) (sym now) (refl, refl));
          };
          undamaged = λ area at here. stored_or_damage old.first.content old.second.content a.durable area at s here;
          not_newer = λ area version here. stored_or_newer old.first.content old.second.content a.durable area version s here;
          refusal = tt;
          complete = tt;
          newer = tt;
          crash = resume_keeps c g a.end a.base a.durable a.is_closed len found new (resume_leaves c g a.end a.base a.durable a.is_closed len found new r trims) others;
          images = images_of c new trims.settled.rests.only.itself rests.only.itself;
          calls = subst (λ (k : Bool). CountsOpened k c a.end old new) (sym was_there) calls;
        })

    chosen_size : length (chosen_disk c old).content ≡ len
    chosen_size = ap length (sym (same_both c g a.end a.base a.durable a.is_closed len found c).0) ∙ found.size

    -- the calls of the chosen area's disk after both were read
    module _ (new : Disks) (idle : len ≤ a.end + 1 → (chosen_disk c new).calls ≡ (chosen_disk c mid).calls) (uncalled : (other_disk c new).calls ≡ (other_disk c mid).calls) where
      cut_calls : v ≡ Two → (a.end + 1 < len → Counts 2 (chosen_disk c mid).calls (chosen_disk c new).calls) → CountsOpened false c a.end old new
      cut_calls now cut =
          resumed_calls old mid new found.calls c a.end (finds_old c g a.end a.base a.durable a.is_closed len found Two now)
          (trimmed (chosen_disk c old).content a.end len (chosen_disk c old).calls (chosen_disk c mid).calls (chosen_disk c new).calls chosen_size (reads_chosen old mid new found.calls c).0 idle cut) uncalled

      uncut_calls : (e : StoreFail) → IsFault e → (a.end + 1 < len → CountsUpTo 2 (chosen_disk c mid).calls (chosen_disk c new).calls) → CountsRefused e old new
      uncut_calls (DiskFault n) fault cut =
          unresumed_calls old mid new found.calls c n
          (untrimmed (chosen_disk c old).content a.end len (chosen_disk c old).calls (chosen_disk c mid).calls (chosen_disk c new).calls chosen_size (reads_chosen old mid new found.calls c).0 idle cut) uncalled
      uncut_calls (Damaged k n) fault cut = absurd fault
      uncut_calls (NewerVersion k n) fault cut = absurd fault
      uncut_calls NoMemory fault cut = absurd fault

    obeys_there : (chosen_disk c mid).obeys
    obeys_there = (rests_there c g a.end a.base a.durable a.is_closed len found).obeys

    pub opens_resumed : v ≡ Two → (new : Disks) (r : Result OpenArea StoreFail) → IfOk r (λ m. m ≡ a) → IfErr r IsFault → Trims g bodies.bodies a.end (chosen_disk c mid) (chosen_disk c new) r
        → LeavesOnly (λ image. ⊥) (other_disk c mid) (other_disk c new) → IsAtRest (other_disk c new) → (other_disk c new).content ≡ (other_disk c mid).content
        → MayLeave (chosen_disk c new) (chosen_disk c new).content
        → (a.end + 1 < len → Costs 2 (chosen_disk c mid) (chosen_disk c new) r) → (len ≤ a.end + 1 → (chosen_disk c new).calls ≡ (chosen_disk c mid).calls) → (other_disk c new).calls ≡ (other_disk c mid).calls
        → OpensAreas fresh old new r
    opens_resumed now new (Ok made) is fault trims others rests same image cut idle uncalled =
        opens_ok now new made is trims others rests same (cut_calls new idle uncalled now (λ more. cut more obeys_there))
    opens_resumed now new (Err e) is fault trims others rests same image cut idle uncalled =
        let both = images_of c new image rests.only.itself in
        let r : Result OpenArea StoreFail = Err e in
        opens_stopped fresh old new e (fault_or_no_memory e fault) (resume_keeps c g a.end a.base a.durable a.is_closed len found new (resume_leaves c g a.end a.base a.durable a.is_closed len found new r trims) others) both.0 both.1
        (uncut_calls new idle uncalled e fault (λ more. cut more obeys_there))

    -- one of the first version is carried over
    carried_ok : v ≡ One → (new : Disks) (end : ℕ) → Trims {T = OpenArea} {E = StoreFail} g bodies.bodies a.end (chosen_disk c mid) (chosen_disk c new) (Ok (carried_area a end))
        → CarriesOver a (other_disk c mid) (other_disk c new) (Ok (carried_area a end)) → HaveImages new → CountsOpened false (not c) end old new → OpensAreas fresh old new (Ok (carried_area a end))
    carried_ok past new end trims carries images calls =
        let s = stored c g a.end a.base a.durable a.is_closed len found in
        let r : Result OpenArea StoreFail = Ok (carried_area a end) in
        record {
          opened = record {
            found = subst (λ (k : Bool). IsOpenedAs fresh old.first.content old.second.content a.durable k) (sym was_there) s;
            is_open = open_next a.durable c v a.generation end (end + 1) new carries.settled trims.settled.rests (header_of g bodies.bodies (chosen_disk c new).content trims.settled.area.records);
            begun = λ is_new. absurd (let e : false ≡ true = sym was_there ∙ is_new in cc);
            goes_on = any_chosen c g a.end a.base a.durable a.is_closed len found (λ k h. GoesOnWith h.version k h.generation a.durable (not c) (a.generation + 1) new)
                (subst (λ (w : Version). GoesOnWith w c a.generation a.durable (not c) (a.generation + 1) new) (sym past) (refl, refl, carries.written));
          };
          undamaged = λ area at here. stored_or_damage old.first.content old.second.content a.durable area at s here;
          not_newer = λ area version here. stored_or_newer old.first.content old.second.content a.durable area version s here;
          refusal = tt;
          complete = tt;
          newer = tt;
          crash = carried_keeps c g a.end a.base a.durable a.is_closed len found new (resume_leaves c g a.end a.base a.durable a.is_closed len found new r trims) carries.crash;
          images = images;
          calls = subst (λ (k : Bool). CountsOpened k (not c) end old new) (sym was_there) calls;
        }

    formattable_old : IsFormattable (other_disk c old).content a.is_closed
    formattable_old = (there c g a.end a.base a.durable a.is_closed len found).2

    pub beside_there : (IsBelow (rival_end c a.generation) (other_disk c mid).content) × IsFormattable (other_disk c mid).content a.is_closed
    beside_there =
        let t = there c g a.end a.base a.durable a.is_closed len found in
        subst (λ (l : List ℕ). IsBelow (rival_end c a.generation) l × IsFormattable l a.is_closed) (sym (same_both c g a.end a.base a.durable a.is_closed len found c).1) (t.1, t.2)

    pub opens_carried : v ≡ One → (new : Disks) (r : Result OpenArea StoreFail) → IfOk r (IsCarried a) → IfErr r IsFaultOrNoMemory → Trims g bodies.bodies a.end (chosen_disk c mid) (chosen_disk c new) r
        → CarriesOver a (other_disk c mid) (other_disk c new) r → HaveImages new → CountsCarrying c a.is_closed a.end len mid new r → OpensAreas fresh old new r
    opens_carried past new (Ok m) is none trims carries images calls =
        let count = carried_calls old mid new found.calls c a.is_closed a.end len chosen_size formattable_old m m.end calls (finds_old c g a.end a.base a.durable a.is_closed len found One past) in
        subst (λ (x : OpenArea). OpensAreas fresh old new (Ok x)) (sym is.0)
        (carried_ok past new m.end (subst (λ (x : OpenArea). Trims g bodies.bodies a.end (chosen_disk c mid) (chosen_disk c new) (let y : Result OpenArea StoreFail = Ok x in y)) is.0 trims)
        (subst (λ (x : OpenArea). CarriesOver a (other_disk c mid) (other_disk c new) (Ok x)) is.0 carries) images count)
    opens_carried past new (Err e) is none trims carries images calls =
        let r : Result OpenArea StoreFail = Err e in
        opens_stopped fresh old new e none (carried_keeps c g a.end a.base a.durable a.is_closed len found new (resume_leaves c g a.end a.base a.durable a.is_closed len found new r trims) carries.crash) images.0 images.1
        (uncarried_calls old mid new found.calls c a.is_closed a.end len chosen_size formattable_old OpenArea e calls)

  -- no area is there, and the first one is begun
  module _ (closed closed_other : Bool) (len : ℕ) (found : FindsAreas old mid (reading.New closed closed_other) len) where
    nothing : StoreNothing old.first.content old.second.content
    nothing = ((closed, found.found.0), (closed_other, found.found.1))

    formattable_new : (k : Bool) (bytes : List ℕ) → IsNew bytes k → IsFormattable bytes k
    formattable_new false bytes few = inl few
    formattable_new true bytes new = new

    pub formattable_there : IsFormattable mid.first.content closed
    formattable_there = subst (λ (l : List ℕ). IsFormattable l closed) (sym found.same_first) (formattable_new closed old.first.content found.found.0)

    begin_keeps : (new : DiskState) → LeavesOnly (λ image. IsOldOrNone mid.first.content image ⊎ StandsAs 1 fresh image) mid.first new → Keeps fresh old (record { first = new; second = mid.second })
    begin_keeps new leaves =
        chosen_pairs_left (λ image. IsOldOrNone mid.first.content image ⊎ StandsAs 1 fresh image) (λ image. ⊥) Left false old mid (record { first = new; second = mid.second })
        still.first still.second found.rests_first found.rests_second found.same_first found.same_second leaves (started (λ image. ⊥) mid.second)
        (λ x h. inr (
          nothing,
          ⊎_elim
              (λ before. inl (⊎_elim (λ same. subst HasNone (sym (same ∙ found.same_first)) nothing.0) (λ none. none) before, nothing.1))
              (λ stands. inr (stored_at false 1 fresh x old.second.content stands (inl nothing.1))) h,
        ))
        (λ y none. absurd none) (λ x y h none. absurd none)

    begins_ok : (new : DiskState) (end : ℕ) → BeginsArea fresh mid.first new (Ok (begun_area fresh closed_other end)) → Counts (format_calls closed) mid.first.calls new.calls → OpensAreas fresh old (record { first = new; second = mid.second }) (Ok (begun_area fresh closed_other end))
    begins_ok new end begins calls =
        record {
          opened = record {
            found = (nothing, refl);
            is_open = record {
              settles = begins.settled;
              rests = found.rests_second;
              below = inl (closed_other, subst (λ (l : List ℕ). IsNew l closed_other) (sym found.same_second) found.found.1);
              formattable = subst (λ (l : List ℕ). IsFormattable l closed_other) (sym found.same_second) (formattable_new closed_other old.second.content found.found.1);
            };
            begun = λ is_new. begins.written;
            goes_on = λ k h is. absurd (nothing_or_chosen k h old.first.content old.second.content nothing is);
          };
          undamaged = λ area at here. nothing_or_damage old.first.content old.second.content area at nothing here;
          not_newer = λ area version here. nothing_or_newer old.first.content old.second.content area version nothing here;
          refusal = tt;
          complete = tt;
          newer = tt;
          crash = begin_keeps new begins.crash;
          images = (begins.settled.settled.rests.only.itself, found.rests_second.only.itself);
          calls = begun_calls old mid (record { first = new; second = mid.second }) closed found.found.0 found.calls refl end calls;
        }

    pub opens_begun : (new : DiskState) (r : Result OpenArea StoreFail) → IfOk r (λ a. a ≡ begun_area fresh closed_other a.end) → IfErr r IsFaultOrNoMemory → BeginsArea fresh mid.first new r
        → MayLeave new new.content → CountsBeginning closed mid.first.calls new.calls r → OpensAreas fresh old (record { first = new; second = mid.second }) r
    opens_begun new (Ok a) is none begins image calls =
        subst (λ (m : OpenArea). OpensAreas fresh old (record { first = new; second = mid.second }) (Ok m)) (sym is)
        (begins_ok new a.end (subst (λ (m : OpenArea). BeginsArea fresh mid.first new (Ok m)) is begins) calls)
    opens_begun new (Err e) is none begins image calls =
        opens_stopped fresh old (record { first = new; second = mid.second }) e none (begin_keeps new begins.crash) image found.rests_second.only.itself
        (unbegun_calls old mid (record { first = new; second = mid.second }) closed found.found.0 found.calls refl e calls)

-- ---- a format begins an area that stands for what was laid out

pub begins_whole : {E : Type 0} (fresh : Durable) (framed : List ℕ) → IsBodyOf (Whole fresh) framed → (old new : DiskState) (r : Result ℕ E) → IsAtRest old → Formats 1 framed old new r
    → LeavesOnly (λ image. IsOldOrNone old.content image ⊎ StandsAs 1 fresh image) old new
begins_whole fresh framed is old new r rests formats =
    weaker (λ image. IsOldOrNone old.content image ⊎ HoldsRecords (new_head 1) (framed ∷ []) image) (λ image. IsOldOrNone old.content image ⊎ StandsAs 1 fresh image) old new (formats.crash rests)
    (λ c h. ⊎_elim (λ before. inl before) (λ whole. inr (stands_whole fresh framed is 1 c whole)) h)

-- ---- without memory no area is begun

pub begins_not_yet : (fresh : Durable) (d : DiskState) (e : StoreFail) → BeginsArea fresh d d (Err e)
begins_not_yet fresh d e = record { settled = tt; written = tt; crash = started _ d }
