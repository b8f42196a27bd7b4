-- What two closed copies hold, and what a mirror that is opened on them leaves.
use Rattle.std.proofs.Common.{◌≡◌, ◌⊎◌, inl, inr, ⊎_elim, ◌<◌, ◌≤◌, ◌+◌, ℕ, Bool, true, false, List, [], ◌∷◌, length, refl, suc, Result, Ok, Err, sym, subst, ◌∙◌, arith}
use Rattle.std.specs.Prelude.{IfOk}
use Rattle.op_outside.specs.Causes.{last_count}
use Rattle.op_outside.specs.Pendings.{Pending, IsImage, synced}
use Rattle.op_outside.specs.Disks.{DiskState, MayLeave}
use Rattle.op_outside.specs.Disks.Edit.{Nothing}
use Rattle.op_outside.proofs.Runs.{now_torn}
use Rattle.op_outside.proofs.Mixing.{mixed_image}
use Rattle.op_memory.specs.MemDisks.{known_disk, PendAlike}
use Rattle.op_memory.specs.declared.disk.MemDisk.{MemDisk}
use Rattle.op_memory.proofs.Images.{sync_only}
use Rattle.op_memory.proofs.Sound.{disk_is_sound}
use Rattle.op_mirror.specs.declared.gone.Gone.{Gone}
use Rattle.op_mirror.specs.declared.gone.Gone.TheVariants.{Neither, First, Second}
use Rattle.op_mirror.specs.declared.mirror.Mirror.{Mirror}
use Rattle.op_mirror.specs.Copies.{has_second, living_of, mirrored, read_copy, reads_second, AreAlike}
use Rattle.op_mirror.specs.Crashes.{IsOneCall}
use Rattle.op_mirror.specs.Mirrors.{known_mirror}
use Rattle.op_mirror.specs.Opens.{LeavesBoth, Opens}
use Rattle.op_mirror.proofs.Images.{mirror_is_sound}
use Rattle.op_areas.specs.Areas.{IsOpening, OpensOn}
use Rattle.op_areas.specs.Disks.{IsEmptyDisk, LeavesNoMore, StaysKilled}
use Rattle.op_areas.specs.Media.{HoldNoMore, HoldWhatIsLeft}
use Rattle.op_areas.specs.Openings.{IsSeen, IsCalledOnce, IsAsSeen, AreAsSeen, IsOpenedAsSeen, IsNoOther}
use Rattle.op_areas.specs.Pairs.{LeftOfLiving, LeftOfPair, holds_pair}
use Rattle.op_areas.specs.declared.area.Opening.{Opening}
use Rattle.op_areas.specs.declared.area.Opening.TheVariants.{Opened, Failed}
use Rattle.op_areas.specs.declared.mem_mirror.MemMirror.{MemMirror}
use Rattle.op_areas.specs.declared.pair.DiskPair.{DiskPair}
use Rattle.op_areas.specs.declared.seen.Seen.{Seen}

-- ---- one disk
still_alive : (b c : Bool) → (b ≡ true → c ≡ true) → c ≡ false → b ≡ false
still_alive true c stays alive = let killed : c ≡ true = stays refl in absurd (cc)
still_alive false c stays alive = refl

not_true : (b : Bool) → (b ≡ true → ⊥) → b ≡ false
not_true true alive = absurd (alive refl)
not_true false alive = refl

living_no_more : (old new : MemDisk) → StaysKilled old new → LeavesNoMore old new → (x : List ℕ) → LeftOfLiving new x → LeftOfLiving old x
living_no_more old new stays less x left = (still_alive old.script.is_killed new.script.is_killed stays left.0, less x left.1)

-- ---- closed copies
pub pair_no_more : (c d : DiskPair) → StaysKilled c.first d.first → LeavesNoMore c.first d.first → StaysKilled c.second d.second → LeavesNoMore c.second d.second
    → HoldNoMore holds_pair c d
pair_no_more c d stays_first first stays_second second x held s all =
    held s (λ y left. all y (⊎_elim
    (λ p. inl (living_no_more c.first d.first stays_first first y p))
    (λ p. inr (living_no_more c.second d.second stays_second second y p))
    left))

pub empty_pair : (c : DiskPair) → IsEmptyDisk c.first → IsEmptyDisk c.second → (x : List ℕ) → holds_pair c x → x ≡ []
empty_pair c first second x held =
    let is_empty : (y : List ℕ) → LeftOfPair c y → y ≡ [] = λ y left. ⊎_elim (λ p. first y p.1) (λ p. second y p.1) left in
    (sync_only []).no_other x (held (synced []) (λ y left. subst (IsImage (synced [])) (sym (is_empty y left)) (sync_only []).itself))

-- two killed copies hold nothing
pub killed_pair : (c : DiskPair) → c.first.script.is_killed ≡ true → c.second.script.is_killed ≡ true → (x : List ℕ) → holds_pair c x → ⊥
killed_pair c first second x held =
    let longer : Pending = record { base = []; low = suc (length x); high = suc (length x); writes = [] } in
    let image : IsImage longer x = held longer (λ y left. ⊎_elim (λ p. let alive : c.first.script.is_killed ≡ false = p.0 in absurd (cc)) (λ p. let alive : c.second.script.is_killed ≡ false = p.0 in absurd (cc)) left) in
    let no : suc (length x) ≤ length x = image.no_shorter in
    absurd (omega arith)

-- ---- a mirror that is closed
alike_image : (d e : MemDisk) (y : List ℕ) → PendAlike d e → MayLeave (known_disk e) y → IsImage (known_disk d).pending y
alike_image d e y alike may = subst (λ (s : Pending). IsImage s y) (sym alike) (((disk_is_sound e).images y).0 may)

alike_back : (d e : MemDisk) (y : List ℕ) → PendAlike d e → MayLeave (known_disk d) y → IsImage (known_disk e).pending y
alike_back d e y alike may = subst (λ (s : Pending). IsImage s y) alike (((disk_is_sound d).images y).0 may)

both_live : (gone : Gone) (is_dead : Bool) → living_of gone is_dead ≡ 2 → gone ≡ Neither
both_live Neither d two = refl
both_live First true two = absurd (cc)
both_live First false two = absurd (cc)
both_live Second true two = absurd (cc)
both_live Second false two = absurd (cc)

read_image : (gone : Gone) (is_dead : Bool) (c : DiskPair) → AreAlike gone (known_disk c.first) (known_disk c.second)
    → IsNoOther (living_of gone is_dead) (reads_second gone) c.first c.second
    → (y : List ℕ) → LeftOfPair c y → IsImage (read_copy gone (known_disk c.first) (known_disk c.second)).pending y
read_image Neither d c alike other y left = ⊎_elim
    (λ p. ((disk_is_sound c.first).images y).0 p.1)
    (λ p. alike_image c.first c.second y (alike refl tt tt).pending p.1)
    left
read_image First d c alike other y (inr p) = ((disk_is_sound c.second).images y).0 p.1
read_image First d c alike (inl two) y (inl p) = let none : First ≡ Neither = both_live First d two in absurd (cc)
read_image First d c alike (inr (inl killed)) y (inl p) = let alive : c.first.script.is_killed ≡ false = p.0 in absurd (cc)
read_image First d c alike (inr (inr same)) y (inl p) = alike_back c.first c.second y same p.1
read_image Second d c alike other y (inl p) = ((disk_is_sound c.first).images y).0 p.1
read_image Second d c alike (inl two) y (inr p) = let none : Second ≡ Neither = both_live Second d two in absurd (cc)
read_image Second d c alike (inr (inl killed)) y (inr p) = let alive : c.second.script.is_killed ≡ false = p.0 in absurd (cc)
read_image Second d c alike (inr (inr same)) y (inr p) = alike_image c.first c.second y same p.1

closed_holds : (gone : Gone) (is_dead : Bool) (f k : ℕ) (counts : List ℕ) (c : DiskPair) → AreAlike gone (known_disk c.first) (known_disk c.second)
    → IsNoOther (living_of gone is_dead) (reads_second gone) c.first c.second
    → HoldWhatIsLeft holds_pair (mirrored gone f k counts (known_disk c.first) (known_disk c.second)) c
closed_holds gone is_dead f k counts c alike other x held =
    let sound = mirror_is_sound (known_disk c.first) (known_disk c.second) (disk_is_sound c.first) (disk_is_sound c.second) tt tt gone f k counts alike in
    (sound.images x).1 (held (read_copy gone (known_disk c.first) (known_disk c.second)).pending (read_image gone is_dead c alike other))

-- the same of a mirror that is taken apart
pub closed_mirror : (gone : Gone) (is_dead : Bool) (f k : ℕ) (counts : List ℕ) (a b a' b' : MemDisk) → a ≡ a' → b ≡ b' → AreAlike gone (known_disk a) (known_disk b)
    → IsNoOther (living_of gone is_dead) (reads_second gone) a' b'
    → HoldWhatIsLeft holds_pair (mirrored gone f k counts (known_disk a) (known_disk b)) (record { first = a'; second = b' })
closed_mirror gone is_dead f k counts a b a' b' first second alike other =
    let there : IsNoOther (living_of gone is_dead) (reads_second gone) a b =
    subst (λ (d : MemDisk). IsNoOther (living_of gone is_dead) (reads_second gone) d b) (sym first)
    (subst (λ (d : MemDisk). IsNoOther (living_of gone is_dead) (reads_second gone) a' d) (sym second) other) in
    subst (λ (d : MemDisk). HoldWhatIsLeft holds_pair (mirrored gone f k counts (known_disk a) (known_disk b)) (record { first = d; second = b' })) first
    (subst (λ (d : MemDisk). HoldWhatIsLeft holds_pair (mirrored gone f k counts (known_disk a) (known_disk b)) (record { first = a; second = d })) second
    (closed_holds gone is_dead f k counts (record { first = a; second = b }) alike there))

-- ---- copies that are opened
module _ (c : DiskPair) (a b : MemDisk) (leaves : LeavesBoth (known_disk c.first) (known_disk c.second) (known_disk a) (known_disk b))
    (once : c.first.script.is_killed ≡ true → IsOneCall (known_disk c.first) (known_disk a)) (s : Pending) (all : (y : List ℕ) → LeftOfPair c y → IsImage s y) where
  pub first_image : c.first.script.is_killed ≡ false → (x : List ℕ) → MayLeave (known_disk a) x → IsImage s x
  first_image alive x may = ⊎_elim (λ was. all x (inl (alive, was))) (λ was. all x (inl (alive, was))) ((leaves.first tt).now x may)

  second_where : (killed : Bool) → c.first.script.is_killed ≡ killed → c.second.script.is_killed ≡ false → (x : List ℕ) → MayLeave (known_disk b) x → IsImage s x
  second_where true first alive x may =
      let torn = now_torn Nothing (known_disk c.second) (known_disk b) (leaves.at_once tt tt (once first)) x may in
      all x (inr (alive, subst (MayLeave (known_disk c.second)) (sym torn.2) torn.1))
  second_where false first alive x may = ⊎_elim
      (λ was. all x (inr (alive, was)))
      (λ mix. mixed_image s (known_disk c.first).content (known_disk c.second).content mix.0 x
      (all (known_disk c.first).content (inl (first, (disk_is_sound c.first).image)))
      (all (known_disk c.second).content (inr (alive, (disk_is_sound c.second).image)))
      (all mix.0 (inr (alive, mix.1))) mix.2)
      ((leaves.second tt tt).now x may)

  pub second_image : c.second.script.is_killed ≡ false → (x : List ℕ) → MayLeave (known_disk b) x → IsImage s x
  second_image alive x may = second_where c.first.script.is_killed refl alive x may

-- the copy counts that isn't out
counted : (gone : Gone) (f k : ℕ) (counts : List ℕ) (a b : DiskState) (x : List ℕ) → MayLeave (mirrored gone f k counts a b) x
    → ((gone ≡ First → ⊥) × MayLeave a x) ⊎ ((gone ≡ Second → ⊥) × MayLeave b x)
counted Neither f k counts a b x may = ⊎_elim (λ p. inl (λ (e : Neither ≡ First). absurd (cc), p.1)) (λ p. inr (λ (e : Neither ≡ Second). absurd (cc), p.1)) may
counted First f k counts a b x may = ⊎_elim (λ p. let no : 1 ≡ 0 = p.0 in absurd (omega arith)) (λ p. inr (λ (e : First ≡ Second). absurd (cc), p.1)) may
counted Second f k counts a b x may = ⊎_elim (λ p. inl (λ (e : Second ≡ First). absurd (cc), p.1)) (λ p. let no : 1 ≡ 0 = p.0 in absurd (omega arith)) may

second_out : (gone : Gone) (is_dead : Bool) → is_dead ≡ false → has_second gone is_dead ≡ false → gone ≡ Second
second_out Neither true lives out = absurd (cc)
second_out Neither false lives out = absurd (cc)
second_out First true lives out = absurd (cc)
second_out First false lives out = absurd (cc)
second_out Second d lives out = refl

-- a killed first copy was called once
one_call : (c : DiskPair) (seen : Seen) (a : MemDisk) → IsSeen c seen → (seen.first_killed ≡ true → IsCalledOnce seen a) → c.first.script.is_killed ≡ true
    → IsOneCall (known_disk c.first) (known_disk a)
one_call c seen a is once killed = subst (λ (n : ℕ). (n + 1 < last_count) × (a.script.made ≡ n + 1)) is.first_calls (once (is.first_killed ∙ killed))

module _ {g : _} (c : DiskPair) (seen : Seen) (m : Mirror MemDisk g) (is : IsSeen c seen) (o : Opens known_disk c.first c.second m)
    (first : seen.first_killed ≡ true → IsCalledOnce seen m.first) (second : seen.second_killed ≡ true → has_second m.gone m.is_dead ≡ false) where
  once : c.first.script.is_killed ≡ true → IsOneCall (known_disk c.first) (known_disk m.first)
  once = one_call c seen m.first is first

  pub opened_left : (x : List ℕ) → MayLeave (known_mirror known_disk m) x → holds_pair c x
  opened_left x may s all = ⊎_elim
      (λ p. first_image c m.first m.second o.leaves once s all (not_true c.first.script.is_killed (λ killed. p.0 (o.at_once tt (once killed)))) x p.1)
      (λ p. second_image c m.first m.second o.leaves once s all
      (not_true c.second.script.is_killed (λ killed. p.0 (second_out m.gone m.is_dead o.lives (second (is.second_killed ∙ killed))))) x p.1)
      (counted m.gone m.faults m.calls (m.first_mark ∷ m.second_mark ∷ []) (known_disk m.first) (known_disk m.second) x may)

pub opens_on : {g h : _} (c : DiskPair) (seen : Seen) (m : Mirror MemDisk g) (r : Mirror MemDisk h) → IsSeen c seen → Opens known_disk c.first c.second m → IsAsSeen seen m r
    → OpensOn holds_pair c (known_mirror known_disk r)
opens_on c seen m r is o fits =
    let left = opened_left c seen m is o fits.first fits.second in
    record {
      obeys = fits.same.model.1 (o.model.1 (tt, tt));
      read = subst (holds_pair c) (sym fits.same.content) (left (known_mirror known_disk m).content (o.sound (o.model.1 (tt, tt))).image);
      left = λ x may. left x ((fits.same.images x).0 may);
    }

pub refused_hold_no_more : (c : DiskPair) (seen : Seen) (a b : MemDisk) (r : DiskPair) → IsSeen c seen
    → LeavesBoth (known_disk c.first) (known_disk c.second) (known_disk a) (known_disk b) → AreAsSeen seen a b r → HoldNoMore holds_pair c r
refused_hold_no_more c seen a b r is leaves fits x held s all =
    let once : c.first.script.is_killed ≡ true → IsOneCall (known_disk c.first) (known_disk a) = one_call c seen a is fits.once in
    held s (λ y left. ⊎_elim
    (λ p. first_image c a b leaves once s all (still_alive c.first.script.is_killed r.first.script.is_killed (λ k. fits.first_killed (is.first_killed ∙ k)) p.0) y (fits.first_left y p.1))
    (λ p. second_image c a b leaves once s all (still_alive c.second.script.is_killed r.second.script.is_killed (λ k. fits.second_killed (is.second_killed ∙ k)) p.0) y (fits.second_left y p.1))
    left)

-- what the opening of copies gives, where a mirror of them was opened
opens_as : {g : _} (c : DiskPair) (seen : Seen) (m : Mirror MemDisk g) (r : Opening MemMirror DiskPair) → IsSeen c seen → Opens known_disk c.first c.second m
    → IsOpenedAsSeen seen m r → IsOpening (λ (a : MemMirror). known_mirror known_disk a.mirror) holds_pair c r
opens_as c seen m (Opened area) is o fits = opens_on c seen m area.mirror is o fits
opens_as c seen m (Failed copies) is o fits = refused_hold_no_more c seen m.first m.second copies is o.leaves fits

pub opening_is : {g : _} {E : Type 0} (c : DiskPair) (seen : Seen) (m : Mirror MemDisk g) (r : Result (Opening MemMirror DiskPair) E) → IsSeen c seen
    → Opens known_disk c.first c.second m → IfOk r (IsOpenedAsSeen seen m) → IfOk r (IsOpening (λ (a : MemMirror). known_mirror known_disk a.mirror) holds_pair c)
opening_is c seen m (Ok r) is o fits = opens_as c seen m r is o fits
opening_is c seen m (Err e) is o fits = tt
