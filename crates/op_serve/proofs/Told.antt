-- What an opening does not read is told, and where a node was opened nothing of it.
use Rattle.std.proofs.Common.{◌≡◌, inl, inr, ℕ, Bool, true, false, List, Err, refl, subst, ap₂}
use Rattle.op_types.specs.declared.durable.Durable.{Durable}
use Rattle.op_outside.specs.Disks.{DiskState}
use Rattle.op_outside.specs.Seen.{NetSeen, StreamSeen}
use Rattle.op_setup.specs.declared.config.Settings.{Settings}
use Rattle.op_status.specs.declared.status.Status.{Status}
use Rattle.op_status.specs.declared.status.Status.TheVariants as status
use Rattle.op_store.specs.Openings.{IsOpenedAs}
use Rattle.op_store.specs.Readings.{IsDamageOf, IsNewerOf}
use Rattle.op_store.proofs.UniquePairs.{stored_or_damage, nothing_or_damage, one_damage, stored_or_newer, nothing_or_newer, one_newer_at, newer_or_damage}
use Rattle.op_node.specs.Nodes.{NodeState}
use Rattle.op_node.specs.Openings.{fresh_as}
use Rattle.op_runs.specs.Possible.{kind_in}
use Rattle.op_serving.specs.declared.mark.Mark.{Mark}
use Rattle.op_serving.specs.declared.serve_end.ServeEnd.{ServeEnd}
use Rattle.op_serving.specs.declared.serve_end.ServeEnd.TheVariants as ends
use Rattle.op_serve.specs.Nodes.{Around, Ends, cannot_open, is_damaged, is_newer, has_no_memory, is_opened, is_not_marked, Goes, is_unheard, cannot_begin, has_served, IsDamaged, IsHeard, IsNewer, IsOwn, ObeyIn, TellsOrStops, status_of}

-- ---- disks that an opening read

read_is_not_newer : (fresh d : Durable) (is_new : Bool) (x y : List ℕ) (area version : ℕ) → IsOpenedAs fresh x y d is_new → IsNewerOf x y area version → ⊥
read_is_not_newer fresh d false x y area version found newer = stored_or_newer x y d area version found newer
read_is_not_newer fresh d true x y area version found newer = nothing_or_newer x y area version found.0 newer

read_is_not_damaged : (fresh d : Durable) (is_new : Bool) (x y : List ℕ) (area at : ℕ) → IsOpenedAs fresh x y d is_new → IsDamageOf x y area at → ⊥
read_is_not_damaged fresh d false x y area at found damage = stored_or_damage x y d area at found damage
read_is_not_damaged fresh d true x y area at found damage = nothing_or_damage x y area at found.0 damage

-- ---- ends of a node that was opened

serves_to_no_version : (end : ServeEnd) (area version : ℕ) → status_of end ≡ status.NewerVersion area version → ⊥
serves_to_no_version ends.Ended area version is = absurd cc
serves_to_no_version ends.TurnsOver area version is = absurd cc
serves_to_no_version ends.NetFault area version is = absurd cc
serves_to_no_version ends.Starved area version is = absurd cc

serves_to_no_damage : (end : ServeEnd) (area at : ℕ) → status_of end ≡ status.Damaged area at → ⊥
serves_to_no_damage ends.Ended area at is = absurd cc
serves_to_no_damage ends.TurnsOver area at is = absurd cc
serves_to_no_damage ends.NetFault area at is = absurd cc
serves_to_no_damage ends.Starved area at is = absurd cc

module _ {T : Type 0} (known : T → DiskState) (id : ℕ) (o : Settings) where
  -- one that is told neither where it can't listen, nor for want of memory, nor behind serving
  goes_not : (t : Status) → ((net0 net1 : NetSeen) (out0 out1 : StreamSeen) → IsHeard {T = Unit {0}} id o (Err t) net0 net1 out0 out1 → ⊥) → (status.NoMemory ≡ t → ⊥) → ((end : ServeEnd) → status_of end ≡ t → ⊥)
      → (n : NodeState) (stood : Type 0) (old new : Around T) (s : Status) (lost : List Mark) → Goes known id o n stood old new s lost → s ≡ t → ⊥
  goes_not t unheard starved served n stood old new s lost (is_unheard h same lives) is =
      unheard old.net new.net old.output new.output (subst (λ (x : Status). IsHeard {T = Unit {0}} id o (Err x) old.net new.net old.output new.output) is h)
  goes_not t unheard starved served n stood old new s lost (cannot_begin k r c same lives) is = starved is
  goes_not t unheard starved served n stood old new s lost (has_served {end = end} net r count run kept stored lives) is = served end is

  goes_to_no_version : (area version : ℕ) (n : NodeState) (stood : Type 0) (old new : Around T) (s : Status) (lost : List Mark) → Goes known id o n stood old new s lost → s ≡ status.NewerVersion area version → ⊥
  goes_to_no_version area version n stood old new s lost goes is =
      goes_not (status.NewerVersion area version) (λ net0 net1 out0 out1 h. h) (λ e. absurd cc) (λ end e. serves_to_no_version end area version e) n stood old new s lost goes is

  goes_to_no_damage : (area at : ℕ) (n : NodeState) (stood : Type 0) (old new : Around T) (s : Status) (lost : List Mark) → Goes known id o n stood old new s lost → s ≡ status.Damaged area at → ⊥
  goes_to_no_damage area at n stood old new s lost goes is =
      goes_not (status.Damaged area at) (λ net0 net1 out0 out1 h. h) (λ e. absurd cc) (λ end e. serves_to_no_damage end area at e) n stood old new s lost goes is

  -- ---- a newer version

  pub newer_is_told : (old new : Around T) (s : Status) (lost : List Mark) → Ends known id o old new s lost → ObeyIn known old → (area version : ℕ) → IsNewerOf (known old.first).content (known old.second).content area version
      → TellsOrStops (status.NewerVersion area version) s
  newer_is_told old new s lost (cannot_open keeps rose) obey area version here = inr (inl refl)
  newer_is_told old new s lost (is_damaged {area = a} {at = k} keeps same damage) obey area version here =
      absurd (newer_or_damage (known old.first).content (known old.second).content area version a k here (damage obey).damage)
  newer_is_told old new s lost (is_newer {area = a} {version = v} keeps same newer) obey area version here =
      let one = one_newer_at (known old.first).content (known old.second).content a area v version (newer obey).newer here in inl (ap₂ (λ (k : ℕ) (j : ℕ). status.NewerVersion k j) one.0 one.1)
  newer_is_told old new s lost (has_no_memory keeps same) obey area version here = inr (inr refl)
  newer_is_told old new s lost (is_opened {n = n} mid opened goes) obey area version here =
      absurd (read_is_not_newer (fresh_as (kind_in o.observers id) id o.members) opened.durable opened.is_new (known old.first).content (known old.second).content area version (opened.found obey) here)
  newer_is_told old new s lost (is_not_marked opened lives) obey area version here = inr (inl refl)

  pub newer_is_there : (old new : Around T) (s : Status) (lost : List Mark) → Ends known id o old new s lost → ObeyIn known old → (area version : ℕ) → s ≡ status.NewerVersion area version → IsNewer known old new area version
  newer_is_there old new s lost (cannot_open keeps rose) obey area version is = absurd cc
  newer_is_there old new s lost (is_damaged keeps same damage) obey area version is = absurd cc
  newer_is_there old new s lost (is_newer {area = a} {version = v} keeps same newer) obey area version is =
      let one : a ≡ area = cc in
      let two : v ≡ version = cc in
      subst (λ (k : ℕ). IsNewer known old new area k) two (subst (λ (k : ℕ). IsNewer known old new k v) one (newer obey))
  newer_is_there old new s lost (has_no_memory keeps same) obey area version is = absurd cc
  newer_is_there old new s lost (is_opened {n = n} mid opened goes) obey area version is =
      absurd (goes_to_no_version area version n (IsOwn known (kind_in o.observers id) id old opened.durable) mid new s lost goes is)
  newer_is_there old new s lost (is_not_marked opened lives) obey area version is = absurd cc

  -- ---- damage

  pub damage_is_told : (old new : Around T) (s : Status) (lost : List Mark) → Ends known id o old new s lost → ObeyIn known old → (area at : ℕ) → IsDamageOf (known old.first).content (known old.second).content area at
      → TellsOrStops (status.Damaged area at) s
  damage_is_told old new s lost (cannot_open keeps rose) obey area at here = inr (inl refl)
  damage_is_told old new s lost (is_damaged {area = a} {at = k} keeps same damage) obey area at here =
      let one = one_damage (known old.first).content (known old.second).content a area k at (damage obey).damage here in inl (ap₂ (λ (i : ℕ) (j : ℕ). status.Damaged i j) one.0 one.1)
  damage_is_told old new s lost (is_newer {area = a} {version = v} keeps same newer) obey area at here =
      absurd (newer_or_damage (known old.first).content (known old.second).content a v area at (newer obey).newer here)
  damage_is_told old new s lost (has_no_memory keeps same) obey area at here = inr (inr refl)
  damage_is_told old new s lost (is_opened {n = n} mid opened goes) obey area at here =
      absurd (read_is_not_damaged (fresh_as (kind_in o.observers id) id o.members) opened.durable opened.is_new (known old.first).content (known old.second).content area at (opened.found obey) here)
  damage_is_told old new s lost (is_not_marked opened lives) obey area at here = inr (inl refl)

  pub damage_is_there : (old new : Around T) (s : Status) (lost : List Mark) → Ends known id o old new s lost → ObeyIn known old → (area at : ℕ) → s ≡ status.Damaged area at → IsDamaged known old new area at
  damage_is_there old new s lost (cannot_open keeps rose) obey area at is = absurd cc
  damage_is_there old new s lost (is_damaged {area = a} {at = k} keeps same damage) obey area at is =
      let one : a ≡ area = cc in
      let two : k ≡ at = cc in
      subst (λ (j : ℕ). IsDamaged known old new area j) two (subst (λ (j : ℕ). IsDamaged known old new j k) one (damage obey))
  damage_is_there old new s lost (is_newer keeps same newer) obey area at is = absurd cc
  damage_is_there old new s lost (has_no_memory keeps same) obey area at is = absurd cc
  damage_is_there old new s lost (is_opened {n = n} mid opened goes) obey area at is =
      absurd (goes_to_no_damage area at n (IsOwn known (kind_in o.observers id) id old opened.durable) mid new s lost goes is)
  damage_is_there old new s lost (is_not_marked opened lives) obey area at is = absurd cc
