-- What a node finds that failed and is opened again.
use Rattle.std.proofs.Common.{◌≡◌, ◌⊎◌, inl, inr, ⊎_elim, ℕ, Bool, true, false, List, None, Ok, Err, refl, ap, subst}
use Rattle.op_types.specs.Changes.{durable_after}
use Rattle.op_types.specs.declared.changes.Change.{Change}
use Rattle.op_types.specs.declared.durable.Durable.{Durable}
use Rattle.op_types.specs.declared.messages.Msg.{Msg}
use Rattle.op_record.specs.Ranges.{DurableInRange}
use Rattle.op_runs.specs.World.{state_after_reopening}
use Rattle.op_outside.specs.Disks.{DiskState, MayLeave}
use Rattle.op_store.specs.Stored.{Disks, IsStored, StoreNothing, Obey, HaveImages, KeepBoth}
use Rattle.op_store.specs.Stores.{Represents, disks_of}
use Rattle.op_store.specs.Openings.{IsOpenedAs, Remains, Keeps, Opened, Refused, refused_by}
use Rattle.op_store.specs.Readings.{IsDamageOf, IsNewerOf}
use Rattle.op_store.specs.declared.store.Store.{Store}
use Rattle.op_store.specs.declared.fail.StoreFail.{StoreFail}
use Rattle.op_store.specs.declared.fail.StoreFail.TheVariants.{DiskFault, Damaged, NewerVersion, NoMemory}
use Rattle.op_store.proofs.CommitCrashes.{image_stored, rests_first, rests_second}
use Rattle.op_store.proofs.UniquePairs.{one_stored, nothing_or_stored, stored_or_damage, stored_or_newer}
use Rattle.op_server.specs.Seats.{kind_of, me_of, state_of}
use Rattle.op_server.specs.declared.seat.Seat.{Seat}
use Rattle.op_node.specs.Nodes.{node_of}
use Rattle.op_node.specs.Openings.{RefusesNode, kept_from}
use Rattle.op_node.specs.Reopenings.{IsOneOf, StoreOneOf, count_kept, reopening_sends, Reopens, RefusesAgain, FindsOneOf}
use Rattle.op_node.specs.Steps.{Steps}
use Rattle.op_node.specs.declared.node.Node.{Node}
use Rattle.op_node.specs.declared.fail.StepFail.TheVariants as fails
use Rattle.op_node.proofs.NodeSteps.{node_same}
use Rattle.op_node.proofs.Refusals.{moved}

-- ---- bytes of which one of two durable states is stored

module _ (d e : Durable) (x y : List ℕ) (one : IsOneOf d e x y) where
  not_nothing : StoreNothing x y → ⊥
  not_nothing none = ⊎_elim (λ s. nothing_or_stored x y d none s) (λ s. nothing_or_stored x y e none s) one

  not_damaged : (area at : ℕ) → IsDamageOf x y area at → ⊥
  not_damaged area at damage = ⊎_elim (λ s. stored_or_damage x y d area at s damage) (λ s. stored_or_damage x y e area at s damage) one

  none_newer : (area version : ℕ) → IsNewerOf x y area version → ⊥
  none_newer area version newer = ⊎_elim (λ s. stored_or_newer x y d area version s newer) (λ s. stored_or_newer x y e area version s newer) one

  -- what is stored there is one of them
  is_one : (f : Durable) → IsStored f x y → (f ≡ d) ⊎ (f ≡ e)
  is_one f stored = ⊎_elim (λ s. inl (one_stored x y f d stored s)) (λ s. inr (one_stored x y f e stored s)) one

  -- an opening finds one of them
  pub found_one : (fresh f : Durable) (is_new : Bool) → IsOpenedAs fresh x y f is_new → (is_new ≡ false) × ((f ≡ d) ⊎ (f ≡ e))
  found_one fresh f false found = (refl, is_one f found)
  found_one fresh f true found = absurd (not_nothing found.0)

  -- what remains of it is
  one_remains : (fresh : Durable) (u v : List ℕ) → Remains fresh x y u v → IsOneOf d e u v
  one_remains fresh u v remains = ⊎_elim
      (λ r. ⊎_elim (λ is. inl (subst (λ (g : Durable). IsStored g u v) is r.2)) (λ is. inr (subst (λ (g : Durable). IsStored g u v) is r.2)) (is_one r.0 r.1))
      (λ r. absurd (not_nothing r.0)) remains

-- ---- disks that store one of two durable states

pub obey_still : (old new : Disks) → KeepBoth old new → Obey old → Obey new
obey_still old new kept obey = (kept.model.0.1 obey.0, kept.model.1.1 obey.1)

pub keep_one : (fresh d e : Durable) (old new : Disks) → StoreOneOf d e old → KeepBoth old new → HaveImages new → Keeps fresh old new → StoreOneOf d e new
keep_one fresh d e old new s kept images keeps =
    let left : (x y : List ℕ) → MayLeave new.first x → MayLeave new.second y → IsOneOf d e x y = λ x y one two.
    ⊎_elim (λ was. s.left x y was.0 was.1) (λ r. one_remains d e old.first.content old.second.content s.read fresh x y r) (keeps.now x y one two) in
    record { obey = obey_still old new kept s.obey; read = left new.first.content new.second.content images.0 images.1; left = left }

module _ {D : Type 0} (state : D → DiskState) where
  pub images : (d : Durable) (s : Store D) → Represents state d s → HaveImages (disks_of state s)
  images d s r = (
    (rests_first d s.is_second s.generation s.end s.base s.is_closed (disks_of state s) r).only.itself,
    (rests_second d s.is_second s.generation s.end s.base s.is_closed (disks_of state s) r).only.itself,
  )

  pub obeys : (d : Durable) (s : Store D) → Represents state d s → Obey (disks_of state s)
  obeys d s r = (
    (rests_first d s.is_second s.generation s.end s.base s.is_closed (disks_of state s) r).obeys,
    (rests_second d s.is_second s.generation s.end s.base s.is_closed (disks_of state s) r).obeys,
  )

  -- a step in which a disk fails leaves them so
  pub failed_step : {T : Type 0} (d : Durable) (batch : List Change) (old new : Store D) (n : ℕ) → Steps {T = T} state d batch old new (Err (fails.DiskFail n)) → Represents state d old
      → StoreOneOf d (durable_after d batch) (disks_of state new)
  failed_step d batch old new n steps r =
      let commits = steps.commits r in
      record {
        obey = obey_still (disks_of state old) (disks_of state new) steps.kept (obeys d old r);
        read = commits.left;
        left = λ x y one two. ⊎_elim
            (λ was. inl (image_stored d old.is_second old.generation old.end old.base old.is_closed (disks_of state old) r x y was.0 was.1))
            (λ is. is) (commits.crash.now x y one two);
      }

  -- a refusal for damage tells some
  refused_damage : (fresh : Durable) (first second : D) (s : Store D) (cause : StoreFail) (area at : ℕ) → RefusesNode state fresh first second (refused_by s cause) → cause ≡ Damaged area at
      → Obey (record { first = state first; second = state second }) → IsDamageOf (state first).content (state second).content area at
  refused_damage fresh first second s (DiskFault n) area at refused is obey = absurd (cc)
  refused_damage fresh first second s (NewerVersion a v) area at refused is obey = absurd (cc)
  refused_damage fresh first second s NoMemory area at refused is obey = absurd (cc)
  refused_damage fresh first second s (Damaged a m) area at (inl r) is obey =
      let damage = (r.refusal obey).0 in
      let one : a ≡ area = cc in
      let two : m ≡ at = cc in
      subst (λ (k : ℕ). IsDamageOf (state first).content (state second).content area k) two (subst (λ (k : ℕ). IsDamageOf (state first).content (state second).content k m) one damage)
  refused_damage fresh first second s (Damaged a m) area at (inr starves) is obey = let none = starves.cause in absurd (cc)

  -- one for a newer version tells it
  refused_newer : (fresh : Durable) (first second : D) (s : Store D) (cause : StoreFail) (area version : ℕ) → RefusesNode state fresh first second (refused_by s cause) → cause ≡ NewerVersion area version
      → Obey (record { first = state first; second = state second }) → IsNewerOf (state first).content (state second).content area version
  refused_newer fresh first second s (DiskFault n) area version refused is obey = absurd (cc)
  refused_newer fresh first second s (Damaged a m) area version refused is obey = absurd (cc)
  refused_newer fresh first second s NoMemory area version refused is obey = absurd (cc)
  refused_newer fresh first second s (NewerVersion a v) area version (inl r) is obey =
      let newer = (r.refusal obey).0 in
      let one : a ≡ area = cc in
      let two : v ≡ version = cc in
      subst (λ (k : ℕ). IsNewerOf (state first).content (state second).content area k) two (subst (λ (k : ℕ). IsNewerOf (state first).content (state second).content k v) one newer)
  refused_newer fresh first second s (NewerVersion a v) area version (inr starves) is obey = let none = starves.cause in absurd (cc)

  -- a refused opening leaves them so
  pub refused_leaves : (fresh d e : Durable) (old : Store D) (s : Store D) (cause : StoreFail) → RefusesNode state fresh old.first old.second (refused_by s cause) → StoreOneOf d e (disks_of state old) → StoreOneOf d e (disks_of state s)
  refused_leaves fresh d e old s cause (inl r) one =
      keep_one fresh d e (disks_of state old) (disks_of state s) one r.kept (r.images one.obey) (r.crash one.obey)
  refused_leaves fresh d e old s cause (inr starves) one = ⊎_elim
      (λ same. moved state (StoreOneOf d e) old.first old.second s.first s.second same.0 same.1 one)
      (λ h.
      let opened = keep_one fresh d e (disks_of state old) (disks_of state h.store) one h.opened.kept (images h.durable h.store (h.opened.stored one.obey)) (h.opened.crash one.obey) in
      moved state (StoreOneOf d e) h.store.first h.store.second s.first s.second h.same.0 h.same.1 opened)
      starves.left

  -- ---- a node

  reopens_as : (d e : Durable) (f : Durable) (is_new : Bool) (old new : Node D) (sends : List (ℕ × Msg)) → Reopens state f is_new old new sends → is_new ≡ false → f ≡ d → Reopens state d false old new sends
  reopens_as d e f is_new old new sends r known is =
      subst (λ (g : Durable). Reopens state g false old new sends) is (subst (λ (b : Bool). Reopens state f b old new sends) known r)

  pub finds_one : (d e f : Durable) (is_new : Bool) (old new : Node D) (sends : List (ℕ × Msg)) → Reopens state f is_new old new sends → StoreOneOf d e (disks_of state old.store)
      → FindsOneOf state d e old new (Ok sends)
  finds_one d e f is_new old new sends r one =
      let disks = disks_of state old.store in
      let found = found_one d e disks.first.content disks.second.content one.read (node_of old).state.durable f is_new (r.opened.found one.obey) in
      record {
        found = ⊎_elim (λ is. inl (reopens_as d e f is_new old new sends r found.0 is)) (λ is. inr (reopens_as e d f is_new old new sends r found.0 is)) found.1;
        left = tt;
        undamaged = λ area at err. absurd (cc);
        not_newer = λ area version err. absurd (cc);
      }

  pub finds_none : (d e : Durable) (old new : Node D) (cause : StoreFail) → RefusesAgain state old new cause → StoreOneOf d e (disks_of state old.store)
      → FindsOneOf state d e old new (Err cause)
  finds_none d e old new cause r one =
      let disks = disks_of state old.store in
      record {
        found = tt;
        left = refused_leaves (node_of old).state.durable d e old.store new.store cause r.disks one;
        undamaged = λ area at err. not_damaged d e disks.first.content disks.second.content one.read area at
            (let same : cause ≡ Damaged area at = cc in refused_damage (node_of old).state.durable old.store.first old.store.second new.store cause area at r.disks same one.obey);
        not_newer = λ area version err. none_newer d e disks.first.content disks.second.content one.read area version
            (let same : cause ≡ NewerVersion area version = cc in refused_newer (node_of old).state.durable old.store.first old.store.second new.store cause area version r.disks same one.obey);
      }

  -- it is opened again
  pub reopens : (old new : Node D) (kept d : Durable) (is_new : Bool) (sends : List (ℕ × Msg)) → kept ≡ (node_of old).state.durable → Opened state kept (disks_of state old.store) new.store d is_new → DurableInRange d
      → (kind_of new.seat ≡ kind_of old.seat) × (me_of new.seat ≡ me_of old.seat) → state_of new.seat ≡ state_after_reopening (me_of old.seat) (state_of old.seat) (kept_from (kind_of old.seat) (me_of old.seat) d) → new.failed ≡ None
      → sends ≡ reopening_sends d (node_of old) → Reopens state d is_new old new sends
  reopens old new kept d is_new sends is opened range who state_is runs sends_are =
      record {
        opened = subst (λ (k : Durable). Opened state k (disks_of state old.store) new.store d is_new) is opened;
        range = range;
        node = node_same (kind_of new.seat) (kind_of old.seat) (me_of new.seat) (me_of old.seat) (state_of new.seat) (state_after_reopening (me_of old.seat) (state_of old.seat) (kept_from (kind_of old.seat) (me_of old.seat) d)) new.failed None who.0 who.1 state_is runs;
        sends_are = sends_are;
      }

  -- it isn't
  stays : (old new : Node D) (cause : StoreFail) → new.seat ≡ old.seat → new.failed ≡ count_kept old.failed cause → node_of new ≡ record (node_of old) { failed = count_kept (node_of old).failed cause }
  stays old new cause seat failed =
      node_same (kind_of new.seat) (kind_of old.seat) (me_of new.seat) (me_of old.seat) (state_of new.seat) (state_of old.seat) new.failed (count_kept old.failed cause) (ap (λ (c : Seat). kind_of c) seat) (ap (λ (c : Seat). me_of c) seat) (ap (λ (c : Seat). state_of c) seat) failed

  -- since the store isn't
  pub refuses_store : (old new : Node D) (kept : Durable) (cause : StoreFail) → kept ≡ (node_of old).state.durable → Refused state kept (disks_of state old.store) (refused_by new.store cause)
      → new.seat ≡ old.seat → new.failed ≡ count_kept old.failed cause → RefusesAgain state old new cause
  refuses_store old new kept cause is refused seat failed =
      record {
        disks = inl (subst (λ (k : Durable). Refused state k (disks_of state old.store) (refused_by new.store cause)) is refused);
        node = stays old new cause seat failed;
      }

  -- or for want of memory once it is
  pub refuses_opened : (old new : Node D) (kept d : Durable) (is_new : Bool) → kept ≡ (node_of old).state.durable → Opened state kept (disks_of state old.store) new.store d is_new
      → new.seat ≡ old.seat → new.failed ≡ old.failed → RefusesAgain state old new NoMemory
  refuses_opened old new kept d is_new is opened seat failed =
      record {
        disks = inr
            (record {
              cause = refl;
              left = inr
                  (record {
                    store = new.store;
                    durable = d;
                    is_new = is_new;
                    opened = subst (λ (k : Durable). Opened state k (disks_of state old.store) new.store d is_new) is opened;
                    same = (refl, refl);
                  });
            });
        node = stays old new NoMemory seat failed;
      }
