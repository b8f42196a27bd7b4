-- What a node does that is served is a life as the theorem of a cluster has it, and its next opening begins the next one.
use Rattle.std.proofs.Common.{◌≡◌, ◌⊎◌, ◌++◌, ◌∷◌, [], ℕ, nat_eq, Bool, true, false, List, Option, Some, None, ◌==◌, if◌then◌else◌, refl, sym, ◌∙◌, ap, subst, inl, inr, arith}
use Rattle.std.specs.Set.{is_member}
use Rattle.op_types.specs.Changes.{empty_durable}
use Rattle.op_types.specs.declared.durable.Durable.{Durable}
use Rattle.op_types.specs.declared.ballot.Ballot.{Ballot}
use Rattle.op_outside.specs.Disks.{DiskState}
use Rattle.op_outside.specs.Nets.{Call}
use Rattle.op_setup.specs.declared.config.Settings.{Settings}
use Rattle.op_spec.specs.Service.{Service, new_service}
use Rattle.op_kv.specs.Bases.{HasBase}
use Rattle.op_protocol.specs.State.{State}
use Rattle.op_protocol.specs.Starting.{first_volatile, state_after_restart}
use Rattle.op_protocol.proofs.Bases.{service_in_base}
use Rattle.op_runs.specs.Possible.{kind_in}
use Rattle.op_runs.specs.World.{first_durable, Kind, Votes, Observes}
use Rattle.op_bounds.proofs.ReadBases.{new_service_in}
use Rattle.op_store.specs.Failing.{faults}
use Rattle.op_store.specs.Openings.{IsOpenedAs}
use Rattle.op_store.specs.Stored.{Disks}
use Rattle.op_store.specs.Stores.{Represents, disks_of}
use Rattle.op_store.proofs.CommitCrashes.{open_stored, image_stored, rests_first, rests_second}
use Rattle.op_store.proofs.UniquePairs.{one_stored, nothing_or_stored}
use Rattle.op_chain.specs.Chains.{first_state}
use Rattle.op_node.specs.Nodes.{NodeState, node_of}
use Rattle.op_node.specs.Openings.{fresh_as, fresh_for, opening_state, kept_from, TakesWhole}
use Rattle.op_node.specs.Reopenings.{IsOneOf, StoreOneOf}
use Rattle.op_node.specs.declared.node.Node.{Node}
use Rattle.op_core.specs.Disks.{Stores}
use Rattle.op_core.specs.NodeCores.{standing_by, standing_of, status_line}
use Rattle.op_core.specs.declared.node_core.NodeCore.{NodeCore}
use Rattle.op_core.specs.declared.place.Place.{Place}
use Rattle.op_serving.specs.declared.mark.Mark.{Mark}
use Rattle.op_serving.specs.declared.serve_end.ServeEnd.{ServeEnd}
use Rattle.op_serving.specs.Cores.{Standing}
use Rattle.op_serving.specs.Fates.{after_fate}
use Rattle.op_serving.specs.Inputs.{Deed, begins, hears, enters, says, takes}
use Rattle.op_serving.specs.Promise.{folded}
use Rattle.op_serving.specs.Pump.{Answer, Pump}
use Rattle.op_serving.specs.Reopenings.{Unstored, all_stored, FindStored, unstored_after, unstored_behind}
use Rattle.op_pump.specs.Moments.{PeersInRange}
use Rattle.op_pump.specs.Serving as loop
use Rattle.op_cluster_laws.specs.Clusters.{IsLife, MayOpen}
use Rattle.op_cluster_laws.specs.Lives as lives
use Rattle.op_cluster_laws.specs.Traces.{Lived, ends, opens, first_as, held_with, stands, unstored_in, lived_by}
use Rattle.op_cluster_laws.proofs.Serving.{runs_serve}
use Rattle.op_serve.specs.Lives.{opened_at, life_of, life_ended, Leaves, Lives, MayFollow, IsNext, IsFirst}
use Rattle.op_serve.specs.Nodes.{Around, IsOpened, ObeyIn, disks_in, faults_of}

-- ---- a run is a life

-- what was found in a first part of deeds
front_found : (n : Standing) (u : Unstored) (xs ys : List Deed) → FindStored n u (xs ++ ys) → FindStored n u xs
front_found n u [] ys h = tt
front_found n u (enters who i f ∷ xs) ys h = (h.0, front_found (after_fate n i f) (unstored_after n i f u) xs ys h.1)
front_found n u (begins c bytes ∷ xs) ys h = front_found n u xs ys h
front_found n u (hears c bytes ∷ xs) ys h = front_found n u xs ys h
front_found n u (says f ∷ xs) ys h = front_found n u xs ys h
front_found n u (takes c bytes ∷ xs) ys h = front_found n u xs ys h

lives_of : (n : NodeState) (count : ℕ) (deeds : List Deed) → ((first later : List Deed) → deeds ≡ first ++ later → lives.Serves (opened_at n count) first)
    → FindStored (opened_at n count) (all_stored n.state) deeds → (first later : List Deed) → deeds ≡ first ++ later → IsLife (life_of n count first)
lives_of n count deeds serves found first later split =
    record { serves = serves first later split; stored = front_found (opened_at n count) (all_stored n.state) first later (subst (λ l. FindStored (opened_at n count) (all_stored n.state) l) split found) }

-- nothing was done yet
none_served : (o : Settings) (n : Standing) → PeersInRange o → (first later : List Deed) → [] ≡ first ++ later → lives.Serves n first
none_served o n peers first later split = record {
  settings = o;
  peers = peers;
  line = status_line;
  luck = record { marks = []; fates = [] };
  start = 0;
  answers = [];
  fit = tt;
  later = later;
  are = split;
}

-- ---- where a node stands

-- its disks have failed so often
faults_by : (o : Option ℕ) (kind : Kind) (me : ℕ) (s : State) (p : Place) (k : ℕ) → (standing_by o kind me s p k).faults ≡ k
faults_by None kind me s p k = refl
faults_by (Some c) kind me s p k = refl

-- ---- what a life leaves

-- it leaves what its disks may hold that stand for this
left_by : (l : Lived) (n : Standing) (disks : Disks) → n ≡ stands l → let v : Unstored = held_with [] n (unstored_in l) in StoreOneOf v.before.durable v.ahead.durable disks
    → TakesWhole n.kind n.me v.before.durable → TakesWhole n.kind n.me v.ahead.durable → Leaves (lived_by l ends) disks
left_by l n disks is stored before ahead =
    let v : Unstored = held_with [] n (unstored_in l) in
    record {
      left = v;
      is = ap (λ (k : Standing). Some (held_with [] k (unstored_in l))) (sym is);
      stored = stored;
      whole = (subst (λ (k : Standing). TakesWhole k.kind k.me v.before.durable) is before, subst (λ (k : Standing). TakesWhole k.kind k.me v.ahead.durable) is ahead);
    }

module _ {D : Type 0} (state : D → DiskState) where
  -- how often the disks of a node have failed
  abbrev pub count_of : NodeCore D → ℕ
  count_of c = faults (disks_of state c.node.store)

  pub faults_at : (c : NodeCore D) → (standing_of state c).faults ≡ count_of c
  faults_at c = faults_by (node_of c.node).failed (node_of c.node).kind (node_of c.node).me (node_of c.node).state c.stood (count_of c)

  -- so a node stands of which no disk failed
  pub up_at : (c : NodeCore D) → (node_of c.node).failed ≡ None → standing_of state c ≡ opened_at (node_of c.node) (count_of c)
  up_at c up = ap (λ (o : Option ℕ). standing_by o (node_of c.node).kind (node_of c.node).me (node_of c.node).state c.stood (count_of c)) up

  -- disks that stand for one durable state store it
  one_left : (n : Node D) (d : Durable) → Represents state d n.store → StoreOneOf d d (disks_of state n.store)
  one_left n d r =
      let s = n.store in (
      record {
        obey = ((rests_first d s.is_second s.generation s.end s.base s.is_closed (disks_of state s) r).obeys, (rests_second d s.is_second s.generation s.end s.base s.is_closed (disks_of state s) r).obeys);
        read = inl (open_stored d s.is_second s.generation s.end s.base s.is_closed (disks_of state s) r);
        left = λ x y at_first at_second. inl (image_stored d s.is_second s.generation s.end s.base s.is_closed (disks_of state s) r x y at_first at_second);
      })

  leaves_then : (n : NodeState) (count : ℕ) (m : NodeCore D) (deeds : List Deed) → standing_of state m ≡ folded (opened_at n count) deeds
      → Stores state (unstored_behind (opened_at n count) (all_stored n.state) deeds) m → Leaves (life_ended n count deeds) (disks_of state m.node.store)
  leaves_then n count m deeds fold there = by_failed (node_of m.node).failed refl
    where
      l : Lived
      l = life_of n count deeds

      u : Unstored
      u = unstored_in l

      standing : Option ℕ → Standing
      standing o = standing_by o (node_of m.node).kind (node_of m.node).me (node_of m.node).state m.stood (count_of m)

      now : (o : Option ℕ) → (node_of m.node).failed ≡ o → standing o ≡ stands l
      now o e = ap standing (sym e) ∙ fold

      by_failed : (o : Option ℕ) → (node_of m.node).failed ≡ o → Leaves (life_ended n count deeds) (disks_of state m.node.store)
      by_failed None e =
          let d : Durable = (node_of m.node).state.durable in
          left_by l (standing None) (disks_of state m.node.store) (now None e) (one_left m.node d (there.up e)) (there.whole e) (there.whole e)
      by_failed (Some c) e =
          left_by l (standing (Some c)) (disks_of state m.node.store) (now (Some c) e) (there.failed (λ none. let bad : None ≡ Some c = sym none ∙ e in cc))
          there.before_whole there.ahead_whole

  -- it has served
  pub served_lives : (o : Settings) (end : ServeEnd) (lost : List Mark) (n : NodeState) (count : ℕ) (m : NodeCore D) (start : ℕ) (answers : List Answer) (made : List Call) (last : Pump) → PeersInRange o
      → loop.Runs o status_line end lost (opened_at n count) start answers made last → FindStored (opened_at n count) (all_stored n.state) last.driver.deeds
      → standing_of state m ≡ folded (opened_at n count) last.driver.deeds → Stores state (unstored_behind (opened_at n count) (all_stored n.state) last.driver.deeds) m
      → Lives n count last.driver.deeds (disks_of state m.node.store)
  served_lives o end lost n count m start answers made last peers run found fold there = record {
    lives = lives_of n count last.driver.deeds (runs_serve o status_line end lost (opened_at n count) start answers made last peers run) found;
    leaves = leaves_then n count m last.driver.deeds fold there;
  }

  -- it did nothing
  pub unserved_lives : (o : Settings) (k : NodeCore D) → PeersInRange o → (node_of k.node).failed ≡ None → Stores state (all_stored (node_of k.node).state) k
      → Lives (node_of k.node) (count_of k) [] (disks_of state k.node.store)
  unserved_lives o k peers up there = record {
    lives = lives_of (node_of k.node) (count_of k) [] (none_served o (opened_at (node_of k.node) (count_of k)) peers) tt;
    leaves = leaves_then (node_of k.node) (count_of k) k [] (up_at k up) there;
  }

-- ---- what the next opening finds

-- of two durable states one is found, and not nothing
one_found : (fresh before after d : Durable) (is_new : Bool) (x y : List ℕ) → IsOneOf before after x y → IsOpenedAs fresh x y d is_new → (is_new ≡ false) × ((d ≡ before) ⊎ (d ≡ after))
one_found fresh before after d false x y (inl here) found = (refl, inl (one_stored x y d before found here))
one_found fresh before after d false x y (inr here) found = (refl, inr (one_stored x y d after found here))
one_found fresh before after d true x y (inl here) found = absurd (nothing_or_stored x y before found.0 here)
one_found fresh before after d true x y (inr here) found = absurd (nothing_or_stored x y after found.0 here)

follows_one : (before after : Durable) (old new : Disks) → StoreOneOf before after old → MayFollow old new → IsOneOf before after new.first.content new.second.content
follows_one before after old new s (inl same) =
    subst (λ (b : List ℕ). IsOneOf before after new.first.content b) (sym same.1) (subst (λ (a : List ℕ). IsOneOf before after a old.second.content) (sym same.0) s.read)
follows_one before after old new s (inr left) = s.left new.first.content new.second.content left.0 left.1

-- a node that takes all that it found
opened_life : (kind : Kind) (id count : ℕ) (d : Durable) (n : NodeState) (l : Lived) → (stands l).kind ≡ kind → (stands l).me ≡ id → TakesWhole kind id d
    → n ≡ record { kind = kind; me = id; state = state_after_restart id (kept_from kind id d); failed = None } → life_of n count [] ≡ lived_by l (opens d count)
opened_life kind id count d n l of me whole is =
    ap (λ (k : NodeState). life_of k count []) (is ∙ ap (λ (e : Durable). let k : NodeState = record { kind = kind; me = id; state = state_after_restart id e; failed = None } in k) whole)
    ∙ ap (λ (j : ℕ). let k : NodeState = record { kind = kind; me = j; state = state_after_restart j d; failed = None } in life_of k count []) (sym me)
    ∙ ap (λ (q : Kind). let k : NodeState = record { kind = q; me = (stands l).me; state = state_after_restart (stands l).me d; failed = None } in life_of k count []) (sym of)

-- what a life's node takes whole a node of its kind and id does
pub whole_for : (kind : Kind) (id : ℕ) (l : Lived) (d : Durable) → (stands l).kind ≡ kind → (stands l).me ≡ id → TakesWhole (stands l).kind (stands l).me d → TakesWhole kind id d
whole_for kind id l d of me whole = subst (λ (j : ℕ). TakesWhole kind j d) me (subst (λ (q : Kind). TakesWhole q (stands l).me d) of whole)

module _ {D : Type 0} (state : D → DiskState) where
  pub next_life : (kind : Kind) (id : ℕ) (members : List ℕ) (l : Lived) (disks : Disks) (old new : Around D) (n : NodeState) (opened : IsOpened state kind id members old new n)
      → (stands l).kind ≡ kind → (stands l).me ≡ id → Leaves l disks → MayFollow disks (disks_in state old) → ObeyIn state old → IsNext l opened.durable opened.is_new n (faults_of state new)
  next_life kind id members l disks old new n opened of me leaves follows obey = record {
    there = one.0;
    may = subst (λ (o : Option Unstored). MayOpen o d) (sym leaves.is) one.1;
    whole = whole;
    next = opened_life kind id (faults_of state new) d n l of me (whole_for kind id l d of me whole)
        (opened.node ∙ ap (λ (b : Bool). let k : NodeState = record { kind = kind; me = id; state = opening_state kind id b d; failed = None } in k) one.0);
  }
    where
      d : Durable
      d = opened.durable

      before : Durable
      before = leaves.left.before.durable

      ahead : Durable
      ahead = leaves.left.ahead.durable

      one : (opened.is_new ≡ false) × ((d ≡ before) ⊎ (d ≡ ahead))
      one = one_found (fresh_as kind id members) before ahead d opened.is_new (state old.first).content (state old.second).content
          (follows_one before ahead disks (disks_in state old) leaves.stored follows) (opened.found obey)

      whole : TakesWhole (stands l).kind (stands l).me d
      whole = elim one.1 [
        | inl is ↦ subst (λ (e : Durable). TakesWhole (stands l).kind (stands l).me e) (sym is) leaves.whole.0
        | inr is ↦ subst (λ (e : Durable). TakesWhole (stands l).kind (stands l).me e) (sym is) leaves.whole.1
      ]

-- ---- a first start

voter_whole : (id : ℕ) (members : List ℕ) → TakesWhole Votes id (fresh_for id members)
voter_whole id members = by (is_member nat_eq members id) refl
  where
    by : (b : Bool) → is_member nat_eq members id ≡ b → TakesWhole Votes id (if b then first_durable members else empty_durable)
    by true h = ap (λ (b : Bool). let e : Durable = record (first_durable members) { part = if b then (first_durable members).part else None } in e) h
    by false h = refl

fresh_whole : (kind : Kind) (id : ℕ) (members : List ℕ) → TakesWhole kind id (fresh_as kind id members)
fresh_whole Votes id members = voter_whole id members
fresh_whole Observes id members = refl

new_base : HasBase new_service
new_base = record { range = new_service_in.range; order = new_service_in.order; pairs = omega arith; clients = omega arith }

-- it begins as one does that is opened again with what it begins with
first_restarts : (id : ℕ) (members : List ℕ) → first_state id (first_durable members) ≡ state_after_restart id (first_durable members)
first_restarts id members =
    let d : Durable = first_durable members in
    ap (λ (x : Ballot). let s : State = record (first_state id d) { volatile = record (first_volatile id) { own = x } } in s) (sym (ballot (0 == id)))
    ∙ ap (λ (v : Service). let s : State = record (state_after_restart id d) { service = v } in s) (sym (service_in_base new_service new_base))
  where
    ballot : (b : Bool) → (if b then (let x : Ballot = record { number = 1; pid = id } in x) else record { number = 1; pid = id }) ≡ record { number = 1; pid = id }
    ballot true = refl
    ballot false = refl

voter_restarts : (id : ℕ) (members : List ℕ) → first_state id (fresh_for id members) ≡ state_after_restart id (fresh_for id members)
voter_restarts id members = by (is_member nat_eq members id)
  where
    by : (b : Bool) → first_state id (if b then first_durable members else empty_durable) ≡ state_after_restart id (if b then first_durable members else empty_durable)
    by true = first_restarts id members
    by false = refl

fresh_state : (kind : Kind) (id : ℕ) (members : List ℕ) → first_state id (fresh_as kind id members) ≡ state_after_restart id (fresh_as kind id members)
fresh_state Votes id members = voter_restarts id members
fresh_state Observes id members = first_restarts id members

-- and as it does in the world
starts_so : (kind : Kind) (id : ℕ) (members : List ℕ) → first_state id (fresh_as kind id members) ≡ (first_as kind members id).state
starts_so Votes id members = refl
starts_so Observes id members = refl

module _ {D : Type 0} (state : D → DiskState) where
  pub first_start : (kind : Kind) (id : ℕ) (members : List ℕ) (old new : Around D) (n : NodeState) (opened : IsOpened state kind id members old new n) → opened.is_new ≡ true → ObeyIn state old
      → IsFirst kind id members opened.durable n (faults_of state new)
  first_start kind id members old new n opened fresh obey = record {
    is = is ∙ ap (λ (s : State). s.durable) (starts_so kind id members);
    whole = whole;
    first = λ observers faulted of e.
        ap (λ (k : NodeState). life_of k count []) (node ∙ ap (λ (s : State). let k : NodeState = record { kind = kind; me = id; state = s; failed = None } in k) (starts_so kind id members))
        ∙ ap (λ (q : Kind). let k : NodeState = record { kind = q; me = id; state = (first_as q members id).state; failed = None } in life_of k count []) (sym of)
        ∙ ap (λ (j : ℕ). let k : NodeState = record { kind = kind_in observers id; me = id; state = (first_as (kind_in observers id) members id).state; failed = None } in life_of k j []) (sym e);
    again = λ l of me. opened_life kind id count opened.durable n l of me whole
        (node ∙ ap (λ (s : State). let k : NodeState = record { kind = kind; me = id; state = s; failed = None } in k) (fresh_state kind id members ∙ ap (state_after_restart id) (sym is ∙ sym whole)));
  }
    where
      count : ℕ
      count = faults_of state new

      d0 : Durable
      d0 = fresh_as kind id members

      is : opened.durable ≡ d0
      is = (subst (λ (b : Bool). IsOpenedAs d0 (state old.first).content (state old.second).content opened.durable b) fresh (opened.found obey)).1

      whole : TakesWhole kind id opened.durable
      whole = subst (TakesWhole kind id) (sym is) (fresh_whole kind id members)

      node : n ≡ record { kind = kind; me = id; state = first_state id d0; failed = None }
      node = opened.node ∙ ap (λ (b : Bool). let k : NodeState = record { kind = kind; me = id; state = opening_state kind id b opened.durable; failed = None } in k) fresh
          ∙ ap (λ (e : Durable). let k : NodeState = record { kind = kind; me = id; state = first_state id e; failed = None } in k) (whole ∙ is)
