-- How a node ends, from what its opening and its serving tell.
use Rattle.std.proofs.Common.{◌≡◌, ◌≤◌, ℕ, Bool, List, ◌∷◌, [], Option, Some, None, Err, refl, sym, ap, subst, ◌∙◌, inl, inr, ⊎_elim, arith}
use Rattle.std.proofs.lemmas.List.Elements.{All-weaker}
use Rattle.op_types.specs.declared.durable.Durable.{Durable}
use Rattle.op_types.specs.declared.messages.Msg.{Msg}
use Rattle.op_outside.specs.Disks.{DiskState}
use Rattle.op_outside.specs.Seen.{NetSeen, StreamSeen}
use Rattle.op_outside.specs.Telling.{Grows}
use Rattle.op_types.specs.Ranges.{IsPid}
use Rattle.op_setup.specs.Settings.{HasPeer, IsSettings}
use Rattle.op_setup.specs.declared.config.Settings.{Settings}
use Rattle.op_store.specs.Failing.{faults, IsFaultOf}
use Rattle.op_store.specs.Openings.{IsRefusal, Opened, Remains}
use Rattle.op_store.specs.Stored.{Obey, HaveImages}
use Rattle.op_store.specs.Stores.{Represents, disks_of}
use Rattle.op_store.specs.declared.store.Store.{Store}
use Rattle.op_store.proofs.CommitCrashes.{open_stored, rests_first, rests_second}
use Rattle.op_store.proofs.PairRuns.{pairs_same}
use Rattle.op_store.proofs.KeptDisks.{keep_same}
use Rattle.op_store.specs.declared.fail.Returned.{Returned}
use Rattle.op_store.specs.declared.fail.StoreFail.{StoreFail}
use Rattle.op_store.specs.declared.fail.StoreFail.TheVariants as refusals
use Rattle.op_runs.specs.Possible.{kind_in}
use Rattle.op_runs.specs.World.{Kind}
use Rattle.op_node.specs.Nodes.{NodeState, node_of}
use Rattle.op_node.specs.Openings.{OpensAs, RefusesNode, disks_with, fresh_as}
use Rattle.op_node.specs.declared.node.Node.{Node}
use Rattle.op_node.proofs.Refusals.{refusal_tells}
use Rattle.op_node.proofs.Represented.{opened_represented}
use Rattle.op_core.specs.Disks.{Stores, StepStores}
use Rattle.op_core.specs.NodeCores.{standing_by, standing_of, status_line}
use Rattle.op_core.specs.declared.node_core.NodeCore.{NodeCore}
use Rattle.op_core.proofs.Disks.{opened_stores_so}
use Rattle.op_core.proofs.Runs.{runs_keep, runs_find, runs_store}
use Rattle.op_pump.specs.Moments.{PeersInRange}
use Rattle.op_pump.specs.Serving as loop
use Rattle.op_serving.specs.declared.serve_end.ServeEnd.{ServeEnd}
use Rattle.op_serving.specs.declared.mark.Mark.{Mark}
use Rattle.op_serving.specs.Cores.{Standing}
use Rattle.op_serving.specs.Faults.{faulted_steps, FaultsWithin, Stepped}
use Rattle.op_serving.specs.Inputs.{Deed}
use Rattle.op_serving.specs.Promise.{folded}
use Rattle.op_serving.specs.Reopenings.{Unstored, all_stored, FindStored, unstored_behind}
use Rattle.op_status.specs.declared.status.Status.{Status}
use Rattle.op_status.specs.declared.status.Status.TheVariants as status
use Rattle.op_serve.proofs.Living.{count_of, faults_at, up_at, served_lives, unserved_lives}
use Rattle.op_serve.specs.Lives.{opened_at}
use Rattle.op_serve.specs.Folders.{Marking, is_marked, is_unmarked, not_opened}
use Rattle.op_serve.specs.Nodes.{Around, Goes, is_unheard, cannot_begin, has_served, EndsMarked, cannot_open, is_damaged, is_newer, has_no_memory, is_opened, is_not_marked, IsOpened, IsHeard, IsNodeOf, IsOwn, IsReady, DisksHold, HoldsOf, HoldsOver, KeepsStored, around, status_of, status_of_refusal}

module _ {D : Type 0} (state : D → DiskState) where
  -- what stood for what was stored may be known by less
  goes_by : (id : ℕ) (o : Settings) (n : NodeState) (P Q : Type 0) (old new : Around D) (s : Status) (lost : List Mark) → (Q → P)
      → Goes state id o n P old new s lost → Goes state id o n Q old new s lost
  goes_by id o n P Q old new s lost f (is_unheard h same lives) = is_unheard h same (λ q. lives (f q))
  goes_by id o n P Q old new s lost f (cannot_begin t r c same lives) = cannot_begin t r c same (λ q. lives (f q))
  goes_by id o n P Q old new s lost f (has_served net r count run kept stored lives) = has_served net r count run kept (λ q. stored (f q)) (λ q. lives (f q))

  -- ---- what an opening keeps

  -- what a store represents is on its disks
  holds : (k : Node D) (d : Durable) (net : NetSeen) (clock : Option (List ℕ)) (out : StreamSeen) → Represents state d k.store → DisksHold state (around k.store.first k.store.second net clock out) d
  holds k d net clock out r =
      let s = k.store in
      record {
        rests_first = rests_first d s.is_second s.generation s.end s.base s.is_closed (disks_of state s) r;
        rests_second = rests_second d s.is_second s.generation s.end s.base s.is_closed (disks_of state s) r;
        stored = open_stored d s.is_second s.generation s.end s.base s.is_closed (disks_of state s) r;
      }

  represented_images : (d : Durable) (s : Store D) → Represents state d s → HaveImages (disks_of state s)
  represented_images d s r = (
    (rests_first d s.is_second s.generation s.end s.base s.is_closed (disks_of state s) r).only.itself,
    (rests_second d s.is_second s.generation s.end s.base s.is_closed (disks_of state s) r).only.itself,
  )

  no_less : (a b : ℕ) → b ≡ a → a ≤ b
  no_less a b e = omega arith

  opened_keeps : (kind : Kind) (id : ℕ) (members : List ℕ) (first second : D) (s : Store D) (d : Durable) (is_new : Bool) (net : NetSeen) (clock : Option (List ℕ)) (out : StreamSeen)
      → Opened state (fresh_as kind id members) (disks_with state first second) s d is_new
      → KeepsStored state kind id members (around first second net clock out) (around s.first s.second net clock out)
  opened_keeps kind id members first second s d is_new net clock out opened =
      record {
        only_disks = refl;
        kept = opened.kept;
        later = no_less _ _ opened.no_fault;
        crash = opened.crash;
        images = λ obey had. represented_images d s (opened.stored obey);
      }

  module _ (kind : Kind) (id : ℕ) (members : List ℕ) (first second : D) (net : NetSeen) (clock : Option (List ℕ)) (out : StreamSeen) where
    -- around the node with these disks
    abbrev with_disks : D → D → Around D
    with_disks a b = around a b net clock out

    -- no call was made
    uncalled_keeps : KeepsStored state kind id members (with_disks first second) (with_disks first second)
    uncalled_keeps =
        record {
          only_disks = refl;
          kept = keep_same (disks_with state first second);
          later = omega arith;
          crash = λ obey. pairs_same (Remains (fresh_as kind id members) (state first).content (state second).content) (disks_with state first second);
          images = λ obey had. had;
        }

    -- the disks are these others
    handed : (a b x y : D) → x ≡ a → y ≡ b → KeepsStored state kind id members (with_disks first second) (with_disks a b)
        → KeepsStored state kind id members (with_disks first second) (with_disks x y)
    handed a b x y is_first is_second h = rw (is_first, is_second) h

    refusal_keeps : (e : Returned D) → RefusesNode state (fresh_as kind id members) first second e
        → KeepsStored state kind id members (with_disks first second) (with_disks e.first e.second)
    refusal_keeps e (inl r) =
        record { only_disks = refl; kept = r.kept; later = r.later; crash = r.crash; images = λ obey had. r.images obey }
    refusal_keeps e (inr s) =
        ⊎_elim (λ same. handed first second e.first e.second same.0 same.1 uncalled_keeps)
        (λ h. handed h.store.first h.store.second e.first e.second h.same.0 h.same.1
        (opened_keeps kind id members first second h.store h.durable h.is_new net clock out h.opened))
        s.left

  -- ---- how an opening goes on

  -- came of telling the folder
  module _ (came : Marking → Type 0) where
    module _ (id : ℕ) (o : Settings) (first second : D) (found : Node D) (k : NodeCore D) (sends : List (ℕ × Msg)) (net : NetSeen) (clock : Option (List ℕ)) (out : StreamSeen)
        (same : k.node ≡ found) (is : OpensAs (kind_in o.observers id) state id o.members (disks_with state first second) found sends) where
      abbrev kind : Kind
      kind = kind_in o.observers id

      opens : OpensAs kind state id o.members (disks_with state first second) k.node sends
      opens = subst (λ (m : Node D). OpensAs kind state id o.members (disks_with state first second) m sends) (sym same) is

      -- around the node that is open
      abbrev opened_around : Around D
      opened_around = around k.node.store.first k.node.store.second net clock out

      opened : IsOpened state kind id o.members (around first second net clock out) opened_around (node_of k.node)
      opened = record {
        durable = opens.durable;
        is_new = opens.is_new;
        found = opens.opened.found;
        holds = λ obey. holds k.node opens.durable net clock out (opens.opened.stored obey);
        node = opens.node;
        no_fault = opens.opened.no_fault;
        keeps = opened_keeps kind id o.members first second k.node.store opens.durable opens.is_new net clock out opens.opened;
      }

      -- the disks of one that took what is its own stand for what it has stored
      stands : IsOwn state kind id (around first second net clock out) opens.durable → Stores state (all_stored (node_of k.node).state) k
      stands own = opened_stores_so state kind id o.members first second k sends opens (opened_represented kind state id o.members (disks_with state first second) k.node sends opens own.0 own.1)

      -- an opened node goes on
      pub ends_opened : (new : Around D) (s : Status) (lost : List Mark) → came is_marked
          → Goes state id o (node_of k.node) (Stores state (all_stored (node_of k.node).state) k) opened_around new s lost
          → EndsMarked state came id o (around first second net clock out) new s lost
      unfolding opened opens
      ends_opened new s lost told goes = record {
        ends = is_opened opened_around opened
            (goes_by id o (node_of k.node) (Stores state (all_stored (node_of k.node).state) k) (IsOwn state kind id (around first second net clock out) opens.durable) _ new s lost stands goes);
        marked = told;
      }

      -- it doesn't, where the folder couldn't be told
      pub ends_unmarked : (up : (node_of k.node).failed ≡ None) (peers : PeersInRange o) (a b : D) (s : Status) (lost : List Mark) → came is_unmarked
          → a ≡ k.node.store.first → b ≡ k.node.store.second → s ≡ status.DiskFault → lost ≡ []
          → EndsMarked state came id o (around first second net clock out) (around a b net clock out) s lost
      unfolding opened opens
      ends_unmarked up peers a b s lost untold at_first at_second is no_loss =
          rw (at_first, at_second, is, no_loss)
          (record { ends = is_not_marked opened (λ own. unserved_lives state o k peers up (stands own)); marked = untold })

    -- a node that was not opened ends
    refused_by : (id : ℕ) (o : Settings) (first second : D) (cause : StoreFail) (a b : D) (net : NetSeen) (clock : Option (List ℕ)) (out : StreamSeen)
        → KeepsStored state (kind_in o.observers id) id o.members (around first second net clock out) (around a b net clock out)
        → IsFaultOf (faults (disks_with state first second)) (faults (disks_with state a b)) cause
        → (Obey (disks_with state first second) → IsRefusal (disks_with state first second) (disks_with state a b) cause) → came not_opened
        → EndsMarked state came id o (around first second net clock out) (around a b net clock out) (status_of_refusal cause) []
    refused_by id o first second (refusals.DiskFault count) a b net clock out keeps fault refusal untold = record { ends = cannot_open keeps fault.1; marked = untold }
    refused_by id o first second (refusals.Damaged area at) a b net clock out keeps fault refusal untold =
        record { ends = is_damaged keeps fault (λ obey. let r = refusal obey in record { damage = r.0; same_first = r.1; same_second = r.2 }); marked = untold }
    refused_by id o first second (refusals.NewerVersion area version) a b net clock out keeps fault refusal untold =
        record { ends = is_newer keeps fault (λ obey. let r = refusal obey in record { newer = r.0; same_first = r.1; same_second = r.2 }); marked = untold }
    refused_by id o first second refusals.NoMemory a b net clock out keeps fault refusal untold = record { ends = has_no_memory keeps fault; marked = untold }

    refusal_of : (id : ℕ) (o : Settings) (first second : D) (e : Returned D) → RefusesNode state (fresh_as (kind_in o.observers id) id o.members) first second e
        → Obey (disks_with state first second) → IsRefusal (disks_with state first second) (disks_with state e.first e.second) e.cause
    refusal_of id o first second e (inl r) obey = r.refusal obey
    refusal_of id o first second e (inr r) obey = rw r.cause tt

    refused : (id : ℕ) (o : Settings) (first second : D) (e : Returned D) (net : NetSeen) (clock : Option (List ℕ)) (out : StreamSeen)
        → RefusesNode state (fresh_as (kind_in o.observers id) id o.members) first second e → came not_opened
        → EndsMarked state came id o (around first second net clock out) (around e.first e.second net clock out) (status_of_refusal e.cause) []
    refused id o first second e net clock out r =
        refused_by id o first second e.cause e.first e.second net clock out (refusal_keeps (kind_in o.observers id) id o.members first second net clock out e r)
        (refusal_tells state (fresh_as (kind_in o.observers id) id o.members) first second e r) (refusal_of id o first second e r)

    pub ends_refused : (id : ℕ) (o : Settings) (first second : D) (e : Returned D) (net : NetSeen) (clock : Option (List ℕ)) (out : StreamSeen)
        (a b : D) (s : Status) (lost : List Mark)
        → RefusesNode state (fresh_as (kind_in o.observers id) id o.members) first second e → came not_opened → a ≡ e.first → b ≡ e.second → s ≡ status_of_refusal e.cause → lost ≡ []
        → EndsMarked state came id o (around first second net clock out) (around a b net clock out) s lost
    ends_refused id o first second e net clock out a b s lost r untold at_first at_second is no_loss =
        rw (at_first, at_second, is, no_loss) (refused id o first second e net clock out r untold)

  -- ---- how an open node ends

  module _ (id : ℕ) (o : Settings) (k : NodeCore D) (up : (node_of k.node).failed ≡ None) (peers : PeersInRange o) where
    -- around it, and how it goes on
    abbrev with_node : NodeCore D → NetSeen → Option (List ℕ) → StreamSeen → Around D
    with_node c net clock out = around c.node.store.first c.node.store.second net clock out

    abbrev GoesOn : (old new : Around D) → Status → List Mark → Type 0
    GoesOn old new s lost = Goes state id o (node_of k.node) (Stores state (all_stored (node_of k.node).state) k) old new s lost

    -- it is not heard
    pub goes_unheard : (net0 net1 : NetSeen) (clock : Option (List ℕ)) (out0 out1 : StreamSeen) (a b : D) (told s : Status) (lost : List Mark)
        → IsHeard {T = Unit {0}} id o (Err told) net0 net1 out0 out1 → a ≡ k.node.store.first → b ≡ k.node.store.second → s ≡ told → lost ≡ []
        → GoesOn (with_node k net0 clock out0) (around a b net1 clock out1) s lost
    goes_unheard net0 net1 clock out0 out1 a b told s lost heard at_first at_second is no_loss =
        rw (at_first, at_second, is, no_loss) (is_unheard heard refl (λ stood. unserved_lives state o k peers up stood))

    -- it finds no memory to begin
    pub goes_unserved : (net0 mid net1 : NetSeen) (clock0 clock1 : Option (List ℕ)) (out0 out1 : StreamSeen) (a b : D) (t : ℕ) (s : Status) (lost : List Mark)
        → IsReady id o net0 mid out0 out1 → net1 ≡ mid → Grows clock0 (t ∷ []) clock1 → a ≡ k.node.store.first → b ≡ k.node.store.second → s ≡ status.NoMemory → lost ≡ []
        → GoesOn (with_node k net0 clock0 out0) (around a b net1 clock1 out1) s lost
    goes_unserved net0 mid net1 clock0 clock1 out0 out1 a b t s lost ready same grows at_first at_second is no_loss =
        rw (same, at_first, at_second, is, no_loss) (cannot_begin t ready grows refl (λ stood. unserved_lives state o k peers up stood))

    -- ---- it has served

    -- it stood so at the start
    abbrev start : Standing
    start = opened_at (node_of k.node) (count_of state k)

    abbrev unstored : Unstored
    unstored = all_stored (node_of k.node).state

    module _ (m : NodeCore D) (end : ServeEnd) (lost : List Mark) (mid net1 : NetSeen) (clock0 clock1 : Option (List ℕ))
        (served : loop.ServesNode (λ (c : NodeCore D). standing_of state c) (StepStores state) o status_line end lost k m mid net1 clock0 clock1) where
      abbrev deeds : List Deed
      deeds = served.serves.last.driver.deeds

      begins : standing_of state k ≡ start
      begins = up_at state k up

      abbrev run : loop.Serves o status_line end lost start (standing_of state m) mid net1 clock0 clock1
      run =
          let r = served.serves in
          record {
            start = r.start;
            answers = r.answers;
            made = r.made;
            last = r.last;
            run = subst (λ (n : Standing). loop.Runs o status_line end lost n r.start r.answers r.made r.last) begins r.run;
            net = r.net;
            clock = r.clock;
            ends = r.ends;
            faults = r.faults;
            lost_is = r.lost_is;
            marks = r.marks;
            node = r.node;
            fold = r.fold ∙ ap (λ (n : Standing). folded n deeds) begins;
            steps = subst (λ (n : Standing). Stepped n deeds (standing_of state m)) begins r.steps;
            few = subst (λ (n : Standing). FaultsWithin n.faults (faulted_steps deeds) (standing_of state m).faults) begins r.few;
          }

      module _ (stood : Stores state unstored k) where
        found : FindStored start unstored deeds
        found = subst (λ (n : Standing). FindStored n unstored deeds) begins (runs_find state k m deeds unstored served.walks stood)

        there : Stores state (unstored_behind start unstored deeds) m
        there = subst (λ (n : Standing). Stores state (unstored_behind n unstored deeds) m) begins (runs_store state k m deeds unstored served.walks stood)

        -- what is stored at the end
        held : (out : StreamSeen) (u : Unstored) → Stores state u m → (f : Option ℕ) → (node_of m.node).failed ≡ f
            → HoldsOf state (with_node m net1 clock1 out) (standing_by f (node_of m.node).kind (node_of m.node).me (node_of m.node).state m.stood (count_of state m)) u
        held out u h None e = record { up = λ _. holds m.node (node_of m.node).state.durable net1 clock1 out (h.up e); failed = λ not. absurd (not refl) }
        held out u h (Some c) e = record { up = λ none. absurd cc; failed = λ _. h.failed (λ none. let bad : None ≡ Some c = sym none ∙ e in absurd cc) }

        holds_over : (net0 : NetSeen) (out0 out1 : StreamSeen) → HoldsOver state deeds (node_of k.node) (standing_of state m) (with_node k net0 clock0 out0) (with_node m net1 clock1 out1)
        holds_over net0 out0 out1 = record { found = found; holds = held out1 (unstored_behind start unstored deeds) there (node_of m.node).failed refl }

      pub goes_served : (net0 : NetSeen) (out0 out1 : StreamSeen) (a b : D) (s : Status) → IsReady id o net0 mid out0 out1
          → a ≡ m.node.store.first → b ≡ m.node.store.second → s ≡ status_of end → GoesOn (with_node k net0 clock0 out0) (around a b net1 clock1 out1) s lost
      goes_served net0 out0 out1 a b s ready at_first at_second is =
          rw (at_first, at_second, is)
          (has_served mid ready (faults_at state m) run (runs_keep state k m deeds served.walks) (λ stood. holds_over stood net0 out0 out1)
          (λ stood. served_lives state o end lost (node_of k.node) (count_of state k) m run.start run.answers run.made run.last peers run.run (found stood) run.fold (there stood)))

-- ---- its settings

-- settings that are read for a node of this id are its own
pub node_of_settings : (id : ℕ) (text : List ℕ) (o : Settings) → IsPid id → IsSettings text (Some id) o → IsNodeOf id o
node_of_settings id text o one s =
    let rows = s.2.peers.there in
    record {
      server = one;
      members = s.2.members.in_range;
      peers = All-weaker (HasPeer rows.0) (λ p. IsPid p.0) (λ p row. row.3.id) o.peers rows.2.each;
      limits = record { turns = s.2.turns.greatest; peers = s.2.peers.few };
      own = s.2.own;
    }
