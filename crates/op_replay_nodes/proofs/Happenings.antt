-- What is done at a node but an opening, as the world has it.
use Rattle.std.proofs.Common.{◌≡◌, ℕ, false, List, [], ◌++◌, Option, Some, None, refl, sym, ap, subst, ◌∙◌, inl, arith}
use Rattle.std.proofs.lemmas.List.{append-nil}
use Rattle.std.proofs.lemmas.List.Elements.{All-nil}
use Rattle.op_types.specs.Changes.{durable_after}
use Rattle.op_types.specs.Ranges.{IsMember}
use Rattle.op_types.specs.declared.changes.Change.{Change}
use Rattle.op_types.specs.declared.durable.Durable.{Durable}
use Rattle.op_types.specs.declared.events.Input.{Input}
use Rattle.op_types.specs.declared.messages.Msg.{Msg}
use Rattle.op_runs.specs.declared.summary.Line.{Line}
use Rattle.op_record.specs.Ranges.{BatchInRange, ChangeInRange}
use Rattle.op_protocol.specs.State.{State, state_after}
use Rattle.op_areas.specs.Media.{Medium}
use Rattle.op_store.specs.Stores.{Represents, disks_of}
use Rattle.op_types.specs.declared.given.Given.{Given}
use Rattle.op_node.specs.Nodes.{NodeState as Inner, node_of, given_of, gives, stores, after_input, refused_with, IsSoundNode, AdmitsInput}
use Rattle.op_node.specs.Reopenings.{StoreOneOf}
use Rattle.op_node.specs.declared.node.Node as nodes
use Rattle.op_runs.specs.World.{Kind, Votes, Observes, plan_as, World, Node, NodeStatus, Up, Down, Failed, Fate, Done, Stopped, Faulted, Told, Doing, Steps, Stops, Opens, Tells, outcome_lines, told_lines, lines_of, stored_as, failed_outcome, world_by_status_as, world_by_fate_as, world_with_as}
use Rattle.op_bounds.specs.Messages.{AreIds, InputInRange}
use Rattle.op_bounds.proofs.Observing.{observer_steps_stay}
use Rattle.op_bounds.proofs.Steps.{steps_stay}
use Rattle.op_executions.specs.Servers.{CanDo, ServerInRange}
use Rattle.op_executions.specs.Servers as servers
use Rattle.op_replay_nodes.specs.Became.{IsDoneOf, IsLeftDown, given_lines}
use Rattle.op_replay_nodes.specs.Disks.{HoldOneOf, StaysDown, StaysNode}
use Rattle.op_replay_nodes.specs.Nodes.{area_nodes, kind_of, StaysSame, IsKept, IsShown, ShowsFailed, ShowsDown, RunsAs, HasFailed}
use Rattle.op_replay_nodes.specs.declared.node_state.DownNode.{DownNode}
use Rattle.op_replay_nodes.specs.declared.node_state.NodeState.{NodeState}
use Rattle.op_replay_nodes.specs.declared.node_state.NodeState.TheVariants as node
use Rattle.op_replay_nodes.specs.declared.node_state.WorldNode.{WorldNode}
use Rattle.op_replay_nodes.proofs.NodeDisks.{closed_holds, down_holds, stores_one}
use Rattle.op_executions.proofs.NodeDone.{becomes, told_done, nothing_done, status_done, quietly_done}

module _ {D C : Type 0} (M : Medium D C) where
  -- ---- a step of a node that hasn't failed

  -- what it gives, stores and becomes is what the step table plans
  gives_planned : (k : Kind) (n : Inner) (x : Input) → n.kind ≡ k → n.failed ≡ None → gives n x ≡ given_of (plan_as k n.me n.state x)
  gives_planned k n x is up =
      ap (λ (f : Option ℕ). let m : Inner = record n { failed = f } in gives m x) up ∙ ap (λ (j : Kind). given_of (plan_as j n.me n.state x)) is

  pub stores_planned : (k : Kind) (n : Inner) (x : Input) → n.kind ≡ k → n.failed ≡ None → stores n x ≡ (plan_as k n.me n.state x).batch
  stores_planned k n x is up =
      ap (λ (f : Option ℕ). let m : Inner = record n { failed = f } in stores m x) up ∙ ap (λ (j : Kind). (plan_as j n.me n.state x).batch) is

  goes_on : (k : Kind) (n : Inner) (x : Input) → n.kind ≡ k → n.failed ≡ None → after_input n x ≡ record { kind = k; me = n.me; state = state_after n.state (plan_as k n.me n.state x); failed = None }
  goes_on k n x is up =
      ap (λ (f : Option ℕ). let m : Inner = record n { failed = f } in after_input m x) up
      ∙ ap (λ (j : Kind). let m : Inner = record { kind = j; me = n.me; state = state_after n.state (plan_as j n.me n.state x); failed = None } in m) is

  -- what one that has failed gives, stores and becomes
  gives_refused : (n : Inner) (x : Input) (count : ℕ) → n.failed ≡ Some count → gives n x ≡ refused_with count x
  gives_refused n x count down = ap (λ (f : Option ℕ). let m : Inner = record n { failed = f } in gives m x) down

  pub stores_none : (n : Inner) (x : Input) (count : ℕ) → n.failed ≡ Some count → stores n x ≡ []
  stores_none n x count down = ap (λ (f : Option ℕ). let m : Inner = record n { failed = f } in stores m x) down

  pub stays_failed : (n : Inner) (x : Input) (count : ℕ) → n.failed ≡ Some count → after_input n x ≡ n
  stays_failed n x count down =
      let with : Option ℕ → Inner = λ f. record n { failed = f } in
      ap (λ (f : Option ℕ). after_input (with f) x) down ∙ ap with (sym down)

  -- a step from an input in range plans what is in range
  planned_in_range : (k : Kind) (ids : List ℕ) → AreIds (IsMember ids) → (x : Node) → ServerInRange ids k x → (i : Input) → InputInRange (IsMember ids) i → BatchInRange (plan_as k x.pid x.state i).batch
  planned_in_range Votes ids are x range i fit = (steps_stay (IsMember ids) are x.pid range.pid x.state range.state i fit).batch
  planned_in_range Observes ids are x range i fit = (observer_steps_stay (IsMember ids) are x.pid x.state (range.range).state i fit).batch

  -- so it stores what is in range
  pub admits_up : (old : WorldNode D C) (n : nodes.Node D) (i : Input) → old.state ≡ node.Up n → CanDo (area_nodes M) old (Steps i) → AdmitsInput n i
  admits_up old n i up k =
      let x = k.node in
      let m : Inner = node_of n in
      let j : Kind = kind_of old in
      let runs : RunsAs M j old.pid n = subst (λ (s : NodeState D C). IsKept M j old.pid s) up k.kept in
      let shown : (x.state ≡ m.state) × (x.status ≡ Up) = subst (λ (s : NodeState D C). IsShown M s x.state x.status) up k.shown.state in
      let is : x.pid ≡ m.me = k.shown.pid ∙ sym runs.me in
      let planned : (plan_as j x.pid x.state i).batch ≡ stores m i =
      ap (λ (p : ℕ). (plan_as j p x.state i).batch) is ∙ ap (λ (s : State). (plan_as j m.me s i).batch) shown.0 ∙ sym (stores_planned j m i runs.kind_is runs.failed) in
      record { sound = runs.sound; range = subst BatchInRange planned (planned_in_range j k.ids k.are_ids x k.range i k.doing) }

  pub admits_failed : (old : WorldNode D C) (n : nodes.Node D) (i : Input) → old.state ≡ node.Failed n → CanDo (area_nodes M) old (Steps i) → AdmitsInput n i
  admits_failed old n i down k =
      let has : HasFailed (kind_of old) old.pid n = subst (λ (s : NodeState D C). IsKept M (kind_of old) old.pid s) down k.kept in
      let shown : ShowsFailed M n k.node.state k.node.status = subst (λ (s : NodeState D C). IsShown M s k.node.state k.node.status) down k.shown.state in
      record { sound = has.sound; range = subst BatchInRange (sym (stores_none (node_of n) i shown.count shown.failed)) (record { few = omega arith; each = All-nil ChangeInRange }) }

  -- a node that did a step runs on
  pub runs_on : (k : Kind) (me : ℕ) (n m : nodes.Node D) (x : Input) → RunsAs M k me n → node_of m ≡ after_input (node_of n) x → IsSoundNode m
      → Represents M.state (durable_after (node_of n).state.durable (stores (node_of n) x)) m.store → RunsAs M k me m
  runs_on k me n m x runs is sound stored =
      let after = is ∙ goes_on k (node_of n) x runs.kind_is runs.failed in
      let durable : durable_after (node_of n).state.durable (stores (node_of n) x) ≡ (node_of m).state.durable =
      ap (λ (b : List Change). durable_after (node_of n).state.durable b) (stores_planned k (node_of n) x runs.kind_is runs.failed) ∙ ap (λ (k : Inner). k.state.durable) (sym after) in
      record {
        kind_is = ap (λ (k : Inner). k.kind) after;
        me = ap (λ (k : Inner). k.me) after ∙ runs.me;
        failed = ap (λ (k : Inner). k.failed) after;
        sound = sound;
        stored = subst (λ (d : Durable). Represents M.state d m.store) durable stored;
      }

  -- what it is to store is planned in the state that is shown
  pub batch_there : (k : Kind) (me : ℕ) (n : nodes.Node D) (i : Input) → RunsAs M k me n → (x : Node) → x.pid ≡ me → x.state ≡ (node_of n).state → (plan_as k x.pid x.state i).batch ≡ stores (node_of n) i
  batch_there k me n i runs x pid state =
      ap (λ (p : ℕ). (plan_as k p x.state i).batch) (pid ∙ sym runs.me) ∙ ap (λ (s : State). (plan_as k (node_of n).me s i).batch) state ∙ sym (stores_planned k (node_of n) i runs.kind_is runs.failed)

  module _ (j : Kind) (me line : ℕ) (n : nodes.Node D) (i : Input) (runs : RunsAs M j me n) (comes : Fate → Type 0) where
    -- what the step was to store
    after_there : (x : Node) → x.pid ≡ me → x.state ≡ (node_of n).state → stored_as j x i ≡ durable_after (node_of n).state.durable (stores (node_of n) i)
    after_there x pid state =
        ap (λ (b : List Change). durable_after x.state.durable b) (batch_there j me n i runs x pid state) ∙ ap (λ (s : State). durable_after s.durable (stores (node_of n) i)) state

    -- it is done
    pub stepped : (m : nodes.Node D) (g : Given) (told : List Line) → comes Done → g ≡ gives (node_of n) i → node_of m ≡ after_input (node_of n) i
        → told ≡ given_lines me line g → RunsAs M j me m → IsDoneOf M j me comes (node.Up n) (Steps i) line (node.Up m) g.sends told
    stepped m g told may gives_is is told_is on = record {
      after = λ x pid shown.
          let k : Inner = node_of n in
          let plan = plan_as j x.pid x.state i in
          let y : Node = record x { state = state_after x.state plan } in
          let here : x.pid ≡ k.me = pid ∙ sym runs.me in
          let given : given_of plan ≡ g =
          ap (λ (p : ℕ). given_of (plan_as j p x.state i)) here ∙ ap (λ (s : State). given_of (plan_as j k.me s i)) shown.0 ∙ sym (gives_planned j k i runs.kind_is runs.failed) ∙ sym gives_is in
          let state : y.state ≡ (node_of m).state =
          ap (λ (p : ℕ). state_after x.state (plan_as j p x.state i)) here ∙ ap (λ (s : State). state_after s (plan_as j k.me s i)) shown.0
          ∙ ap (λ (z : Inner). z.state) (sym (is ∙ goes_on j k i runs.kind_is runs.failed)) in
          record {
            fate = Done;
            finds_after = false;
            may = may;
            node = y;
            shown = (state, shown.1);
            done = record {
              pid = refl;
              stored = inl shown.1;
              world = λ w h f b at there.
                  let lines : lines_of h.event.line x.pid plan ≡ told =
                  ap (λ (l : ℕ). given_lines x.pid l (given_of plan)) at
                  ∙ ap (λ (p : ℕ). given_lines p line (given_of plan)) pid
                  ∙ ap (λ (q : Given). given_lines me line q) given
                  ∙ sym told_is in
                  ap (λ (st : NodeStatus). world_by_status_as j st (Steps i) h w x) shown.1
                  ∙ ap (λ (fate : Fate). world_by_fate_as j fate h.event.line w x i) f
                  ∙ ap (λ (ls : List Line). becomes j w y plan.sends ls) lines
                  ∙ ap (λ (q : Given). becomes j w y q.sends told) given;
            };
          };
      kept = on;
    }

    -- the node stops inside it
    pub stops_inside : (d : DownNode C) → comes Stopped → d.shown ≡ (node_of n).state.durable
        → HoldOneOf M.holds (node_of n).state.durable (durable_after (node_of n).state.durable (stores (node_of n) i)) d.first d.second
        → IsDoneOf M j me comes (node.Up n) (Steps i) line (node.Down d) [] []
    stops_inside d may kept stored = record {
      after = λ x pid shown.
          let durable : (node_of n).state.durable ≡ x.state.durable = ap (λ (s : State). s.durable) (sym shown.0) in
          record {
            fate = Stopped;
            finds_after = false;
            may = may;
            node = record x { status = Down (stored_as j x i) };
            shown = record {
              durable = sym durable ∙ sym kept;
              after = stored_as j x i;
              status_is = refl;
              stored = subst (λ (a : Durable). HoldOneOf M.holds x.state.durable a d.first d.second) (sym (after_there x pid shown.0))
                  (subst (λ (b : Durable). HoldOneOf M.holds b (durable_after (node_of n).state.durable (stores (node_of n) i)) d.first d.second) durable stored);
            };
            done = quietly_done j x (Steps i) Stopped false line Up shown.1 (Down (stored_as j x i)) (λ w h f b. ap (λ (fate : Fate). world_by_fate_as j fate h.event.line w x i) f);
          };
      kept = tt;
    }

    -- a disk fails inside it
    pub fails_inside : (m : nodes.Node D) (count : ℕ) (told : List Line) → comes (Faulted count) → node_of m ≡ record (node_of n) { failed = Some count } → IsSoundNode m
        → StoreOneOf (node_of n).state.durable (durable_after (node_of n).state.durable (stores (node_of n) i)) (disks_of M.state m.store)
        → told ≡ outcome_lines line (failed_outcome count i) → IsDoneOf M j me comes (node.Up n) (Steps i) line (node.Failed m) [] told
    fails_inside m count told may is sound stored told_is = record {
      after = λ x pid shown.
          let durable : (node_of n).state.durable ≡ x.state.durable = ap (λ (s : State). s.durable) (sym shown.0) in
          record {
            fate = Faulted count;
            finds_after = false;
            may = may;
            node = record x { status = Failed count (stored_as j x i) };
            shown = record {
              state = shown.0 ∙ ap (λ (k : Inner). k.state) (sym is);
              count = count;
              failed = ap (λ (k : Inner). k.failed) is;
              after = stored_as j x i;
              status_is = refl;
              stored = subst (λ (a : Durable). StoreOneOf x.state.durable a (disks_of M.state m.store)) (sym (after_there x pid shown.0))
                  (subst (λ (b : Durable). StoreOneOf b (durable_after (node_of n).state.durable (stores (node_of n) i)) (disks_of M.state m.store)) durable stored);
            };
            done = status_done j x (Steps i) (Faulted count) false line Up shown.1 (Failed count (stored_as j x i)) told
                (λ w h f b at. ap (λ (fate : Fate). world_by_fate_as j fate h.event.line w x i) f
                ∙ ap (λ (ls : List Line). let v : World = world_with_as j w (record x { status = Failed count (stored_as j x i) }) in let z : World = record v { lines = v.lines ++ ls } in z)
                (ap (λ (l : ℕ). outcome_lines l (failed_outcome count i)) at ∙ sym told_is));
          };
      kept = record { kind_is = ap (λ (k : Inner). k.kind) is ∙ runs.kind_is; me = ap (λ (k : Inner). k.me) is ∙ runs.me; sound = sound };
    }

  -- ---- a node that isn't up

  -- one that failed refuses what is proposed
  pub refuses : (j : Kind) (me line : ℕ) (n m : nodes.Node D) (i : Input) (g : Given) (told : List Line) (comes : Fate → Type 0) → comes Done → HasFailed j me n → g ≡ gives (node_of n) i → StaysNode M.state n m → told ≡ given_lines me line g
      → IsDoneOf M j me comes (node.Failed n) (Steps i) line (node.Failed m) g.sends told
  refuses j me line n m i g told comes may has gives_is stays told_is = record {
    after = λ x pid shown.
        let given : g ≡ refused_with shown.count i = gives_is ∙ gives_refused (node_of n) i shown.count shown.failed in
        let said : List Line = outcome_lines line (failed_outcome shown.count i) in
        let lines : said ≡ told = sym (append-nil (said ++ []) ∙ append-nil said) ∙ ap (λ (q : Given). given_lines me line q) (sym given) ∙ sym told_is in
        record {
          fate = Done;
          finds_after = false;
          may = may;
          node = x;
          shown = record {
            state = shown.state ∙ ap (λ (k : Inner). k.state) (sym stays.node);
            count = shown.count;
            failed = ap (λ (k : Inner). k.failed) stays.node ∙ shown.failed;
            after = shown.after;
            status_is = shown.status_is;
            stored = stays.stores x.state.durable shown.after shown.stored;
          };
          done = subst (λ (q : Given). servers.IsNodeDone j x (Steps i) Done false line x q.sends told) (sym given)
              (told_done j x (Steps i) Done false line (Failed shown.count shown.after) shown.status_is told
              (λ w h f b at. ap (λ (ls : List Line). let z : World = record w { lines = w.lines ++ ls } in z)
              (ap (λ (l : ℕ). outcome_lines l (failed_outcome shown.count i)) at ∙ lines)));
        };
    kept = record { kind_is = ap (λ (k : Inner). k.kind) stays.node ∙ has.kind_is; me = ap (λ (k : Inner). k.me) stays.node ∙ has.me; sound = stays.sound has.sound };
  }

  -- at one that is down nothing happens but a stop and an opening
  pub idle_down : (j : Kind) (me line : ℕ) (d : DownNode C) (doing : Doing) (comes : Fate → Type 0) → comes Done → (doing ≡ Opens → ⊥) → IsDoneOf M j me comes (node.Down d) doing line (node.Down d) [] []
  idle_down j me line d (Steps i) comes may closed = record {
    after = λ x pid shown.
        record { fate = Done; finds_after = false; may = may; node = x; shown = shown; done = nothing_done j x (Steps i) Done false line (Down shown.after) shown.status_is (λ w h f. refl) };
    kept = tt;
  }
  idle_down j me line d Stops comes may closed = record {
    after = λ x pid shown.
        record { fate = Done; finds_after = false; may = may; node = x; shown = shown; done = nothing_done j x Stops Done false line (Down shown.after) shown.status_is (λ w h f. refl) };
    kept = tt;
  }
  idle_down j me line d Opens comes may closed = absurd (closed refl)
  idle_down j me line d (Tells t) comes may closed = record {
    after = λ x pid shown.
        record { fate = Done; finds_after = false; may = may; node = x; shown = shown; done = nothing_done j x (Tells t) Done false line (Down shown.after) shown.status_is (λ w h f. refl) };
    kept = tt;
  }

  -- ---- a node tells something

  -- what it tells is of its state
  told_there : (me : ℕ) (n : nodes.Node D) (t : Told) (told : List Line) (x : Node) → x.pid ≡ me → x.state ≡ (node_of n).state → (let s : State = (node_of n).state in told ≡ told_lines t me s s.durable.part)
      → told_lines t x.pid x.state x.state.durable.part ≡ told
  told_there me n t told x pid state are = ap (λ (k : ℕ). told_lines t k x.state x.state.durable.part) pid ∙ ap (λ (s : State). told_lines t me s s.durable.part) state ∙ sym are

  pub tells_up : (j : Kind) (me line : ℕ) (n : nodes.Node D) (t : Told) (told : List Line) (comes : Fate → Type 0) → comes Done → RunsAs M j me n → (let s : State = (node_of n).state in told ≡ told_lines t me s s.durable.part)
      → IsDoneOf M j me comes (node.Up n) (Tells t) line (node.Up n) [] told
  tells_up j me line n t told comes may kept are = record {
    after = λ x pid shown.
        record {
          fate = Done;
          finds_after = false;
          may = may;
          node = x;
          shown = shown;
          done = told_done j x (Tells t) Done false line Up shown.1 told
              (λ w h f b at. ap (λ (ls : List Line). let y : World = record w { lines = w.lines ++ ls } in y) (told_there me n t told x pid shown.0 are));
        };
    kept = kept;
  }

  pub tells_failed : (j : Kind) (me line : ℕ) (n : nodes.Node D) (t : Told) (told : List Line) (comes : Fate → Type 0) → comes Done → HasFailed j me n → (let s : State = (node_of n).state in told ≡ told_lines t me s s.durable.part)
      → IsDoneOf M j me comes (node.Failed n) (Tells t) line (node.Failed n) [] told
  tells_failed j me line n t told comes may kept are = record {
    after = λ x pid shown.
        record {
          fate = Done;
          finds_after = false;
          may = may;
          node = x;
          shown = shown;
          done = told_done j x (Tells t) Done false line (Failed shown.count shown.after) shown.status_is told
              (λ w h f b at. ap (λ (ls : List Line). let y : World = record w { lines = w.lines ++ ls } in y) (told_there me n t told x pid shown.state are));
        };
    kept = kept;
  }

  -- ---- a stop between two steps

  -- a node that is down whose copies hold one of two states
  left_down : (before after : Durable) (d : DownNode C) (s : State) → s.durable ≡ d.shown → HoldOneOf M.holds before after d.first d.second → s.durable ≡ before → ShowsDown M d s (Down after)
  left_down before after d s kept held same =
      record { durable = kept; after = after; status_is = refl; stored = subst (λ (b : Durable). HoldOneOf M.holds b after d.first d.second) (sym same) held }

  pub stops_up : (j : Kind) (me line : ℕ) (n : nodes.Node D) (d : DownNode C) (comes : Fate → Type 0) → comes Done → RunsAs M j me n → IsLeftDown M (node.Up n) d → IsDoneOf M j me comes (node.Up n) Stops line (node.Down d) [] []
  stops_up j me line n d comes may runs left = record {
    after = λ x pid shown.
        let durable : x.state.durable ≡ (node_of n).state.durable = ap (λ (s : State). s.durable) shown.0 in
        let e : Durable = (node_of n).state.durable in
        record {
          fate = Done;
          finds_after = false;
          may = may;
          node = record x { status = Down x.state.durable };
          shown = subst (λ (a : Durable). ShowsDown M d x.state (Down a)) (sym durable)
              (left_down e e d x.state (durable ∙ sym left.shown_is) (closed_holds M.state M.holds e e e n.store.first n.store.second d left (stores_one M.state e n.store runs.stored)) durable);
          done = quietly_done j x Stops Done false line Up shown.1 (Down x.state.durable) (λ w h f b. refl);
        };
    kept = tt;
  }

  pub stops_failed : (j : Kind) (me line : ℕ) (n : nodes.Node D) (d : DownNode C) (comes : Fate → Type 0) → comes Done → IsLeftDown M (node.Failed n) d → IsDoneOf M j me comes (node.Failed n) Stops line (node.Down d) [] []
  stops_failed j me line n d comes may left = record {
    after = λ x pid shown.
        record {
          fate = Done;
          finds_after = false;
          may = may;
          node = record x { status = Down shown.after };
          shown = left_down x.state.durable shown.after d x.state (ap (λ (s : State). s.durable) shown.state ∙ sym left.shown_is)
              (closed_holds M.state M.holds x.state.durable shown.after (node_of n).state.durable n.store.first n.store.second d left shown.stored) refl;
          done = quietly_done j x Stops Done false line (Failed shown.count shown.after) shown.status_is (Down shown.after) (λ w h f b. refl);
        };
    kept = tt;
  }

  -- one that is down goes on as it is over copies that hold no more
  shown_down : (old d : DownNode C) (s : State) (status : NodeStatus) → StaysDown M.holds old d → ShowsDown M old s status → ShowsDown M d s status
  shown_down old d s status stays shown = record {
    durable = shown.durable ∙ sym stays.shown_is;
    after = shown.after;
    status_is = shown.status_is;
    stored = down_holds M.holds s.durable shown.after old d stays shown.stored;
  }

  -- one that is down already stays so
  pub stops_down : (j : Kind) (me line : ℕ) (old d : DownNode C) (comes : Fate → Type 0) → comes Done → IsLeftDown M (node.Down old) d → IsDoneOf M j me comes (node.Down old) Stops line (node.Down d) [] []
  stops_down j me line old d comes may left = record {
    after = λ x pid shown.
        record {
          fate = Done;
          finds_after = false;
          may = may;
          node = x;
          shown = shown_down old d x.state x.status left shown;
          done = nothing_done j x Stops Done false line (Down shown.after) shown.status_is (λ w h f. refl);
        };
    kept = tt;
  }

  pub stops_any : (j : Kind) (me line : ℕ) (s : NodeState D C) (d : DownNode C) (comes : Fate → Type 0) → comes Done → IsKept M j me s → IsLeftDown M s d → IsDoneOf M j me comes s Stops line (node.Down d) [] []
  stops_any j me line (node.Up n) d comes may kept left = stops_up j me line n d comes may kept left
  stops_any j me line (node.Failed n) d comes may kept left = stops_failed j me line n d comes may left
  stops_any j me line (node.Down old) d comes may kept left = stops_down j me line old d comes may left

  -- ---- what is handed on

  -- a node that goes on shows what it showed
  pub stays_shown : (s z : NodeState D C) → StaysSame M s z → (x : Node) → IsShown M s x.state x.status → IsShown M z x.state x.status
  stays_shown (node.Up n) (node.Up m) g x shown = (shown.0 ∙ ap (λ (i : Inner). i.state) (sym g.node), shown.1)
  stays_shown (node.Up n) (node.Failed m) g x shown = absurd g
  stays_shown (node.Up n) (node.Down d) g x shown = absurd g
  stays_shown (node.Failed n) (node.Up m) g x shown = absurd g
  stays_shown (node.Failed n) (node.Failed m) g x shown = record {
    state = shown.state ∙ ap (λ (k : Inner). k.state) (sym g.node);
    count = shown.count;
    failed = ap (λ (k : Inner). k.failed) g.node ∙ shown.failed;
    after = shown.after;
    status_is = shown.status_is;
    stored = g.stores x.state.durable shown.after shown.stored;
  }
  stays_shown (node.Failed n) (node.Down d) g x shown = absurd g
  stays_shown (node.Down d) (node.Up m) g x shown = absurd g
  stays_shown (node.Down d) (node.Failed m) g x shown = absurd g
  stays_shown (node.Down d) (node.Down e) g x shown = shown_down d e x.state x.status g shown

  pub runs_still : (j : Kind) (pid : ℕ) (n m : nodes.Node D) → StaysNode M.state n m → RunsAs M j pid n → RunsAs M j pid m
  runs_still j pid n m g r = record {
    kind_is = ap (λ (k : Inner). k.kind) g.node ∙ r.kind_is;
    me = ap (λ (k : Inner). k.me) g.node ∙ r.me;
    failed = ap (λ (k : Inner). k.failed) g.node ∙ r.failed;
    sound = g.sound r.sound;
    stored = g.represented r.stored;
  }

  pub failed_still : (j : Kind) (pid : ℕ) (n m : nodes.Node D) → StaysNode M.state n m → HasFailed j pid n → HasFailed j pid m
  failed_still j pid n m g r = record { kind_is = ap (λ (k : Inner). k.kind) g.node ∙ r.kind_is; me = ap (λ (k : Inner). k.me) g.node ∙ r.me; sound = g.sound r.sound }

  pub stays_kept : (j : Kind) (pid : ℕ) (s z : NodeState D C) → StaysSame M s z → IsKept M j pid s → IsKept M j pid z
  stays_kept j pid (node.Up n) (node.Up m) g kept = runs_still j pid n m g kept
  stays_kept j pid (node.Up n) (node.Failed m) g kept = absurd g
  stays_kept j pid (node.Up n) (node.Down d) g kept = absurd g
  stays_kept j pid (node.Failed n) (node.Up m) g kept = absurd g
  stays_kept j pid (node.Failed n) (node.Failed m) g kept = failed_still j pid n m g kept
  stays_kept j pid (node.Failed n) (node.Down d) g kept = absurd g
  stays_kept j pid (node.Down d) (node.Up m) g kept = absurd g
  stays_kept j pid (node.Down d) (node.Failed m) g kept = absurd g
  stays_kept j pid (node.Down d) (node.Down e) g kept = tt

  -- what is done is done of a node that goes on
  pub then_stays : (j : Kind) (pid : ℕ) (comes : Fate → Type 0) (old s z : NodeState D C) (d : Doing) (line : ℕ) (sends : List (ℕ × Msg)) (told : List Line) → IsDoneOf M j pid comes old d line s sends told → StaysSame M s z → IsDoneOf M j pid comes old d line z sends told
  then_stays j pid comes old s z d line sends told did g = record {
    after = λ x at shown.
        let y = did.after x at shown in
        record { fate = y.fate; finds_after = y.finds_after; may = y.may; node = y.node; shown = stays_shown s z g y.node y.shown; done = y.done };
    kept = stays_kept j pid s z g did.kept;
  }

  -- what is done of a node that goes on is done of it before
  pub first_stays : (j : Kind) (pid : ℕ) (comes : Fate → Type 0) (old s new : NodeState D C) (d : Doing) (line : ℕ) (sends : List (ℕ × Msg)) (told : List Line) → StaysSame M old s → IsDoneOf M j pid comes s d line new sends told → IsDoneOf M j pid comes old d line new sends told
  first_stays j pid comes old s new d line sends told g did = record { after = λ x at shown. did.after x at (stays_shown old s g x shown); kept = did.kept }
