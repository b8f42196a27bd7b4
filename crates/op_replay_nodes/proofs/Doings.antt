-- What is done at a server: of its state, and of what awaits it.
use Rattle.std.proofs.Common.{◌≡◌, ◌&&◌, ℕ, Bool, true, false, cond, inl, List, [], Result, Ok, Err, refl, sym, ap, subst, ◌∙◌}
use Rattle.std.specs.Prelude.{IfOk}
use Rattle.op_types.specs.declared.events.Input.{Input}
use Rattle.op_types.specs.declared.messages.Msg.{Msg}
use Rattle.op_runs.specs.declared.summary.Line.{Line}
use Rattle.op_runs.specs.World.{Fate, Done, Told, Doing, Steps, Stops, Opens, Tells}
use Rattle.op_runs.specs.Possible.{kind_if}
use Rattle.op_runs.specs.Schedules.{Awaited, Nothing, MayEnd}
use Rattle.op_areas.specs.Media.{Medium}
use Rattle.op_types.specs.Changes.{durable_after}
use Rattle.op_store.specs.Stores.{Represents}
use Rattle.op_types.specs.declared.given.Given.{Given}
use Rattle.op_node.specs.Nodes.{node_of, gives, stores, after_input, Stepped, IsRepresented, IsSoundNode}
use Rattle.op_node.specs.Steps as steps
use Rattle.op_node.specs.declared.node.Node as nodes
use Rattle.op_executions.specs.Deeds.{doing_of}
use Rattle.op_executions.specs.Servers.{CanDo, IsDoneAt, IsToldAt}
use Rattle.op_executions.specs.declared.deed.Doing as deed
use Rattle.op_executions.specs.declared.server.Done as given
use Rattle.op_replay_nodes.specs.Plans.{awaited_of, is_quiet, lost_in}
use Rattle.op_replay_nodes.specs.Became.{IsInRange, IsDoneOf, IsNotUp, IsLeftDown, TellsIn, BecomesOf, MayComeOf, HasAdopted, given_lines}
use Rattle.op_replay_nodes.specs.Disks.{StaysNode}
use Rattle.op_replay_nodes.specs.Nodes.{area_nodes, kind_of, is_awaited_at, drops_at, CallsAt, ComesAt, GoesOn, StaysSame, IsKept, RunsAs, HasFailed, ShowsFailed}
use Rattle.op_replay_nodes.specs.declared.awaited.Awaited as code
use Rattle.op_replay_nodes.specs.declared.awaited.Awaited.TheVariants as told
use Rattle.op_replay_nodes.specs.declared.became.Became.{Became}
use Rattle.op_replay_nodes.specs.declared.node_state.NodeState.{NodeState}
use Rattle.op_replay_nodes.specs.declared.node_state.NodeState.TheVariants as node
use Rattle.op_replay_nodes.specs.declared.node_state.WorldNode.{WorldNode}
use Rattle.op_replay_nodes.specs.declared.node_state.DownNode.{DownNode}
use Rattle.op_replay_nodes.specs.declared.plan.Plan.{Plan}
use Rattle.op_replay_nodes.proofs.Happenings.{then_stays, stepped, runs_on, idle_down, refuses, stores_none, stays_failed, tells_up, tells_failed, stops_any}
use Rattle.op_replay_nodes.proofs.NodeDisks.{stays_stored}
use Rattle.op_replay_nodes.proofs.Openings.{open_already}

module _ {D C : Type 0} (M : Medium D C) where
  -- ---- of its state

  -- what awaited it is dropped where it is to be, and no disk is killed
  pub record Leaves (old new : WorldNode D C) (s : NodeState D C) (d : Doing) : Type 0 where
    pub left : awaited_of new.plan.awaited ≡ cond (drops_at s d) Nothing (awaited_of old.plan.awaited)
    pub killed : new.plan.killed ≡ old.plan.killed

  pub has_done : (old new : WorldNode D C) (d : Doing) (line : ℕ) (sends : List (ℕ × Msg)) (told : List Line) → new.pid ≡ old.pid → new.observes ≡ old.observes → IsDoneOf M (kind_of old) old.pid (ComesAt M old.state old.plan d new.is_due) old.state d line new.state sends told
      → Leaves old new old.state d → IsDoneAt (area_nodes M) tt old d line new sends told
  has_done old new d line sends told pid observes did leaves = record {
    after = λ x shown.
        let y = did.after x shown.pid shown.state in
        record {
          fate = y.fate;
          finds_after = y.finds_after;
          lets = record { comes = y.may; left = leaves.left; killed = leaves.killed };
          node = y.node;
          shows = record { pid = y.done.pid ∙ shown.pid ∙ sym pid; state = y.shown };
          done = y.done;
        };
    pid = pid;
    kind = ap kind_if observes;
    kept = subst (λ (b : Bool). IsKept M (kind_if b) new.pid new.state) (sym observes) (subst (λ (p : ℕ). IsKept M (kind_of old) p new.state) (sym pid) did.kept);
  }

  pub has_done_in : (old new : WorldNode D C) (s : NodeState D C) (d : Doing) (line : ℕ) (sends : List (ℕ × Msg)) (said : List Line) → old.state ≡ s → new.pid ≡ old.pid → new.observes ≡ old.observes → IsDoneOf M (kind_of old) old.pid (ComesAt M s old.plan d new.is_due) s d line new.state sends said
      → Leaves old new s d → IsDoneAt (area_nodes M) tt old d line new sends said
  has_done_in old new s d line sends said is pid observes did leaves =
      has_done old new d line sends said pid observes (subst (λ (z : NodeState D C). IsDoneOf M (kind_of old) old.pid (ComesAt M z old.plan d new.is_due) z d line new.state sends said) (sym is) did)
      (subst (λ (z : NodeState D C). Leaves old new z d) (sym is) leaves)

  -- it stays as it is
  pub stays_done : (old : WorldNode D C) (s : NodeState D C) (d : Doing) (line : ℕ) (sends : List (ℕ × Msg)) (said : List Line) → old.state ≡ s → IsDoneOf M (kind_of old) old.pid (ComesAt M s old.plan d old.is_due) s d line s sends said
      → Leaves old old s d → IsDoneAt (area_nodes M) tt old d line old sends said
  stays_done old s d line sends said is did leaves =
      has_done old old d line sends said refl refl (subst (λ (z : NodeState D C). IsDoneOf M (kind_of old) old.pid (ComesAt M z old.plan d old.is_due) z d line z sends said) (sym is) did)
      (subst (λ (z : NodeState D C). Leaves old old z d) (sym is) leaves)

  -- ---- what isn't awaited

  still_left : (b : Bool) (a : Awaited) → b ≡ false → a ≡ cond b Nothing a
  still_left true a away = absurd (let no : true ≡ false = away in cc)
  still_left false a away = refl

  pub other_left : (old new : WorldNode D C) (s : NodeState D C) (d : Doing) → drops_at s d ≡ false → new.plan ≡ old.plan → Leaves old new s d
  other_left old new s d away same = record {
    left = ap (λ (p : Plan). awaited_of p.awaited) same ∙ still_left (drops_at s d) (awaited_of old.plan.awaited) away;
    killed = ap (λ (p : Plan). p.killed) same;
  }

  other_comes : (b : Bool) (a : Awaited) (lost : Bool) (calls : Type 0) (due : Bool) → b ≡ false → due ≡ false → MayEnd (cond b a Nothing) (b && lost) calls Done due
  other_comes true a lost calls due away quiet = absurd (let no : true ≡ false = away in cc)
  other_comes false a lost calls due away quiet = (inl refl, quiet)

  -- it is done where it isn't what is awaited
  pub other_done : (s : NodeState D C) (p : Plan) (d : Doing) (due : Bool) → is_awaited_at s d ≡ false → due ≡ false → ComesAt M s p d due Done
  other_done s p d due away quiet = other_comes (is_awaited_at s d) (awaited_of p.awaited) (lost_in M.is_mirrored p.killed) (CallsAt s d) due away quiet

  -- and where nothing is
  quiet_awaits : (m : Bool) (p : Plan) (c : code.Awaited) → p.awaited ≡ c → is_quiet m p ≡ true → awaited_of c ≡ Nothing
  quiet_awaits m p told.Nothing is quiet = refl
  quiet_awaits m p (told.Stop call image) is quiet = absurd (let no : false ≡ true = sym (ap (λ (c : code.Awaited). let q : Plan = record p { awaited = c } in is_quiet m q) is) ∙ quiet in cc)
  quiet_awaits m p (told.Failure call) is quiet = absurd (let no : false ≡ true = sym (ap (λ (c : code.Awaited). let q : Plan = record p { awaited = c } in is_quiet m q) is) ∙ quiet in cc)

  pub nothing_awaits : (m : Bool) (p : Plan) → is_quiet m p ≡ true → awaited_of p.awaited ≡ Nothing
  nothing_awaits m p quiet = quiet_awaits m p p.awaited refl quiet

  nothing_left : (b : Bool) (a : Awaited) → a ≡ Nothing → a ≡ cond b Nothing a
  nothing_left true a none = none
  nothing_left false a none = refl

  pub plain_left : (old new : WorldNode D C) (s : NodeState D C) (d : Doing) → awaited_of old.plan.awaited ≡ Nothing → new.plan ≡ old.plan → Leaves old new s d
  plain_left old new s d none same = record {
    left = ap (λ (p : Plan). awaited_of p.awaited) same ∙ nothing_left (drops_at s d) (awaited_of old.plan.awaited) none;
    killed = ap (λ (p : Plan). p.killed) same;
  }

  nothing_comes : (b : Bool) (a : Awaited) (lost : Bool) (calls : Type 0) (due : Bool) → a ≡ Nothing → due ≡ false → MayEnd (cond b a Nothing) (b && lost) calls Done due
  nothing_comes true a lost calls due none quiet = subst (λ (x : Awaited). MayEnd x lost calls Done due) (sym none) (inl refl, quiet)
  nothing_comes false a lost calls due none quiet = (inl refl, quiet)

  -- ---- a step or an opening that was awaited

  if_awaited : (b : Bool) (a : Awaited) (lost : Bool) (calls : Type 0) (fate : Fate) (due : Bool) → b ≡ true → MayEnd a lost calls fate due → MayEnd (cond b a Nothing) (b && lost) calls fate due
  if_awaited true a lost calls fate due is may = may
  if_awaited false a lost calls fate due is may = absurd (let no : false ≡ true = is in cc)

  dropped : (b : Bool) (a : Awaited) → b ≡ true → Nothing ≡ cond b Nothing a
  dropped true a is = refl
  dropped false a is = absurd (let no : false ≡ true = is in cc)

  -- what became of it was adopted
  pub adopted : (old mid new : WorldNode D C) (d : Doing) (line : ℕ) (r : Became D C) (done : given.Done) → is_awaited_at old.state d ≡ true → drops_at old.state d ≡ true → mid.pid ≡ old.pid → mid.observes ≡ old.observes → mid.plan ≡ old.plan → BecomesOf M (kind_of old) old.pid old.plan old.state d line r
      → HasAdopted M r mid new done → IsDoneAt (area_nodes M) tt old d line new done.sends done.told
  adopted old mid new d line r done awaited drops same same_kind planned became a =
      let Of : Bool → List (ℕ × Msg) → List Line → Type 0 = λ due ss ls. IsDoneOf M (kind_of old) old.pid (MayComeOf M old.plan (CallsAt old.state d) due) old.state d line new.state ss ls in
      let stays : Of r.is_due r.sends r.told = then_stays M (kind_of old) old.pid (MayComeOf M old.plan (CallsAt old.state d) r.is_due) old.state r.state new.state d line r.sends r.told became a.state in
      let did : Of new.is_due done.sends done.told =
      subst (λ (b : Bool). Of b done.sends done.told) (sym a.due) (subst (λ (ss : List (ℕ × Msg)). Of r.is_due ss done.told) (sym a.sends) (subst (λ (ls : List Line). Of r.is_due r.sends ls) (sym a.lines) stays)) in
      has_done old new d line done.sends done.told (a.pid ∙ same) (a.observes ∙ same_kind)
      (record {
        after = λ x pid shown.
            let y = did.after x pid shown in
            record {
              fate = y.fate;
              finds_after = y.finds_after;
              may = if_awaited (is_awaited_at old.state d) (awaited_of old.plan.awaited) (lost_in M.is_mirrored old.plan.killed) (CallsAt old.state d) y.fate new.is_due awaited y.may;
              node = y.node;
              shown = y.shown;
              done = y.done;
            };
        kept = did.kept;
      })
      (record {
        left = ap (λ (p : Plan). awaited_of p.awaited) a.plan ∙ dropped (drops_at old.state d) (awaited_of old.plan.awaited) drops;
        killed = ap (λ (p : Plan). p.killed) a.plan ∙ ap (λ (p : Plan). p.killed) planned;
      })

  -- ---- a server that isn't due any more

  abbrev pub not_due : WorldNode D C → (WorldNode D C)
  not_due old = record old { is_due = false }

  done_before : (old new : WorldNode D C) (d : Doing) (line : ℕ) (sends : List (ℕ × Msg)) (told : List Line) → IsDoneAt (area_nodes M) tt (not_due old) d line new sends told → IsDoneAt (area_nodes M) tt old d line new sends told
  done_before old new d line sends told did = record {
    after = λ x shown.
        let y = did.after x (record { pid = shown.pid; state = shown.state }) in
        record { fate = y.fate; finds_after = y.finds_after; lets = record { comes = y.lets.comes; left = y.lets.left; killed = y.lets.killed }; node = y.node; shows = y.shows; done = y.done };
    pid = did.pid;
    kind = did.kind;
    kept = did.kept;
  }

  -- what is done of these is done of a server where these are what it is to do
  pub handed_on : {E : Type 0} (r : Result (List (ℕ × Msg)) E) (old new : WorldNode D C) (x y : deed.Doing) (line : ℕ) (before lines : List Line) → x ≡ y → IfOk r (λ sends. IsToldAt (area_nodes M) tt (not_due old) (doing_of y) line new sends before lines)
      → IfOk r (λ sends. IsToldAt (area_nodes M) tt old (doing_of x) line new sends before lines)
  handed_on (Ok sends) old new x y line before lines is did = record {
    told = did.told;
    done = subst (λ (z : deed.Doing). IsDoneAt (area_nodes M) tt old (doing_of z) line new sends did.told) (sym is) (done_before old new (doing_of y) line sends did.told did.done);
    added = did.added;
  }
  handed_on (Err e) old new x y line before lines is did = tt

  -- nothing was sent or told
  pub only : (r : given.Done) (old new : WorldNode D C) (x : Doing) (line : ℕ) → r ≡ record { sends = []; told = [] } → IsDoneAt (area_nodes M) tt old x line new [] [] → IsDoneAt (area_nodes M) tt old x line new r.sends r.told
  only r old new x line is did = subst (λ (d : given.Done). IsDoneAt (area_nodes M) tt old x line new d.sends d.told) (sym is) did

  -- ---- the deeds, each at a server

  -- a step of one that is up, which goes on over areas that may keep fewer calls
  pub did_step : (old mid new : WorldNode D C) (line : ℕ) (n m : nodes.Node D) (i : Input) (g : Given) (said : List Line) → old.state ≡ node.Up n → mid ≡ record old { state = node.Up m } → awaited_of old.plan.awaited ≡ Nothing → old.is_due ≡ false → IsKept M (kind_of old) old.pid old.state
      → g ≡ gives (node_of n) i → node_of m ≡ after_input (node_of n) i → IsSoundNode m → (IsRepresented M.state n → Represents M.state (durable_after (node_of n).state.durable (stores (node_of n) i)) m.store)
      → said ≡ given_lines old.pid line g → GoesOn M mid new → IsDoneAt (area_nodes M) tt old (Steps i) line new g.sends said
  did_step old mid new line n m i g said up here none quiet kept gives_is is sound stored said_is goes =
      let runs : RunsAs M (kind_of old) old.pid n = subst (λ (s : NodeState D C). IsKept M (kind_of old) old.pid s) up kept in
      let due : new.is_due ≡ false = goes.is_due ∙ ap (λ (x : WorldNode D C). x.is_due) here ∙ quiet in
      let comes : Fate → Type 0 = ComesAt M (node.Up n) old.plan (Steps i) new.is_due in
      let may : comes Done = nothing_comes true (awaited_of old.plan.awaited) (lost_in M.is_mirrored old.plan.killed) _ new.is_due none due in
      let state : StaysSame M (node.Up m) new.state = subst (λ (s : NodeState D C). StaysSame M s new.state) (ap (λ (x : WorldNode D C). x.state) here) goes.state in
      has_done_in old new (node.Up n) (Steps i) line g.sends said up (goes.pid ∙ ap (λ (x : WorldNode D C). x.pid) here) (goes.observes ∙ ap (λ (x : WorldNode D C). x.observes) here)
      (then_stays M (kind_of old) old.pid comes (node.Up n) (node.Up m) new.state (Steps i) line g.sends said
      (stepped M (kind_of old) old.pid line n i runs comes m g said may gives_is is said_is (runs_on M (kind_of old) old.pid n m i runs is sound (stored runs.stored))) state)
      (plain_left old new (node.Up n) (Steps i) none (goes.plan ∙ ap (λ (x : WorldNode D C). x.plan) here))

  -- one that is down does nothing
  pub did_idle : (old : WorldNode D C) (line : ℕ) (i : Input) → IsNotUp old.state → ((n : nodes.Node D) → old.state ≡ node.Failed n → ⊥) → old.is_due ≡ false → IsDoneAt (area_nodes M) tt old (Steps i) line old [] []
  did_idle old line i down other quiet = by old.state refl down
    where
      by : (s : NodeState D C) → old.state ≡ s → IsNotUp s → IsDoneAt (area_nodes M) tt old (Steps i) line old [] []
      by (node.Up n) is up = absurd up
      by (node.Failed n) is up = absurd (other n is)
      by (node.Down d) is up =
          stays_done old (node.Down d) (Steps i) line [] [] is
          (idle_down M (kind_of old) old.pid line d (Steps i) (ComesAt M (node.Down d) old.plan (Steps i) old.is_due) (inl refl, quiet) (λ e. let no : Steps i ≡ Opens = e in cc)) (other_left old old (node.Down d) (Steps i) refl refl)

  -- one that failed (refuses M) what is proposed
  pub did_refuse : (old : WorldNode D C) (line : ℕ) (n m : nodes.Node D) (i : Input) (g : Given) (said : List Line) → old.state ≡ node.Failed n → CanDo (area_nodes M) old (Steps i) → old.is_due ≡ false → Stepped (node_of n) i (Ok g) (node_of m)
      → steps.Steps {T = Given} M.state (node_of n).state.durable (stores (node_of n) i) n.store m.store (Ok g) → IsSoundNode m → said ≡ given_lines old.pid line g
      → IsDoneAt (area_nodes M) tt old (Steps i) line (record old { state = node.Failed m }) g.sends said
  did_refuse old line n m i g said failed can quiet did over sound said_is =
      let has : HasFailed (kind_of old) old.pid n = subst (λ (s : NodeState D C). IsKept M (kind_of old) old.pid s) failed can.kept in
      let shown : ShowsFailed M n can.node.state can.node.status = subst (λ (s : NodeState D C). (area_nodes M).is_shown (record old { state = s }) can.node) failed can.shown.state in
      let stays : StaysNode M.state n m =
      (stays_stored M.state) n m (did.1 ∙ (stays_failed M) (node_of n) i shown.count shown.failed) (over.idle (stores_none M (node_of n) i shown.count shown.failed)) sound in
      has_done_in old (record old { state = node.Failed m }) (node.Failed n) (Steps i) line g.sends said failed refl refl
      (refuses M (kind_of old) old.pid line n m i g said (ComesAt M (node.Failed n) old.plan (Steps i) old.is_due) (inl refl, quiet) has did.0 stays said_is) (other_left old (record old { state = node.Failed m }) (node.Failed n) (Steps i) refl refl)

  -- it tells something
  pub did_tell : (old : WorldNode D C) (line : ℕ) (t : Told) (said : List Line) → IsKept M (kind_of old) old.pid old.state → old.is_due ≡ false → TellsIn old.pid t old.state said → IsDoneAt (area_nodes M) tt old (Tells t) line old [] said
  did_tell old line t said kept quiet tells = by old.state refl kept tells
    where
      by : (s : NodeState D C) → old.state ≡ s → IsKept M (kind_of old) old.pid s → TellsIn old.pid t s said → IsDoneAt (area_nodes M) tt old (Tells t) line old [] said
      by (node.Up n) is k are = stays_done old (node.Up n) (Tells t) line [] said is (tells_up M (kind_of old) old.pid line n t said (ComesAt M (node.Up n) old.plan (Tells t) old.is_due) (inl refl, quiet) k are) (other_left old old (node.Up n) (Tells t) refl refl)
      by (node.Failed n) is k are =
          stays_done old (node.Failed n) (Tells t) line [] said is (tells_failed M (kind_of old) old.pid line n t said (ComesAt M (node.Failed n) old.plan (Tells t) old.is_due) (inl refl, quiet) k are) (other_left old old (node.Failed n) (Tells t) refl refl)
      by (node.Down d) is k are =
          subst (λ (ls : List Line). IsDoneAt (area_nodes M) tt old (Tells t) line old [] ls) (sym are)
          (stays_done old (node.Down d) (Tells t) line [] [] is
          (idle_down M (kind_of old) old.pid line d (Tells t) (ComesAt M (node.Down d) old.plan (Tells t) old.is_due) (inl refl, quiet) (λ e. let no : Tells t ≡ Opens = e in cc)) (other_left old old (node.Down d) (Tells t) refl refl))

  -- it stops
  never_awaited : (s : NodeState D C) → is_awaited_at s Stops ≡ false
  never_awaited (node.Up n) = refl
  never_awaited (node.Failed n) = refl
  never_awaited (node.Down d) = refl

  pub did_stop : (old new : WorldNode D C) (line : ℕ) (d : DownNode C) → IsKept M (kind_of old) old.pid old.state → old.is_due ≡ false → IsLeftDown M old.state d → new ≡ record old { state = node.Down d; plan = record old.plan { awaited = told.Nothing } } → IsDoneAt (area_nodes M) tt old Stops line new [] []
  did_stop old new line d kept quiet left is =
      let now : WorldNode D C = record old { state = node.Down d; plan = record old.plan { awaited = told.Nothing } } in
      subst (λ (x : WorldNode D C). IsDoneAt (area_nodes M) tt old Stops line x [] []) (sym is)
      (has_done old now Stops line [] [] refl refl
      (stops_any M (kind_of old) old.pid line old.state d (ComesAt M old.state old.plan Stops old.is_due) (other_done old.state old.plan Stops old.is_due (never_awaited old.state) quiet) kept left) (record { left = refl; killed = refl }))

  -- it is up already
  pub did_open : (old : WorldNode D C) (line : ℕ) (n : nodes.Node D) → old.state ≡ node.Up n → IsKept M (kind_of old) old.pid old.state → old.is_due ≡ false → IsDoneAt (area_nodes M) tt old Opens line old [] []
  did_open old line n up kept quiet =
      stays_done old (node.Up n) Opens line [] [] up
      (open_already M (kind_of old) old.pid line n (ComesAt M (node.Up n) old.plan Opens old.is_due) (inl refl, quiet) (subst (λ (s : NodeState D C). IsKept M (kind_of old) old.pid s) up kept)) (other_left old old (node.Up n) Opens refl refl)

  -- ---- states

  -- one that isn't up is opened
  pub opens_awaited : (s : NodeState D C) → IsNotUp s → is_awaited_at s Opens ≡ true
  opens_awaited (node.Up n) down = absurd down
  opens_awaited (node.Failed n) down = refl
  opens_awaited (node.Down d) down = refl

  pub in_range : (old : WorldNode D C) (s : NodeState D C) (d : Doing) → old.state ≡ s → CanDo (area_nodes M) old d → IsInRange M (kind_of old) old.pid s
  in_range old s d is can = record {
    ids = can.ids;
    node = can.node;
    pid_is = can.shown.pid;
    shown = subst (λ (z : NodeState D C). (area_nodes M).is_shown (record old { state = z }) can.node) is can.shown.state;
    range = can.range;
  }

  pub not_up : (s : NodeState D C) → ((n : nodes.Node D) → s ≡ node.Up n → ⊥) → IsNotUp s
  not_up (node.Up n) other = absurd (other n refl)
  not_up (node.Failed n) other = tt
  not_up (node.Down d) other = tt
