-- What becomes of a step or an opening of a node, by what is planned for its disks.
use Rattle.std.proofs.Common.{◌≡◌, ◌⊎◌, ℕ, Bool, true, false, List, [], Option, Some, Ok, Err, refl, sym, ap, subst, ◌∙◌, inl, inr}
use Rattle.op_types.specs.Changes.{durable_after}
use Rattle.op_types.specs.declared.answers.Outcome.{Outcome}
use Rattle.op_types.specs.declared.durable.Durable.{Durable}
use Rattle.op_types.specs.declared.events.Input.{Input}
use Rattle.op_types.specs.declared.messages.Msg.{Msg}
use Rattle.op_runs.specs.declared.summary.Line.{Line}
use Rattle.op_runs.specs.World.{Kind, Fate, Done, Stopped, Faulted, Doing, Steps, Opens, failed_outcome, outcome_lines}
use Rattle.op_runs.specs.Schedules.{MayEnd}
use Rattle.op_areas.specs.Areas.{OpensOn}
use Rattle.op_areas.specs.Media.{Medium}
use Rattle.op_store.specs.Stores.{disks_of}
use Rattle.op_store.specs.declared.fail.Returned.{Returned}
use Rattle.op_store.specs.declared.fail.StoreFail.TheVariants as store_fail
use Rattle.op_types.specs.declared.given.Given.{Given}
use Rattle.op_node.specs.Nodes.{NodeState as Inner, node_of, stores, Stepped, IsSoundNode}
use Rattle.op_node.specs.Openings.{OpensAs, RefusesNode, fresh_as}
use Rattle.op_node.specs.Reopenings.{StoreOneOf, FindsOneOf, RefusesAgain}
use Rattle.op_node.specs.Steps as steps
use Rattle.op_node.specs.declared.fail.StepFail.TheVariants as step_fail
use Rattle.op_node.specs.declared.node.Node as nodes
use Rattle.op_node.proofs.Reopenings.{failed_step}
use Rattle.op_replay_nodes.specs.Became.{IsInRange, IsDoneOf, BecomesOf, MayComeOf, IsFallen, HasStopped, HasFaulted, IsDownAgain, IsClosedAgain, GoesOnUp, fault_lines, refused_if, given_lines}
use Rattle.op_replay_nodes.specs.Disks.{HoldOneOf, StaysDown, StaysNode}
use Rattle.op_replay_nodes.specs.Plans.{awaited_of, is_stop, lets_fail, lost_in}
use Rattle.op_replay_nodes.specs.Nodes.{CallsAt, RunsAs, HasFailed}
use Rattle.op_replay_nodes.specs.declared.awaited.Awaited as code
use Rattle.op_replay_nodes.specs.declared.awaited.Awaited.TheVariants as told
use Rattle.op_replay_nodes.specs.declared.became.Became.{Became}
use Rattle.op_replay_nodes.specs.declared.became.Fallen.{Fallen}
use Rattle.op_replay_nodes.specs.declared.node_state.DownNode.{DownNode}
use Rattle.op_replay_nodes.specs.declared.node_state.NodeState.{NodeState}
use Rattle.op_replay_nodes.specs.declared.node_state.NodeState.TheVariants as node
use Rattle.op_replay_nodes.specs.declared.plan.Plan.{Plan}
use Rattle.op_replay_nodes.proofs.NodeDisks.{closed_holds, down_holds, opened_stores}
use Rattle.op_replay_nodes.proofs.Happenings.{stepped, stops_inside, fails_inside, runs_on, runs_still, then_stays, first_stays}
use Rattle.op_replay_nodes.proofs.Openings.{opens_again, reopens_again, stays_down, failed_stops, failed_fails, handed_back}

-- ---- what may come

-- it is done, and the node stops where it was to
done_by : (c : code.Awaited) (lost : Bool) (calls : Type 0) (due : Bool) → due ≡ is_stop c → MayEnd (awaited_of c) lost calls Done due
done_by told.Nothing lost calls due is = (inl refl, is)
done_by (told.Stop call image) lost calls due is = inr (inl refl, is)
done_by (told.Failure call) lost calls due is = (inl refl, is)

stopped_by : (c : code.Awaited) (lost : Bool) (calls : Type 0) (due : Bool) → calls → is_stop c ≡ true → due ≡ false → MayEnd (awaited_of c) lost calls Stopped due
stopped_by told.Nothing lost calls due made is quiet = absurd (let no : false ≡ true = is in cc)
stopped_by (told.Stop call image) lost calls due made is quiet = inl (made, refl, quiet)
stopped_by (told.Failure call) lost calls due made is quiet = absurd (let no : false ≡ true = is in cc)

faulted_by : (m : Bool) (p : Plan) (c : code.Awaited) (calls : Type 0) (count : ℕ) (due : Bool) → calls → p.awaited ≡ c → lets_fail m p ≡ true → due ≡ is_stop c → MayEnd (awaited_of c) (lost_in m p.killed) calls (Faulted count) due
faulted_by m p told.Nothing calls count due made is lets quiet =
    let lost : lost_in m p.killed ≡ true = sym (ap (λ (c : code.Awaited). let q : Plan = record p { awaited = c } in lets_fail m q) is) ∙ lets in (inr (lost, made, count, refl), quiet)
faulted_by m p (told.Stop call image) calls count due made is lets quiet =
    let lost : lost_in m p.killed ≡ true = sym (ap (λ (c : code.Awaited). let q : Plan = record p { awaited = c } in lets_fail m q) is) ∙ lets in inr (inr (lost, made, count, refl), quiet)
faulted_by m p (told.Failure call) calls count due made is lets quiet = (inr (refl, made, count, refl), quiet)

module _ {D C : Type 0} (M : Medium D C) where
  may_done : (p : Plan) (calls : Type 0) (due : Bool) → due ≡ is_stop p.awaited → MayComeOf M p calls due Done
  may_done p calls due is = done_by p.awaited (lost_in M.is_mirrored p.killed) calls due is

  may_stop : (p : Plan) (calls : Type 0) (due : Bool) → calls → HasStopped p due → MayComeOf M p calls due Stopped
  may_stop p calls due made s = stopped_by p.awaited (lost_in M.is_mirrored p.killed) calls due made s.0 s.1

  may_fault : (p : Plan) (calls : Type 0) (count : ℕ) (due : Bool) → calls → HasFaulted M.is_mirrored p due → MayComeOf M p calls due (Faulted count)
  may_fault p calls count due made f = faulted_by M.is_mirrored p p.awaited calls count due made refl f.0 f.1

  -- ---- a node that is up then

  -- what is done where it is up, with what it sends and is reported of it
  up_then : (k : Kind) (pid : ℕ) (comes : Fate → Type 0) (old : NodeState D C) (d : Doing) (line : ℕ) (m : nodes.Node D) (sends : List (ℕ × Msg)) (told : List Line) (due : Bool) (r : Became D C) → GoesOnUp M m sends told due r
      → IsDoneOf M k pid comes old d line (node.Up m) sends told → IsDoneOf M k pid comes old d line r.state r.sends r.told
  up_then k pid comes old d line m sends told due r g did =
      subst (λ (s : NodeState D C). IsDoneOf M k pid comes old d line s r.sends r.told) (sym g.state)
      (subst (λ (ss : List (ℕ × Msg)). IsDoneOf M k pid comes old d line (node.Up g.now) ss r.told) (sym g.sends_are)
      (subst (λ (ls : List Line). IsDoneOf M k pid comes old d line (node.Up g.now) sends ls) (sym g.told_are)
      (then_stays M k pid comes old (node.Up m) (node.Up g.now) d line sends told did g.same)))

  -- ---- a step

  module _ (k : Kind) (pid line : ℕ) (n told_node m : nodes.Node D) (i : Input) (p : Plan) (runs : RunsAs M k pid n) (stays : StaysNode M.state n told_node) where
    told_runs : RunsAs M k pid told_node
    told_runs = runs_still M k pid n told_node stays runs

    pub step_done : (g : Given) (r : Became D C) → Stepped (node_of told_node) i (Ok g) (node_of m)
        → steps.Steps {T = Given} M.state (node_of told_node).state.durable (stores (node_of told_node) i) told_node.store m.store (Ok g) → IsSoundNode m → GoesOnUp M m g.sends (given_lines pid line g) (is_stop p.awaited) r
        → BecomesOf M k pid p (node.Up n) (Steps i) line r
    step_done g r did over sound goes =
        let comes : Fate → Type 0 = MayComeOf M p (CallsAt {D = D} {C = C} (node.Up n) (Steps i)) r.is_due in
        first_stays M k pid comes (node.Up n) (node.Up told_node) r.state (Steps i) line r.sends r.told stays
        (up_then k pid comes (node.Up told_node) (Steps i) line m g.sends (given_lines pid line g) (is_stop p.awaited) r goes
        (stepped M k pid line told_node i told_runs comes m g (given_lines pid line g) (may_done p _ r.is_due goes.due) did.0 did.1 refl
        (runs_on M k pid told_node m i told_runs did.1 sound (over.commits told_runs.stored).stored)))

    module _ (count : ℕ) (did : node_of m ≡ record (node_of told_node) { failed = Some count }) (sound : IsSoundNode m)
        (over : steps.Steps {T = Given} M.state (node_of told_node).state.durable (stores (node_of told_node) i) told_node.store m.store (Err (step_fail.DiskFail count))) where
      -- it had something to store
      calls : CallsAt {D = D} {C = C} (node.Up n) (Steps i)
      calls none = over.unfailing (ap (λ (z : Inner). stores z i) stays.node ∙ none) count refl

      one_of : StoreOneOf (node_of told_node).state.durable (durable_after (node_of told_node).state.durable (stores (node_of told_node) i)) (disks_of M.state m.store)
      one_of = failed_step M.state (node_of told_node).state.durable (stores (node_of told_node) i) told_node.store m.store count over told_runs.stored

      same_state : (node_of m).state.durable ≡ (node_of told_node).state.durable
      same_state = ap (λ (z : Inner). z.state.durable) did

      pub step_failed : (s : NodeState D C) (due : Bool) (said : List Line) (is_proposal : Bool) → IsFallen M p m s due → failed_outcome count i ≡ refused_if is_proposal count → said ≡ fault_lines s line (refused_if is_proposal count)
          → BecomesOf M k pid p (node.Up n) (Steps i) line (record { state = s; sends = []; told = said; is_due = due })
      step_failed (node.Up x) due said is_proposal l refused lines = absurd l
      step_failed (node.Failed x) due said is_proposal l refused lines =
          let comes : Fate → Type 0 = MayComeOf M p (CallsAt {D = D} {C = C} (node.Up n) (Steps i)) due in
          first_stays M k pid comes (node.Up n) (node.Up told_node) (node.Failed x) (Steps i) line [] said stays
          (fails_inside M k pid line told_node i told_runs comes x count said (may_fault p _ count due calls l.1) (l.0.node ∙ did) (l.0.sound sound) (l.0.stores _ _ one_of)
          (lines ∙ ap (λ (o : Option Outcome). outcome_lines line o) (sym refused)))
      step_failed (node.Down d) due said is_proposal l refused lines =
          let comes : Fate → Type 0 = MayComeOf M p (CallsAt {D = D} {C = C} (node.Up n) (Steps i)) due in
          subst (λ (us : List Line). IsDoneOf M k pid comes (node.Up n) (Steps i) line (node.Down d) [] us) (sym lines)
          (first_stays M k pid comes (node.Up n) (node.Up told_node) (node.Down d) (Steps i) line [] [] stays
          (stops_inside M k pid line told_node i told_runs comes d (may_stop p _ due calls l.1) (l.0.shown_is ∙ same_state)
          (closed_holds M.state M.holds _ _ (node_of m).state.durable m.store.first m.store.second d l.0 one_of)))

  -- ---- the opening of a node that failed

  module _ (k : Kind) (pid : ℕ) (n told_node m : nodes.Node D) (p : Plan) (has : HasFailed k pid n) (stays : StaysNode M.state n told_node) (sound : IsSoundNode m) where
    pub reopen_done : (range : IsInRange M k pid (node.Failed n)) (sends : List (ℕ × Msg)) (r : Became D C)
        → ((before after : Durable) → StoreOneOf before after (disks_of M.state told_node.store) → FindsOneOf M.state before after told_node m (Ok sends)) → GoesOnUp M m sends [] (is_stop p.awaited) r
        → (line : ℕ) → BecomesOf M k pid p (node.Failed n) Opens line r
    reopen_done range sends r found goes line =
        let comes : Fate → Type 0 = MayComeOf M p (Unit {0}) r.is_due in
        up_then k pid comes (node.Failed n) Opens line m sends [] (is_stop p.awaited) r goes (reopens_again M k pid n told_node m sends range has stays sound found line comes (may_done p (Unit {0}) r.is_due goes.due))

    pub reopen_failed : (count : ℕ) (s : NodeState D C) (due : Bool) → RefusesAgain M.state told_node m (store_fail.DiskFault count)
        → ((before after : Durable) → StoreOneOf before after (disks_of M.state told_node.store) → FindsOneOf M.state before after told_node m (Err (store_fail.DiskFault count))) → IsFallen M p m s due
        → (line : ℕ) → BecomesOf M k pid p (node.Failed n) Opens line (record { state = s; sends = []; told = []; is_due = due })
    reopen_failed count s due refuses found left line = by s left
      where
        comes : Fate → Type 0
        comes fate = MayComeOf M p (Unit {0}) due fate

        kept : (before after : Durable) → StoreOneOf before after (disks_of M.state n.store) → StoreOneOf before after (disks_of M.state m.store)
        kept before after stored = (found before after (stays.stores before after stored)).left

        is : node_of m ≡ record (node_of n) { failed = Some count }
        is = refuses.node ∙ ap (λ (y : Inner). let z : Inner = record y { failed = Some count } in z) stays.node

        by : (z : NodeState D C) → IsFallen M p m z due → IsDoneOf M k pid comes (node.Failed n) Opens line z [] []
        by (node.Up x) l = absurd l
        by (node.Failed x) l =
            failed_fails M k pid line n x count comes (may_fault p (Unit {0}) count due tt l.1) has (l.0.node ∙ is) (l.0.sound sound)
            (λ before after stored. l.0.stores before after (kept before after stored))
        by (node.Down d) l =
            failed_stops M k pid line n d comes (may_stop p (Unit {0}) due tt l.1) (l.0.shown_is ∙ ap (λ (z : Inner). z.state.durable) is)
            (λ before after stored. closed_holds M.state M.holds before after (node_of m).state.durable m.store.first m.store.second d l.0 (kept before after stored))

  -- ---- the opening of a node that is down, and was told of its plan

  module _ (k : Kind) (members : List ℕ) (pid : ℕ) (down now : DownNode C) (p : Plan) (stays : StaysDown M.holds down now) where
    told_held : (before after : Durable) → HoldOneOf M.holds before after down.first down.second → HoldOneOf M.holds before after now.first now.second
    told_held before after s = down_holds M.holds before after down now stays s

    -- it stays down, in this way
    stays_so : (left : DownNode C) (due : Bool) → left.shown ≡ now.shown → ((before after : Durable) → HoldOneOf M.holds before after now.first now.second → HoldOneOf M.holds before after left.first left.second)
        → HasStopped p due ⊎ HasFaulted M.is_mirrored p due → (line : ℕ) → IsDoneOf M k pid (MayComeOf M p (Unit {0}) due) (node.Down down) Opens line (node.Down left) [] []
    stays_so left due shown held (inl stopped) line =
        stays_down M k pid line down left Stopped (MayComeOf M p (Unit {0}) due) (may_stop p (Unit {0}) due tt stopped) (λ w x d. refl) (shown ∙ stays.shown_is) (λ before after s. held before after (told_held before after s))
    stays_so left due shown held (inr faulted) line =
        stays_down M k pid line down left (Faulted 0) (MayComeOf M p (Unit {0}) due) (may_fault p (Unit {0}) 0 due tt faulted) (λ w x d. refl) (shown ∙ stays.shown_is) (λ before after s. held before after (told_held before after s))

    abbrev so_became : Fallen D C → Became D C
    so_became r = record { state = r.state; sends = []; told = []; is_due = r.is_due }

    -- an area can't be opened
    pub unopened : (r : Fallen D C) (mid : DownNode C) → StaysDown M.holds now mid → IsDownAgain M p mid r → (line : ℕ) → BecomesOf M k pid p (node.Down down) Opens line (so_became r)
    unopened r mid goes left line =
        subst (λ (s : NodeState D C). IsDoneOf M k pid (MayComeOf M p (Unit {0}) r.is_due) (node.Down down) Opens line s [] []) (sym left.1)
        (stays_so left.0 r.is_due (left.2.shown_is ∙ goes.shown_is) (λ before after s. down_holds M.holds before after mid left.0 left.2 (down_holds M.holds before after now mid goes s)) left.3 line)

    module _ (first second : D) (opens_first : OpensOn M.holds now.first (M.state first)) (opens_second : OpensOn M.holds now.second (M.state second)) where
      -- so its areas were opened on what it held before
      first_there : OpensOn M.holds down.first (M.state first)
      first_there = record { obeys = opens_first.obeys; read = stays.first_left _ opens_first.read; left = λ x h. stays.first_left x (opens_first.left x h) }

      second_there : OpensOn M.holds down.second (M.state second)
      second_there = record { obeys = opens_second.obeys; read = stays.second_left _ opens_second.read; left = λ x h. stays.second_left x (opens_second.left x h) }

      pub opening_done : (range : IsInRange M k pid (node.Down down)) (n : nodes.Node D) (sends : List (ℕ × Msg)) (r : Became D C) → OpensAs k M.state pid members (record { first = M.state first; second = M.state second }) n sends
          → GoesOnUp M n sends [] (is_stop p.awaited) r → (line : ℕ) → BecomesOf M k pid p (node.Down down) Opens line r
      opening_done range n sends r o goes line =
          let comes : Fate → Type 0 = MayComeOf M p (Unit {0}) r.is_due in
          up_then k pid comes (node.Down down) Opens line n sends [] (is_stop p.awaited) r goes
          (opens_again M k members pid down first second n sends range first_there second_there o line comes (may_done p (Unit {0}) r.is_due goes.due))

      pub opening_failed : (e : Returned D) (r : Fallen D C) → RefusesNode M.state (fresh_as k pid members) first second e → IsClosedAgain M p now.shown e.first e.second r
          → (line : ℕ) → BecomesOf M k pid p (node.Down down) Opens line (so_became r)
      opening_failed e r refused left line =
          subst (λ (s : NodeState D C). IsDoneOf M k pid (MayComeOf M p (Unit {0}) r.is_due) (node.Down down) Opens line s [] []) (sym left.1)
          (stays_so left.0 r.is_due left.2.shown_is
          (λ before after s. closed_holds M.state M.holds before after now.shown e.first e.second left.0 left.2
          (handed_back M k members pid first second e refused before after (opened_stores M.state M.holds before after now.first now.second first second opens_first opens_second s)))
          left.3 line)
