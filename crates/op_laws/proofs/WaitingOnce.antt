-- Nobody waits twice for one number: those that wait stand in order, at every node of every run.
use Rattle.std.proofs.Common.{◌≡◌, ℕ, ◌<◌, ◌≤◌, ◌-◌, ◌⊎◌, inl, inr, ⊎_elim, Bool, true, false, cond, ◌||◌, eqb, ltb, List, [], ◌∷◌, fold, Option, Some, None, refl, sym, ap, ◌∙◌, arith}
use Rattle.std.proofs.lemmas.Bool.{cond_both, cases_Bool, cases_lt, both_ways, and_parts, eqb-true, eqb-false, ltb-true, ltb-false}
use Rattle.std.specs.BTreeSet.{insert_key}
use Rattle.std.specs.Ordering.{nat_cmp, ordering_then, match_ordering}
use Rattle.std.specs.declared.cmp.Ordering.{Ordering}
use Rattle.std.specs.declared.cmp.Ordering.TheVariants.{Less, Equal, Greater}
use Rattle.op_types.specs.Joinings.{Base, cover_of}
use Rattle.op_types.specs.Changes.{durable_after}
use Rattle.op_types.specs.Roles.{Role}
use Rattle.op_types.specs.declared.answers.Cause.{Cause}
use Rattle.op_types.specs.declared.answers.Cause.TheVariants as cause
use Rattle.op_types.specs.declared.answers.Refusal.{Refusal}
use Rattle.op_types.specs.declared.answers.Reply.{Reply}
use Rattle.op_types.specs.declared.changes.Change.{Change}
use Rattle.op_types.specs.declared.durable.Durable.{Durable}
use Rattle.op_types.specs.declared.durable.Joining.{Joining}
use Rattle.op_types.specs.declared.durable.Part.{Part}
use Rattle.op_types.specs.declared.events.Input.{Input}
use Rattle.op_types.specs.declared.events.Input.TheVariants as input
use Rattle.op_types.specs.declared.log.Command.{Command}
use Rattle.op_types.specs.declared.log.Entry.{Entry}
use Rattle.op_types.specs.declared.log.Entry.TheVariants as entry
use Rattle.op_protocol.specs.State.{State, Waiting, PartStep, Planned, state_after}
use Rattle.op_protocol.specs.Configurations.{giving_up, closing_part, closing}
use Rattle.op_protocol.specs.Joining.{goes_on_if, holding}
use Rattle.op_protocol.specs.Leader.{given_up_by}
use Rattle.op_protocol.specs.Parts.{part_after}
use Rattle.op_protocol.specs.Rows.{entries_of, refusal_of, newly_decided, waiting_each, waiting_for, waiting_at, planned, step_at, step_bringing, brought_by, step_plan}
use Rattle.op_protocol.specs.Serving.{waiting_cmp, waits, without_waiting, waiting_with, Served, serving_command, serving_entry, Dropping, is_of_stop, dropping_reply, dropping}
use Rattle.op_protocol.specs.Starting.{state_after_restart}
use Rattle.op_runs.specs.World.{World, Node, NodeStatus, Up, Down, Failed, Fate, Done, Stopped, Faulted, Happening, Doing, Steps, Stops, Opens, Tells, Deed, deed_of, node_at, first_node, first_world, node_ids, state_after_reopening, stored_by, world_by_fate, world_opening, world_reopening, world_by_status, world_at_node, world_with, world_after, run_of}
use Rattle.op_refinement.proofs.NodeLists.{IfThere, found}
use Rattle.op_refinement.proofs.View.{Each}
use Rattle.op_laws.proofs.Elections.{each_unit, replaced}
use Rattle.op_laws.proofs.WaitingSets.{are_same, is_for, found_for, same_for}

-- ---- the order

-- one client and number stands before the other
abbrev pub IsBefore : ℕ × ℕ → ℕ × ℕ → Type 0
IsBefore k w = (k.0 < w.0) ⊎ ((k.0 ≡ w.0) × (k.1 < w.1))

nat_order : (P : Ordering → Type 0) (x y : ℕ) → (x < y → P Less) → (x ≡ y → P Equal) → (y < x → P Greater) → P (nat_cmp x y)
nat_order P x y less equal greater =
    cond_both (ltb x y) Less (cond (eqb x y) Equal Greater) P (λ e. less (ltb-true x y e))
    (λ n. cond_both (eqb x y) Equal Greater P (λ e. equal (eqb-true x y e)) (λ m. ⊎_elim (λ (l : y < x). greater l) (λ (l : x ≤ y). absurd (eqb-false x y m (omega (arith, l, ltb-false x y n)))) (cases_lt y x)))

order : (P : Ordering → Type 0) (k w : ℕ × ℕ) → (IsBefore k w → P Less) → P Equal → (IsBefore w k → P Greater) → P (waiting_cmp k w)
order P k w less equal greater =
    nat_order (λ o. P (ordering_then o (nat_cmp k.1 w.1))) k.0 w.0 (λ l. less (inl l)) (λ e. nat_order P k.1 w.1 (λ l. less (inr (e, l))) (λ _. equal) (λ l. greater (inr (sym e, l)))) (λ l. greater (inl l))

before_both : (a b c : ℕ × ℕ) → IsBefore a b → IsBefore b c → IsBefore a c
before_both a b c (inl x) (inl y) = inl (omega (arith, x, y))
before_both a b c (inl x) (inr y) = inl (omega (arith, x, y.0))
before_both a b c (inr x) (inl y) = inl (omega (arith, x.0, y))
before_both a b c (inr x) (inr y) = inr (x.0 ∙ y.0, omega (arith, x.1, y.1))

-- each stands before those after it
abbrev pub Rises : Waiting → Type 0
Rises [] = Unit {0}
Rises (w ∷ ws) = Each (IsBefore w) ws × Rises ws

before_all : (k w : ℕ × ℕ) (ws : Waiting) → IsBefore k w → Each (IsBefore w) ws → Each (IsBefore k) ws
before_all k w [] b e = tt
before_all k w (v ∷ ws) b e = (before_both k w v b e.0, before_all k w ws b e.1)

-- ---- one more
added_each : (x k : ℕ × ℕ) (ws : Waiting) → IsBefore x k → Each (IsBefore x) ws → Each (IsBefore x) (insert_key waiting_cmp ws k)
added_each x k [] b e = (b, tt)
added_each x k (w ∷ ws) b e =
    order (λ o. Each (IsBefore x) (match_ordering o (k ∷ w ∷ ws) (w ∷ ws) (w ∷ insert_key waiting_cmp ws k))) k w (λ _. (b, e)) e (λ _. (e.0, added_each x k ws b e.1))

added_rises : (ws : Waiting) (k : ℕ × ℕ) → Rises ws → Rises (insert_key waiting_cmp ws k)
added_rises [] k r = (tt, tt)
added_rises (w ∷ ws) k r =
    order (λ o. Rises (match_ordering o (k ∷ w ∷ ws) (w ∷ ws) (w ∷ insert_key waiting_cmp ws k))) k w (λ b. ((b, before_all k w ws b r.0), r)) r (λ b. (added_each w k ws b r.0, added_rises ws k r.1))

-- ---- one less
left_each : (x : ℕ × ℕ) (ws : Waiting) (c s : ℕ) → Each (IsBefore x) ws → Each (IsBefore x) (without_waiting ws c s)
left_each x [] c s e = tt
left_each x (w ∷ ws) c s e = cond_both (is_for c s w) ws (w ∷ without_waiting ws c s) (Each (IsBefore x)) (λ _. e.1) (λ _. (e.0, left_each x ws c s e.1))

pub left_rises : (ws : Waiting) (c s : ℕ) → Rises ws → Rises (without_waiting ws c s)
left_rises [] c s r = tt
left_rises (w ∷ ws) c s r = cond_both (is_for c s w) ws (w ∷ without_waiting ws c s) Rises (λ _. r.1) (λ _. (left_each w ws c s r.0, left_rises ws c s r.1))

-- the pair that is found
pair_is : (c s : ℕ) (w : ℕ × ℕ) → is_for c s w ≡ true → (c ≡ w.0) × (s ≡ w.1)
pair_is c s w e = let x = and_parts (eqb c w.0) (eqb s w.1) (sym (found_for c s w) ∙ e) in (eqb-true c w.0 x.0, eqb-true s w.1 x.1)

-- what stands before another isn't found there
not_there : (c s : ℕ) (w v : ℕ × ℕ) → is_for c s w ≡ true → IsBefore w v → is_for c s v ≡ false
not_there c s w v e b =
    ⊎_elim
    (λ (h : is_for c s v ≡ true). let x = pair_is c s w e in let y = pair_is c s v h in absurd (⊎_elim (λ (l : w.0 < v.0). less (omega (arith, l, x.0, y.0))) (λ (l : (w.0 ≡ v.0) × (w.1 < v.1)). less (omega (arith, l.1, x.1, y.1))) b))
    (λ (h : is_for c s v ≡ false). h)
    (cases_Bool (is_for c s v))
  where
    less : ⊥ → ⊥
    less x = x

none_after : (c s : ℕ) (w : ℕ × ℕ) (ws : Waiting) → is_for c s w ≡ true → Each (IsBefore w) ws → waits ws c s ≡ false
none_after c s w [] e b = refl
none_after c s w (v ∷ ws) e b = ap (λ (z : Bool). z || waits ws c s) (not_there c s w v e b.0) ∙ none_after c s w ws e b.1

-- who is told waits no longer
pub waits_no_longer : (ws : Waiting) (c s : ℕ) → Rises ws → waits (without_waiting ws c s) c s ≡ false
waits_no_longer [] c s r = refl
waits_no_longer (w ∷ ws) c s r =
    cond_both (is_for c s w) ws (w ∷ without_waiting ws c s) (λ (ys : Waiting). waits ys c s ≡ false) (λ e. none_after c s w ws e r.0) (λ e. ap (λ (z : Bool). z || waits (without_waiting ws c s) c s) e ∙ waits_no_longer ws c s r.1)

-- and the others wait as they did
pub others_wait : (ws : Waiting) (c s d t : ℕ) → are_same c s d t ≡ false → waits (without_waiting ws c s) d t ≡ waits ws d t
others_wait [] c s d t n = refl
others_wait (w ∷ ws) c s d t n =
    cond_both (is_for c s w) ws (w ∷ without_waiting ws c s) (λ (ys : Waiting). waits ys d t ≡ waits (w ∷ ws) d t)
    (λ e. ⊎_elim (λ (h : is_for d t w ≡ true). absurd (both_ways (are_same c s d t) n (same_for c s d t w e h))) (λ (h : is_for d t w ≡ false). sym (ap (λ (z : Bool). z || waits ws d t) h)) (cases_Bool (is_for d t w)))
    (λ _. ap (λ (z : Bool). is_for d t w || z) (others_wait ws c s d t n))

-- ---- a step
serving_rises : (t : Served) (es : List Entry) → Rises t.waiting → Rises (fold serving_entry t es).waiting
serving_rises t [] r = r
serving_rises t (entry.Command c ∷ es) r = serving_rises (serving_command t c) es (left_rises t.waiting c.client c.seq r)
serving_rises t (entry.Stop x ∷ es) r = serving_rises t es r

one_dropped : (t : Dropping) (r : Reply) → Rises t.waiting → Rises (dropping_reply t r).waiting
one_dropped t r k =
    cond_both (is_of_stop r) _ _ (λ (y : Dropping). Rises y.waiting) (λ _. k)
    (λ _. cond_both (waits t.waiting r.client r.seq) _ _ (λ (y : Dropping). Rises y.waiting) (λ _. left_rises t.waiting r.client r.seq k) (λ _. k))

each_dropped : (t : Dropping) (rs : List Reply) → Rises t.waiting → Rises (fold dropping_reply t rs).waiting
each_dropped t [] k = k
each_dropped t (r ∷ rs) k = each_dropped (dropping_reply t r) rs (one_dropped t r k)

dropping_rises : (ws : Waiting) (rs : List Reply) → Rises ws → Rises (dropping ws rs).waiting
dropping_rises ws rs k = each_dropped (record { waiting = ws; replies = [] }) rs k

giving_rises : (ws : Waiting) (r : Role) (why : Cause) → Rises ws → Rises (giving_up ws r why).waiting
giving_rises ws r why k = dropping_rises ws (given_up_by r why) k

pub each_rises : (ws : Waiting) (cs : List Command) → Rises ws → Rises (waiting_each ws cs)
each_rises ws [] r = r
each_rises ws (c ∷ cs) r = each_rises (waiting_with ws c) cs (added_rises ws (c.client, c.seq) r)

module _ (me : ℕ) (s : State) (rises : Rises s.waiting) where
  for_rises : (cs : List Command) (o : Option Refusal) → Rises (waiting_for s.waiting cs o)
  for_rises cs (Some r) = rises
  for_rises cs None = each_rises s.waiting cs rises

  at_rises : (x : Input) → Rises (waiting_at me s x)
  at_rises (input.Commands cs) = for_rises cs (refusal_of me s.volatile.role s.durable (entries_of cs))
  at_rises input.Tick = rises
  at_rises (input.Deliver q m) = rises
  at_rises (input.Stop members) = rises
  at_rises input.TrimNow = rises
  at_rises (input.Read r) = rises
  at_rises (input.Up q) = rises
  at_rises (input.Down q) = rises

  planned_rises : (ws : Waiting) (row : PartStep) → Rises ws → Rises (planned s ws row).waiting
  planned_rises ws row r = serving_rises (record { service = s.service; waiting = (dropping ws row.replies).waiting; replies = [] }) (newly_decided s.durable.part row.batch) (dropping_rises ws row.replies r)

  closing_rises : (o : Option Part) (pl : Planned) → Rises pl.waiting → Rises (closing me o pl).waiting
  closing_rises None pl r = r
  closing_rises (Some p) pl r =
      let q : Part = part_after p pl.batch in
      cond_both _ (closing_part me q pl) pl (λ (y : Planned). Rises y.waiting) (λ _. giving_rises pl.waiting pl.volatile.role (cause.Stop (q.decided - 1)) r) (λ _. r)

  goes_rises : (j : Joining) (batch : List Change) (b : Option Base) (es : Option (List Entry)) → Rises (goes_on_if me s j batch b es).waiting
  goes_rises j batch None es = rises
  goes_rises j batch (Some b) None = rises
  goes_rises j batch (Some b) (Some es) = giving_rises s.waiting s.volatile.role (cause.Stop (j.len - 1)) rises

  holding_rises : (batch : List Change) (o : Option Joining) → Rises (holding me s batch o).waiting
  holding_rises batch None = rises
  holding_rises batch (Some j) = goes_rises j batch j.base (cover_of j)

  bringing_rises : (x : Input) (o : Option (List Change)) → Rises (step_bringing me s x o).waiting
  bringing_rises x None = closing_rises s.durable.part (planned s (waiting_at me s x) (step_at me s.durable s.volatile x)) (planned_rises (waiting_at me s x) (step_at me s.durable s.volatile x) (at_rises x))
  bringing_rises x (Some batch) = holding_rises batch (durable_after s.durable batch).joining

  step_rises : (x : Input) → Rises (step_plan me s x).waiting
  step_rises x = bringing_rises x (brought_by s.durable s.volatile x)

-- ---- a run

-- those that wait at this node stand in order
abbrev pub IfRises : Option Node → Type 0
IfRises None = Unit {0}
IfRises (Some n) = Rises n.state.waiting

module _ (pid : ℕ) where
  fated : (w : World) (n : Node) (x : Input) (line : ℕ) (f : Fate) → node_at w.nodes n.pid ≡ Some n → IfRises (node_at w.nodes pid) → IfRises (node_at (world_by_fate f line w n x).nodes pid)
  fated w n x line Done at k = replaced IfRises w.nodes n (record n { state = state_after n.state (step_plan n.pid n.state x) }) pid at refl (λ e r. step_rises n.pid n.state r x) k
  fated w n x line Stopped at k = replaced IfRises w.nodes n (record n { status = Down (stored_by n x) }) pid at refl (λ e r. r) k
  fated w n x line (Faulted count) at k = replaced IfRises w.nodes n (record n { status = Failed count (stored_by n x) }) pid at refl (λ e r. r) k

  opened : (w : World) (n : Node) (d : Durable) (f : Fate) → node_at w.nodes n.pid ≡ Some n → IfRises (node_at w.nodes pid) → IfRises (node_at (world_opening f w n d).nodes pid)
  opened w n d Done at k = replaced IfRises w.nodes n (record n { state = state_after_restart n.pid d; status = Up }) pid at refl (λ e r. tt) k
  opened w n d Stopped at k = k
  opened w n d (Faulted count) at k = k

  -- a node that failed keeps who waits
  reopened : (w : World) (n : Node) (after d : Durable) (f : Fate) → node_at w.nodes n.pid ≡ Some n → IfRises (node_at w.nodes pid) → IfRises (node_at (world_reopening f after w n d).nodes pid)
  reopened w n after d Done at k = replaced IfRises w.nodes n (record n { state = state_after_reopening n.pid n.state d; status = Up }) pid at refl (λ e r. r) k
  reopened w n after d Stopped at k = replaced IfRises w.nodes n (record n { status = Down after }) pid at refl (λ e r. r) k
  reopened w n after d (Faulted count) at k = replaced IfRises w.nodes n (record n { status = Failed count after }) pid at refl (λ e r. r) k

  by_status : (w : World) (n : Node) (d : Doing) (h : Happening) (s : NodeStatus) → node_at w.nodes n.pid ≡ Some n → IfRises (node_at w.nodes pid) → IfRises (node_at (world_by_status s d h w n).nodes pid)
  by_status w n (Steps x) h Up at k = fated w n x h.event.line h.fate at k
  by_status w n Stops h Up at k = replaced IfRises w.nodes n (record n { status = Down n.state.durable }) pid at refl (λ e r. r) k
  by_status w n Opens h Up at k = k
  by_status w n (Tells told) h Up at k = k
  by_status w n (Steps x) h (Down after) at k = k
  by_status w n Stops h (Down after) at k = k
  by_status w n Opens h (Down after) at k = opened w n (cond h.finds_after after n.state.durable) h.fate at k
  by_status w n (Tells told) h (Down after) at k = k
  by_status w n (Steps x) h (Failed count after) at k = k
  by_status w n Stops h (Failed count after) at k = replaced IfRises w.nodes n (record n { status = Down after }) pid at refl (λ e r. r) k
  by_status w n Opens h (Failed count after) at k = reopened w n after (cond h.finds_after after n.state.durable) h.fate at k
  by_status w n (Tells told) h (Failed count after) at k = k

  there : (w : World) (q : ℕ) (d : Doing) (h : Happening) (o : Option Node) → node_at w.nodes q ≡ o → IfThere (λ n. Unit {0}) q o → IfRises (node_at w.nodes pid) → IfRises (node_at (world_at_node o d h w).nodes pid)
  there w q d h None at is k = k
  there w q d h (Some n) at is k = by_status w n d h n.status (ap (node_at w.nodes) is.0 ∙ at) k

  by_deed : (w : World) (h : Happening) (o : Option Deed) → IfRises (node_at w.nodes pid) → IfRises (node_at (world_with o h w).nodes pid)
  by_deed w h None k = k
  by_deed w h (Some d) k = there w d.pid d.doing h (node_at w.nodes d.pid) refl (found (λ n. Unit {0}) w.nodes (each_unit w.nodes) d.pid) k

  run_rises : (w : World) (hs : List Happening) → IfRises (node_at w.nodes pid) → IfRises (node_at (run_of w hs).nodes pid)
  run_rises w [] k = k
  run_rises w (h ∷ hs) k = run_rises (world_after w h) hs (by_deed w h (deed_of w.messages h.event.what) k)

  first_rises : (members ids : List ℕ) → IfRises (node_at (Rattle.std.specs.Prelude.map (first_node members) ids) pid)
  first_rises members [] = tt
  first_rises members (q ∷ ids) = cond_both (eqb q pid) (Some (first_node members q)) (node_at (Rattle.std.specs.Prelude.map (first_node members) ids) pid) IfRises (λ _. tt) (λ _. first_rises members ids)

  -- so it is after every run
  pub always_rises : (members spares : List ℕ) (hs : List Happening) → IfRises (node_at (run_of (first_world members spares) hs).nodes pid)
  always_rises members spares hs = run_rises (first_world members spares) hs (first_rises members (node_ids members spares))
