-- The greatest configuration of a run never falls.
use Rattle.std.proofs.Common.{◌≡◌, ◌≤◌, ◌<◌, ◌+◌, ℕ, zero, suc, max, is_some, Bool, true, false, List, [], ◌∷◌, ◌++◌, length, take, fold, slice_get, Option, Some, None, ◌==◌, if◌then◌else◌, refl, sym, ap, ◌∙◌, subst, arith, append_assoc, append-nil}
use Rattle.std.proofs.lemmas.Bool.{false≢true, cond_both, eq-eqb}
use Rattle.std.proofs.lemmas.List.{length-append, take_all}
use Rattle.op_types.specs.Ranges.{MembersInRange}
use Rattle.op_types.specs.declared.durable.Durable.{Durable}
use Rattle.op_types.specs.declared.events.Input.{Input}
use Rattle.op_protocol.specs.Configurations.{latest_of}
use Rattle.op_runs.specs.World.{World, Node, NodeStatus, Up, Down, Failed, Fate, Done, Stopped, Faulted, Happening, Doing, Steps, Stops, Opens, Tells, Deed, deed_of, node_at, with_node, world_with, world_at_node, world_by_status, world_by_fate, world_if_up, world_if_down, world_if_failed, world_opening, world_reopening}
use Rattle.op_runs.specs.Possible.{SparesInRange, HappeningsInRange}
use Rattle.op_runs.specs.Run.{Execution, first_execution, execution_with, execution_of}
use Rattle.op_runs.specs.Summary.{greatest_conf}
use Rattle.op_configurations.specs.Servers.{latest}
use Rattle.op_configurations.specs.Worlds as worlds
use Rattle.op_configurations.proofs.Latest.{latest_rises}
use Rattle.op_refinement.proofs.View.{Each}
use Rattle.op_refinement.proofs.Worlds.{state_of}
use Rattle.op_refinement.proofs.Beside.{NodeRel, IsBeside}
use Rattle.op_refinement.proofs.NodeLists.{Each-both, Each-map, IfThere, found, with-kept}
use Rattle.op_refinement.proofs.Runs.{Track, latest_is}
use Rattle.op_refinement.proofs.EveryRun.{every_track}
use Rattle.op_laws.proofs.Reached.{execution_append}

-- ---- the greatest of a list of nodes

-- the greatest is no less than where it began, nor than that of any node
greatest_from : (nodes : List Node) (c : ℕ) → c ≤ fold (λ (x : ℕ) (n : Node). max x (latest_of n.state.durable)) c nodes
greatest_from [] c = omega arith
greatest_from (n ∷ nodes) c = omega (arith, greatest_from nodes (max c (latest_of n.state.durable)))

greatest_each : (nodes : List Node) (c : ℕ) → Each (λ n. latest_of n.state.durable ≤ fold (λ (x : ℕ) (m : Node). max x (latest_of m.state.durable)) c nodes) nodes
greatest_each [] c = tt
greatest_each (n ∷ nodes) c = (omega (arith, greatest_from nodes (max c (latest_of n.state.durable))), greatest_each nodes (max c (latest_of n.state.durable)))

-- and it is no more than what bounds all of them
greatest_below : (nodes : List Node) (c g : ℕ) → c ≤ g → Each (λ n. latest_of n.state.durable ≤ g) nodes → fold (λ (x : ℕ) (n : Node). max x (latest_of n.state.durable)) c nodes ≤ g
greatest_below [] c g le e = le
greatest_below (n ∷ nodes) c g le e = greatest_below nodes (max c (latest_of n.state.durable)) g (omega (arith, le, e.0)) e.1

-- each of a list is found by its id, or one before it is
each_there : (nodes : List Node) → Each (λ n. is_some (node_at nodes n.pid) ≡ true) nodes
each_there [] = tt
each_there (n ∷ nodes) = (
  ap (λ b. is_some (Rattle.std.proofs.Common.cond b (Some n) (node_at nodes n.pid))) (eq-eqb n.pid n.pid refl),
  Each-map _ _ (λ m e. cond_both (Rattle.std.proofs.Common.eqb n.pid m.pid) (Some n) (node_at nodes m.pid) (λ (o : Option Node). is_some o ≡ true) (λ _. refl) (λ _. e)) nodes (each_there nodes),
)

-- ---- where happenings of the pure machine come behind others

module _ (first : List ℕ) (ks late : List worlds.Happening) (t u : Execution) (before : IsBeside first ks t) (after : IsBeside first (ks ++ late) u)
    (kept : (pid : ℕ) → is_some (node_at t.world.nodes pid) ≡ true → is_some (node_at u.world.nodes pid) ≡ true) where
  pub latest_grows : (n : Node) → NodeRel first ks t.world.messages n × (is_some (node_at t.world.nodes n.pid) ≡ true) → latest_of n.state.durable ≤ greatest_conf u.world.nodes
  latest_grows n k = by (node_at u.world.nodes n.pid) (kept n.pid k.1) (found (λ (m : Node). NodeRel first (ks ++ late) u.world.messages m × (latest_of m.state.durable ≤ greatest_conf u.world.nodes)) u.world.nodes
      (Each-both (NodeRel first (ks ++ late) u.world.messages) _ u.world.nodes after.nodes (greatest_each u.world.nodes 0)) n.pid)
    where
      by : (o : Option Node) → is_some o ≡ true → IfThere (λ (m : Node). NodeRel first (ks ++ late) u.world.messages m × (latest_of m.state.durable ≤ greatest_conf u.world.nodes)) n.pid o → latest_of n.state.durable ≤ greatest_conf u.world.nodes
      by None e r = absurd (false≢true e)
      by (Some m) e r =
          let old = latest_is first ks t.world.messages n k.0 in
          let new = latest_is first (ks ++ late) u.world.messages m (r.1).0 in
          omega (arith, old, new, latest_rises first ks late n.pid, ap (λ (p : ℕ). latest (state_of first (ks ++ late) p)) r.0, (r.1).1)

  pub greatest_grows : greatest_conf t.world.nodes ≤ greatest_conf u.world.nodes
  greatest_grows =
      greatest_below t.world.nodes 0 (greatest_conf u.world.nodes) (omega arith)
      (Each-map (λ (n : Node). NodeRel first ks t.world.messages n × (is_some (node_at t.world.nodes n.pid) ≡ true)) (λ (n : Node). latest_of n.state.durable ≤ greatest_conf u.world.nodes) latest_grows t.world.nodes
      (Each-both (NodeRel first ks t.world.messages) _ t.world.nodes before.nodes (each_there t.world.nodes)))

-- ---- nodes stay

abbrev Stay : World → World → Type 0
Stay w v = (pid : ℕ) → is_some (node_at w.nodes pid) ≡ true → is_some (node_at v.nodes pid) ≡ true

stay_with : (w v : World) (n : Node) → v.nodes ≡ with_node w.nodes n → Stay w v
stay_with w v n is pid there = ap (λ (nodes : List Node). is_some (node_at nodes pid)) is ∙ with-kept w.nodes n pid there

stay_fate : (f : Fate) (at : ℕ) (w : World) (n : Node) (x : Input) → Stay w (world_by_fate f at w n x)
stay_fate Done at w n x = stay_with w (world_by_fate Done at w n x) _ refl
stay_fate Stopped at w n x = stay_with w (world_by_fate Stopped at w n x) _ refl
stay_fate (Faulted count) at w n x = stay_with w (world_by_fate (Faulted count) at w n x) _ refl

stay_up : (d : Doing) (f : Fate) (at : ℕ) (w : World) (n : Node) → Stay w (world_if_up d f at w n)
stay_up (Steps x) f at w n = stay_fate f at w n x
stay_up Stops f at w n = stay_with w (world_if_up Stops f at w n) _ refl
stay_up Opens f at w n = λ pid there. there
stay_up (Tells told) f at w n = λ pid there. there

stay_opening : (f : Fate) (w : World) (n : Node) (d : Durable) → Stay w (world_opening f w n d)
stay_opening Done w n d = stay_with w (world_opening Done w n d) _ refl
stay_opening Stopped w n d = λ pid there. there
stay_opening (Faulted count) w n d = λ pid there. there

stay_down : (d : Doing) (f : Fate) (finds_after : Bool) (left : Durable) (w : World) (n : Node) → Stay w (world_if_down d f finds_after left w n)
stay_down (Steps x) f finds_after left w n = λ pid there. there
stay_down Stops f finds_after left w n = λ pid there. there
stay_down Opens f finds_after left w n = stay_opening f w n (if finds_after then left else n.state.durable)
stay_down (Tells told) f finds_after left w n = λ pid there. there

stay_reopening : (f : Fate) (left : Durable) (w : World) (n : Node) (d : Durable) → Stay w (world_reopening f left w n d)
stay_reopening Done left w n d = stay_with w (world_reopening Done left w n d) _ refl
stay_reopening Stopped left w n d = stay_with w (world_reopening Stopped left w n d) _ refl
stay_reopening (Faulted count) left w n d = stay_with w (world_reopening (Faulted count) left w n d) _ refl

stay_failed : (d : Doing) (h : Happening) (count : ℕ) (left : Durable) (w : World) (n : Node) → Stay w (world_if_failed d h count left w n)
stay_failed (Steps x) h count left w n = λ pid there. there
stay_failed Stops h count left w n = stay_with w (world_if_failed Stops h count left w n) _ refl
stay_failed Opens h count left w n = stay_reopening h.fate left w n (if h.finds_after then left else n.state.durable)
stay_failed (Tells told) h count left w n = λ pid there. there

stay_status : (s : NodeStatus) (d : Doing) (h : Happening) (w : World) (n : Node) → Stay w (world_by_status s d h w n)
stay_status Up d h w n = stay_up d h.fate h.event.line w n
stay_status (Down left) d h w n = stay_down d h.fate h.finds_after left w n
stay_status (Failed count left) d h w n = stay_failed d h count left w n

stay_node : (o : Option Node) (d : Doing) (h : Happening) (w : World) → Stay w (world_at_node o d h w)
stay_node None d h w = λ pid there. there
stay_node (Some n) d h w = stay_status n.status d h w n

stay_after : (o : Option Deed) (h : Happening) (w : World) → Stay w (world_with o h w)
stay_after None h w = λ pid there. there
stay_after (Some x) h w = stay_node (node_at w.nodes x.pid) x.doing h w

stay_run : (t : Execution) (hs : List Happening) → Stay t.world (execution_of t hs).world
stay_run t [] pid there = there
stay_run t (h ∷ hs) pid there = stay_run (execution_with t h) hs pid (stay_after (deed_of t.world.messages h.event.what) h t.world pid there)

-- ---- runs

module _ (first : List ℕ) (t : Execution) (hs : List Happening) (k : Track first t hs) where
  one_on : (j : ℕ) (o : Option Happening) → slice_get hs j ≡ o → (late : List worlds.Happening) × (k.ks (suc j) ≡ k.ks j ++ late)
  one_on j None e = ([], k.over j e ∙ sym (append-nil (k.ks j)))
  one_on j (Some h) e = let n = k.next j h e in (n.0, n.1)

  -- so many happenings later those of the pure machine have gone on
  go_on : (j d n : ℕ) → n ≡ d + j → (late : List worlds.Happening) × (k.ks n ≡ k.ks j ++ late)
  go_on j zero n e = let is : n ≡ j = omega (arith, e) in ([], ap k.ks is ∙ sym (append-nil (k.ks j)))
  go_on j (suc d) n e =
      let r = go_on j d (d + j) refl in
      let one = one_on (d + j) (slice_get hs (d + j)) refl in
      let is : n ≡ suc (d + j) = omega (arith, e) in
      (r.0 ++ one.0, ap k.ks is ∙ one.1 ∙ ap (λ l. l ++ one.0) r.1 ∙ append_assoc (k.ks j) r.0 one.0)

take_front : {A : Type 0} (xs ys : List A) → take (length xs) (xs ++ ys) ≡ xs
take_front [] ys = refl
take_front (x ∷ xs) ys = ap (λ l. x ∷ l) (take_front xs ys)

-- the greatest configuration of a run is no less than that of its first part
pub greatest_stays : (members spares : List ℕ) → MembersInRange members → SparesInRange members spares → (hs gs : List Happening) → HappeningsInRange (hs ++ gs)
    → greatest_conf (execution_of (first_execution members spares) hs).world.nodes ≤ greatest_conf (execution_of (first_execution members spares) (hs ++ gs)).world.nodes
greatest_stays members spares ms ss hs gs range =
    greatest_grows members (k.ks (length hs)) late.0 t u before
    (subst (λ l. IsBeside members l u) late.1 after)
    (λ pid there. subst (λ (e : Execution). is_some (node_at e.world.nodes pid) ≡ true) (sym (execution_append t0 hs gs)) (stay_run t gs pid there))
  where
    t0 : Execution
    t0 = first_execution members spares

    t : Execution
    t = execution_of t0 hs

    u : Execution
    u = execution_of t0 (hs ++ gs)

    k : Track members t0 (hs ++ gs)
    k = every_track members spares ms ss [] (hs ++ gs) range

    before : IsBeside members (k.ks (length hs)) t
    before = subst (λ l. IsBeside members (k.ks (length hs)) (execution_of t0 l)) (take_front hs gs) (k.beside (length hs))

    after : IsBeside members (k.ks (length gs + length hs)) u
    after = subst (λ l. IsBeside members (k.ks (length gs + length hs)) (execution_of t0 l)) (take_all (length gs + length hs) (hs ++ gs) (omega (arith, length-append hs gs))) (k.beside (length gs + length hs))

    late : (late : List worlds.Happening) × (k.ks (length gs + length hs) ≡ k.ks (length hs) ++ late)
    late = go_on members t0 (hs ++ gs) k (length hs) (length gs) (length gs + length hs) refl
