-- Every world that a run without stop-signs reaches is sound: so is each node, and no message asks for a promise of a ballot that
-- isn't its sender's, nor tells of one above its sender's promise.
use Rattle.std.proofs.Common.{◌≡◌, ◌<◌, ◌+◌, ℕ, zero, suc, Bool, true, false, cond, min, eqb, nat_eq, List, [], ◌∷◌, ◌++◌, slice_get, Option, Some, None, refl, sym, ap, ◌∙◌, subst, append-nil, arith}
use Rattle.std.proofs.lemmas.Bool.{cond_both, eqb-true, eqb-false}
use Rattle.std.proofs.lemmas.List.Elements.{All-head, All-tail}
use Rattle.std.specs.Set.{is_member}
use Rattle.op_types.proofs.Order.{is_total}
use Rattle.op_types.specs.Ballots.{no_ballot}
use Rattle.op_types.specs.Changes.{empty_durable, durable_after}
use Rattle.op_types.specs.Limits.{greatest_number}
use Rattle.op_types.specs.declared.ballot.Ballot.{Ballot}
use Rattle.op_types.specs.declared.durable.Durable.{Durable}
use Rattle.op_types.specs.declared.durable.Joining.{Joining}
use Rattle.op_types.specs.declared.durable.Part.{Part}
use Rattle.op_types.specs.declared.events.Input.{Input}
use Rattle.op_types.specs.declared.messages.Body.{Body}
use Rattle.op_types.specs.declared.messages.Body.TheVariants as body
use Rattle.op_types.specs.declared.messages.Msg.{Msg}
use Rattle.op_types.specs.declared.messages.Watch.{Watch}
use Rattle.op_protocol.specs.State.{Waiting, Planned, state_after}
use Rattle.op_protocol.specs.Parts.{others}
use Rattle.op_protocol.specs.Rows.{step_plan}
use Rattle.op_protocol.specs.Starting.{restart_ballot, volatile_after_restart, requests_to_prepare, sends_after_restart, state_after_restart}
use Rattle.op_runs.specs.declared.events.What.{What}
use Rattle.op_runs.specs.declared.events.What.TheVariants as what
use Rattle.op_runs.specs.World.{World, Node, NodeStatus, Up, Down, Failed, Fate, Done, Stopped, Faulted, Happening, Doing, Steps, Stops, Opens, Tells, Deed, Sent, first_durable, first_node, first_world, node_ids, delivery, deed_of, node_at, with_node, world_opened, sent_by, stored_by, world_by_fate, world_if_up, world_opening, world_if_down, world_reopening, world_if_failed, world_by_status, world_observed, world_at_node, world_with, world_after, run_of}
use Rattle.op_lockstep.specs.Reach.{IsNoStop, ProposeNoStop}
use Rattle.op_lockstep.proofs.Lists.{Each, Each-append, Each-map, Each-more, Each-get, each, by_test}
use Rattle.op_lockstep.proofs.Reached.{IsCleanDoing, IfDone, deed_clean, IsCleanNode, IsCleanWorld, clean_after, begins}
use Rattle.op_lockstep.proofs.Watched.{observed_hold}
use Rattle.op_lockstep.proofs.Seats.{node_at-other, node_at-here, found_id, with_each, found_of}
use Rattle.op_progress.proofs.Orders.{AtMost, same_at_most, first_at_most}
use Rattle.op_progress.proofs.Rows.{Claim, BodyIn, SendIn, of_ballots, up_to, up_to_more, body_more, to_each_in, prepared_in}
use Rattle.op_progress.proofs.Steps.{IfOwn, prepared_by}
use Rattle.op_progress.proofs.Sound.{promise_in, IsMemory, IsSoundPlan, MayCome, plan_sound}

-- ---- what is sent
-- a node leads ballots of its own
abbrev own_alone : ℕ → Claim
own_alone me = of_ballots (Unit {0}) (λ x. x.pid ≡ me) (λ x. Unit {0})

-- a Prepare is of a ballot of its sender's, and what a message tells isn't above what that has promised
abbrev pub IsUpTo : ℕ → Option Node → Body → Type 0
IsUpTo from None b = BodyIn (own_alone from) b
IsUpTo from (Some n) b = BodyIn (up_to from (promise_in n.state.durable.part)) b

abbrev pub IsBounded : List Node → Sent → Type 0
IsBounded nodes m = IsUpTo m.from (node_at nodes m.from) m.message.body

-- ---- what comes
-- no own ballot comes above the promise of the node that is there
abbrev pub OwnAt : ℕ → Option Node → Option Ballot → Type 0
OwnAt pid None o = Unit {0}
OwnAt pid (Some n) o = IfOwn pid (promise_in n.state.durable.part) o

none_comes : (pid : ℕ) (o : Option Node) → OwnAt pid o None
none_comes pid None = tt
none_comes pid (Some n) = tt

-- a Prepare comes of its sender's ballot
pub prepare_comes : (nodes : List Node) (from to : ℕ) (b : Body) → IsUpTo from (node_at nodes from) b → OwnAt to (node_at nodes to) (prepared_in b)
prepare_comes nodes from to (body.Prepare n na nl nd) k = here (node_at nodes to) refl
  where
    own : (o : Option Node) → IsUpTo from o (body.Prepare n na nl nd) → n.pid ≡ from
    own None i = i
    own (Some u) i = i.1

    here : (o : Option Node) → node_at nodes to ≡ o → OwnAt to o (Some n)
    here None at = tt
    here (Some u) at = λ (mine : n.pid ≡ to).
        (subst (λ (o : Option Node). IsUpTo from o (body.Prepare n na nl nd)) (ap (node_at nodes) (sym (own (node_at nodes from) k) ∙ mine) ∙ at) k).0
prepare_comes nodes from to _ k = none_comes to (node_at nodes to)

abbrev IsOwnDoing : List Node → ℕ → Doing → Type 0
IsOwnDoing nodes pid (Steps x) = OwnAt pid (node_at nodes pid) (prepared_by x)
IsOwnDoing nodes pid _ = Unit {0}

abbrev IfOwnDone : List Node → Option Deed → Type 0
IfOwnDone nodes None = Unit {0}
IfOwnDone nodes (Some x) = IsOwnDoing nodes x.pid x.doing

deed_own : (nodes : List Node) (ms : List Sent) → Each (IsBounded nodes) ms → (x : What) → IfOwnDone nodes (deed_of ms x)
deed_own nodes ms e (what.Tick p) = none_comes p (node_at nodes p)
deed_own nodes ms e (what.Commands p cs) = none_comes p (node_at nodes p)
deed_own nodes ms e (what.Stop p members) = none_comes p (node_at nodes p)
deed_own nodes ms e (what.Trim p) = none_comes p (node_at nodes p)
deed_own nodes ms e (what.Read p r) = none_comes p (node_at nodes p)
deed_own nodes ms e (what.Up p q) = none_comes p (node_at nodes p)
deed_own nodes ms e (what.Down p q) = none_comes p (node_at nodes p)
deed_own nodes ms e (what.Deliver i) = delivers (slice_get ms i) refl
  where
    delivers : (o : Option Sent) → slice_get ms i ≡ o → IfOwnDone nodes (delivery o)
    delivers None at = tt
    delivers (Some m) at = prepare_comes nodes m.from m.to m.message.body (Each-get (IsBounded nodes) ms i m at e)
deed_own nodes ms e (what.CrashAt p call image) = tt
deed_own nodes ms e (what.Fail p call) = tt
deed_own nodes ms e (what.Kill p disk) = tt
deed_own nodes ms e _ = tt

-- ---- openings
-- a ballot that a node is opened with is its own
restart_id : (me : ℕ) (b : Ballot) → (restart_ballot me b).pid ≡ me
restart_id me b = cond_both (eqb b.pid me) _ _ (λ (x : Ballot). x.pid ≡ me) (λ _. refl) (λ _. refl)

-- and it isn't what it has promised, unless numbers end
restart_anew : (me : ℕ) (b : Ballot) → b ≡ restart_ballot me b → (restart_ballot me b).number < greatest_number → ⊥
restart_anew me b =
    cond_both (eqb b.pid me) _ _ (λ (x : Ballot). b ≡ x → x.number < greatest_number → ⊥) (λ _ same low. apart b.number greatest_number (ap (λ (x : Ballot). x.number) same) low)
    (λ other same low. absurd (eqb-false b.pid me other (ap (λ (x : Ballot). x.pid) same)))
  where
    apart : (n g : ℕ) → n ≡ min (n + 1) g → min (n + 1) g < g → ⊥
    apart n g same low = absurd (omega (arith, same, low))

module _ (members : List ℕ) where
  -- what an opening may find, where this is promised
  abbrev Finds : Durable → NodeStatus → Type 0
  Finds d Up = Unit {0}
  Finds d (Down after) = AtMost (promise_in d.part) (promise_in after.part)
  Finds d (Failed count after) = AtMost (promise_in d.part) (promise_in after.part)

  pub record IsSoundNode (n : Node) : Type 0 where
    pub memory : IsMemory n.pid n.state.durable.part n.state.volatile
    pub finds : Finds n.state.durable n.status

  -- the ballots of a world
  pub record AreBallots (w : World) : Type 0 where
    pub nodes : Each IsSoundNode w.nodes
    pub bounds : Each (IsBounded w.nodes) w.messages

  pub record IsSoundWorld (w : World) : Type 0 where
    pub clean : IsCleanWorld members w
    pub ballots : AreBallots w

  -- a node takes the place of one that had promised no more, and has sent this
  module _ (w : World) (n m : Node) (at : node_at w.nodes n.pid ≡ Some n) (same : m.pid ≡ n.pid) (raised : AtMost (promise_in n.state.durable.part) (promise_in m.state.durable.part)) where
    here : node_at (with_node w.nodes m) n.pid ≡ Some m
    here = ap (node_at (with_node w.nodes m)) (sym same) ∙ node_at-here w.nodes m n (ap (node_at w.nodes) same ∙ at)

    moved : (x : Sent) → IsBounded w.nodes x → IsBounded (with_node w.nodes m) x
    moved x k = by_id (eqb x.from n.pid) refl
      where
        by_id : (b : Bool) → eqb x.from n.pid ≡ b → IsBounded (with_node w.nodes m) x
        by_id true e =
            let is : x.from ≡ n.pid = eqb-true x.from n.pid e in
            let old : Ballot = promise_in n.state.durable.part in
            let new : Ballot = promise_in m.state.durable.part in
            subst (λ (o : Option Node). IsUpTo x.from o x.message.body) (sym (ap (node_at (with_node w.nodes m)) is ∙ here))
            (body_more (up_to x.from old) (up_to x.from new) (up_to_more x.from old new raised) x.message.body (subst (λ (o : Option Node). IsUpTo x.from o x.message.body) (ap (node_at w.nodes) is ∙ at) k))
        by_id false e =
            subst (λ (o : Option Node). IsUpTo x.from o x.message.body) (sym (node_at-other w.nodes m x.from (λ d. eqb-false x.from n.pid e (d ∙ same)))) k

    pub replaced : AreBallots w → IsSoundNode m → (sends : List (ℕ × Msg)) → Each (SendIn (up_to n.pid (promise_in m.state.durable.part))) sends
        → (u : World) → u.nodes ≡ with_node w.nodes m → u.messages ≡ w.messages ++ sent_by n.pid sends → AreBallots u
    replaced e k sends s u nodes_are messages_are =
        let new : List Node = with_node w.nodes m in
        let more : List Sent = sent_by n.pid sends in
        let bounds : Each (IsBounded new) (w.messages ++ more) =
        Each-append (IsBounded new) w.messages more (Each-more (IsBounded w.nodes) (IsBounded new) moved w.messages e.bounds)
        (Each-map (IsBounded new) (SendIn (up_to n.pid (promise_in m.state.durable.part))) (λ x. record { from = n.pid; to = x.0; message = x.1 })
        (λ x h. subst (λ (o : Option Node). IsUpTo n.pid o x.1.body) (sym here) h) sends s) in
        record {
          nodes = subst (Each IsSoundNode) (sym nodes_are) (with_each IsSoundNode w.nodes m e.nodes k);
          bounds = subst (λ (ns : List Node). Each (IsBounded ns) u.messages) (sym nodes_are) (subst (Each (IsBounded new)) (sym messages_are) bounds);
        }

  -- the same world, but for its lines
  same_world : (w u : World) → AreBallots w → u.nodes ≡ w.nodes → u.messages ≡ w.messages → AreBallots u
  same_world w u e nodes_are messages_are =
      record {
        nodes = subst (Each IsSoundNode) (sym nodes_are) e.nodes;
        bounds = subst (λ (ns : List Node). Each (IsBounded ns) u.messages) (sym nodes_are) (subst (Each (IsBounded w.nodes)) (sym messages_are) e.bounds);
      }

  -- ---- a happening at a node
  module _ (w : World) (n : Node) (at : node_at w.nodes n.pid ≡ Some n) (e : AreBallots w) (k : IsSoundNode n) (c : IsCleanNode members n) where
    -- what may come here
    abbrev MayDo : Doing → Type 0
    MayDo (Steps x) = MayCome n.pid n.state.durable x
    MayDo _ = Unit {0}

    restatused : (status : NodeStatus) → Finds n.state.durable status → (u : World) → u.nodes ≡ with_node w.nodes (record n { status = status }) → u.messages ≡ w.messages → AreBallots u
    restatused status finds u nodes_are messages_are =
        replaced w n (record n { status = status }) at refl (is_total.irreflexive (promise_in n.state.durable.part)) e (record { memory = k.memory; finds = finds }) [] tt u nodes_are
        (messages_are ∙ sym (append-nil w.messages))

    plan : (x : Input) → MayCome n.pid n.state.durable x → IsSoundPlan n.pid n.state.durable (step_plan n.pid n.state x)
    plan x h = plan_sound members n.pid n.state c.stored c.memory k.memory x h

    by_fate : n.status ≡ Up → (f : Fate) (at_line : ℕ) (x : Input) → MayCome n.pid n.state.durable x → AreBallots (world_by_fate f at_line w n x)
    by_fate up Done at_line x h =
        let pl : Planned = step_plan n.pid n.state x in
        let m : Node = record n { state = state_after n.state pl } in
        let s = plan x h in
        replaced w n m at refl s.raised e (record { memory = s.memory; finds = subst (Finds (durable_after n.state.durable pl.batch)) (sym up) tt }) pl.sends s.sends (world_by_fate Done at_line w n x) refl refl
    by_fate up Stopped at_line x h = restatused (Down (stored_by n x)) (plan x h).raised (world_by_fate Stopped at_line w n x) refl refl
    by_fate up (Faulted count) at_line x h = restatused (Failed count (stored_by n x)) (plan x h).raised (world_by_fate (Faulted count) at_line w n x) refl refl

    if_up : n.status ≡ Up → (d : Doing) (f : Fate) (at_line : ℕ) → MayDo d → AreBallots (world_if_up d f at_line w n)
    if_up up (Steps x) f at_line h = by_fate up f at_line x h
    if_up up Stops f at_line h = restatused (Down n.state.durable) (is_total.irreflexive (promise_in n.state.durable.part)) (world_if_up Stops f at_line w n) refl refl
    if_up up Opens f at_line h = e
    if_up up (Tells t) f at_line h = same_world w (world_if_up (Tells t) f at_line w n) e refl refl

    -- ---- openings
    asks_in : (P : Claim) (o : Option Part) (j : Option Joining) → Each (SendIn P) (requests_to_prepare n.pid o j)
    asks_in P None j = tt
    asks_in P (Some p) (Some j) = tt
    asks_in P (Some p) None = to_each_in P p.conf (others n.pid p.members) body.PrepareReq tt

    memory_then : (o : Option Part) → IsMemory n.pid o (volatile_after_restart n.pid o)
    memory_then None = record { own_is = refl; stands = tt }
    memory_then (Some p) =
        record {
          own_is = restart_id n.pid p.promised;
          stands = record {
            role = tt;
            waits = tt;
            own = λ same. same_at_most (restart_ballot n.pid p.promised) p.promised (sym same);
            known = λ mine. first_at_most p.promised no_ballot;
            heads = λ same low. restart_anew n.pid p.promised same low;
          };
        }

    opened_with : (d : Durable) (waiting : Waiting) → AtMost (promise_in n.state.durable.part) (promise_in d.part) → AreBallots (world_opened w n (record (state_after_restart n.pid d) { waiting = waiting }))
    opened_with d waiting s =
        let m : Node = record n { state = record (state_after_restart n.pid d) { waiting = waiting }; status = Up } in
        replaced w n m at refl s e (record { memory = memory_then d.part; finds = tt }) (sends_after_restart n.pid d) (asks_in (up_to n.pid (promise_in d.part)) d.part d.joining) (world_opened w n (record (state_after_restart n.pid d) { waiting = waiting })) refl refl

    opened : (f : Fate) (d : Durable) → AtMost (promise_in n.state.durable.part) (promise_in d.part) → AreBallots (world_opening f w n d)
    opened Done d s = opened_with d [] s
    opened Stopped d s = e
    opened (Faulted count) d s = e

    reopened : (f : Fate) (after d : Durable) → AtMost (promise_in n.state.durable.part) (promise_in after.part) → AtMost (promise_in n.state.durable.part) (promise_in d.part) → AreBallots (world_reopening f after w n d)
    reopened Done after d s found = opened_with d n.state.waiting found
    reopened Stopped after d s found = restatused (Down after) s (world_reopening Stopped after w n d) refl refl
    reopened (Faulted count) after d s found = restatused (Failed count after) s (world_reopening (Faulted count) after w n d) refl refl

    either : (b : Bool) (after : Durable) → AtMost (promise_in n.state.durable.part) (promise_in after.part) → AtMost (promise_in n.state.durable.part) (promise_in (cond b after n.state.durable).part)
    either b after s =
        by_test b (λ (t : Bool). AtMost (promise_in n.state.durable.part) (promise_in (cond t after n.state.durable).part)) (λ _. s) (λ _. is_total.irreflexive (promise_in n.state.durable.part))

    if_down : (d : Doing) (f : Fate) (b : Bool) (after : Durable) → AtMost (promise_in n.state.durable.part) (promise_in after.part) → AreBallots (world_if_down d f b after w n)
    if_down (Steps x) f b after s = e
    if_down Stops f b after s = e
    if_down Opens f b after s = opened f (cond b after n.state.durable) (either b after s)
    if_down (Tells t) f b after s = e

    if_failed : (d : Doing) (h : Happening) (count : ℕ) (after : Durable) → AtMost (promise_in n.state.durable.part) (promise_in after.part) → AreBallots (world_if_failed d h count after w n)
    if_failed (Steps x) h count after s = same_world w (world_if_failed (Steps x) h count after w n) e refl refl
    if_failed Stops h count after s = restatused (Down after) s (world_if_failed Stops h count after w n) refl refl
    if_failed Opens h count after s = reopened h.fate after (cond h.finds_after after n.state.durable) s (either h.finds_after after s)
    if_failed (Tells t) h count after s = same_world w (world_if_failed (Tells t) h count after w n) e refl refl

    by_status : (s : NodeStatus) → n.status ≡ s → (d : Doing) (h : Happening) → MayDo d → AreBallots (world_by_status s d h w n)
    by_status Up is d h may = if_up is d h.fate h.event.line may
    by_status (Down after) is d h may = if_down d h.fate h.finds_after after (subst (Finds n.state.durable) is k.finds)
    by_status (Failed count after) is d h may = if_failed d h count after (subst (Finds n.state.durable) is k.finds)

  -- ---- a happening at an observer
  -- it tells of no ballot
  watch_up_to : (from : ℕ) (o : Option Node) (x : Watch) → IsUpTo from o (body.Watch x)
  watch_up_to from None x = tt
  watch_up_to from (Some n) x = tt

  observed : (w : World) (h : Happening) → AreBallots w → AreBallots (record (world_observed (deed_of w.messages h.event.what) h w) { nodes = w.nodes; members = w.members })
  observed w h e =
      record {
        nodes = e.nodes;
        bounds = observed_hold (IsBounded w.nodes) (λ me q c x. watch_up_to me (node_at w.nodes me) x) (deed_of w.messages h.event.what) h w e.bounds;
      }

  -- ---- runs
  -- what may come at a node that is found
  may_do : (w : World) (pid : ℕ) (n : Node) (at : node_at w.nodes pid ≡ Some n) (e : AreBallots w) (k : IsSoundNode n) (c : IsCleanNode members n) (found : node_at w.nodes n.pid ≡ Some n) (d : Doing) → IsCleanDoing d → IsOwnDoing w.nodes pid d → MayDo w n found e k c d
  may_do w pid n at e k c found (Steps x) clean own =
      record { clean = clean; own = subst (λ (p : ℕ). IfOwn p (promise_in n.state.durable.part) (prepared_by x)) (sym (found_id w.nodes pid n at)) (subst (λ (o : Option Node). OwnAt pid o (prepared_by x)) at own) }
  may_do w pid n at e k c found Stops clean own = tt
  may_do w pid n at e k c found Opens clean own = tt
  may_do w pid n at e k c found (Tells t) clean own = tt

  at_node : (w : World) → IsSoundWorld w → (pid : ℕ) (o : Option Node) → node_at w.nodes pid ≡ o → (d : Doing) (h : Happening) → IsCleanDoing d → IsOwnDoing w.nodes pid d → AreBallots (world_at_node o d h w)
  at_node w e pid None at d h clean own = observed w h e.ballots
  at_node w e pid (Some n) at d h clean own =
      let here : node_at w.nodes n.pid ≡ Some n = ap (node_at w.nodes) (found_id w.nodes pid n at) ∙ at in
      let k : IsSoundNode n = found_of IsSoundNode w.nodes pid n at e.ballots.nodes in
      let c : IsCleanNode members n = found_of (IsCleanNode members) w.nodes pid n at e.clean.nodes in
      by_status w n here e.ballots k c n.status refl d h (may_do w pid n at e.ballots k c here d clean own)

  by_deed : (w : World) → IsSoundWorld w → (o : Option Deed) (h : Happening) → IfDone o → IfOwnDone w.nodes o → AreBallots (world_with o h w)
  by_deed w e None h clean own = e.ballots
  by_deed w e (Some x) h clean own = at_node w e x.pid (node_at w.nodes x.pid) refl x.doing h clean own

  -- after a happening
  pub sound_after : (w : World) (h : Happening) → IsNoStop h.event.what → IsSoundWorld w → IsSoundWorld (world_after w h)
  sound_after w h n e =
      record {
        clean = clean_after members w h n e.clean;
        ballots = by_deed w e (deed_of w.messages h.event.what) h (deed_clean w.messages h.event.what e.clean.messages n) (deed_own w.nodes w.messages e.ballots.bounds h.event.what);
      }

  pub sound_run : (hs : List Happening) (w : World) → ProposeNoStop hs → IsSoundWorld w → IsSoundWorld (run_of w hs)
  sound_run [] w n e = e
  sound_run (h ∷ hs) w n e =
      sound_run hs (world_after w h) (All-tail (λ (x : Happening). IsNoStop x.event.what) h hs n) (sound_after w h (All-head (λ (x : Happening). IsNoStop x.event.what) h hs n) e)

  pub sound_first : (spares : List ℕ) → IsSoundWorld (first_world members spares)
  sound_first spares =
      record {
        clean = begins members spares;
        ballots = record {
          nodes = Each-map IsSoundNode (λ (p : ℕ). Unit {0}) (first_node members) (λ p _. first p (is_member nat_eq members p)) (node_ids members spares) (each (λ (p : ℕ). Unit {0}) (λ _. tt) (node_ids members spares));
          bounds = tt;
        };
      }
    where
      apart : (p : ℕ) → no_ballot ≡ record { number = 1; pid = p } → ⊥
      apart p e = by 0 1 refl refl (ap (λ (b : Ballot). b.number) e)
        where
          by : (x y : ℕ) → x ≡ zero → y ≡ suc zero → x ≡ y → ⊥
          by x y a b k = absurd (omega arith)

      first : (p : ℕ) (b : Bool) → IsSoundNode (record (first_node members p) { state = record (first_node members p).state { durable = cond b (first_durable members) empty_durable } })
      first p true =
          record {
            memory = record {
              own_is = refl;
              stands = record { role = tt; waits = tt; own = λ same. absurd (apart p same); known = λ mine. first_at_most no_ballot no_ballot; heads = λ same low. apart p same };
            };
            finds = tt;
          }
      first p false = record { memory = record { own_is = refl; stands = tt }; finds = tt }
