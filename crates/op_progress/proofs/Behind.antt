-- What comes behind the heartbeats of a round: the members that hear one another stay up, and what they know of heartbeats stays.
-- Promises rise, and so does where elections begin; but neither rises above all that they had promised.
use Rattle.std.proofs.Common.{◌≡◌, ◌<◌, ◌≤◌, ◌⊎◌, inl, inr, ◌&&◌, ◌||◌, ℕ, Bool, true, false, cond, eqb, ltb, nat_eq, arith, List, [], ◌∷◌, slice_get, Option, Some, None, refl, sym, ap, ◌∙◌, subst}
use Rattle.std.proofs.lemmas.Bool.{cond_both, both_ways, eqb-true, eqb-false, ltb-true, true≢false}
use Rattle.std.specs.Set.{is_member}
use Rattle.op_types.proofs.Order.{is_total}
use Rattle.op_types.specs.Ballots.{is_below}
use Rattle.op_types.specs.Changes.{new_part, durable_after}
use Rattle.op_types.specs.Effects.{Effects}
use Rattle.op_types.specs.Roles.{Role}
use Rattle.op_types.specs.declared.ballot.Ballot.{Ballot}
use Rattle.op_types.specs.declared.changes.Change.{Change}
use Rattle.op_types.specs.declared.durable.Durable.{Durable}
use Rattle.op_types.specs.declared.durable.Part.{Part}
use Rattle.op_types.specs.declared.events.Input.{Input}
use Rattle.op_types.specs.declared.events.Input.TheVariants as input
use Rattle.op_types.specs.declared.messages.Body.{Body}
use Rattle.op_types.specs.declared.messages.Body.TheVariants as body
use Rattle.op_types.specs.declared.messages.Msg.{Msg}
use Rattle.op_types.specs.declared.role.Promised.{Promised}
use Rattle.op_protocol.specs.State.{State, Volatile, PartStep, state_after}
use Rattle.op_protocol.specs.Parts.{part_after, messages, promise_bodies, is_admitted_body, first}
use Rattle.op_protocol.specs.Follower.{suffix_start, on_prepare}
use Rattle.op_protocol.specs.Leader.{on_promise}
use Rattle.op_protocol.specs.Rows.{on_body, on_latest, message_at, step_plan, step_at}
use Rattle.op_protocol.specs.Starting.{first_volatile, state_after_restart}
use Rattle.op_protocol.specs.Watched.{is_watching}
use Rattle.op_runs.specs.declared.events.What.{What}
use Rattle.op_runs.specs.declared.events.What.TheVariants as what
use Rattle.op_runs.specs.World.{World, Node, NodeStatus, Up, Down, Failed, Fate, Done, Stopped, Faulted, Happening, Doing, Steps, Stops, Opens, Tells, Told, ThePairs, TheBallots, Deed, Sent, delivery, deed_of, node_at, with_node, stored_by, state_after_reopening, world_by_fate, world_opening, world_reopening, world_by_status, world_at_node, world_with, world_after, run_of}
use Rattle.op_gen.specs.Links.{Links, joins, is_linked}
use Rattle.op_lockstep.specs.Lockstep.{is_request, is_reply}
use Rattle.op_lockstep.specs.Reach.{IsOneOf, IsNoStop}
use Rattle.op_lockstep.proofs.Clean.{IsCleanBody, IsCleanInput}
use Rattle.op_lockstep.proofs.Lists.{Each, Each-get, by_test}
use Rattle.op_lockstep.proofs.Delivering.{admitted}
use Rattle.op_lockstep.proofs.Reached.{IfDone, deed_clean, IfFirst, IsCleanNode}
use Rattle.op_lockstep.proofs.Seats.{node_at-other, node_at-here, found_id, found_of}
use Rattle.op_progress.specs.Progress.{HearOneAnother, GoesOver, IsHarmless, IsElsewhere, ComesBehind, AllComeBehind, PrepareSent, prepare_of, promise_of_ballot, HasSuffix, HasSuffixAt, PrepareComes, MayAdopt, MayAdoptAt, PromiseComes, ComesBy}
use Rattle.op_progress.proofs.Orders.{AtMost, below_at_most, at_most_then, same_ballot}
use Rattle.op_progress.proofs.Rows.{Claim, IsKept, IsFree, RoleIn, BodyIn, up_to, up_to_kept, only, only_kept, Promises, BeginsAt, prepared_in, refused_in, free_after, floor_rises, StepIn}
use Rattle.op_progress.proofs.Steps.{prepared_by, refused_by, replied_by, step_in, IfOwn, heads_in}
use Rattle.op_progress.proofs.Keeping.{keeping, keeping_kept, promise_comes}
use Rattle.op_progress.proofs.Sound.{StandsUpTo, IfStands, promise_in, plan_sound, plan_memory, plan_promise}
use Rattle.op_progress.proofs.Worlds.{IsUpTo, IsBounded, OwnAt, prepare_comes, IsSoundNode, IsSoundWorld, sound_after}

-- ---- what a node keeps
abbrev pub part_or : Option Part → Part
part_or None = new_part 0 [] []
part_or (Some p) = p

abbrev pub part_of : Option Node → Part
part_of None = part_or None
part_of (Some n) = part_or n.state.durable.part

abbrev pub memory_of : Option Node → Volatile
memory_of None = first_volatile 0
memory_of (Some n) = n.state.volatile

-- a node that is up, and has a part
pub record IsUpNode (o : Option Node) : Type 0 where
  pub node : Node
  pub at : o ≡ Some node
  pub up : node.status ≡ Up
  pub part : Part
  pub has : node.state.durable.part ≡ Some part

-- what stays, and what rises
pub record Keeps (o u : Option Node) : Type 0 where
  pub own : (memory_of u).own ≡ (memory_of o).own
  pub leader : (memory_of u).leader ≡ (memory_of o).leader
  pub flag : (memory_of u).flag ≡ (memory_of o).flag
  pub heard : (memory_of u).heard ≡ (memory_of o).heard
  pub promise : AtMost (part_of o).promised (part_of u).promised
  pub floor : AtMost (memory_of o).floor (memory_of u).floor

keeps_all : (o u : Option Node) → u ≡ o → Keeps o u
keeps_all o u e =
    subst (Keeps o) (sym e)
    (record { own = refl; leader = refl; flag = refl; heard = refl; promise = is_total.irreflexive (part_of o).promised; floor = is_total.irreflexive (memory_of o).floor })

keeps_then : (o u t : Option Node) → Keeps o u → Keeps u t → Keeps o t
keeps_then o u t x y =
    record {
      own = y.own ∙ x.own;
      leader = y.leader ∙ x.leader;
      flag = y.flag ∙ x.flag;
      heard = y.heard ∙ x.heard;
      promise = at_most_then (part_of o).promised (part_of u).promised (part_of t).promised x.promise y.promise;
      floor = at_most_then (memory_of o).floor (memory_of u).floor (memory_of t).floor x.floor y.floor;
    }

-- what holds of a ballot holds of each lower one
abbrev pub IsLowering : (Ballot → Type 0) → Type 0
IsLowering P = (a b : Ballot) → AtMost a b → P b → P a

-- where a node has promised its own ballot, it prepares or leads it
abbrev pub HeadsOwn : Option Node → Type 0
HeadsOwn o = (part_of o).promised ≡ (memory_of o).own → RoleIn (only (memory_of o).own) (memory_of o).role

-- it holds of what a node has promised, and of where its elections begin
abbrev pub HoldsAt : (Ballot → Type 0) → Option Node → Type 0
HoldsAt P o = P (part_of o).promised × P (memory_of o).floor

abbrev IfBallot : (Ballot → Type 0) → Option Ballot → Type 0
IfBallot P None = Unit {0}
IfBallot P (Some b) = P b

-- ---- a step
promise_by : (P : Ballot → Type 0) (o : Option Ballot) (p : Part) (batch : List Change) → Promises o p batch → P p.promised → IfBallot P o → P (part_after p batch).promised
promise_by P None p batch f h k = subst P (sym (free_after p batch f)) h
promise_by P (Some n) p batch (inl f) h k = subst P (sym (free_after p batch f)) h
promise_by P (Some n) p batch (inr e) h k = subst (λ (b : List Change). P (part_after p b).promised) (sym e.0) k

floor_by : (P : Ballot → Type 0) (o : Option Ballot) (old new : Ballot) → BeginsAt o old new → P old → IfBallot P o → P new
floor_by P None old new e h k = subst P (sym e) h
floor_by P (Some b) old new (inl e) h k = subst P (sym e) h
floor_by P (Some b) old new (inr e) h k = subst P (sym e) (cond_both (is_below old b) b old P (λ _. k) (λ _. h))

-- an input that is no tick, no stop-sign and no heartbeat reply
record IsPlain (x : Input) : Type 0 where
  no_tick : x ≡ input.Tick → ⊥
  clean : IsCleanInput x
  no_reply : replied_by x ≡ false

module _ (members : List ℕ) (n : Node) (k : IsSoundNode members n) (c : IsCleanNode members n) (p : Part) (has : n.state.durable.part ≡ Some p) (x : Input) (plain : IsPlain x) (own : IfOwn n.pid (promise_in n.state.durable.part) (prepared_by x)) where
  abbrev s : State
  s = n.state

  abbrev then_ : Node
  then_ = record n { state = state_after s (step_plan n.pid s x) }

  abbrev row : PartStep
  row = step_at n.pid s.durable s.volatile x

  stands : StandsUpTo p.members n.pid p.promised s.volatile
  stands = subst (λ (o : Option Part). IfStands n.pid o s.volatile) has ((k).memory).stands

  own_here : IfOwn n.pid p.promised (prepared_by x)
  own_here = subst (λ (o : Option Part). IfOwn n.pid (promise_in o) (prepared_by x)) has own

  step : StepIn (up_to n.pid p.promised) p s.volatile (prepared_by x) (refused_by x) (replied_by x) row
  step = step_in (up_to n.pid p.promised) n.pid s.durable p s.volatile has ((c).stored).joining ((c).stored).closed (up_to_kept n.pid p.promised n.pid p.members) (is_total.irreflexive p.promised) (stands).role x (plain).no_tick (plain).clean

  memory_is : (then_).state.volatile ≡ (row).volatile
  memory_is = plan_memory members n.pid s (c).stored (c).memory (k).memory x (plain).clean

  abbrev new : (q : Part) × ((durable_after (s).durable (step_plan n.pid s x).batch).part ≡ Some q) × (q.promised ≡ (part_after p (row).batch).promised)
  new = plan_promise members n.pid s (c).stored (c).memory (k).memory x (plain).clean p has

  old_is : (part_of (Some n)).promised ≡ p.promised
  old_is = ap (λ (o : Option Part). (part_or o).promised) has

  new_is : (part_of (Some then_)).promised ≡ (part_after p (row).batch).promised
  new_is = ap (λ (o : Option Part). (part_or o).promised) (new).1 ∙ (new).2

  up_then : n.status ≡ Up → IsUpNode (Some then_)
  up_then up = record { node = then_; at = refl; up = up; part = (new).0; has = (new).1 }

  keeps_step : Keeps (Some n) (Some then_)
  keeps_step =
      let z = step in
      record {
        own = ap (λ (u : Volatile). u.own) memory_is ∙ z.own;
        leader = ap (λ (u : Volatile). u.leader) memory_is ∙ z.leader;
        flag = ap (λ (u : Volatile). u.flag) memory_is ∙ z.flag;
        heard = ap (λ (u : Volatile). u.heard) memory_is ∙ z.heard (plain).no_reply;
        promise = subst (λ (b : Ballot). AtMost b (part_of (Some then_)).promised) (sym old_is)
            (subst (AtMost p.promised) (ap (λ (o : Option Part). promise_in o) (new).1 ∙ sym (ap (λ (o : Option Part). (part_or o).promised) (new).1))
            (subst (λ (o : Option Part). AtMost (promise_in o) (promise_in (durable_after (s).durable (step_plan n.pid s x).batch).part)) has (plan_sound members n.pid s (c).stored (c).memory (k).memory x (record { clean = (plain).clean; own = own })).raised));
        floor = subst (λ (u : Volatile). AtMost (s).volatile.floor u.floor) (sym memory_is) (floor_rises (refused_by x) (s).volatile.floor (row).volatile.floor z.floor);
      }

  holds_step : (P : Ballot → Type 0) → IfBallot P (prepared_by x) → IfBallot P (refused_by x) → HoldsAt P (Some n) → HoldsAt P (Some then_)
  holds_step P a b h = (
    subst P (sym new_is) (promise_by P (prepared_by x) p (row).batch (step).promises (subst P old_is h.0) a),
    subst (λ (u : Volatile). P u.floor) (sym memory_is) (floor_by P (refused_by x) (s).volatile.floor (row).volatile.floor (step).floor h.1 b),
  )

  heads_step : HeadsOwn (Some n) → HeadsOwn (Some then_)
  heads_step h same =
      subst (λ (u : Volatile). RoleIn (only u.own) u.role) (sym memory_is)
      (heads_in n.pid (s).durable p (s).volatile has ((c).stored).joining ((c).stored).closed x (plain).no_tick (plain).clean own_here (up_to n.pid p.promised) step (λ _. Unit {0}) ((k).memory).own_is (λ e _. h (old_is ∙ e))
      (sym new_is ∙ same ∙ ap (λ (u : Volatile). u.own) memory_is) tt)

  -- where the promise stays, so does what is claimed of its role
  quiet : (o : Option Ballot) → Promises o p (row).batch → (part_after p (row).batch).promised ≡ p.promised → Each IsFree (row).batch
  quiet None f same = f
  quiet (Some b) (inl f) same = f
  quiet (Some b) (inr e) same =
      let is : (part_after p (row).batch).promised ≡ b = ap (λ (c : List Change). (part_after p c).promised) e.0 in
      absurd (both_ways (is_below p.promised p.promised) (is_total.irreflexive p.promised) (subst (λ (c : Ballot). is_below p.promised c ≡ true) (sym is ∙ same) e.1))

  role_step : (C : Claim) → IsKept n.pid p.members C → C.told p.promised → (part_of (Some then_)).promised ≡ (part_of (Some n)).promised → RoleIn C (s).volatile.role → RoleIn C (then_).state.volatile.role
  role_step C kept told same k =
      let f : Each IsFree (row).batch = quiet (prepared_by x) (step).promises (sym new_is ∙ same ∙ old_is) in
      subst (λ (u : Volatile). RoleIn C u.role) (sym memory_is)
      ((step_in C n.pid (s).durable p (s).volatile has ((c).stored).joining ((c).stored).closed kept told k x (plain).no_tick (plain).clean).role (inr f))

-- ---- links go both ways
joins_back : (l : ℕ × ℕ) (p q : ℕ) → joins l p q ≡ joins l q p
joins_back l p q = swapped (eqb l.0 p && eqb l.1 q) (eqb l.0 q && eqb l.1 p)
  where
    swapped : (a b : Bool) → (a || b) ≡ (b || a)
    swapped true true = refl
    swapped true false = refl
    swapped false true = refl
    swapped false false = refl

pub linked_back : (links : Links) (p q : ℕ) → is_linked links p q ≡ is_linked links q p
linked_back [] p q = refl
linked_back (l ∷ links) p q = ap (λ (b : Bool). b || is_linked links p q) (joins_back l p q) ∙ ap (λ (b : Bool). joins l q p || b) (linked_back links p q)

-- ---- a happening at another node
module _ (w : World) (h : Happening) (q : ℕ) where
  -- the node is as it was
  abbrev IsSame : World → Type 0
  IsSame u = node_at u.nodes q ≡ node_at w.nodes q

  module _ (n : Node) (other : q ≡ n.pid → ⊥) where
    put : (m : Node) → m.pid ≡ n.pid → node_at (with_node w.nodes m) q ≡ node_at w.nodes q
    put m same = node_at-other w.nodes m q (λ e. other (e ∙ same))

    by_fate : (f : Fate) (x : Input) → IsSame (world_by_fate f h.event.line w n x)
    by_fate Done x = put (record n { state = state_after n.state (step_plan n.pid n.state x) }) refl
    by_fate Stopped x = put (record n { status = Down (stored_by n x) }) refl
    by_fate (Faulted count) x = put (record n { status = Failed count (stored_by n x) }) refl

    opens : (f : Fate) (d : Durable) → IsSame (world_opening f w n d)
    opens Done d = put (record n { state = state_after_restart n.pid d; status = Up }) refl
    opens Stopped d = refl
    opens (Faulted count) d = refl

    reopens : (f : Fate) (after d : Durable) → IsSame (world_reopening f after w n d)
    reopens Done after d = put (record n { state = state_after_reopening n.pid n.state d; status = Up }) refl
    reopens Stopped after d = put (record n { status = Down after }) refl
    reopens (Faulted count) after d = put (record n { status = Failed count after }) refl

    elsewhere_by : (s : NodeStatus) (d : Doing) → IsSame (world_by_status s d h w n)
    elsewhere_by Up (Steps x) = by_fate h.fate x
    elsewhere_by Up Stops = put (record n { status = Down n.state.durable }) refl
    elsewhere_by Up Opens = refl
    elsewhere_by Up (Tells t) = refl
    elsewhere_by (Down after) (Steps x) = refl
    elsewhere_by (Down after) Stops = refl
    elsewhere_by (Down after) Opens = opens h.fate (cond h.finds_after after n.state.durable)
    elsewhere_by (Down after) (Tells t) = refl
    elsewhere_by (Failed count after) (Steps x) = refl
    elsewhere_by (Failed count after) Stops = put (record n { status = Down after }) refl
    elsewhere_by (Failed count after) Opens = reopens h.fate after (cond h.finds_after after n.state.durable)
    elsewhere_by (Failed count after) (Tells t) = refl

  elsewhere_at : (pid : ℕ) → (q ≡ pid → ⊥) → (d : Doing) (o : Option Node) → node_at w.nodes pid ≡ o → IsSame (world_at_node o d h w)
  elsewhere_at pid other d None at = refl
  elsewhere_at pid other d (Some n) at = elsewhere_by n (λ e. other (e ∙ found_id w.nodes pid n at)) n.status d

  elsewhere_is : (group : List ℕ) → IsOneOf group q → (o : Option Deed) → IsElsewhere group o → IsSame (world_with o h w)
  elsewhere_is group m None e = refl
  elsewhere_is group m (Some x) e = elsewhere_at x.pid (λ same. true≢false (sym m ∙ ap (is_member nat_eq group) same ∙ e)) x.doing (node_at w.nodes x.pid) refl

-- ---- an event
module _ (members : List ℕ) (links : Links) (group : List ℕ) (hear : HearOneAnother members links group) where
  -- they are up, in a sound world
  pub record Standing (w : World) : Type 0 where
    pub sound : IsSoundWorld members w
    pub up : (q : ℕ) → IsOneOf group q → IsUpNode (node_at w.nodes q)
    pub heads : (q : ℕ) → IsOneOf group q → HeadsOwn (node_at w.nodes q)

  -- what holds of all that they have promised, and of where their elections begin
  abbrev pub HoldsIn : (Ballot → Type 0) → World → Type 0
  HoldsIn P w = (q : ℕ) → IsOneOf group q → HoldsAt P (node_at w.nodes q)

  -- from a world to a later one
  pub record Later (w u : World) : Type 1 where
    pub up : (q : ℕ) → IsOneOf group q → IsUpNode (node_at u.nodes q)
    pub keeps : (q : ℕ) → IsOneOf group q → Keeps (node_at w.nodes q) (node_at u.nodes q)
    pub heads : (q : ℕ) → IsOneOf group q → HeadsOwn (node_at w.nodes q) → HeadsOwn (node_at u.nodes q)
    pub role : (C : Claim) → ((b : Ballot) → C.told b) → (q : ℕ) → IsOneOf group q → IsKept q members C → (part_of (node_at u.nodes q)).promised ≡ (part_of (node_at w.nodes q)).promised
        → RoleIn C (memory_of (node_at w.nodes q)).role → RoleIn C (memory_of (node_at u.nodes q)).role
    pub holds : (P : Ballot → Type 0) → IsLowering P → HoldsIn P w → HoldsIn P u

  -- the same, where it stands too
  pub record After (w u : World) : Type 1 where
    pub standing : Standing u
    pub later : Later w u

  all_same : (w u : World) → Standing w → ((q : ℕ) → IsOneOf group q → node_at u.nodes q ≡ node_at w.nodes q) → Later w u
  all_same w u k same =
      record {
        up = λ q m. subst IsUpNode (sym (same q m)) (k.up q m);
        keeps = λ q m. keeps_all (node_at w.nodes q) (node_at u.nodes q) (same q m);
        heads = λ q m h. subst HeadsOwn (sym (same q m)) h;
        role = λ C told q m kept still h. subst (λ (o : Option Node). RoleIn C (memory_of o).role) (sym (same q m)) h;
        holds = λ P low h q m. subst (HoldsAt P) (sym (same q m)) (h q m);
      }

  same_nodes : (w u : World) → Standing w → u.nodes ≡ w.nodes → Later w u
  same_nodes w u k e = all_same w u k (λ q m. ap (λ (ns : List Node). node_at ns q) e)

  -- what an input brings to one of them holds, where that holds of all that they had promised
  abbrev Brings : World → ℕ → Input → Type 1
  Brings w pid x = IsOneOf group pid → (P : Ballot → Type 0) → IsLowering P → HoldsIn P w → IfBallot P (prepared_by x) × IfBallot P (refused_by x)

  module _ (w : World) (k : Standing w) (pid : ℕ) (x : Input) (plain : IsPlain x) (own : OwnAt pid (node_at w.nodes pid) (prepared_by x)) (brings : Brings w pid x) (n : Node) (at : node_at w.nodes pid ≡ Some n) (up : n.status ≡ Up) where
    abbrev after_step : Node
    after_step = record n { state = state_after n.state (step_plan n.pid n.state x) }

    id_is : n.pid ≡ pid
    id_is = found_id w.nodes pid n at

    sound_node : IsSoundNode members n
    sound_node = found_of (IsSoundNode members) w.nodes pid n at (((k).sound).ballots).nodes

    clean_node : IsCleanNode members n
    clean_node = found_of (IsCleanNode members) w.nodes pid n at (((k).sound).clean).nodes

    own_comes : IfOwn n.pid (promise_in n.state.durable.part) (prepared_by x)
    own_comes = subst (λ (q : ℕ). IfOwn q (promise_in n.state.durable.part) (prepared_by x)) (sym id_is) (subst (λ (o : Option Node). OwnAt pid o (prepared_by x)) at own)

    -- a member's part
    part_here : IsOneOf group pid → (p : Part) × (n.state.durable.part ≡ Some p)
    part_here m =
        let u = (k).up pid m in
        (u.part, subst (λ (o : Node). o.state.durable.part ≡ Some u.part) (some_same u.node (sym (u.at) ∙ at)) u.has)
      where
        some_same : (m : Node) → Some m ≡ Some n → m ≡ n
        some_same m e = cc

    stepped_later : (u : World) → u.nodes ≡ with_node w.nodes after_step → Later w u
    stepped_later u is =
        record {
          up = λ q m. by_id (λ (o : Option Node). IsUpNode o) q (λ e. let p = part_here (subst (IsOneOf group) e m) in up_then members n sound_node clean_node p.0 p.1 x plain own_comes up) (λ _. (k).up q m);
          keeps = λ q m. by_id (Keeps (node_at w.nodes q)) q (λ e. let p = part_here (subst (IsOneOf group) e m) in subst (λ (o : Option Node). Keeps o (Some after_step)) (sym (ap (node_at w.nodes) e ∙ at)) (keeps_step members n sound_node clean_node p.0 p.1 x plain own_comes))
              (λ _. keeps_all (node_at w.nodes q) (node_at w.nodes q) refl);
          heads = λ q m h. by_id HeadsOwn q
              (λ e. let p = part_here (subst (IsOneOf group) e m) in heads_step members n sound_node clean_node p.0 p.1 x plain own_comes (subst HeadsOwn (ap (node_at w.nodes) e ∙ at) h)) (λ _. h);
          role = λ C told q m kept still h. by_id (λ (o : Option Node). (part_of o).promised ≡ (part_of (node_at w.nodes q)).promised → RoleIn C (memory_of o).role) q
              (λ e same. let p = part_here (subst (IsOneOf group) e m) in
              let here : node_at w.nodes q ≡ Some n = ap (node_at w.nodes) e ∙ at in
              let members_are : (p.0).members ≡ members = (subst (IfFirst members) p.1 (clean_node.stored).part).members_are in
              let fits : IsKept n.pid (p.0).members C = subst (λ (k : ℕ). IsKept k (p.0).members C) (e ∙ sym id_is) (subst (λ (ms : List ℕ). IsKept q ms C) (sym members_are) kept) in
              role_step members n sound_node clean_node p.0 p.1 x plain own_comes C fits (told (p.0).promised) (same ∙ ap (λ (o : Option Node). (part_of o).promised) here) (subst (λ (o : Option Node). RoleIn C (memory_of o).role) here h))
              (λ _ _. h) still;
          holds = λ P low h q m. by_id (HoldsAt P) q
              (λ e. let p = part_here (subst (IsOneOf group) e m) in
              let b = brings (subst (IsOneOf group) e m) P low h in
              holds_step members n sound_node clean_node p.0 p.1 x plain own_comes P b.0 b.1 (subst (HoldsAt P) (ap (node_at w.nodes) e ∙ at) (h q m)))
              (λ _. h q m);
        }
      where
        by_id : (Q : Option Node → Type 0) (q : ℕ) → (q ≡ pid → Q (Some after_step)) → ((q ≡ pid → ⊥) → Q (node_at w.nodes q)) → Q (node_at u.nodes q)
        by_id Q q here other = subst (λ (ns : List Node). Q (node_at ns q)) (sym is) (by_test (eqb q pid) (λ (b : Bool). Q (node_at (with_node w.nodes after_step) q))
            (λ e. let same : q ≡ pid = eqb-true q pid e in
            subst Q (sym (ap (node_at (with_node w.nodes after_step)) (same ∙ sym id_is) ∙ node_at-here w.nodes after_step n (ap (node_at w.nodes) id_is ∙ at))) (here same))
            (λ e. let apart : q ≡ pid → ⊥ = eqb-false q pid e in subst Q (sym (node_at-other w.nodes after_step q (λ d. apart (d ∙ id_is)))) (other apart)))

  module _ (w : World) (k : Standing w) (h : Happening) where
    by_status : h.fate ≡ Done → (pid : ℕ) (x : Input) → IsPlain x → OwnAt pid (node_at w.nodes pid) (prepared_by x) → Brings w pid x → (n : Node) → node_at w.nodes pid ≡ Some n → (s : NodeStatus) → n.status ≡ s → Later w (world_by_status s (Steps x) h w n)
    by_status done pid x plain own brings n at Up is =
        subst (λ (f : Fate). Later w (world_by_fate f h.event.line w n x)) (sym done) (stepped_later w k pid x plain own brings n at is (world_by_fate Done h.event.line w n x) refl)
    by_status done pid x plain own brings n at (Down after) is = same_nodes w (world_by_status (Down after) (Steps x) h w n) k refl
    by_status done pid x plain own brings n at (Failed count after) is = same_nodes w (world_by_status (Failed count after) (Steps x) h w n) k refl

    at_steps : h.fate ≡ Done → (pid : ℕ) (x : Input) → IsPlain x → OwnAt pid (node_at w.nodes pid) (prepared_by x) → Brings w pid x → (o : Option Node) → node_at w.nodes pid ≡ o → Later w (world_at_node o (Steps x) h w)
    at_steps done pid x plain own brings None at = same_nodes w (world_at_node None (Steps x) h w) k refl
    at_steps done pid x plain own brings (Some n) at = by_status done pid x plain own brings n at n.status refl

    at_tells : (t : Told) (o : Option Node) → Later w (world_at_node o (Tells t) h w)
    at_tells t None = same_nodes w (world_at_node None (Tells t) h w) k refl
    at_tells t (Some n) = tells n.status
      where
        tells : (s : NodeStatus) → Later w (world_by_status s (Tells t) h w n)
        tells Up = same_nodes w (world_by_status Up (Tells t) h w n) k refl
        tells (Down after) = same_nodes w (world_by_status (Down after) (Tells t) h w n) k refl
        tells (Failed count after) = same_nodes w (world_by_status (Failed count after) (Tells t) h w n) k refl

    -- a step of a client, or of a session
    asks : h.fate ≡ Done → (pid : ℕ) (x : Input) → IsPlain x → IfBallot (λ b. ⊥) (prepared_by x) × IfBallot (λ b. ⊥) (refused_by x) → Later w (world_at_node (node_at w.nodes pid) (Steps x) h w)
    asks done pid x plain none = at_steps done pid x plain (no_own (node_at w.nodes pid) (prepared_by x) none.0) (λ _ P low _. (empty P (prepared_by x) none.0, empty P (refused_by x) none.1)) (node_at w.nodes pid) refl
      where
        empty : (P : Ballot → Type 0) (o : Option Ballot) → IfBallot (λ b. ⊥) o → IfBallot P o
        empty P None i = tt
        empty P (Some b) i = absurd i

        no_own : (o : Option Node) (b : Option Ballot) → IfBallot (λ b. ⊥) b → OwnAt pid o b
        no_own None b i = tt
        no_own (Some n) None i = tt
        no_own (Some n) (Some b) i = absurd i

    -- ---- a message
    prepared_of : (P : Ballot → Type 0) (from : ℕ) (z : Ballot) → ((b : Ballot) → AtMost b z → P b) → (b : Body) → BodyIn (up_to from z) b → IfBallot P (prepared_in b)
    prepared_of P from z low (body.Prepare n na nl nd) i = low n i.0
    prepared_of P from z low _ i = tt

    refused_of : (P : Ballot → Type 0) (from : ℕ) (z : Ballot) → ((b : Ballot) → AtMost b z → P b) → (b : Body) → BodyIn (up_to from z) b → IfBallot P (refused_in b)
    refused_of P from z low (body.Refuse n x) i = low x i
    refused_of P from z low _ i = tt

    either_none : (a b : Bool) → (a || b) ≡ false → b ≡ false
    either_none true b i = cc
    either_none false b i = i

    delivers : h.fate ≡ Done → (i : ℕ) (o : Option Sent) → slice_get w.messages i ≡ o → GoesOver links o → Later w (world_with (delivery o) h w)
    delivers done i None at over = same_nodes w w k refl
    delivers done i (Some m) at over =
        let x : Input = input.Deliver m.from m.message in
        let plain : IsPlain x =
        record { no_tick = λ (same : x ≡ input.Tick). cc; clean = Each-get (λ m. IsCleanBody m.message.body) w.messages i m at (((k).sound).clean).messages; no_reply = either_none (is_request m.message.body) (is_reply m.message.body) over.1 } in
        at_steps done m.to x plain (prepare_comes w.nodes m.from m.to m.message.body bounded) brings (node_at w.nodes m.to) refl
      where
        bounded : IsBounded w.nodes m
        bounded = Each-get (IsBounded w.nodes) w.messages i m at (((k).sound).ballots).bounds

        brings : Brings w m.to (input.Deliver m.from m.message)
        brings to P low holds =
            let from : IsOneOf group m.from = (hear).apart m.to m.from to (linked_back links m.to m.from ∙ over.0) in
            let u = (k).up m.from from in
            let has : P u.part.promised = subst (λ (o : Option Part). P (part_or o).promised) u.has (subst (λ (o : Option Node). P (part_of o).promised) u.at (holds m.from from).0) in
            let bound : BodyIn (up_to m.from u.part.promised) m.message.body =
            subst (λ (o : Option Part). BodyIn (up_to m.from (promise_in o)) m.message.body) u.has (subst (λ (o : Option Node). IsUpTo m.from o m.message.body) u.at bounded) in
            let below : (b : Ballot) → AtMost b u.part.promised → P b = λ b y. low b u.part.promised y has in
            (prepared_of P m.from u.part.promised below m.message.body bound, refused_of P m.from u.part.promised below m.message.body bound)

    plain_of : (x : Input) → (x ≡ input.Tick → ⊥) → IsCleanInput x → replied_by x ≡ false → IsPlain x
    plain_of x a b c = record { no_tick = a; clean = b; no_reply = c }

    by_what : h.fate ≡ Done → (x : What) → IsHarmless links w x → Later w (world_with (deed_of w.messages x) h w)
    by_what done (what.Deliver i) may = delivers done i (slice_get w.messages i) refl may
    by_what done (what.Commands p cs) may = asks done p (input.Commands cs) (plain_of (input.Commands cs) (λ (same : input.Commands cs ≡ input.Tick). cc) tt refl) (tt, tt)
    by_what done (what.Read p r) may = asks done p (input.Read r) (plain_of (input.Read r) (λ (same : input.Read r ≡ input.Tick). cc) tt refl) (tt, tt)
    by_what done (what.Trim p) may = asks done p input.TrimNow (plain_of input.TrimNow (λ (same : input.TrimNow ≡ input.Tick). cc) tt refl) (tt, tt)
    by_what done (what.Up p q) may = asks done p (input.Up q) (plain_of (input.Up q) (λ (same : input.Up q ≡ input.Tick). cc) tt refl) (tt, tt)
    by_what done (what.Down p q) may = asks done p (input.Down q) (plain_of (input.Down q) (λ (same : input.Down q ≡ input.Tick). cc) tt refl) (tt, tt)
    by_what done (what.Show p) may = at_tells ThePairs (node_at w.nodes p)
    by_what done (what.Ballots p) may = at_tells TheBallots (node_at w.nodes p)
    by_what done _ may = absurd may

    by_place : IsElsewhere group (deed_of w.messages h.event.what) ⊎ ((h.fate ≡ Done) × IsHarmless links w h.event.what) → Later w (world_after w h)
    by_place (inl e) = all_same w (world_after w h) k (λ q m. elsewhere_is w h q group m (deed_of w.messages h.event.what) e)
    by_place (inr x) = by_what x.0 h.event.what x.1

    one_more : ComesBehind group links w h → After w (world_after w h)
    one_more may =
        let x = by_place may.1 in
        record { standing = record { sound = sound_after members w h may.0 (k).sound; up = x.up; heads = λ q m. x.heads q m ((k).heads q m) }; later = x }

  -- ---- a Prepare that comes
  -- who has what the one that asks may lack promises its ballot, if that isn't below its promise
  promises : (p : Part) (r : Role) (from : ℕ) (a : PrepareSent) → HasSuffix a (Some p) → AtMost a.ballot (part_after p (on_prepare p r from a.ballot a.accepted a.len a.decided).batch).promised
  promises p r from a has =
      let P : Effects → Type 0 = λ (e : Effects). AtMost a.ballot (part_after p e.batch).promised in
      let start : ℕ = suffix_start p a.accepted a.len a.decided in
      cond_both (is_below a.ballot p.promised) _ _ P (λ up. below_at_most a.ballot p.promised up)
      (λ _. cond_both (ltb start p.trimmed) _ _ P (λ low. absurd (not_both start p.trimmed has (ltb-true start p.trimmed low)))
      (λ _. cond_both (is_below p.promised a.ballot) _ _ (λ (e : Effects). P (first [] (messages p.conf from (promise_bodies p a.ballot start)) [] e)) (λ _. is_total.irreflexive a.ballot) (λ low. low)))
    where
      not_both : (x y : ℕ) → y ≤ x → x < y → ⊥
      not_both x y a b = absurd (omega arith)

  -- a message of configuration 1 comes at one of them
  module _ (w : World) (k : Standing w) (h : Happening) (from q : ℕ) (m : IsOneOf group q) (msg : Msg) (comes : deed_of w.messages h.event.what ≡ Some (record { pid = q; doing = Steps (input.Deliver from msg) })) (conf_is : msg.conf ≡ 1) (no_stop : IsNoStop h.event.what) (done : h.fate ≡ Done) where
    abbrev input_is : Input
    input_is = input.Deliver from msg

    abbrev node_then : Node
    node_then = record ((k).up q m).node { state = state_after (((k).up q m).node).state (step_plan (((k).up q m).node).pid (((k).up q m).node).state input_is) }

    found_then : node_at (world_after w h).nodes q ≡ Some node_then
    found_then =
        let u = (k).up q m in
        let id : u.node.pid ≡ q = found_id w.nodes q u.node u.at in
        let world_is : world_after w h ≡ world_by_fate Done h.event.line w u.node input_is =
        ap (λ (o : Option Deed). world_with o h w) comes ∙ ap (λ (o : Option Node). world_at_node o (Steps input_is) h w) u.at
        ∙ ap (λ (t : NodeStatus). world_by_status t (Steps input_is) h w u.node) u.up ∙ ap (λ (f : Fate). world_by_fate f h.event.line w u.node input_is) done in
        ap (λ (z : World). node_at z.nodes q) world_is ∙ ap (node_at (with_node w.nodes node_then)) (sym id) ∙ node_at-here w.nodes node_then u.node (ap (node_at w.nodes) id ∙ u.at)

    sound_here : IsSoundNode members ((k).up q m).node
    sound_here = found_of (IsSoundNode members) w.nodes q ((k).up q m).node ((k).up q m).at (((k).sound).ballots).nodes

    clean_here : IsCleanNode members ((k).up q m).node
    clean_here = found_of (IsCleanNode members) w.nodes q ((k).up q m).node ((k).up q m).at (((k).sound).clean).nodes

    clean_body : IsCleanBody msg.body
    clean_body = subst IfDone comes (deed_clean w.messages h.event.what (((k).sound).clean).messages no_stop)

    -- what it does there
    abbrev body_does : PartStep
    body_does = on_body (((k).up q m).node).pid ((k).up q m).part (((k).up q m).node).state.volatile from msg.body

    module _ (unwatched : is_watching msg.body ≡ false) (ok : is_admitted_body ((k).up q m).part msg.body ≡ true) (plain : (d : Durable) (c : ℕ) → on_latest (((k).up q m).node).pid d (((k).up q m).node).state.volatile from c msg.body ≡ message_at (((k).up q m).node).pid d.part (((k).up q m).node).state.volatile from (record { conf = c; body = msg.body })) where
      row_is : step_at (((k).up q m).node).pid (((k).up q m).node).state.durable (((k).up q m).node).state.volatile input_is ≡ body_does
      row_is =
          let u = (k).up q m in
          admitted u.node.pid u.part u.node.state.volatile from msg msg.body (conf_is ∙ sym (subst (IfFirst members) u.has ((clean_here).stored).part).conf_is) refl unwatched ok plain u.node.state.durable u.has ((clean_here).stored).joining

      pub memory_then : (memory_of (node_at (world_after w h).nodes q)) ≡ (body_does).volatile
      memory_then =
          let u = (k).up q m in
          ap memory_of found_then ∙ plan_memory members u.node.pid u.node.state (clean_here).stored (clean_here).memory (sound_here).memory input_is clean_body ∙ ap (λ (y : PartStep). y.volatile) row_is

      promise_then : (part_of (node_at (world_after w h).nodes q)).promised ≡ (part_after ((k).up q m).part (body_does).batch).promised
      promise_then =
          let u = (k).up q m in
          let new = plan_promise members u.node.pid u.node.state (clean_here).stored (clean_here).memory (sound_here).memory input_is clean_body u.part u.has in
          ap (λ (o : Option Node). (part_of o).promised) found_then ∙ ap (λ (o : Option Part). (part_or o).promised) new.1 ∙ new.2 ∙ ap (λ (y : PartStep). (part_after u.part y.batch).promised) row_is

  asked_promises : (w : World) (k : Standing w) (h : Happening) (b : Ballot) (s q : ℕ) → IsOneOf group q → PrepareComes b s q w h → IsNoStop h.event.what → h.fate ≡ Done → AtMost b (part_of (node_at (world_after w h).nodes q)).promised
  asked_promises w k h b s q m asked no_stop done =
      let u = (k).up q m in
      let a : PrepareSent = asked.asking in
      let has : HasSuffix a (Some u.part) = subst (HasSuffix a) u.has (subst (HasSuffixAt a) u.at asked.has) in
      subst (AtMost b) (sym (promise_then w k h s q m (prepare_of a) asked.comes refl no_stop done refl refl (λ _ _. refl)))
      (subst (λ (c : Ballot). AtMost c (part_after u.part (on_prepare u.part u.node.state.volatile.role s a.ballot a.accepted a.len a.decided).batch).promised) asked.is (promises u.part u.node.state.volatile.role s a has))

  -- a Promise that comes is kept, where the ballot is prepared or led
  told_keeps : (w : World) (k : Standing w) (h : Happening) (b : Ballot) (q s : ℕ) → IsOneOf group s → PromiseComes b q s w h → IsNoStop h.event.what → h.fate ≡ Done → RoleIn (only b) (memory_of (node_at w.nodes s)).role → RoleIn (keeping q b) (memory_of (node_at (world_after w h).nodes s)).role
  told_keeps w k h b q s m comes no_stop done head =
      let u = (k).up s m in
      let j : Promised = comes.told in
      let may : MayAdopt j (Some u.part) = subst (MayAdopt j) u.has (subst (MayAdoptAt j) u.at comes.may) in
      let here : RoleIn (only b) u.node.state.volatile.role = subst (λ (o : Option Node). RoleIn (only b) (memory_of o).role) u.at head in
      subst (λ (v : Volatile). RoleIn (keeping q b) v.role) (sym (memory_then w k h j.from s m (promise_of_ballot b j) comes.comes refl no_stop done refl may.0 (λ _ _. refl)))
      (subst (λ (p : ℕ). RoleIn (keeping p b) (on_promise u.node.pid u.part u.node.state.volatile.role b j).role) comes.from (promise_comes u.node.pid u.part u.node.state.volatile.role b j may.1 here))

  later_then : (w u t : World) → Later w u → Later u t → Later w t
  later_then w u t x y =
      record {
        up = y.up;
        keeps = λ q m. keeps_then (node_at w.nodes q) (node_at u.nodes q) (node_at t.nodes q) (x.keeps q m) (y.keeps q m);
        heads = λ q m h. y.heads q m (x.heads q m h);
        role = λ C told q m kept still h.
            let first : Ballot = (part_of (node_at w.nodes q)).promised in
            let mid : Ballot = (part_of (node_at u.nodes q)).promised in
            let same : mid ≡ first = same_ballot mid first (subst (AtMost mid) still (y.keeps q m).promise) (x.keeps q m).promise in
            y.role C told q m kept (still ∙ sym same) (x.role C told q m kept same h);
        holds = λ P low h. y.holds P low (x.holds P low h);
      }

  -- all that comes behind the heartbeats of a round
  pub behind_run : (hs : List Happening) (w : World) → Standing w → AllComeBehind group links w hs → After w (run_of w hs)
  behind_run [] w k may = record { standing = k; later = same_nodes w w k refl }
  behind_run (h ∷ hs) w k may =
      let u : World = world_after w h in
      let x = one_more w k h may.0 in
      let y = behind_run hs u x.standing may.1 in
      record { standing = y.standing; later = later_then w u (run_of u hs) x.later y.later }

  -- what comes at one of them is done
  done_here : (w : World) (h : Happening) (q : ℕ) → IsOneOf group q → (d : Doing) → deed_of w.messages h.event.what ≡ Some (record { pid = q; doing = d }) → IsElsewhere group (deed_of w.messages h.event.what) ⊎ ((h.fate ≡ Done) × IsHarmless links w h.event.what) → h.fate ≡ Done
  done_here w h q m d comes (inl e) = absurd (true≢false (sym m ∙ subst (IsElsewhere group) comes e))
  done_here w h q m d comes (inr x) = x.0

  -- whom a Prepare reaches has promised that ballot then, or one above it
  pub asked_run : (b : Ballot) (s q : ℕ) → IsOneOf group q → (hs : List Happening) (w : World) → Standing w → AllComeBehind group links w hs → ComesBy (λ v h. PrepareComes b s q v h) w hs → AtMost b (part_of (node_at (run_of w hs).nodes q)).promised
  asked_run b s q m [] w k may asked = absurd asked
  asked_run b s q m (h ∷ hs) w k may (inl asked) =
      let u : World = world_after w h in
      let x = one_more w k h may.0 in
      let y = behind_run hs u x.standing may.1 in
      at_most_then b (part_of (node_at u.nodes q)).promised (part_of (node_at (run_of u hs).nodes q)).promised
      (asked_promises w k h b s q m asked (may.0).0 (done_here w h q m (Steps (input.Deliver s (prepare_of asked.asking))) asked.comes (may.0).1)) ((y.later).keeps q m).promise
  asked_run b s q m (h ∷ hs) w k may (inr asked) = asked_run b s q m hs (world_after w h) (one_more w k h may.0).standing may.1 asked

  -- what is promised first and last is promised between
  between : (w u t : World) → Later w u → Later u t → (b : Ballot) (s : ℕ) → IsOneOf group s → (part_of (node_at w.nodes s)).promised ≡ b → (part_of (node_at t.nodes s)).promised ≡ b → (part_of (node_at u.nodes s)).promised ≡ b
  between w u t x y b s m first last =
      same_ballot (part_of (node_at u.nodes s)).promised b (subst (AtMost (part_of (node_at u.nodes s)).promised) last (y.keeps s m).promise) (subst (λ (c : Ballot). AtMost c (part_of (node_at u.nodes s)).promised) first (x.keeps s m).promise)

  -- whose Promise reaches who prepares or leads the ballot that it has promised has its promise kept, where that stays promised
  pub told_run : (b : Ballot) (q s : ℕ) → IsOneOf group s → (hs : List Happening) (w : World) → Standing w → AllComeBehind group links w hs → ComesBy (λ v h. PromiseComes b q s v h) w hs
      → (part_of (node_at w.nodes s)).promised ≡ b → (part_of (node_at (run_of w hs).nodes s)).promised ≡ b → RoleIn (only b) (memory_of (node_at w.nodes s)).role → RoleIn (keeping q b) (memory_of (node_at (run_of w hs).nodes s)).role
  told_run b q s m [] w k may comes first last head = absurd comes
  told_run b q s m (h ∷ hs) w k may (inl told) first last head =
      let u : World = world_after w h in
      let x = one_more w k h may.0 in
      let y = behind_run hs u x.standing may.1 in
      (y.later).role (keeping q b) (λ _. tt) s m (keeping_kept q b s members) (last ∙ sym (between w u (run_of u hs) x.later y.later b s m first last))
      (told_keeps w k h b q s m told (may.0).0 (done_here w h s m (Steps (input.Deliver (told.told).from (promise_of_ballot b told.told))) told.comes (may.0).1) head)
  told_run b q s m (h ∷ hs) w k may (inr later) first last head =
      let u : World = world_after w h in
      let x = one_more w k h may.0 in
      let y = behind_run hs u x.standing may.1 in
      let mid : (part_of (node_at u.nodes s)).promised ≡ b = between w u (run_of u hs) x.later y.later b s m first last in
      told_run b q s m hs u x.standing may.1 later mid last ((x.later).role (only b) (λ _. tt) s m (only_kept b s members) (mid ∙ sym first) head)
