-- A run of happenings, one after the other.
use Rattle.std.proofs.Common.{◌≡◌, ℕ, suc, Bool, true, false, ◌+◌, ◌<◌, List, [], ◌∷◌, ◌++◌, length, Option, Some, None, All, sym, ap, subst, ◌∙◌, refl, inl, inr, arith}
use Rattle.std.proofs.lemmas.List.Elements.{All-nil, All-cons, All-head, All-tail, All-append}
use Rattle.op_types.specs.Ranges.{IsMember, MembersInRange}
use Rattle.op_runs.specs.declared.events.Event.{Event}
use Rattle.op_runs.specs.Possible.{Named, ObserversInRange, is_possible, is_possible_in, most_proposals, named_ids, proposals_in, proposals_of, SparesInRange, WhatInRange}
use Rattle.op_runs.specs.Schedules.{beginning, observers_begun, started_world}
use Rattle.op_runs.specs.World.{World, Sent, Fate, Deed, done_event, first_world, world_after, world_with, run_of}
use Rattle.op_runs.specs.World as runs
use Rattle.op_bounds.specs.Laws.{WhatNames}
use Rattle.op_laws.proofs.Reached.{run_append}
use Rattle.op_lockstep.specs.Reach.{IsNoStop, ProposeNoStop}
use Rattle.op_lockstep.proofs.Reached.{every_lockstep_reaches}
use Rattle.op_executions.proofs.Behind.{Fit, behind_in_range, behind_owns}
use Rattle.op_executions.proofs.Deeds.{names_of}
use Rattle.op_executions.proofs.Laws as every
use Rattle.op_pure.specs.declared.happening.Foretold.{Foretold}
use Rattle.op_pure.specs.declared.happening.Happening.{Happening}
use Rattle.op_pure.specs.Happenings.{fate_of, happening_of, happenings_of, CanHappenFrom, IsFirstBadFrom, CanHappen, IsFirstBad}
use Rattle.op_pure.specs.Runs.{KeepsTheLaws}
use Rattle.op_types.specs.Changes.{empty_durable}
use Rattle.op_executions.specs.Worlds.{Shows, Happened, HappenedAt, named_of}
use Rattle.op_executions.specs.declared.world.ServerWorld.{ServerWorld}
use Rattle.op_pure.specs.declared.node.PureNode.{PureNode}
use Rattle.op_pure.specs.declared.node.Status.TheVariants as status
use Rattle.op_pure.specs.Nodes.{pure_nodes}

-- ---- the happenings that are left

-- what a run of the happenings that are left says of the whole run, where so many came before, and so much was proposed
pub record Continues (members spares observers : List ℕ) (w : World) (left all : List Happening) (index proposed : ℕ) : Type 0 where
  pub ran : run_of w (happenings_of left) ≡ run_of (first_world members spares) (observers_begun observers ++ happenings_of all)
  pub possible : CanHappenFrom (named_ids members spares observers) w (happenings_of left) → CanHappen members spares observers (happenings_of all)
  pub bad : (i : ℕ) → IsFirstBadFrom (named_ids members spares observers) w (happenings_of left) i → IsFirstBad members spares observers (happenings_of all) (index + i)
  pub range : All (λ h. WhatInRange h.event.what) left
  pub size : index + length left ≡ length all
  pub counted : proposed + proposals_in (happenings_of left) ≡ proposals_in (happenings_of all)
  pub few : proposed < most_proposals

pub continues_first : (members spares observers : List ℕ) (left all : List Happening) (proposed : ℕ) → left ≡ all → All (λ h. WhatInRange h.event.what) all → proposed ≡ 0 → Continues members spares observers (started_world members spares observers) left all 0 proposed
continues_first members spares observers left all proposed same range none =
    record {
      ran = ap (λ (hs : List Happening). run_of (started_world members spares observers) (happenings_of hs)) same ∙ sym (run_append (first_world members spares) (observers_begun observers) (happenings_of all));
      possible = λ can. subst (λ (hs : List Happening). CanHappen members spares observers (happenings_of hs)) same can;
      bad = λ i bad. let whole : i ≡ 0 + i = omega arith in
          subst (λ (j : ℕ). IsFirstBad members spares observers (happenings_of all) j) whole (subst (λ (hs : List Happening). IsFirstBad members spares observers (happenings_of hs) i) same bad);
      range = subst (λ (hs : List Happening). All (λ h. WhatInRange h.event.what) hs) (sym same) range;
      size = let long : length left ≡ length all = ap length same in omega (arith, long);
      counted = let whole : proposals_in (happenings_of left) ≡ proposals_in (happenings_of all) = ap (λ (hs : List Happening). proposals_in (happenings_of hs)) same in omega (arith, whole, none);
      few = omega (arith, none);
    }

pub continues_next : (members spares observers : List ℕ) (w : World) (left rest all : List Happening) (h : Happening) (index proposed more : ℕ) → Continues members spares observers w left all index proposed → left ≡ h ∷ rest
    → is_possible_in (named_ids members spares observers) w h.event ≡ true → more ≡ proposed + proposals_of h.event.what → more < most_proposals → Continues members spares observers (world_after w (happening_of h)) rest all (index + 1) more
continues_next members spares observers w left rest all h index proposed more c first can sum few =
    record {
      ran = ap (λ (hs : List Happening). run_of w (happenings_of hs)) (sym first) ∙ c.ran;
      possible = λ later. c.possible (subst (λ (hs : List Happening). CanHappenFrom (named_ids members spares observers) w (happenings_of hs)) (sym first) (can, later));
      bad = λ i bad.
          let same : index + suc i ≡ index + 1 + i = omega arith in
          subst (λ (j : ℕ). IsFirstBad members spares observers (happenings_of all) j) same
          (c.bad (suc i) (subst (λ (hs : List Happening). IsFirstBadFrom (named_ids members spares observers) w (happenings_of hs) (suc i)) (sym first) (inr (i, refl, can, bad))));
      range = All-tail (λ (g : Happening). WhatInRange g.event.what) h rest (subst (λ (hs : List Happening). All (λ g. WhatInRange g.event.what) hs) first c.range);
      size = let one : length left ≡ suc (length rest) = ap length first in let whole = c.size in omega (arith, one, whole);
      counted =
          let one : proposals_in (happenings_of left) ≡ proposals_of h.event.what + proposals_in (happenings_of rest) = ap (λ (hs : List Happening). proposals_in (happenings_of hs)) first in
          let whole = c.counted in
          omega (arith, one, whole, sum);
      few = few;
    }

pub range_next : (members spares observers : List ℕ) (w : World) (left rest all : List Happening) (h : Happening) (index proposed : ℕ) → Continues members spares observers w left all index proposed → left ≡ h ∷ rest → WhatInRange h.event.what
range_next members spares observers w left rest all h index proposed c first =
    All-head (λ (g : Happening). WhatInRange g.event.what) h rest (subst (λ (hs : List Happening). All (λ g. WhatInRange g.event.what) hs) first c.range)

pub bad_here : (members spares observers : List ℕ) (w : World) (left rest all : List Happening) (h : Happening) (index proposed : ℕ) → Continues members spares observers w left all index proposed → left ≡ h ∷ rest
    → is_possible_in (named_ids members spares observers) w h.event ≡ false → IsFirstBad members spares observers (happenings_of all) index
bad_here members spares observers w left rest all h index proposed c first cannot =
    let same : index + 0 ≡ index = omega arith in
    subst (λ (j : ℕ). IsFirstBad members spares observers (happenings_of all) j) same
    (c.bad 0 (subst (λ (hs : List Happening). IsFirstBadFrom (named_ids members spares observers) w (happenings_of hs) 0) (sym first) (inl (refl, cannot))))

-- ---- the end

pub ran_all : (members spares observers : List ℕ) (w : World) (left all : List Happening) (index proposed : ℕ) → Continues members spares observers w left all index proposed → left ≡ [] → w ≡ run_of (first_world members spares) (observers_begun observers ++ happenings_of all)
ran_all members spares observers w left all index proposed c none = ap (λ (hs : List Happening). run_of w (happenings_of hs)) (sym none) ∙ c.ran

all_in_range : (hs : List Happening) → All (λ h. WhatInRange h.event.what) hs → All (λ h. WhatInRange h.event.what) (happenings_of hs)
all_in_range [] k = All-nil (λ h. WhatInRange h.event.what)
all_in_range (h ∷ hs) k =
    All-cons (λ g. WhatInRange g.event.what) (happening_of h) (happenings_of hs) (All-head (λ (g : Happening). WhatInRange g.event.what) h hs k) (all_in_range hs (All-tail (λ (g : Happening). WhatInRange g.event.what) h hs k))

-- what can happen names servers, and stop-signs nodes
all_name : (ids : Named) (w : World) (hs : List runs.Happening) → CanHappenFrom ids w hs → All (λ h. WhatNames (IsMember ids.voters) (IsMember ids.servers) h.event.what) hs
all_name ids w [] can = All-nil (λ (h : runs.Happening). WhatNames (IsMember ids.voters) (IsMember ids.servers) h.event.what)
all_name ids w (h ∷ hs) can =
    All-cons (λ (g : runs.Happening). WhatNames (IsMember ids.voters) (IsMember ids.servers) g.event.what) h hs (names_of ids (length w.messages) h.event.what can.0) (all_name ids (world_after w h) hs can.1)

-- no beginning proposes a stop-sign
begun_quiet : (observers : List ℕ) → ProposeNoStop (observers_begun observers)
begun_quiet [] = All-nil (λ (h : runs.Happening). IsNoStop h.event.what)
begun_quiet (q ∷ observers) = All-cons (λ (h : runs.Happening). IsNoStop h.event.what) (done_event (beginning q)) (observers_begun observers) tt (begun_quiet observers)

pub keeps_the_laws : (members spares observers : List ℕ) → MembersInRange members → SparesInRange members spares → ObserversInRange members spares observers → (w : World) (left all : List Happening) (index proposed : ℕ)
    → All (λ h. WhatInRange h.event.what) all → Continues members spares observers w left all index proposed → left ≡ [] → KeepsTheLaws members spares observers (happenings_of all)
keeps_the_laws members spares observers m s o w left all index proposed range c none =
    let left_none : proposals_in (happenings_of left) ≡ 0 = ap (λ (hs : List Happening). proposals_in (happenings_of hs)) none in
    let can : CanHappen members spares observers (happenings_of all) =
    c.possible (subst (λ (hs : List Happening). CanHappenFrom (named_ids members spares observers) w (happenings_of hs)) (sym none) tt) in
    let fit : Fit members spares observers (happenings_of all) = record {
      each = all_in_range all range;
      name = all_name (named_ids members spares observers) (started_world members spares observers) (happenings_of all) can;
      few = omega (arith, left_none, c.counted, c.few);
    } in
    record {
      possible = can;
      laws = every.keeps_the_laws members spares (observers_begun observers ++ happenings_of all) (behind_in_range members spares observers m s o (happenings_of all) fit);
      owns = behind_owns members spares observers m s o (happenings_of all) fit;
      reaches = λ quiet. every_lockstep_reaches members spares m (observers_begun observers ++ happenings_of all)
          (All-append (λ (h : runs.Happening). IsNoStop h.event.what) (observers_begun observers) (happenings_of all) (begun_quiet observers) quiet);
    }

-- whether an event can come, as the code's world tells it
pub possible_seen : (ids : Named) (w : ServerWorld PureNode) (x : World) (e : Event) (b : Bool) → Shows pure_nodes w x → named_of w ≡ ids → is_possible (named_of w) (length w.messages.items) e.what ≡ b → is_possible_in ids x e ≡ b
possible_seen ids w x e b show same is =
    ap (λ (ms : List Sent). is_possible ids (length ms) e.what) show.messages ∙ ap (λ (ns : Named). is_possible ns (length w.messages.items) e.what) (sym same) ∙ is

-- what happened is what was foretold
pub happened_as : (x : World) (e : Event) (f : Foretold) (k : ℕ) (w new : ServerWorld PureNode) (h : Happened pure_nodes x e f k w new) → PureNode → h.happening ≡ record { event = e; fate = fate_of f.fate; finds_after = f.finds_after }
happened_as x e f k w new h any =
    let lets = h.lets any in
    ap (λ (z : Event). let g : runs.Happening = record { event = z; fate = h.happening.fate; finds_after = h.happening.finds_after } in g) h.event
    ∙ ap (λ (z : Fate). let g : runs.Happening = record { event = e; fate = z; finds_after = h.happening.finds_after } in g) lets.0
    ∙ ap (λ (b : Bool). let g : runs.Happening = record { event = e; fate = fate_of f.fate; finds_after = b } in g) lets.1

-- a node in place of one that isn't there
any_node : PureNode
any_node = record { pid = 0; observes = false; status = status.Down empty_durable [] }

pub shows_after : (x : World) (e : Event) (f : Foretold) (at : Option ℕ) (w new : ServerWorld PureNode) → Shows pure_nodes w x → HappenedAt pure_nodes x e f at w new
    → Shows pure_nodes new (world_after x (record { event = e; fate = fate_of f.fate; finds_after = f.finds_after }))
shows_after x e f None w new show h =
    let g : runs.Happening = record { event = e; fate = fate_of f.fate; finds_after = f.finds_after } in
    subst (λ (v : ServerWorld PureNode). Shows pure_nodes v (world_after x g)) (sym h.1) (subst (λ (y : World). Shows pure_nodes w y) (sym (ap (λ (o : Option Deed). world_with o g x) h.0)) show)
shows_after x e f (Some k) w new show h = subst (λ (g : runs.Happening). Shows pure_nodes new (world_after x g)) (happened_as x e f k w new h any_node) h.shows
