-- What holds in each world that a run comes to, of the nodes in it; and the laws of ballots there.
use Rattle.std.proofs.Common.{◌≡◌, ◌<◌, ◌≤◌, ℕ, List, [], ◌∷◌, ◌++◌, All, Option, Some, None, refl, sym, subst, arith, append-nil, append_assoc}
use Rattle.std.proofs.lemmas.List.Elements.{All-nil, All-cons, All-head, All-tail}
use Rattle.op_types.specs.declared.durable.Joining.{Joining as StoredJoining}
use Rattle.op_protocol.specs.Configurations.{latest_of}
use Rattle.op_runs.specs.Possible.{WhatInRange, proposals_in}
use Rattle.op_runs.specs.World.{World, Node, Sent, Happening, first_world, world_after, run_of}
use Rattle.op_runs.specs.Run.{Execution, first_execution, execution_with, execution_of}
use Rattle.op_configurations.specs.Servers.{Joining}
use Rattle.op_configurations.specs.Worlds as worlds
use Rattle.op_configurations.specs.Stored.{HoldsIfJoining}
use Rattle.op_configurations.proofs.Latest.{joins_above}
use Rattle.op_refinement.proofs.Worlds.{lists_of, state_of}
use Rattle.op_refinement.proofs.Beside.{NodeRel}
use Rattle.op_refinement.proofs.NodeLists.{Each-map}
use Rattle.op_refinement.proofs.Runs.{latest_is}
use Rattle.op_refinement.proofs.EveryRun.{every_run_is_beside}
use Rattle.op_laws.specs.Runs.{RunInRange}
use Rattle.op_laws.specs.Elected.{ElectedRise}
use Rattle.op_laws.specs.Led.{LedOnce}
use Rattle.op_laws.proofs.Moves.{JoiningIsAbove}
use Rattle.op_laws.proofs.Elections.{AllJoinAbove, JoinAboveAll, rise}
use Rattle.op_laws.proofs.Leads.{once}

-- ---- runs, one after the other

-- the world of an execution is the run's
pub world_of_run : (t : Execution) (hs : List Happening) → (execution_of t hs).world ≡ run_of t.world hs
world_of_run t [] = refl
world_of_run t (h ∷ hs) = world_of_run (execution_with t h) hs

pub run_append : (w : World) (early late : List Happening) → run_of w (early ++ late) ≡ run_of (run_of w early) late
run_append w [] late = refl
run_append w (h ∷ early) late = run_append (world_after w h) early late

pub execution_append : (t : Execution) (early late : List Happening) → execution_of t (early ++ late) ≡ execution_of (execution_of t early) late
execution_append t [] late = refl
execution_append t (h ∷ early) late = execution_append (execution_with t h) early late

-- ---- a front of a run in range is in range

fewer : (early late : List Happening) → proposals_in early ≤ proposals_in (early ++ late)
fewer [] late = omega arith
fewer (h ∷ early) late = omega (arith, fewer early late)

each_front : (early late : List Happening) → All (λ h. WhatInRange h.event.what) (early ++ late) → All (λ h. WhatInRange h.event.what) early
each_front [] late k = All-nil (λ h. WhatInRange h.event.what)
each_front (h ∷ early) late k =
    All-cons (λ x. WhatInRange x.event.what) h early (All-head (λ x. WhatInRange x.event.what) h (early ++ late) k)
    (each_front early late (All-tail (λ x. WhatInRange x.event.what) h (early ++ late) k))

pub front_in_range : (members spares : List ℕ) (early late : List Happening) → RunInRange members spares (early ++ late) → RunInRange members spares early
front_in_range members spares early late k =
    record { first = k.first; others = k.others; happenings = record { few = omega (arith, fewer early late, (k.happenings).few); each = each_front early late (k.happenings).each } }

-- ---- what nodes join

pub joining_above : (first : List ℕ) (ks : List worlds.Happening) (messages : List Sent) (n : Node) → NodeRel first ks messages n → JoiningIsAbove n.state.durable
joining_above first ks messages n k j e = by (state_of first ks n.pid).joining refl (subst (λ (o : Option StoredJoining). HoldsIfJoining (lists_of first ks) o (state_of first ks n.pid).joining) e (k.rel).joining)
  where
    by : (o : Option Joining) → (state_of first ks n.pid).joining ≡ o → HoldsIfJoining (lists_of first ks) (Some j) o → latest_of n.state.durable < j.conf
    by None h x = absurd x
    by (Some i) h x = omega (arith, latest_is first ks messages n k, joins_above first ks n.pid i h, x.conf)

pub reached_above : (members spares : List ℕ) (hs : List Happening) → RunInRange members spares hs → AllJoinAbove (run_of (first_world members spares) hs)
reached_above members spares hs k =
    let r = every_run_is_beside members spares k.first k.others hs k.happenings in
    let t : Execution = execution_of (first_execution members spares) hs in
    subst AllJoinAbove (world_of_run (first_execution members spares) hs)
    (Each-map (NodeRel members r.0 t.world.messages) (λ n. JoiningIsAbove n.state.durable) (λ n x. joining_above members r.0 t.world.messages n x) t.world.nodes (r.1).nodes)

pub all_above : (members spares : List ℕ) (early late : List Happening) → RunInRange members spares (early ++ late) → JoinAboveAll (run_of (first_world members spares) early) late
all_above members spares early [] k = reached_above members spares early (subst (RunInRange members spares) (append-nil early) k)
all_above members spares early (h ∷ late) k = (
  reached_above members spares early (front_in_range members spares early (h ∷ late) k),
  subst (λ (w : World). JoinAboveAll w late) (run_append (first_world members spares) early (h ∷ []))
      (all_above members spares (early ++ h ∷ []) late (subst (RunInRange members spares) (sym (append_assoc early (h ∷ []) late)) k)),
)

-- ---- ballots

pub elected_rise : ElectedRise
elected_rise members spares m k pid conf a b done ea never eb =
    let above = all_above members spares m.early (m.first ∷ m.between) k in
    rise (run_of (first_world members spares) m.early) m.first m.between m.second pid conf a b above.0 above.1 done ea never eb

pub led_once : LedOnce
led_once members spares m k pid conf a b stored la lb =
    let above = all_above members spares m.early (m.first ∷ m.between) k in
    once a conf (run_of (first_world members spares) m.early) m.first m.between m.second pid b above.0 above.1 stored la lb
