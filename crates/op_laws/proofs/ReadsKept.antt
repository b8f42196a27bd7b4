-- What holds of a node without reads, and is kept by each step, holds at every node of every run.
use Rattle.std.proofs.Common.{◌≡◌, ℕ, cond, eqb, List, [], ◌∷◌, Option, Some, None, refl, ap, ◌∙◌}
use Rattle.std.proofs.lemmas.Bool.{cond_both}
use Rattle.op_types.specs.declared.durable.Durable.{Durable}
use Rattle.op_types.specs.declared.events.Input.{Input}
use Rattle.op_protocol.specs.State.{State, state_after}
use Rattle.op_protocol.specs.Rows.{step_plan}
use Rattle.op_protocol.specs.Starting.{state_after_restart}
use Rattle.op_runs.specs.World.{World, Node, NodeStatus, Up, Down, Failed, Fate, Done, Stopped, Faulted, Happening, Doing, Steps, Stops, Opens, Tells, Deed, deed_of, node_at, first_node, first_world, node_ids, state_after_reopening, stored_by, world_by_fate, world_opening, world_reopening, world_by_status, world_at_node, world_with, world_after, run_of}
use Rattle.op_refinement.proofs.NodeLists.{IfThere, found}
use Rattle.op_laws.specs.Runs.{RunInRange}
use Rattle.op_laws.proofs.Moves.{JoiningIsAbove}
use Rattle.op_laws.proofs.Elections.{AllJoinAbove, JoinAboveAll, replaced}
use Rattle.op_laws.proofs.Reached.{all_above}

-- it holds of the node, where there is one
abbrev pub IfHolds : (ℕ → State → Type 0) → Option Node → Type 0
IfHolds P None = Unit {0}
IfHolds P (Some n) = P n.pid n.state

module _ (P : ℕ → State → Type 0) (steps : (me : ℕ) (s : State) (x : Input) → JoiningIsAbove s.durable → P me s → P me (state_after s (step_plan me s x))) (fresh : (me : ℕ) (s : State) → s.reads ≡ None → P me s) (pid : ℕ) where
  abbrev Holds : Option Node → Type 0
  Holds o = IfHolds P o

  fated : (w : World) (n : Node) (x : Input) (line : ℕ) (f : Fate) → node_at w.nodes n.pid ≡ Some n → JoiningIsAbove n.state.durable → Holds (node_at w.nodes pid) → Holds (node_at (world_by_fate f line w n x).nodes pid)
  fated w n x line Done at above k = replaced Holds w.nodes n (record n { state = state_after n.state (step_plan n.pid n.state x) }) pid at refl (λ e r. steps n.pid n.state x above r) k
  fated w n x line Stopped at above k = replaced Holds w.nodes n (record n { status = Down (stored_by n x) }) pid at refl (λ e r. r) k
  fated w n x line (Faulted count) at above k = replaced Holds w.nodes n (record n { status = Failed count (stored_by n x) }) pid at refl (λ e r. r) k

  -- an opening finds no reads
  opened : (w : World) (n : Node) (d : Durable) (f : Fate) → node_at w.nodes n.pid ≡ Some n → Holds (node_at w.nodes pid) → Holds (node_at (world_opening f w n d).nodes pid)
  opened w n d Done at k = replaced Holds w.nodes n (record n { state = state_after_restart n.pid d; status = Up }) pid at refl (λ e r. fresh n.pid (state_after_restart n.pid d) refl) k
  opened w n d Stopped at k = k
  opened w n d (Faulted count) at k = k

  reopened : (w : World) (n : Node) (after d : Durable) (f : Fate) → node_at w.nodes n.pid ≡ Some n → Holds (node_at w.nodes pid) → Holds (node_at (world_reopening f after w n d).nodes pid)
  reopened w n after d Done at k = replaced Holds w.nodes n (record n { state = state_after_reopening n.pid n.state d; status = Up }) pid at refl (λ e r. fresh n.pid (state_after_reopening n.pid n.state d) refl) k
  reopened w n after d Stopped at k = replaced Holds w.nodes n (record n { status = Down after }) pid at refl (λ e r. r) k
  reopened w n after d (Faulted count) at k = replaced Holds w.nodes n (record n { status = Failed count after }) pid at refl (λ e r. r) k

  by_status : (w : World) (n : Node) (d : Doing) (h : Happening) (s : NodeStatus) → node_at w.nodes n.pid ≡ Some n → JoiningIsAbove n.state.durable → Holds (node_at w.nodes pid) → Holds (node_at (world_by_status s d h w n).nodes pid)
  by_status w n (Steps x) h Up at above k = fated w n x h.event.line h.fate at above k
  by_status w n Stops h Up at above k = replaced Holds w.nodes n (record n { status = Down n.state.durable }) pid at refl (λ e r. r) k
  by_status w n Opens h Up at above k = k
  by_status w n (Tells told) h Up at above k = k
  by_status w n (Steps x) h (Down after) at above k = k
  by_status w n Stops h (Down after) at above k = k
  by_status w n Opens h (Down after) at above k = opened w n (cond h.finds_after after n.state.durable) h.fate at k
  by_status w n (Tells told) h (Down after) at above k = k
  by_status w n (Steps x) h (Failed count after) at above k = k
  by_status w n Stops h (Failed count after) at above k = replaced Holds w.nodes n (record n { status = Down after }) pid at refl (λ e r. r) k
  by_status w n Opens h (Failed count after) at above k = reopened w n after (cond h.finds_after after n.state.durable) h.fate at k
  by_status w n (Tells told) h (Failed count after) at above k = k

  there : (w : World) (q : ℕ) (d : Doing) (h : Happening) (o : Option Node) → node_at w.nodes q ≡ o → IfThere (λ n. JoiningIsAbove n.state.durable) q o → Holds (node_at w.nodes pid) → Holds (node_at (world_at_node o d h w).nodes pid)
  there w q d h None at is k = k
  there w q d h (Some n) at is k = by_status w n d h n.status (ap (node_at w.nodes) is.0 ∙ at) is.1 k

  by_deed : (w : World) (h : Happening) (o : Option Deed) → AllJoinAbove w → Holds (node_at w.nodes pid) → Holds (node_at (world_with o h w).nodes pid)
  by_deed w h None above k = k
  by_deed w h (Some d) above k = there w d.pid d.doing h (node_at w.nodes d.pid) refl (found (λ n. JoiningIsAbove n.state.durable) w.nodes above d.pid) k

  run_kept : (w : World) (hs : List Happening) → JoinAboveAll w hs → Holds (node_at w.nodes pid) → Holds (node_at (run_of w hs).nodes pid)
  run_kept w [] above k = k
  run_kept w (h ∷ hs) above k = run_kept (world_after w h) hs above.1 (by_deed w h (deed_of w.messages h.event.what) above.0 k)

  first_kept : (members ids : List ℕ) → Holds (node_at (Rattle.std.specs.Prelude.map (first_node members) ids) pid)
  first_kept members [] = tt
  first_kept members (q ∷ ids) = cond_both (eqb q pid) (Some (first_node members q)) (node_at (Rattle.std.specs.Prelude.map (first_node members) ids) pid) Holds (λ _. fresh q (first_node members q).state refl) (λ _. first_kept members ids)

  -- so it is after every run
  pub always : (members spares : List ℕ) (hs : List Happening) → RunInRange members spares hs → Holds (node_at (run_of (first_world members spares) hs).nodes pid)
  always members spares hs range = run_kept (first_world members spares) hs (all_above members spares [] hs range) (first_kept members (node_ids members spares))
