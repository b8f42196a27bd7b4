-- No observer has the id of a node.
use Rattle.std.proofs.Common.{◌≡◌, ℕ, false, nat_eq, List, sym, ◌∙◌, subst, All}
use Rattle.std.specs.Set.{is_member}
use Rattle.std.proofs.lemmas.Bool.{false≢true, false_from_ne_true}
use Rattle.std.proofs.lemmas.List.Elements.{All-weaker}
use Rattle.op_types.specs.Ranges.{IsMember}
use Rattle.op_runs.specs.World.{Node, World, node_ids, first_world, run_of}
use Rattle.op_runs.specs.Run.{first_execution}
use Rattle.op_runs.proofs.Servers.{all_at, all_named, of_ids, none_found, IsFree, AreApart, run_is_apart}
use Rattle.op_laws.proofs.Reached.{world_of_run}
use Rattle.op_watch_laws.specs.Laws.{IsApart, EveryObserverIsApart}

module _ (members spares : List ℕ) (w : World) (a : AreApart (node_ids members spares) w) where
  abbrev ids : List ℕ
  ids = node_ids members spares

  is_apart : (n : Node) → IsFree ids n.pid → IsApart members w n
  is_apart n free = record {
    some = free.0;
    no_node = none_found w.nodes n.pid (subst (λ (l : List ℕ). is_member nat_eq l n.pid ≡ false) (sym a.nodes) free.1);
    no_member = false_from_ne_true (is_member nat_eq members n.pid) (λ one. false≢true (sym free.1 ∙ all_at (IsMember ids) members n.pid (all_named members spares).0 one));
  }

  all_apart : All (IsApart members w) w.observers
  all_apart = All-weaker (λ (n : Node). IsFree ids n.pid) (IsApart members w) is_apart w.observers (of_ids (IsFree ids) w.observers a.observers)

pub every_observer_is_apart : EveryObserverIsApart
every_observer_is_apart members spares m s hs k =
    subst (λ (w : World). All (IsApart members w) w.observers) (sym (world_of_run (first_execution members spares) hs))
    (all_apart members spares (run_of (first_world members spares) hs) (run_is_apart members spares hs k.each))
