-- The lists once observers have begun: nothing is in them.
use Rattle.std.proofs.Common.{◌≡◌, ℕ, nat_eq, eqb, List, [], ◌∷◌, map, Option, Some, None, All, refl, ap, ◌∙◌}
use Rattle.std.proofs.lemmas.Bool.{cond-false, eq-eqb, ne_eqb, or_left, or_right}
use Rattle.std.proofs.lemmas.List.Elements.{All-head, All-tail}
use Rattle.std.specs.Set.{is_member}
use Rattle.op_types.specs.Ranges.{IsMember}
use Rattle.op_types.specs.declared.log.Entry.{Entry}
use Rattle.op_runs.specs.Possible.{ObserversInRange}
use Rattle.op_runs.specs.Run.{Execution, first_execution, execution_with, execution_of, machine_proposing_by}
use Rattle.op_runs.specs.Schedules.{beginning, observers_begun}
use Rattle.op_runs.specs.World.{World, Node, Happening, Opens, deed_of, done_event, first_node, first_world, node_at, node_ids, world_after, world_at_node}
use Rattle.op_laws.specs.Runs.{RunInRange}
use Rattle.op_refinement.proofs.EveryRun.{every_run_meets}
use Rattle.op_executions.proofs.ServerIds.{beside}
use Rattle.op_executions.specs.Laws.{reached}
use Rattle.op_world.proofs.Ledgers.{HaveNoMore, none_shows, proposing_lists, shown_list, showing_list, sound_no_more}

-- no node has an id that none of these is
none_first : (members : List ℕ) (q : ℕ) (ids : List ℕ) → All (λ n. n ≡ q → ⊥) ids → node_at (map (first_node members) ids) q ≡ None
none_first members q [] each = refl
none_first members q (i ∷ ids) each =
    cond-false (eqb i q) (Some (first_node members i)) (node_at (map (first_node members) ids) q) (ne_eqb i q (All-head (λ (n : ℕ). n ≡ q → ⊥) i ids each))
    ∙ none_first members q ids (All-tail (λ (n : ℕ). n ≡ q → ⊥) i ids each)

module _ (members spares : List ℕ) (none : (conf : ℕ) → HaveNoMore conf [] (first_world members spares).nodes) where
  abbrev first : World
  first = first_world members spares

  -- no beginning of an observer changes a list
  lists_stay : (observers : List ℕ) (t : Execution) → ((q : ℕ) → IsMember observers q → node_at first.nodes q ≡ None) → t.world.nodes ≡ first.nodes → ((conf : ℕ) → t.machine.lists conf ≡ [])
      → (conf : ℕ) → (execution_of t (observers_begun observers)).machine.lists conf ≡ []
  lists_stay [] t away nodes empty conf = empty conf
  lists_stay (q ∷ observers) t away nodes empty conf =
      let h : Happening = done_event (beginning q) in
      let no_node : node_at t.world.nodes q ≡ None = ap (λ (ns : List Node). node_at ns q) nodes ∙ away q (or_left _ (is_member nat_eq observers q) (eq-eqb q q refl)) in
      let stays : (world_after t.world h).nodes ≡ first.nodes = ap (λ (o : Option Node). (world_at_node o Opens h t.world).nodes) no_node ∙ nodes in
      let still : (c : ℕ) → (execution_with t h).machine.lists c ≡ [] =
      λ c.
      showing_list c (machine_proposing_by t.machine t.world.nodes (deed_of t.world.messages h.event.what)) (world_after t.world h).nodes
      ∙ ap (λ (f : ℕ → List Entry). shown_list c (f c) (world_after t.world h).nodes) (proposing_lists t.machine t.world.nodes (deed_of t.world.messages h.event.what))
      ∙ ap (λ (l : List Entry). shown_list c l (world_after t.world h).nodes) (empty c)
      ∙ ap (λ (ns : List Node). shown_list c [] ns) stays
      ∙ none_shows c [] first.nodes (none c) in
      lists_stay observers (execution_with t h) (λ p m. away p (or_right _ (is_member nat_eq observers p) m)) stays still conf

-- so nothing is listed once all have begun
pub lists_begun : (members spares observers : List ℕ) → RunInRange members spares (observers_begun observers) → ObserversInRange members spares observers → (conf : ℕ) → (reached members spares (observers_begun observers)).machine.lists conf ≡ []
lists_begun members spares observers range o conf =
    let meets = every_run_meets members spares range.first range.others (observers_begun observers) range.happenings in
    lists_stay members spares (λ c. sound_no_more members (first_execution members spares) meets.0 c) observers (first_execution members spares)
    (λ q m. none_first members q (node_ids members spares) (beside members spares observers range.first range.others o q m)) refl (λ c. refl) conf
