-- After every run each observer stands, what it was told is true, and none falls.
use Rattle.std.proofs.Common.{◌≡◌, ℕ, zero, suc, List, [], ◌∷◌, ◌++◌, length, take, Option, Some, None, refl, sym, ap, subst, slice_get, All}
use Rattle.op_types.specs.Ranges.{MembersInRange}
use Rattle.op_types.specs.declared.durable.Durable.{Durable}
use Rattle.op_types.specs.declared.log.Entry.{Entry}
use Rattle.op_spec.specs.Machine.{Machine}
use Rattle.op_spec.specs.Laws.{NoneAfterStop}
use Rattle.op_spec.specs.Stands.{Stands}
use Rattle.op_runs.specs.World.{Node, Sent, World, Happening, world_after}
use Rattle.op_runs.specs.Possible.{SparesInRange, HappeningsInRange}
use Rattle.op_runs.specs.Run.{Execution, ServesDecided, first_execution, execution_with, execution_of}
use Rattle.op_configurations.specs.Worlds.{Happening as PureHappening}
use Rattle.op_configurations.proofs.Standing.{safe}
use Rattle.op_refinement.proofs.View.{Each}
use Rattle.op_refinement.proofs.NodeLists.{All-each, Each-map}
use Rattle.op_refinement.proofs.Worlds.{lists_of, grows_of}
use Rattle.op_refinement.proofs.Beside.{NodeRel}
use Rattle.op_refinement.proofs.Runs.{Track, node_stands}
use Rattle.op_refinement.proofs.EveryRun.{every_track}
use Rattle.op_watch_laws.specs.Laws.{NoneFalls, ObserverStands, IsShownTrue, EveryObserverStands, EveryShownIsTrue, NoObserverFalls}
use Rattle.op_watch_laws.proofs.Lists.{Grown}
use Rattle.op_watch_laws.proofs.Ended.{can_show}
use Rattle.op_watch_laws.proofs.Told.{told_grows, told_true}
use Rattle.op_watch_laws.proofs.Nodes.{NodeKept, node_on}
use Rattle.op_watch_laws.proofs.Worlds.{SentTold, WorldKept, NodeShows, each_on}
use Rattle.op_watch_laws.proofs.Moments.{Kept, happening_keeps}

-- ---- lists of happenings

pub one_more : (t : Execution) (xs : List Happening) (h : Happening) → execution_of t (xs ++ h ∷ []) ≡ execution_with (execution_of t xs) h
one_more t [] h = refl
one_more t (x ∷ xs) h = one_more (execution_with t x) xs h

none_some : {A : Type 0} (a : A) → None ≡ Some a → ⊥
none_some a e = cc

some_none : {A : Type 0} (a : A) → Some a ≡ None → ⊥
some_none a e = cc

some_same : {A : Type 0} (a b : A) → Some a ≡ Some b → a ≡ b
some_same a b e = cc

take_more : {A : Type 0} (hs : List A) (j : ℕ) (h : A) → slice_get hs j ≡ Some h → take (suc j) hs ≡ take j hs ++ h ∷ []
take_more [] j h e = absurd (none_some h e)
take_more (x ∷ hs) zero h e = ap (λ y. y ∷ []) (some_same x h e)
take_more (x ∷ hs) (suc j) h e = ap (λ l. x ∷ l) (take_more hs j h e)

take_over : {A : Type 0} (hs : List A) (j : ℕ) → slice_get hs j ≡ None → take (suc j) hs ≡ take j hs
take_over [] zero e = refl
take_over [] (suc j) e = refl
take_over (x ∷ hs) zero e = absurd (some_none x e)
take_over (x ∷ hs) (suc j) e = ap (λ l. x ∷ l) (take_over hs j e)

-- ---- what is kept, as lists grow

world_on : (first : List ℕ) (lists lists' : ℕ → List Entry) → Grown lists lists' → (w : World) → WorldKept first lists w → WorldKept first lists' w
world_on first lists lists' g w k = record {
  members = k.members;
  observers = each_on (NodeKept first lists) (NodeKept first lists') w.observers (λ n x. node_on first lists lists' g n x) k.observers;
  told = each_on (SentTold first lists) (SentTold first lists') w.messages (λ s x. told_grows first lists lists' g s.message.conf s.message.body x) k.told;
}

module _ (members spares : List ℕ) (m : MembersInRange members) (s : SparesInRange members spares) (hs : List Happening) (k : HappeningsInRange hs) where
  track : Track members (first_execution members spares) hs
  track = every_track members spares m s [] hs k

  abbrev moment : ℕ → Execution
  moment j = execution_of (first_execution members spares) (take j hs)

  abbrev lists : ℕ → ℕ → List Entry
  lists j = lists_of members (track.ks j)

  ends : (j c : ℕ) → NoneAfterStop (lists j c)
  ends j = (safe members (track.ks j)).after_stop

  shows : (j : ℕ) → Each (NodeShows members (lists j)) (moment j).world.nodes
  shows j =
      Each-map (NodeRel members (track.ks j) (moment j).world.messages) (NodeShows members (lists j))
      (λ n r. record { stands = node_stands members (track.ks j) (moment j).world.messages n r; can = can_show members (track.ks j) (moment j).world.messages n r })
      (moment j).world.nodes (track.beside j).nodes

  -- what any happening leaves then
  keeps : (j : ℕ) (h : Happening) → WorldKept members (lists j) (moment j).world → Kept members (lists j) (ends j) (track.read j) (moment j).world (world_after (moment j).world h)
  keeps j h kept = happening_keeps members (lists j) (ends j) (track.read j) (moment j).world h kept (shows j)

  kept_at : (j : ℕ) → WorldKept members (lists j) (moment j).world
  kept_at zero = record { members = refl; observers = tt; told = tt }
  kept_at (suc j) = by (slice_get hs j) refl (kept_at j)
    where
      by : (o : Option Happening) → slice_get hs j ≡ o → WorldKept members (lists j) (moment j).world → WorldKept members (lists (suc j)) (moment (suc j)).world
      by None e kept =
          subst (λ (l : List Happening). WorldKept members (lists (suc j)) (execution_of (first_execution members spares) l).world) (sym (take_over hs j e))
          (subst (λ (ks : List PureHappening). WorldKept members (lists_of members ks) (moment j).world) (sym (track.over j e)) kept)
      by (Some h) e kept =
          let next = track.next j h e in
          let grown : Grown (lists j) (lists_of members (track.ks j ++ next.0)) =
          record { more = λ c. grows_of members (track.ks j) next.0 c; ends = (safe members (track.ks j ++ next.0)).after_stop } in
          subst (λ (l : List Happening). WorldKept members (lists (suc j)) (execution_of (first_execution members spares) l).world) (sym (take_more hs j h e))
          (subst (λ (t : Execution). WorldKept members (lists (suc j)) t.world) (sym (one_more (first_execution members spares) (take j hs) h))
          (subst (λ (ks : List PureHappening). WorldKept members (lists_of members ks) (world_after (moment j).world h)) (sym next.1)
          (world_on members (lists j) (lists_of members (track.ks j ++ next.0)) grown (world_after (moment j).world h) (keeps j h kept).kept)))

  all_of : moment (length hs) ≡ execution_of (first_execution members spares) hs
  all_of = ap (execution_of (first_execution members spares)) (Rattle.std.proofs.Math.Seq.take-length hs)

  machine_is : (moment (length hs)).machine.lists ≡ lists (length hs)
  machine_is = ap (λ (x : Machine). x.lists) (track.beside (length hs)).machine

  observer_stands : (l : ℕ → List Entry) (n : Node) → NodeKept members l n → ObserverStands members l n
  observer_stands l n x =
      let a = x.state in
      record {
        watches = record { part = a.part; alone = a.is; promised = (a.kept).promised; accepted = (a.kept).accepted; decided = (a.kept).decided };
        stands = subst (Stands members l) (sym a.is) (record { part = (a.kept).stands; closed = tt; joining = tt });
        serves = subst (λ (d : Durable). ServesDecided l d.part n.state.service) (sym a.is) a.serves;
      }

  stands_now : All (ObserverStands members (moment (length hs)).machine.lists) (moment (length hs)).world.observers
  stands_now =
      subst (λ (l : ℕ → List Entry). All (ObserverStands members l) (moment (length hs)).world.observers) (sym machine_is)
      (All-each (ObserverStands members (lists (length hs))) (moment (length hs)).world.observers
      (each_on (NodeKept members (lists (length hs))) (ObserverStands members (lists (length hs))) (moment (length hs)).world.observers (observer_stands (lists (length hs))) (kept_at (length hs)).observers))

  told_now : All (λ (x : Sent). IsShownTrue members (moment (length hs)).machine.lists x.message.conf x.message.body) (moment (length hs)).world.messages
  told_now =
      subst (λ (l : ℕ → List Entry). All (λ (x : Sent). IsShownTrue members l x.message.conf x.message.body) (moment (length hs)).world.messages) (sym machine_is)
      (All-each (λ (x : Sent). IsShownTrue members (lists (length hs)) x.message.conf x.message.body) (moment (length hs)).world.messages
      (each_on (SentTold members (lists (length hs))) (λ (x : Sent). IsShownTrue members (lists (length hs)) x.message.conf x.message.body) (moment (length hs)).world.messages
      (λ x y. told_true members (lists (length hs)) x.message.conf x.message.body y) (kept_at (length hs)).told))

-- after every run
pub every_observer_stands : EveryObserverStands
every_observer_stands members spares m s hs k =
    subst (λ (t : Execution). All (ObserverStands members t.machine.lists) t.world.observers) (all_of members spares m s hs k) (stands_now members spares m s hs k)

pub every_shown_is_true : EveryShownIsTrue
every_shown_is_true members spares m s hs k =
    subst (λ (t : Execution). All (λ (x : Sent). IsShownTrue members t.machine.lists x.message.conf x.message.body) t.world.messages) (all_of members spares m s hs k) (told_now members spares m s hs k)

pub no_observer_falls : NoObserverFalls
no_observer_falls members spares m s hs h k =
    subst (λ (t : Execution). NoneFalls t.world.observers (world_after t.world h).observers) (all_of members spares m s hs k)
    (keeps members spares m s hs k (length hs) h (kept_at members spares m s hs k (length hs))).falls

-- what is kept of the world after every run
pub every_world_is_kept : (members spares : List ℕ) → MembersInRange members → SparesInRange members spares → (hs : List Happening) → HappeningsInRange hs
    → (ls : ℕ → List Entry) × WorldKept members ls (execution_of (first_execution members spares) hs).world
every_world_is_kept members spares m s hs k =
    subst (λ (t : Execution). (ls : ℕ → List Entry) × WorldKept members ls t.world) (all_of members spares m s hs k) (lists members spares m s hs k (length hs), kept_at members spares m s hs k (length hs))
