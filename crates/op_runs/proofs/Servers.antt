-- Which servers a world has: the ids of its nodes stay the same, and each observer has one that no node has.
use Rattle.std.proofs.Common.{◌≡◌, ◌<◌, ◌≤◌, ⊎_elim, ℕ, Bool, true, false, cond, eqb, ltb, nat_eq, ◌||◌, List, [], ◌∷◌, map, Option, Some, None, IfSome, refl, sym, ap, ◌∙◌, subst, arith, slice_get, All}
use Rattle.std.specs.Set.{is_member}
use Rattle.std.specs.Ordering.{nat_cmp, match_ordering}
use Rattle.std.specs.declared.cmp.Ordering.{Ordering}
use Rattle.std.specs.declared.cmp.Ordering.TheVariants.{Less, Equal, Greater}
use Rattle.std.specs.BTreeSet.{insert_key}
use Rattle.std.proofs.lemmas.Bool.{cond_both, false≢true, eqb-true, eqb-false, ne_eqb, or_from, or_parts, or_cases}
use Rattle.std.proofs.lemmas.Cmp.{nat_eq_equiv}
use Rattle.std.proofs.lemmas.Map.Made.{All-is_member}
use Rattle.std.proofs.lemmas.List.Elements.{All-nil, All-cons, All-head, All-tail}
use Rattle.op_types.specs.Ranges.{IsMember}
use Rattle.op_types.specs.declared.durable.Durable.{Durable}
use Rattle.op_types.specs.declared.events.Input.{Input}
use Rattle.op_protocol.specs.State.{State, state_after}
use Rattle.op_protocol.specs.Starting.{state_after_restart}
use Rattle.op_runs.specs.declared.events.What.{What}
use Rattle.op_runs.specs.declared.events.What.TheVariants as what
use Rattle.op_runs.specs.Possible.{WhatInRange}
use Rattle.op_runs.specs.World.{Kind, Votes, Observes, Sent, Node, NodeStatus, Up, Down, Failed, World, Fate, Done, Stopped, Faulted, Happening, Doing, Steps, Stops, Opens, Tells, Deed, first_node, first_observer, node_ids, first_world, delivery, deed_of, node_at, with_node, insert_node, plan_as, stored_as, world_with_as, world_by_fate_as, world_opened_as, world_opening_as, state_after_reopening, world_reopening_as, world_by_status_as, world_beginning, world_at_observer, world_observed, world_at_node, world_with, world_after, run_of}

-- ---- lists of ids

-- what holds of each holds of one of them
pub all_at : (P : ℕ → Type 0) (xs : List ℕ) (q : ℕ) → All P xs → is_member nat_eq xs q ≡ true → P q
all_at P [] q each one = absurd (false≢true one)
all_at P (x ∷ xs) q each one =
    ⊎_elim (λ (h : eqb q x ≡ true). subst P (sym (eqb-true q x h)) (All-head P x xs each)) (λ (h : is_member nat_eq xs q ≡ true). all_at P xs q (All-tail P x xs each) h) (or_cases (eqb q x) (is_member nat_eq xs q) one)

-- what holds of each after one is put at its place holds of each before, and of that one
put_back : (P : ℕ → Type 0) (ks : List ℕ) (k : ℕ) → All P (insert_key nat_cmp ks k) → All P ks × P k
put_back P [] k each = (All-nil P, All-head P k [] each)
put_back P (x ∷ ks) k each =
    cond_both (ltb k x) Less (cond (eqb k x) Equal Greater) (λ (o : Ordering). All P (match_ordering o (k ∷ x ∷ ks) (x ∷ ks) (x ∷ insert_key nat_cmp ks k)) → All P (x ∷ ks) × P k)
    (λ h e. (All-tail P k (x ∷ ks) e, All-head P k (x ∷ ks) e))
    (λ h. cond_both (eqb k x) Equal Greater (λ (o : Ordering). All P (match_ordering o (k ∷ x ∷ ks) (x ∷ ks) (x ∷ insert_key nat_cmp ks k)) → All P (x ∷ ks) × P k)
    (λ same e. (e, subst P (sym (eqb-true k x same)) (All-head P x ks e)))
    (λ other e. let r = put_back P ks k (All-tail P x (insert_key nat_cmp ks k) e) in (All-cons P x ks (All-head P x (insert_key nat_cmp ks k) e) r.0, r.1)))
    each

pub both_back : (P : ℕ → Type 0) (spares members : List ℕ) → All P (node_ids members spares) → All P members × All P spares
both_back P [] members each = (each, All-nil P)
both_back P (q ∷ spares) members each =
    let r = both_back P spares (insert_key nat_cmp members q) each in
    let b = put_back P members q r.0 in
    (b.0, All-cons P q spares b.1 r.1)

-- members and spares have the ids of nodes
pub all_named : (members spares : List ℕ) → All (IsMember (node_ids members spares)) members × All (IsMember (node_ids members spares)) spares
all_named members spares = both_back (IsMember (node_ids members spares)) spares members (All-is_member nat_eq_equiv (node_ids members spares))

-- ---- servers and their ids

abbrev pub ids_of : List Node → List ℕ
ids_of nodes = map (λ (n : Node). n.pid) nodes

-- what holds of each id
pub of_ids : (P : ℕ → Type 0) (nodes : List Node) → All P (ids_of nodes) → All (λ (n : Node). P n.pid) nodes
of_ids P [] each = All-nil (λ (n : Node). P n.pid)
of_ids P (n ∷ nodes) each = All-cons (λ (m : Node). P m.pid) n nodes (All-head P n.pid (ids_of nodes) each) (of_ids P nodes (All-tail P n.pid (ids_of nodes) each))

with_ids : (nodes : List Node) (m : Node) → ids_of (with_node nodes m) ≡ ids_of nodes
with_ids [] m = refl
with_ids (n ∷ nodes) m =
    cond_both (eqb n.pid m.pid) (m ∷ nodes) (n ∷ with_node nodes m) (λ (l : List Node). ids_of l ≡ ids_of (n ∷ nodes))
    (λ h. ap (λ (q : ℕ). q ∷ ids_of nodes) (sym (eqb-true n.pid m.pid h)))
    (λ _. ap (λ (l : List ℕ). n.pid ∷ l) (with_ids nodes m))

insert_ids : (P : ℕ → Type 0) (nodes : List Node) (m : Node) → All P (ids_of nodes) → P m.pid → All P (ids_of (insert_node nodes m))
insert_ids P [] m each one = All-cons P m.pid [] one (All-nil P)
insert_ids P (n ∷ nodes) m each one =
    cond_both (ltb m.pid n.pid) (m ∷ n ∷ nodes) (n ∷ insert_node nodes m) (λ (l : List Node). All P (ids_of l))
    (λ _. All-cons P m.pid (ids_of (n ∷ nodes)) one each)
    (λ _. All-cons P n.pid (ids_of (insert_node nodes m)) (All-head P n.pid (ids_of nodes) each) (insert_ids P nodes m (All-tail P n.pid (ids_of nodes) each) one))

pub first_ids : (members qs : List ℕ) → ids_of (map (first_node members) qs) ≡ qs
first_ids members [] = refl
first_ids members (q ∷ qs) = ap (λ (l : List ℕ). q ∷ l) (first_ids members qs)

-- where nobody is found, nobody has the id
none_there : (nodes : List Node) (q : ℕ) → node_at nodes q ≡ None → is_member nat_eq (ids_of nodes) q ≡ false
none_there [] q e = refl
none_there (n ∷ nodes) q e = by (eqb n.pid q) refl (λ k. none_there nodes q k)
  where
    some_none : Some n ≡ None → ⊥
    some_none z = cc

    by : (b : Bool) → eqb n.pid q ≡ b → (node_at nodes q ≡ None → is_member nat_eq (ids_of nodes) q ≡ false) → (eqb q n.pid || is_member nat_eq (ids_of nodes) q) ≡ false
    by true h rest = absurd (some_none (sym (ap (λ (c : Bool). cond c (Some n) (node_at nodes q)) h) ∙ e))
    by false h rest =
        or_from (eqb q n.pid) (is_member nat_eq (ids_of nodes) q) (ne_eqb q n.pid (λ s. eqb-false n.pid q h (sym s)))
        (rest (sym (ap (λ (c : Bool). cond c (Some n) (node_at nodes q)) h) ∙ e))

-- and where nobody has it, nobody is found
pub none_found : (nodes : List Node) (q : ℕ) → is_member nat_eq (ids_of nodes) q ≡ false → node_at nodes q ≡ None
none_found [] q e = refl
none_found (n ∷ nodes) q e =
    let h = or_parts (eqb q n.pid) (is_member nat_eq (ids_of nodes) q) e in
    ap (λ (c : Bool). cond c (Some n) (node_at nodes q)) (ne_eqb n.pid q (λ s. eqb-false q n.pid h.0 (sym s))) ∙ none_found nodes q h.1

-- ---- what happens at a server changes no id

record SameIds (w v : World) : Type 0 where
  nodes : ids_of v.nodes ≡ ids_of w.nodes
  observers : ids_of v.observers ≡ ids_of w.observers

put_same : (k : Kind) (w : World) (m : Node) → SameIds w (world_with_as k w m)
put_same Votes w m = record { nodes = with_ids w.nodes m; observers = refl }
put_same Observes w m = record { nodes = refl; observers = with_ids w.observers m }

module _ (k : Kind) (w : World) (n : Node) where
  stays : SameIds w w
  stays = record { nodes = refl; observers = refl }

  by_fate : (f : Fate) (at : ℕ) (x : Input) → SameIds w (world_by_fate_as k f at w n x)
  by_fate Done at x = let s = put_same k w (record n { state = state_after n.state (plan_as k n.pid n.state x) }) in record { nodes = s.nodes; observers = s.observers }
  by_fate Stopped at x = put_same k w (record n { status = Down (stored_as k n x) })
  by_fate (Faulted count) at x = let s = put_same k w (record n { status = Failed count (stored_as k n x) }) in record { nodes = s.nodes; observers = s.observers }

  opened : (s : State) → SameIds w (world_opened_as k w n s)
  opened s = let r = put_same k w (record n { state = s; status = Up }) in record { nodes = r.nodes; observers = r.observers }

  opening : (f : Fate) (found : Durable) → SameIds w (world_opening_as k f w n found)
  opening Done found = opened (state_after_restart n.pid found)
  opening Stopped found = stays
  opening (Faulted count) found = stays

  reopening : (f : Fate) (after found : Durable) → SameIds w (world_reopening_as k f after w n found)
  reopening Done after found = opened (state_after_reopening n.pid n.state found)
  reopening Stopped after found = put_same k w (record n { status = Down after })
  reopening (Faulted count) after found = put_same k w (record n { status = Failed count after })

  by_status : (s : NodeStatus) (d : Doing) (h : Happening) → SameIds w (world_by_status_as k s d h w n)
  by_status Up (Steps x) h = by_fate h.fate h.event.line x
  by_status Up Stops h = put_same k w (record n { status = Down n.state.durable })
  by_status Up Opens h = stays
  by_status Up (Tells t) h = record { nodes = refl; observers = refl }
  by_status (Down after) (Steps x) h = stays
  by_status (Down after) Stops h = stays
  by_status (Down after) Opens h = opening h.fate (cond h.finds_after after n.state.durable)
  by_status (Down after) (Tells t) h = stays
  by_status (Failed count after) (Steps x) h = record { nodes = refl; observers = refl }
  by_status (Failed count after) Stops h = put_same k w (record n { status = Down after })
  by_status (Failed count after) Opens h = reopening h.fate after (cond h.finds_after after n.state.durable)
  by_status (Failed count after) (Tells t) h = record { nodes = refl; observers = refl }

-- ---- observers have ids of their own

-- an id that is none of these, nor 0
abbrev pub IsFree : List ℕ → ℕ → Type 0
IsFree ids q = (0 < q) × (is_member nat_eq ids q ≡ false)

-- the nodes have these ids, and observers have others
pub record AreApart (ids : List ℕ) (w : World) : Type 0 where
  pub nodes : ids_of w.nodes ≡ ids
  pub observers : All (IsFree ids) (ids_of w.observers)

-- where an opening is done, the id isn't 0
abbrev OpensAbove : Doing → ℕ → Type 0
OpensAbove Opens q = 0 < q
OpensAbove _ q = Unit {0}

abbrev IsAbove : Deed → Type 0
IsAbove x = OpensAbove x.doing x.pid

delivery_above : (o : Option Sent) → IfSome (delivery o) IsAbove
delivery_above None = tt
delivery_above (Some m) = tt

deed_above : (ms : List Sent) (w : What) → WhatInRange w → IfSome (deed_of ms w) IsAbove
deed_above ms (what.Tick p) fit = tt
deed_above ms (what.Commands p cs) fit = tt
deed_above ms (what.Stop p members) fit = tt
deed_above ms (what.Trim p) fit = tt
deed_above ms (what.Read p r) fit = tt
deed_above ms (what.Deliver i) fit = delivery_above (slice_get ms i)
deed_above ms (what.Up p q) fit = tt
deed_above ms (what.Down p q) fit = tt
deed_above ms (what.Crash p) fit = tt
deed_above ms (what.CrashAt p call image) fit = tt
deed_above ms (what.Fail p call) fit = tt
deed_above ms (what.Kill p disk) fit = tt
deed_above ms (what.Start p) fit = let low : 1 ≤ p = fit.0 in omega (arith, low)
deed_above ms (what.Show p) fit = tt
deed_above ms (what.Ballots p) fit = tt

module _ (ids : List ℕ) where
  same_apart : (w v : World) → AreApart ids w → SameIds w v → AreApart ids v
  same_apart w v a s = record { nodes = s.nodes ∙ a.nodes; observers = subst (All (IsFree ids)) (sym s.observers) a.observers }

  -- an observer begins where nobody has the id
  begins : (d : Doing) (f : Fate) (q : ℕ) (w : World) → AreApart ids w → node_at w.nodes q ≡ None → OpensAbove d q → AreApart ids (world_beginning d f q w)
  begins Opens Done q w a none above =
      record {
        nodes = a.nodes;
        observers = insert_ids (IsFree ids) w.observers (first_observer w.members q) a.observers
            (above, subst (λ (l : List ℕ). is_member nat_eq l q ≡ false) a.nodes (none_there w.nodes q none));
      }
  begins Opens Stopped q w a none above = a
  begins Opens (Faulted count) q w a none above = a
  begins (Steps x) f q w a none above = a
  begins Stops f q w a none above = a
  begins (Tells t) f q w a none above = a

  at_observer : (o : Option Node) (x : Deed) (h : Happening) (w : World) → AreApart ids w → node_at w.nodes x.pid ≡ None → IsAbove x → AreApart ids (world_at_observer o x h w)
  at_observer None x h w a none above = begins x.doing h.fate x.pid w a none above
  at_observer (Some n) x h w a none above = same_apart w (world_by_status_as Observes n.status x.doing h w n) a (by_status Observes w n n.status x.doing h)

  at_node : (o : Option Node) (x : Deed) (h : Happening) (w : World) → deed_of w.messages h.event.what ≡ Some x → node_at w.nodes x.pid ≡ o → AreApart ids w → IsAbove x → AreApart ids (world_at_node o x.doing h w)
  at_node (Some n) x h w is at a above = same_apart w (world_by_status_as Votes n.status x.doing h w n) a (by_status Votes w n n.status x.doing h)
  at_node None x h w is at a above =
      subst (λ (o : Option Deed). AreApart ids (record (world_observed o h w) { nodes = w.nodes; members = w.members })) (sym is)
      (let r = at_observer (node_at w.observers x.pid) x h w a at above in record { nodes = a.nodes; observers = r.observers })

  with_deed : (o : Option Deed) (h : Happening) (w : World) → deed_of w.messages h.event.what ≡ o → AreApart ids w → IfSome o IsAbove → AreApart ids (world_with o h w)
  with_deed None h w is a above = a
  with_deed (Some x) h w is a above = at_node (node_at w.nodes x.pid) x h w is refl a above

  -- whatever happens, they have
  run_apart : (hs : List Happening) (w : World) → All (λ (h : Happening). WhatInRange h.event.what) hs → AreApart ids w → AreApart ids (run_of w hs)
  run_apart [] w each a = a
  run_apart (h ∷ hs) w each a =
      run_apart hs (world_after w h) (All-tail (λ (g : Happening). WhatInRange g.event.what) h hs each)
      (with_deed (deed_of w.messages h.event.what) h w refl a
      (deed_above w.messages h.event.what (All-head (λ (g : Happening). WhatInRange g.event.what) h hs each)))

-- after every run
pub run_is_apart : (members spares : List ℕ) (hs : List Happening) → All (λ (h : Happening). WhatInRange h.event.what) hs → AreApart (node_ids members spares) (run_of (first_world members spares) hs)
run_is_apart members spares hs each =
    run_apart (node_ids members spares) hs (first_world members spares) each
    (record { nodes = first_ids members (node_ids members spares); observers = All-nil (IsFree (node_ids members spares)) })
