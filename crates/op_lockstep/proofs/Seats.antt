-- One event at a node that is up: what the node then is, that the others stay, and what is sent.
use Rattle.std.proofs.Common.{◌≡◌, ℕ, Bool, true, false, cond, eqb, nat_eq, is_some, List, [], ◌∷◌, ◌++◌, Option, Some, None, refl, sym, ap, ◌∙◌, subst}
use Rattle.std.proofs.lemmas.Bool.{cond_both, eqb-true, eq-eqb, ne_eqb}
use Rattle.std.specs.Set.{is_member}
use Rattle.op_types.specs.Changes.{durable_after}
use Rattle.op_types.specs.Stops.{stop_at_end}
use Rattle.op_types.specs.declared.changes.Change.{Change}
use Rattle.op_types.specs.declared.durable.Durable.{Durable}
use Rattle.op_types.specs.declared.durable.Part.{Part}
use Rattle.op_types.specs.declared.events.Input.{Input}
use Rattle.op_runs.specs.declared.events.What.{What}
use Rattle.op_types.specs.declared.messages.Msg.{Msg}
use Rattle.op_protocol.specs.State.{State, Volatile, PartStep, Planned, state_after}
use Rattle.op_protocol.specs.Parts.{part_after, decided_since}
use Rattle.op_protocol.specs.Reading.{asking_by, reading}
use Rattle.op_protocol.specs.Rows.{planned, step_at, waiting_at}
use Rattle.op_runs.specs.World.{World, Node, NodeStatus, Up, Happening, Steps, Deed, deed_of, node_at, with_node, sent_by, world_stepped, world_by_status, world_at_node, world_with, world_after, done_event}
use Rattle.op_lockstep.specs.Lockstep.{event_of}
use Rattle.op_lockstep.proofs.Lists.{Each, by_test}
use Rattle.op_lockstep.proofs.Batches.{IsLight, StoresPart, stores_after, plan_is}

-- ---- looking nodes up
-- the others are found as before
pub node_at-other : (nodes : List Node) (k : Node) (pid : ℕ) → (pid ≡ k.pid → ⊥) → node_at (with_node nodes k) pid ≡ node_at nodes pid
node_at-other [] k pid d = refl
node_at-other (n ∷ nodes) k pid d =
    cond_both (eqb n.pid k.pid) (k ∷ nodes) (n ∷ with_node nodes k) (λ (ns : List Node). node_at ns pid ≡ node_at (n ∷ nodes) pid)
    (λ t. let same = eqb-true n.pid k.pid t in
    let k_not : eqb k.pid pid ≡ false = ne_eqb k.pid pid (λ s. d (sym s)) in
    let n_not : eqb n.pid pid ≡ false = ne_eqb n.pid pid (λ s. d (sym s ∙ same)) in
    rw (k_not, n_not) refl)
    (λ f. ap (λ (o : Option Node). cond (eqb n.pid pid) (Some n) o) (node_at-other nodes k pid d))

none_some : {A : Type 0} (a : A) → None ≡ Some a → ⊥
none_some a e = cc

-- and the new one is found
pub node_at-here : (nodes : List Node) (k n : Node) → node_at nodes k.pid ≡ Some n → node_at (with_node nodes k) k.pid ≡ Some k
node_at-here [] k n e = absurd (none_some n e)
node_at-here (m ∷ nodes) k n e = step (eqb m.pid k.pid) refl (λ h. node_at-here nodes k n h)
  where
    step : (b : Bool) → eqb m.pid k.pid ≡ b → (node_at nodes k.pid ≡ Some n → node_at (with_node nodes k) k.pid ≡ Some k) → node_at (with_node (m ∷ nodes) k) k.pid ≡ Some k
    step true h ih = let here : eqb k.pid k.pid ≡ true = eq-eqb k.pid k.pid refl in rw h (rw here refl)
    step false h ih = rw h (rw h (ih (rw h at e)))

-- a node that is found has the id
pub found_id : (nodes : List Node) (pid : ℕ) (n : Node) → node_at nodes pid ≡ Some n → n.pid ≡ pid
found_id [] pid n e = absurd (none_some n e)
found_id (m ∷ nodes) pid n e =
    by_test (eqb m.pid pid) (λ (b : Bool). cond b (Some m) (node_at nodes pid) ≡ Some n → n.pid ≡ pid) (λ h k. same m n pid k (eqb-true m.pid pid h)) (λ _ k. found_id nodes pid n k) e
  where
    same : (m n : Node) (pid : ℕ) → Some m ≡ Some n → m.pid ≡ pid → n.pid ≡ pid
    same m n pid k h = let e : m ≡ n = cc in ap (λ (x : Node). x.pid) (sym e) ∙ h

-- what holds of each node, and of one that takes another's place
pub with_each : (P : Node → Type 0) (nodes : List Node) (m : Node) → Each P nodes → P m → Each P (with_node nodes m)
with_each P [] m e k = tt
with_each P (n ∷ nodes) m e k =
    by_test (eqb n.pid m.pid) (λ (b : Bool). Each P (cond b (m ∷ nodes) (n ∷ with_node nodes m))) (λ _. (k, e.1)) (λ _. (e.0, with_each P nodes m e.1 k))

-- and of one that is found
pub found_of : (P : Node → Type 0) (nodes : List Node) (pid : ℕ) (n : Node) → node_at nodes pid ≡ Some n → Each P nodes → P n
found_of P [] pid n at e = absurd (none_some n at)
found_of P (m ∷ nodes) pid n at e = by_test (eqb m.pid pid) (λ (b : Bool). cond b (Some m) (node_at nodes pid) ≡ Some n → P n) (λ _ k. subst P (some_same k) e.0) (λ _ k. found_of P nodes pid n k e.1) at
  where
    some_same : Some m ≡ Some n → m ≡ n
    some_same k = cc

-- ---- seats
-- the node of this id is up, with this part, and this in its memory, and joins no other configuration
pub record Sits (o : Option Node) (p : ℕ) (a : Part) (v : Volatile) : Type 0 where
  pub node : Node
  pub at : o ≡ Some node
  pub pid : node.pid ≡ p
  pub up : node.status ≡ Up
  pub part : node.state.durable.part ≡ Some a
  pub stays : node.state.durable.joining ≡ None
  pub volatile : node.state.volatile ≡ v

-- each of these does
abbrev pub AllSit : World → (ℕ → Part) → (ℕ → Volatile) → List ℕ → Type 0
AllSit w a v ps = (p : ℕ) → is_member nat_eq ps p ≡ true → Sits (node_at w.nodes p) p (a p) (v p)

-- after an event at one node
pub record After (w u : World) (p : ℕ) (a : Part) (v : Volatile) (sends : List (ℕ × Msg)) : Type 0 where
  pub here : Sits (node_at u.nodes p) p a v
  pub others : (q : ℕ) → (q ≡ p → ⊥) → node_at u.nodes q ≡ node_at w.nodes q
  pub messages : u.messages ≡ w.messages ++ sent_by p sends

-- the row of an input at a part that doesn't join another configuration
abbrev pub IsRow : ℕ → Part → Volatile → Input → PartStep → Type 0
IsRow p a v x y = (d : Durable) → d.part ≡ Some a → d.joining ≡ None → step_at p d v x ≡ y

-- an input for which no member is asked
abbrev pub AsksNobody : Input → Type 0
AsksNobody x = (me : ℕ) (s : State) → (let none : List (ℕ × Msg) = [] in (asking_by me s x).sends ≡ none)

-- a step at a node that is up, which leaves the log as it is, decides no stop-sign and asks nobody
pub stepped : (w : World) (e : What) (p : ℕ) (x : Input) (a : Part) (v : Volatile) (y : PartStep) → deed_of w.messages e ≡ Some (record { pid = p; doing = Steps x }) → AsksNobody x → IsRow p a v x y
    → Each IsLight y.batch → is_some (stop_at_end (decided_since a (part_after a y.batch))) ≡ false → Sits (node_at w.nodes p) p a v
    → After w (world_after w (done_event (event_of e))) p (part_after a y.batch) y.volatile y.sends
stepped w e p x a v y deed asks is light ends s =
    let h : Happening = done_event (event_of e) in
    let n : Node = s.node in
    let st : State = n.state in
    let pl : Planned = planned st (waiting_at n.pid st x) y in
    let step_is : step_at n.pid st.durable st.volatile x ≡ y =
    ap (λ (k : ℕ). step_at k st.durable st.volatile x) s.pid ∙ ap (λ (u : Volatile). step_at p st.durable u x) s.volatile ∙ is st.durable s.part s.stays in
    let plan = plan_is n.pid st x a y s.part s.stays step_is light ends in
    let full : Planned = reading n.pid st x pl in
    let m : Node = record n { state = state_after st full } in
    let world_is : world_after w h ≡ world_stepped 0 w n full =
    ap (λ (o : Option Deed). world_with o h w) deed ∙ ap (λ (o : Option Node). world_at_node o (Steps x) h w) s.at ∙ ap (λ (t : NodeStatus). world_by_status t (Steps x) h w n) s.up
    ∙ ap (λ (k : Planned). world_stepped 0 w n (reading n.pid st x k)) plan.0 in
    let stored : StoresPart st.durable (part_after a y.batch) (durable_after st.durable pl.batch) =
    subst (λ (b : List Change). StoresPart st.durable (part_after a y.batch) (durable_after st.durable b)) (sym plan.1) (stores_after st.durable a y.batch light s.part) in
    record {
      here = record {
        node = m;
        at = ap (λ (u : World). node_at u.nodes p) world_is ∙ ap (node_at (with_node w.nodes m)) (sym s.pid) ∙ node_at-here w.nodes m n (ap (node_at w.nodes) s.pid ∙ s.at);
        pid = s.pid;
        up = s.up;
        part = stored.part;
        stays = stored.joining ∙ s.stays;
        volatile = refl;
      };
      others = λ q other. ap (λ (u : World). node_at u.nodes q) world_is ∙ node_at-other w.nodes m q (λ k. other (k ∙ s.pid));
      messages = ap (λ (u : World). u.messages) world_is ∙ ap (λ (k : ℕ). w.messages ++ sent_by k full.sends) s.pid
          ∙ ap (λ (asked : List (ℕ × Msg)). w.messages ++ sent_by p (asked ++ y.sends)) (asks n.pid st);
    }
