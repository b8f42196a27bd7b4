-- An observer, however it runs, keeps what it stands for, and what its next opening finds is no less.
use Rattle.std.proofs.Common.{◌≡◌, ◌⊎◌, inl, inr, ℕ, Bool, true, false, cond, eqb, List, [], ◌∷◌, Option, Some, refl, sym, ap, ◌∙◌, subst, arith}
use Rattle.std.specs.Prelude.{IfSome, nat_lt}
use Rattle.std.proofs.lemmas.Bool.{cond_both, ne_eqb}
use Rattle.op_types.specs.Changes.{durable_after}
use Rattle.op_types.specs.declared.durable.Part.{Part}
use Rattle.op_types.specs.declared.durable.Durable.{Durable}
use Rattle.op_types.specs.declared.log.Entry.{Entry}
use Rattle.op_types.specs.declared.events.Input.{Input}
use Rattle.op_spec.specs.Laws.{NoneAfterStop}
use Rattle.op_protocol.specs.State.{State, Planned, state_after}
use Rattle.op_protocol.specs.Starting.{state_after_restart}
use Rattle.op_protocol.specs.Watching.{watch_if, watch_plan}
use Rattle.op_runs.specs.World.{Node, NodeStatus, Up, Down, Failed, Observes, node_at, with_node, insert_node, Doing, Steps, Stops, Opens, Tells, Fate, Done, Stopped, Faulted, World, Happening, stored_as, world_by_fate_as, world_by_status_as, world_opening_as, world_reopening_as, state_after_reopening}
use Rattle.op_refinement.proofs.View.{Each}
use Rattle.op_refinement.proofs.Steps.{AllRead}
use Rattle.op_watch_laws.specs.Laws.{IsUpTo, decided_place}
use Rattle.op_watch_laws.proofs.Lists.{Grown}
use Rattle.op_protocol.specs.State.{Volatile}
use Rattle.op_watch_laws.proofs.Steps.{durable_of, KeptOf, PiecesKept, StateKept, Goes, InputTold, at_goes, opened_kept, kept_on, state_on}

-- what is told with what is done is true
abbrev pub DoingTold : List ℕ → (ℕ → List Entry) → Doing → Type 0
DoingTold first lists (Steps x) = InputTold first lists x
DoingTold first lists _ = Unit {0}

-- ---- places

pub up_same : (a : ℕ × ℕ) → IsUpTo a a
up_same a = inr (refl, omega arith)

-- ---- an observer

-- what an opening finds stands, and is no less than this part
pub record FoundKept (first : List ℕ) (lists : ℕ → List Entry) (p : Part) (d : Durable) : Type 0 where
  pub part : Part
  pub is : d ≡ durable_of part
  pub kept : KeptOf first lists part
  pub rises : IsUpTo (p.conf, p.decided) (part.conf, part.decided)

abbrev pub StatusKept : List ℕ → (ℕ → List Entry) → Part → NodeStatus → Type 0
StatusKept first lists p Up = Unit {0}
StatusKept first lists p (Down after) = FoundKept first lists p after
StatusKept first lists p (Failed count after) = FoundKept first lists p after

pub record NodeKept (first : List ℕ) (lists : ℕ → List Entry) (n : Node) : Type 0 where
  pub state : StateKept first lists n.state
  pub status : StatusKept first lists state.part n.status

-- nothing moves at the observers, or one does
abbrev pub Moves : List ℕ → (ℕ → List Entry) → Node → List Node → List Node → Type 0
Moves first lists n old new =
    (new ≡ old) ⊎ ((m : Node) × (m.pid ≡ n.pid) × (new ≡ with_node old m) × NodeKept first lists m × IsUpTo (decided_place n.state.durable.part) (decided_place m.state.durable.part))

module _ (first : List ℕ) (lists : ℕ → List Entry) (ends : (c : ℕ) → NoneAfterStop (lists c)) (read : AllRead lists) (w : World) (h : Happening) (n : Node) (k : NodeKept first lists n) where
  abbrev p : Part
  p = (k.state).part

  abbrev To : World → Type 0
  To v = Moves first lists n w.observers v.observers

  -- where it is
  place_is : decided_place n.state.durable.part ≡ (p.conf, p.decided)
  place_is = ap (λ (d : Durable). decided_place d.part) (k.state).is

  here : FoundKept first lists p n.state.durable
  here = record { part = p; is = (k.state).is; kept = (k.state).kept; rises = up_same (p.conf, p.decided) }

  -- another status, of the same state
  restatused : (status : NodeStatus) → StatusKept first lists p status → (new : List Node) → new ≡ with_node w.observers (record n { status = status }) → Moves first lists n w.observers new
  restatused status s new e = inr (record n { status = status }, refl, e, record { state = k.state; status = s }, up_same (decided_place n.state.durable.part))

  -- it is opened, and finds this
  opened : (d : Durable) → FoundKept first lists p d → (s : State) → s.durable ≡ d → s.service ≡ (state_after_restart n.pid d).service → s.volatile ≡ (state_after_restart n.pid d).volatile → (new : List Node) → new ≡ with_node w.observers (record n { state = s; status = Up }) → Moves first lists n w.observers new
  opened d f s stored served memory new e =
      let again : StateKept first lists (state_after_restart n.pid d) = subst (λ (x : Durable). StateKept first lists (state_after_restart n.pid x)) (sym f.is) (opened_kept first lists read n.pid f.part f.kept) in
      let state : StateKept first lists s = record {
        part = again.part;
        is = stored ∙ again.is;
        kept = again.kept;
        serves = served ∙ again.serves;
        pieces = subst (λ (x : Volatile). IfSome x.pieces (PiecesKept lists x.pieces_conf)) (sym memory) again.pieces;
      } in
      inr (
        record n { state = s; status = Up },
        refl,
        e,
        record { state = state; status = tt },
        subst (λ (x : ℕ × ℕ). IsUpTo x (decided_place s.durable.part)) (sym place_is) (subst (λ (x : Durable). IsUpTo (p.conf, p.decided) (decided_place x.part)) (sym (stored ∙ f.is)) f.rises),
      )

  -- ---- a step

  module _ (x : Input) (told : InputTold first lists x) where
    abbrev plan : Planned
    plan = watch_plan n.pid n.state x

    goes : Goes first lists p plan
    goes =
        subst (Goes first lists p) (sym (ap (λ (d : Durable). watch_if n.pid n.state d.part x) (k.state).is))
        (at_goes first lists ends read n.pid n.state p (k.state).kept (k.state).serves (k.state).pieces x told)

    stored : durable_after n.state.durable plan.batch ≡ durable_of goes.part
    stored = ap (λ (d : Durable). durable_after d plan.batch) (k.state).is ∙ goes.after

    found : FoundKept first lists p (durable_after n.state.durable plan.batch)
    found = record { part = goes.part; is = stored; kept = goes.kept; rises = goes.rises }

    by_fate : n.status ≡ Up → (f : Fate) (at : ℕ) → To (world_by_fate_as Observes f at w n x)
    by_fate up Done at = inr (
      record n { state = state_after n.state plan },
      refl,
      refl,
      record {
        state = record { part = goes.part; is = stored; kept = goes.kept; serves = goes.serves; pieces = goes.pieces };
        status = subst (StatusKept first lists goes.part) (sym up) tt;
      },
      subst (λ (y : ℕ × ℕ). IsUpTo y (decided_place (durable_after n.state.durable plan.batch).part)) (sym place_is) (subst (λ (d : Durable). IsUpTo (p.conf, p.decided) (decided_place d.part)) (sym stored) goes.rises),
    )
    by_fate up Stopped at = restatused (Down (stored_as Observes n x)) found _ refl
    by_fate up (Faulted count) at = restatused (Failed count (stored_as Observes n x)) found _ refl

  -- ---- however it runs

  either_found : (b : Bool) (after : Durable) → FoundKept first lists p after → FoundKept first lists p (cond b after n.state.durable)
  either_found true after f = f
  either_found false after f = here

  opening : (f : Fate) (d : Durable) → FoundKept first lists p d → To (world_opening_as Observes f w n d)
  opening Done d k' = opened d k' (state_after_restart n.pid d) refl refl refl _ refl
  opening Stopped d k' = inl refl
  opening (Faulted count) d k' = inl refl

  reopening : (f : Fate) (after d : Durable) → FoundKept first lists p after → FoundKept first lists p d → To (world_reopening_as Observes f after w n d)
  reopening Done after d a k' = opened d k' (state_after_reopening n.pid n.state d) refl refl refl _ refl
  reopening Stopped after d a k' = restatused (Down after) a _ refl
  reopening (Faulted count) after d a k' = restatused (Failed count after) a _ refl

  pub by_status : (s : NodeStatus) → n.status ≡ s → StatusKept first lists p s → (d : Doing) → DoingTold first lists d → To (world_by_status_as Observes s d h w n)
  by_status Up e s (Steps x) t = by_fate x t e h.fate h.event.line
  by_status Up e s Stops t = restatused (Down n.state.durable) here _ refl
  by_status Up e s Opens t = inl refl
  by_status Up e s (Tells y) t = inl refl
  by_status (Down after) e s (Steps x) t = inl refl
  by_status (Down after) e s Stops t = inl refl
  by_status (Down after) e s Opens t = opening h.fate (cond h.finds_after after n.state.durable) (either_found h.finds_after after s)
  by_status (Down after) e s (Tells y) t = inl refl
  by_status (Failed count after) e s (Steps x) t = inl refl
  by_status (Failed count after) e s Stops t = restatused (Down after) s _ refl
  by_status (Failed count after) e s Opens t = reopening h.fate after (cond h.finds_after after n.state.durable) s (either_found h.finds_after after s)
  by_status (Failed count after) e s (Tells y) t = inl refl

-- ---- lists that grow

pub node_on : (first : List ℕ) (lists lists' : ℕ → List Entry) → Grown lists lists' → (n : Node) → NodeKept first lists n → NodeKept first lists' n
node_on first lists lists' g n k = record { state = state_on first lists lists' g n.state k.state; status = by n.status k.status }
  where
    found_on : (d : Durable) → FoundKept first lists (k.state).part d → FoundKept first lists' (k.state).part d
    found_on d f = record { part = f.part; is = f.is; kept = kept_on first lists lists' g f.part f.kept; rises = f.rises }

    by : (s : NodeStatus) → StatusKept first lists (k.state).part s → StatusKept first lists' (k.state).part s
    by Up s = tt
    by (Down after) s = found_on after s
    by (Failed count after) s = found_on after s

-- ---- lists of observers

pub each_with : (A : Node → Type 0) (nodes : List Node) (m : Node) → Each A nodes → A m → Each A (with_node nodes m)
each_with A [] m e a = tt
each_with A (n ∷ nodes) m e a = cond_both (eqb n.pid m.pid) (m ∷ nodes) (n ∷ with_node nodes m) (Each A) (λ _. (a, e.1)) (λ _. (e.0, each_with A nodes m e.1 a))

pub each_insert : (A : Node → Type 0) (nodes : List Node) (m : Node) → Each A nodes → A m → Each A (insert_node nodes m)
each_insert A [] m e a = (a, tt)
each_insert A (n ∷ nodes) m e a = cond_both (nat_lt m.pid n.pid) (m ∷ n ∷ nodes) (n ∷ insert_node nodes m) (Each A) (λ _. (a, (e.0, e.1))) (λ _. (e.0, each_insert A nodes m e.1 a))

-- another one is found as before
pub insert_other : (nodes : List Node) (m : Node) (q : ℕ) → (q ≡ m.pid → ⊥) → node_at (insert_node nodes m) q ≡ node_at nodes q
insert_other [] m q d = let f : eqb m.pid q ≡ false = ne_eqb m.pid q (λ e. d (sym e)) in rw f refl
insert_other (n ∷ nodes) m q d =
    let f : eqb m.pid q ≡ false = ne_eqb m.pid q (λ e. d (sym e)) in
    cond_both (nat_lt m.pid n.pid) (m ∷ n ∷ nodes) (n ∷ insert_node nodes m) (λ (l : List Node). node_at l q ≡ node_at (n ∷ nodes) q)
    (λ _. rw f refl) (λ _. ap (λ (o : Option Node). cond (eqb n.pid q) (Some n) o) (insert_other nodes m q d))
