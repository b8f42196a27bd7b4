-- Where observers know, too, what they have decided, each happening still is steps of the list machine.
use Rattle.std.proofs.Common.{◌≡◌, ◌<◌, ◌≤◌, ⊎_elim, ℕ, ◌+◌, ◌&&◌, max, Bool, true, false, cond, eqb, List, [], ◌∷◌, ◌++◌, length, Option, Some, None, refl, sym, ap, ap₂, ◌∙◌, subst, arith, append-nil, append_assoc, length-append, All}
use Rattle.std.proofs.lemmas.Bool.{and_parts, cases_lt, eqb-true}
use Rattle.std.proofs.lemmas.List.Elements.{All-head, All-tail}
use Rattle.op_types.specs.Ranges.{MembersInRange}
use Rattle.op_types.specs.declared.answers.Refusal.{Refusal}
use Rattle.op_types.specs.declared.durable.Durable.{Durable}
use Rattle.op_types.specs.declared.durable.Part.{Part}
use Rattle.op_types.specs.declared.events.Input.{Input}
use Rattle.op_types.specs.declared.events.Input.TheVariants as input
use Rattle.op_types.specs.declared.log.Entry.{Entry}
use Rattle.op_types.specs.declared.log.Entry.TheVariants as entry
use Rattle.op_spec.specs.Machine.{Machine, MachineStep, Propose, Choose, Learn, Open, IsAllowed, machine_with, AreAllowed, machine_after, IsSame, Leads}
use Rattle.op_spec.specs.Ledger.{decided_in, machine_showing, machine_proposing}
use Rattle.op_spec.specs.Stands.{IfPartStands}
use Rattle.op_protocol.specs.State.{State}
use Rattle.op_protocol.specs.Rows.{refusal_of, stop_for, entries_of}
use Rattle.op_runs.specs.World.{Node, NodeStatus, Up, Down, Failed, Happening, Doing, Steps, Stops, Opens, Tells, Deed, node_at, deed_of, world_after}
use Rattle.op_runs.specs.Possible.{SparesInRange, HappeningsInRange}
use Rattle.op_runs.specs.Run.{Execution, GoesOn, MeetsFrom, machine_showing_all, machine_proposing_in, machine_proposing_input, machine_proposing_if, machine_proposing_at, machine_proposing_by, first_execution, execution_with, execution_of}
use Rattle.op_refinement.proofs.Machines.{same_path}
use Rattle.op_refinement.proofs.EveryRun.{every_run_meets, range_front}
use Rattle.op_refinement.proofs.Runs.{same_leads}
use Rattle.op_watch_laws.specs.Laws.{ObserverStands}
use Rattle.op_watch_laws.specs.Learning.{machine_learning, machine_learning_all, watched_with, watched_of, EveryObserverLearns}
use Rattle.op_watch_laws.proofs.Steps.{durable_of}
use Rattle.op_watch_laws.proofs.Every.{one_more, every_observer_stands}

-- ---- steps, one after the other

all_same : (m : Machine) → IsSame m m
all_same m = record { lists = λ c. refl; known = λ p c. refl; proposed = λ c. refl; opened = λ p c. refl }

after_append : (m : Machine) (xs ys : List MachineStep) → machine_after m (xs ++ ys) ≡ machine_after (machine_after m xs) ys
after_append m [] ys = refl
after_append m (x ∷ xs) ys = after_append (machine_with m x) xs ys

allowed_append : (m : Machine) (xs ys : List MachineStep) → AreAllowed m xs → AreAllowed (machine_after m xs) ys → AreAllowed m (xs ++ ys)
allowed_append m [] ys a b = b
allowed_append m (x ∷ xs) ys a b = (a.0, allowed_append (machine_with m x) xs ys a.1 b)

leads_then : (a b c : Machine) → Leads a b → Leads b c → Leads a c
leads_then a b c x y =
    let at : machine_after a x.0 ≡ b = same_path (machine_after a x.0) b x.2 in (
      x.0 ++ y.0,
      allowed_append a x.0 y.0 x.1 (subst (λ (m : Machine). AreAllowed m y.0) (sym at) y.1),
      subst (λ (m : Machine). IsSame m c) (sym (after_append a x.0 y.0)) (subst (λ (m : Machine). IsSame (machine_after m y.0) c) (sym at) y.2),
    )

-- ---- a machine in which more is known

-- what each server knows more of each configuration
abbrev Known : Type 0
Known = ℕ → ℕ → ℕ

abbrev boost : Known → Machine → Machine
boost k m = record m { known = λ p c. max (m.known p c) (k p c) }

-- no more than is there
abbrev IsInside : Known → Machine → Type 0
IsInside k m = (p c : ℕ) → k p c ≤ length (m.lists c)

-- it stays so, since a step makes no list shorter
longer : (k : Known) (m : Machine) (s : MachineStep) → IsInside k m → IsInside k (machine_with m s)
longer k m (Propose conf e) low = low
longer k m (Learn pid conf x) low = low
longer k m (Open pid conf) low = low
longer k m (Choose conf e) low = λ p c. by p c (eqb c conf) refl
  where
    by : (p c : ℕ) (b : Bool) → eqb c conf ≡ b → k p c ≤ length (cond b (m.lists conf ++ e ∷ []) (m.lists c))
    by p c true h = omega (arith, low p c, ap (λ (d : ℕ). length (m.lists d)) (eqb-true c conf h), length-append (m.lists conf) (e ∷ []))
    by p c false h = low p c

module _ (k : Known) where
  -- a step that lets a server know what it knows already is none
  learns_less : (m : Machine) (pid conf x : ℕ) → m.known pid conf ≤ x → x < k pid conf → IsSame (boost k m) (boost k (machine_with m (Learn pid conf x)))
  learns_less m pid conf x low less = record { lists = λ c. refl; known = known; proposed = λ c. refl; opened = λ p c. refl }
    where
      known : (p c : ℕ) → max (m.known p c) (k p c) ≡ max (cond (eqb p pid && eqb c conf) x (m.known p c)) (k p c)
      known p c = by (eqb p pid && eqb c conf) refl
        where
          by : (b : Bool) → (eqb p pid && eqb c conf) ≡ b → max (m.known p c) (k p c) ≡ max (cond b x (m.known p c)) (k p c)
          by true h =
              let s = and_parts (eqb p pid) (eqb c conf) h in
              omega (arith, low, less, ap₂ (λ (q : ℕ) (d : ℕ). m.known q d) (eqb-true p pid s.0) (eqb-true c conf s.1), ap₂ (λ (q : ℕ) (d : ℕ). k q d) (eqb-true p pid s.0) (eqb-true c conf s.1))
          by false h = refl

  learns_more : (m : Machine) (pid conf x : ℕ) → k pid conf ≤ x → IsSame (machine_with (boost k m) (Learn pid conf x)) (boost k (machine_with m (Learn pid conf x)))
  learns_more m pid conf x low = record { lists = λ c. refl; known = known; proposed = λ c. refl; opened = λ p c. refl }
    where
      known : (p c : ℕ) → cond (eqb p pid && eqb c conf) x (max (m.known p c) (k p c)) ≡ max (cond (eqb p pid && eqb c conf) x (m.known p c)) (k p c)
      known p c = by (eqb p pid && eqb c conf) refl
        where
          by : (b : Bool) → (eqb p pid && eqb c conf) ≡ b → cond b x (max (m.known p c) (k p c)) ≡ max (cond b x (m.known p c)) (k p c)
          by true h =
              let s = and_parts (eqb p pid) (eqb c conf) h in
              omega (arith, low, ap₂ (λ (q : ℕ) (d : ℕ). k q d) (eqb-true p pid s.0) (eqb-true c conf s.1))
          by false h = refl

  -- a step that is allowed is steps there
  one_step : (m : Machine) (s : MachineStep) → IsInside k m → IsAllowed m s → Leads (boost k m) (boost k (machine_with m s))
  one_step m (Propose conf e) low al = (Propose conf e ∷ [], (tt, tt), all_same (boost k (machine_with m (Propose conf e))))
  one_step m (Choose conf e) low al = (Choose conf e ∷ [], (al, tt), all_same (boost k (machine_with m (Choose conf e))))
  one_step m (Open pid conf) low al = (Open pid conf ∷ [], (al, tt), all_same (boost k (machine_with m (Open pid conf))))
  one_step m (Learn pid conf x) low al =
      ⊎_elim
      (λ (less : x < k pid conf). ([], tt, learns_less m pid conf x al.0 less))
      (λ (more : k pid conf ≤ x). (Learn pid conf x ∷ [], ((omega (arith, al.0, more), al.1), tt), learns_more m pid conf x more))
      (cases_lt x (k pid conf))

  all_steps : (ss : List MachineStep) (m : Machine) → IsInside k m → AreAllowed m ss → Leads (boost k m) (boost k (machine_after m ss))
  all_steps [] m low al = same_leads (boost k m)
  all_steps (s ∷ ss) m low al =
      leads_then (boost k m) (boost k (machine_with m s)) (boost k (machine_after (machine_with m s) ss)) (one_step m s low al.0)
      (all_steps ss (machine_with m s) (longer k m s low) al.1)

  -- so steps that lead from one machine to another lead there, too
  boosted_leads : (m n : Machine) → IsInside k m → Leads m n → Leads (boost k m) (boost k n)
  boosted_leads m n low l = subst (λ (y : Machine). Leads (boost k m) (boost k y)) (same_path (machine_after m l.0) n l.2) (all_steps l.0 m low l.1)

  -- ---- what a happening shows of it

  proposed_in : (m : Machine) (es : List Entry) (o : Option Part) (r : Option Refusal) → machine_proposing_in (boost k m) es o r ≡ boost k (machine_proposing_in m es o r)
  proposed_in m es None r = refl
  proposed_in m es (Some p) (Some r) = refl
  proposed_in m [] (Some p) None = refl
  proposed_in m (e ∷ es) (Some p) None = proposed_in (machine_proposing m p.conf e) es (Some p) None

  proposed_input : (m : Machine) (me : ℕ) (s : State) (x : Input) → machine_proposing_input (boost k m) me s x ≡ boost k (machine_proposing_input m me s x)
  proposed_input m me s (input.Commands cs) = proposed_in m (entries_of cs) s.durable.part (refusal_of me s.volatile.role s.durable (entries_of cs))
  proposed_input m me s (input.Stop members) =
      proposed_in m (entry.Stop (stop_for s.durable.part members) ∷ []) s.durable.part (refusal_of me s.volatile.role s.durable (entry.Stop (stop_for s.durable.part members) ∷ []))
  proposed_input m me s input.Tick = refl
  proposed_input m me s (input.Deliver q msg) = refl
  proposed_input m me s input.TrimNow = refl
  proposed_input m me s (input.Read r) = refl
  proposed_input m me s (input.Up q) = refl
  proposed_input m me s (input.Down q) = refl

  proposed_if : (st : NodeStatus) (m : Machine) (me : ℕ) (s : State) (d : Doing) → machine_proposing_if st (boost k m) me s d ≡ boost k (machine_proposing_if st m me s d)
  proposed_if Up m me s (Steps x) = proposed_input m me s x
  proposed_if Up m me s Stops = refl
  proposed_if Up m me s Opens = refl
  proposed_if Up m me s (Tells t) = refl
  proposed_if (Down after) m me s d = refl
  proposed_if (Failed count after) m me s d = refl

  proposed_at : (m : Machine) (o : Option Node) (d : Doing) → machine_proposing_at (boost k m) o d ≡ boost k (machine_proposing_at m o d)
  proposed_at m None d = refl
  proposed_at m (Some n) d = proposed_if n.status m n.pid n.state d

  proposed_by : (m : Machine) (nodes : List Node) (o : Option Deed) → machine_proposing_by (boost k m) nodes o ≡ boost k (machine_proposing_by m nodes o)
  proposed_by m nodes None = refl
  proposed_by m nodes (Some x) = proposed_at m (node_at nodes x.pid) x.doing

  showing : (m : Machine) (pid : ℕ) (d : Durable) → machine_showing (boost k m) pid d ≡ boost k (machine_showing m pid d)
  showing m pid d = same_path (machine_showing (boost k m) pid d) (boost k (machine_showing m pid d)) (record { lists = λ c. refl; known = known; proposed = λ c. refl; opened = λ p c. refl })
    where
      known : (p c : ℕ) → cond (eqb p pid) (max (max (m.known p c) (k p c)) (decided_in d c)) (max (m.known p c) (k p c)) ≡ max (cond (eqb p pid) (max (m.known p c) (decided_in d c)) (m.known p c)) (k p c)
      known p c = by (eqb p pid)
        where
          by : (b : Bool) → cond b (max (max (m.known p c) (k p c)) (decided_in d c)) (max (m.known p c) (k p c)) ≡ max (cond b (max (m.known p c) (decided_in d c)) (m.known p c)) (k p c)
          by true = omega arith
          by false = refl

  showing_all : (nodes : List Node) (m : Machine) → machine_showing_all (boost k m) nodes ≡ boost k (machine_showing_all m nodes)
  showing_all [] m = refl
  showing_all (n ∷ nodes) m =
      ap (λ (y : Machine). machine_showing_all y nodes) (showing m n.pid n.state.durable) ∙ showing_all nodes (machine_showing m n.pid n.state.durable)

-- ---- observers learn

-- what is known more, then
abbrev learned : Known → ℕ → Durable → Known
learned k pid d = λ p c. cond (eqb p pid) (max (k p c) (decided_in d c)) (k p c)

learned_all : Known → List Node → Known
learned_all k [] = k
learned_all k (n ∷ nodes) = learned_all (learned k n.pid n.state.durable) nodes

learning : (k : Known) (m : Machine) (pid : ℕ) (d : Durable) → machine_learning (boost k m) pid d ≡ boost (learned k pid d) m
learning k m pid d = same_path (machine_learning (boost k m) pid d) (boost (learned k pid d) m) (record { lists = λ c. refl; known = known; proposed = λ c. refl; opened = λ p c. refl })
  where
    known : (p c : ℕ) → cond (eqb p pid) (max (max (m.known p c) (k p c)) (decided_in d c)) (max (m.known p c) (k p c)) ≡ max (m.known p c) (cond (eqb p pid) (max (k p c) (decided_in d c)) (k p c))
    known p c = by (eqb p pid)
      where
        by : (b : Bool) → cond b (max (max (m.known p c) (k p c)) (decided_in d c)) (max (m.known p c) (k p c)) ≡ max (m.known p c) (cond b (max (k p c) (decided_in d c)) (k p c))
        by true = omega arith
        by false = refl

learning_all : (nodes : List Node) (k : Known) (m : Machine) → machine_learning_all (boost k m) nodes ≡ boost (learned_all k nodes) m
unfolding learned_all
learning_all [] k m = refl
learning_all (n ∷ nodes) k m =
    ap (λ (y : Machine). machine_learning_all y nodes) (learning k m n.pid n.state.durable) ∙ learning_all nodes (learned k n.pid n.state.durable) m

-- an observer has decided a part of its configuration's list, and nothing else
abbrev CanLearn : Machine → Durable → Type 0
CanLearn m d = (p : Part) × (d ≡ durable_of p) × (p.decided ≤ length (m.lists p.conf))

module _ (m : Machine) (inside : (p c : ℕ) → m.known p c ≤ length (m.lists c)) where
  -- how much of a configuration such a part has
  abbrev has : Part → ℕ → ℕ
  has p c = max (cond (eqb c p.conf) p.decided 0) 0

  -- what it knows then
  abbrev then_known : Known → ℕ → Part → ℕ
  then_known k pid p = max (max (m.known pid p.conf) (k pid p.conf)) p.decided

  part_learns : (k : Known) (pid : ℕ) (p : Part) → IsInside k m → p.decided ≤ length (m.lists p.conf) → Leads (boost k m) (machine_learning (boost k m) pid (durable_of p))
  part_learns k pid p low fits = (Learn pid p.conf (then_known k pid p) ∷ [], ((omega arith, omega (arith, low pid p.conf, inside pid p.conf, fits)), tt), record { lists = λ c. refl; known = known; proposed = λ c. refl; opened = λ q c. refl })
    where
      known : (q c : ℕ) → cond (eqb q pid && eqb c p.conf) (then_known k pid p) (max (m.known q c) (k q c)) ≡ cond (eqb q pid) (max (max (m.known q c) (k q c)) (has p c)) (max (m.known q c) (k q c))
      known q c = by (eqb q pid) refl (eqb c p.conf) refl
        where
          by : (a : Bool) → eqb q pid ≡ a → (b : Bool) → eqb c p.conf ≡ b
              → cond (a && b) (then_known k pid p) (max (m.known q c) (k q c)) ≡ cond a (max (max (m.known q c) (k q c)) (max (cond b p.decided 0) 0)) (max (m.known q c) (k q c))
          by true h true g =
              omega (arith, ap₂ (λ (r : ℕ) (d : ℕ). m.known r d) (eqb-true q pid h) (eqb-true c p.conf g), ap₂ (λ (r : ℕ) (d : ℕ). k r d) (eqb-true q pid h) (eqb-true c p.conf g))
          by true h false g = omega arith
          by false h b g = refl

  part_inside : (k : Known) (pid : ℕ) (p : Part) → IsInside k m → p.decided ≤ length (m.lists p.conf) → IsInside (learned k pid (durable_of p)) m
  part_inside k pid p low fits q c = by (eqb q pid) (eqb c p.conf) refl
    where
      by : (a b : Bool) → eqb c p.conf ≡ b → cond a (max (k q c) (max (cond b p.decided 0) 0)) (k q c) ≤ length (m.lists c)
      by true true g = omega (arith, low q c, fits, ap (λ (d : ℕ). length (m.lists d)) (eqb-true c p.conf g))
      by true false g = omega (arith, low q c)
      by false b g = low q c

  -- all of them do
  observers_learn : (nodes : List Node) (k : Known) → IsInside k m → All (λ (n : Node). CanLearn m n.state.durable) nodes
      → Leads (boost k m) (machine_learning_all (boost k m) nodes) × IsInside (learned_all k nodes) m
  unfolding learned_all
  observers_learn [] k low can = (same_leads (boost k m), low)
  observers_learn (n ∷ nodes) k low can =
      let d : Durable = n.state.durable in
      let here : CanLearn m d = All-head (λ (y : Node). CanLearn m y.state.durable) n nodes can in
      let one : Leads (boost k m) (machine_learning (boost k m) n.pid d) = subst (λ (y : Durable). Leads (boost k m) (machine_learning (boost k m) n.pid y)) (sym here.1) (part_learns k n.pid here.0 low here.2) in
      let next : IsInside (learned k n.pid d) m = subst (λ (y : Durable). IsInside (learned k n.pid y) m) (sym here.1) (part_inside k n.pid here.0 low here.2) in
      let rest = observers_learn nodes (learned k n.pid d) next (All-tail (λ (y : Node). CanLearn m y.state.durable) n nodes can) in (
        leads_then (boost k m) (machine_learning (boost k m) n.pid d) (machine_learning_all (machine_learning (boost k m) n.pid d) nodes) one
            (subst (λ (y : Machine). Leads y (machine_learning_all y nodes)) (sym (learning k m n.pid d)) rest.0),
        rest.1,
      )

-- ---- runs

-- the execution in which so much more is known
abbrev boosted : Known → Execution → Execution
boosted k t = record { world = t.world; machine = boost k t.machine }

shown_boosted : (k : Known) (t : Execution) (h : Happening) → (execution_with (boosted k t) h).machine ≡ boost k (execution_with t h).machine
shown_boosted k t h =
    let deed : Option Deed = deed_of t.world.messages h.event.what in
    ap (λ (y : Machine). machine_showing_all y (world_after t.world h).nodes) (proposed_by k t.machine t.world.nodes deed)
    ∙ showing_all k (world_after t.world h).nodes (machine_proposing_by t.machine t.world.nodes deed)

watched_boosted : (k : Known) (t : Execution) (h : Happening) → watched_with (boosted k t) h ≡ boosted (learned_all k (execution_with t h).world.observers) (execution_with t h)
watched_boosted k t h =
    let u : Execution = execution_with t h in
    let is : machine_learning_all (execution_with (boosted k t) h).machine u.world.observers ≡ boost (learned_all k u.world.observers) u.machine =
    ap (λ (y : Machine). machine_learning_all y u.world.observers) (shown_boosted k t h) ∙ learning_all u.world.observers k u.machine in
    λ i. record { world = u.world; machine = is i }

watched_more : (t : Execution) (xs : List Happening) (h : Happening) → watched_of t (xs ++ h ∷ []) ≡ watched_with (watched_of t xs) h
watched_more t [] h = refl
watched_more t (x ∷ xs) h = watched_more (watched_with t x) xs h

-- what a run meets, it meets at its last happening
last_goes : (members : List ℕ) (t : Execution) (xs : List Happening) (h : Happening) → MeetsFrom members t (xs ++ h ∷ []) → GoesOn members (execution_of t xs) (execution_with (execution_of t xs) h)
last_goes members t [] h k = k.0
last_goes members t (x ∷ xs) h k = last_goes members (execution_with t x) xs h k.1

module _ (members spares : List ℕ) (m : MembersInRange members) (s : SparesInRange members spares) where
  abbrev moment : List Happening → Execution
  moment hs = execution_of (first_execution members spares) hs

  abbrev watched : List Happening → Execution
  watched hs = watched_of (first_execution members spares) hs

  -- so much more is known where observers know what they have decided
  record Watched (hs : List Happening) : Type 0 where
    more : Known
    is : watched hs ≡ boosted more (moment hs)
    inside : IsInside more (moment hs).machine

  module _ (hs : List Happening) (h : Happening) (range : HappeningsInRange (hs ++ h ∷ [])) (w : Watched hs) where
    abbrev t : Execution
    t = moment hs

    abbrev u : Execution
    u = execution_with t h

    goes : GoesOn members t u
    goes = last_goes members (first_execution members spares) hs h (every_run_meets members spares m s (hs ++ h ∷ []) range).1

    -- lists only grow
    inside_then : IsInside w.more u.machine
    inside_then p c = let g = goes.grows.lists c in omega (arith, w.inside p c, ap (λ (l : List Entry). length l) g.1, length-append (t.machine.lists c) g.0)

    observers_can : All (λ (n : Node). CanLearn u.machine n.state.durable) u.world.observers
    observers_can =
        let each : All (ObserverStands members u.machine.lists) u.world.observers =
        subst (λ (x : Execution). All (ObserverStands members x.machine.lists) x.world.observers) (one_more (first_execution members spares) hs h) (every_observer_stands members spares m s (hs ++ h ∷ []) range) in
        λ i d within. can _ (each i d within)
      where
        can : (n : Node) → ObserverStands members u.machine.lists n → CanLearn u.machine n.state.durable
        can n o =
            let watches = o.watches in
            let part : IfPartStands members u.machine.lists (Some watches.part) = subst (λ (y : Durable). IfPartStands members u.machine.lists y.part) watches.alone o.stands.part in
            (watches.part, watches.alone, part.decided)

    learn : Leads (boost w.more u.machine) (machine_learning_all (boost w.more u.machine) u.world.observers) × IsInside (learned_all w.more u.world.observers) u.machine
    learn = observers_learn u.machine goes.sound.safe.known u.world.observers w.more inside_then observers_can

    -- the happening is steps of it
    steps : Leads (watched hs).machine (watched_with (watched hs) h).machine
    steps =
        subst (λ (x : Execution). Leads x.machine (watched_with x h).machine) (sym w.is)
        (leads_then (boost w.more t.machine) (boost w.more u.machine) (machine_learning_all (execution_with (boosted w.more t) h).machine u.world.observers)
        (boosted_leads w.more t.machine u.machine w.inside goes.leads)
        (subst (λ (y : Machine). Leads (boost w.more u.machine) (machine_learning_all y u.world.observers)) (sym (shown_boosted w.more t h)) learn.0))

    goes_on : Watched (hs ++ h ∷ [])
    goes_on = record {
      more = learned_all w.more u.world.observers;
      is =
          watched_more (first_execution members spares) hs h ∙ ap (λ (x : Execution). watched_with x h) w.is ∙ watched_boosted w.more t h
          ∙ ap (boosted (learned_all w.more u.world.observers)) (sym (one_more (first_execution members spares) hs h));
      inside = subst (λ (x : Execution). IsInside (learned_all w.more u.world.observers) x.machine) (sym (one_more (first_execution members spares) hs h)) learn.1;
    }

  -- at the start nothing more is known
  begins : Watched []
  begins = record {
    more = λ p c. 0;
    is = λ i. record { world = (moment []).world; machine = none i };
    inside = λ p c. omega arith;
  }
    where
      none : (moment []).machine ≡ boost (λ p c. 0) (moment []).machine
      none = same_path (moment []).machine (boost (λ p c. 0) (moment []).machine) (record { lists = λ c. refl; known = λ p c. omega arith; proposed = λ c. refl; opened = λ p c. refl })

  all_watched : (late early : List Happening) → HappeningsInRange (early ++ late) → Watched early → Watched (early ++ late)
  all_watched [] early range w = subst Watched (sym (append-nil early)) w
  all_watched (h ∷ late) early range w =
      let same : (early ++ h ∷ []) ++ late ≡ early ++ h ∷ late = append_assoc early (h ∷ []) late in
      let all : HappeningsInRange ((early ++ h ∷ []) ++ late) = subst HappeningsInRange (sym same) range in
      subst Watched same (all_watched late (early ++ h ∷ []) all (goes_on early h (range_front (early ++ h ∷ []) late all) w))

-- behind every run
pub every_observer_learns : EveryObserverLearns
every_observer_learns members spares m s hs h range = steps members spares m s hs h range (all_watched members spares m s hs [] (range_front hs (h ∷ []) range) (begins members spares m s))
