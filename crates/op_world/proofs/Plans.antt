-- What is planned for the disks of nodes, as it is read from them, and what may come of it.
use Rattle.std.proofs.Common.{◌≡◌, ◌⊎◌, ◌&&◌, ◌||◌, ℕ, zero, suc, Bool, true, false, cond, eqb, ◌<◌, ◌+◌, List, [], ◌∷◌, length, map, get_or, set, Option, Some, None, All, refl, sym, ap, subst, ◌∙◌, arith, inl, inr}
use Rattle.std.proofs.lemmas.Bool.{cond_both, cond-true, cond-false, eqb-true, eqb-false}
use Rattle.std.proofs.lemmas.List.Elements.{All-head, All-tail}
use Rattle.std.proofs.Math.Path.{fun_ext}
use Rattle.op_areas.specs.Media.{Medium}
use Rattle.op_protocol.specs.State.{State}
use Rattle.op_runs.specs.World.{Node, NodeStatus, Up, Down, Failed, Fate, Done, Doing, Steps, Stops, Opens, Tells}
use Rattle.op_runs.specs.World as runs
use Rattle.op_runs.specs.Possible.{IsDisk}
use Rattle.op_runs.specs.Schedules.{Awaited, Nothing, Stop, Failure, Seated, DiskPlan, DiskPlans, no_plan, no_plans, plans_with, awaiting, killing, is_killed, is_lost, is_awaited, drops, MayFail, MayEnd}
use Rattle.op_executions.specs.Worlds.{place_of}
use Rattle.op_replay_nodes.specs.Plans.{awaited_of, lost_in, killed_with, nothing_planned, plan_with}
use Rattle.op_world.specs.Plans.{plan_at, disk_plan_with, ArePlanned, IsPlan}
use Rattle.op_replay_nodes.specs.Nodes.{IsShown, is_awaited_at, drops_at}
use Rattle.op_replay_nodes.specs.declared.awaited.Planned.{Planned}
use Rattle.op_replay_nodes.specs.declared.awaited.Planned.TheVariants as planned
use Rattle.op_replay_nodes.specs.declared.node_state.NodeState.{NodeState}
use Rattle.op_replay_nodes.specs.declared.node_state.NodeState.TheVariants as node
use Rattle.op_replay_nodes.specs.declared.node_state.WorldNode.{WorldNode}
use Rattle.op_replay_nodes.specs.declared.plan.Killed.{Killed}
use Rattle.op_replay_nodes.specs.declared.plan.Plan.{Plan}

-- ---- read from the nodes

-- from now on this is kept of the node of this id
abbrev pub keeping : (ℕ → Plan) → ℕ → Plan → ℕ → Plan
keeping plans pid x q = cond (eqb q pid) x (plans q)

turned : (a b : ℕ) → eqb a b ≡ eqb b a
turned a b = by (eqb a b) refl (eqb b a) refl
  where
    by : (c : Bool) → eqb a b ≡ c → (d : Bool) → eqb b a ≡ d → eqb a b ≡ eqb b a
    by true h true k = h ∙ sym k
    by true h false k = absurd (eqb-false b a k (sym (eqb-true a b h)))
    by false h true k = absurd (eqb-false a b h (sym (eqb-true b a k)))
    by false h false k = h ∙ sym k

abbrev pub ids_of : {D C : Type 0} → List (WorldNode D C) → List ℕ
ids_of nodes = map (λ n. n.pid) nodes

-- whatever stands for what isn't there
pub get_any : {A : Type 0} (xs : List A) (k : ℕ) (a b : A) → k < length xs → get_or xs k a ≡ get_or xs k b
get_any [] k a b there = absurd (omega arith)
get_any (x ∷ xs) zero a b there = refl
get_any (x ∷ xs) (suc k) a b there = get_any xs k a b (let less : k < length xs = omega arith in less)

-- it is kept by the node at the place of the id
pub planned_at : {D C : Type 0} (nodes : List (WorldNode D C)) (pid : ℕ) (d : WorldNode D C) → place_of (ids_of nodes) pid < length nodes → plan_at nodes pid ≡ (get_or nodes (place_of (ids_of nodes) pid) d).plan
planned_at [] pid d there = absurd (omega arith)
planned_at (n ∷ nodes) pid d there = by (eqb n.pid pid) refl (λ later. planned_at nodes pid d later)
  where
    here : eqb pid n.pid ≡ eqb n.pid pid
    here = turned pid n.pid

    by : (b : Bool) → eqb n.pid pid ≡ b → (place_of (ids_of nodes) pid < length nodes → plan_at nodes pid ≡ (get_or nodes (place_of (ids_of nodes) pid) d).plan)
        → plan_at (n ∷ nodes) pid ≡ (get_or (n ∷ nodes) (place_of (ids_of (n ∷ nodes)) pid) d).plan
    by true h rest =
        let place : place_of (ids_of (n ∷ nodes)) pid ≡ 0 = cond-true (eqb n.pid pid) 0 (1 + place_of (ids_of nodes) pid) h in
        cond-true (eqb pid n.pid) n.plan (plan_at nodes pid) (here ∙ h) ∙ ap (λ (k : ℕ). (get_or (n ∷ nodes) k d).plan) (sym place)
    by false h rest =
        let k = place_of (ids_of nodes) pid in
        let next : suc k ≡ 1 + k = omega arith in
        let place : place_of (ids_of (n ∷ nodes)) pid ≡ suc k = cond-false (eqb n.pid pid) 0 (1 + k) h ∙ sym next in
        let later : k < length nodes = omega (arith, there, place) in
        cond-false (eqb pid n.pid) n.plan (plan_at nodes pid) (here ∙ h) ∙ rest later ∙ ap (λ (j : ℕ). (get_or (n ∷ nodes) j d).plan) (sym place)

-- another one at that place
set_at : {D C : Type 0} (nodes : List (WorldNode D C)) (pid : ℕ) (m : WorldNode D C) → m.pid ≡ pid → place_of (ids_of nodes) pid < length nodes → (q : ℕ)
    → plan_at (set nodes (place_of (ids_of nodes) pid) m) q ≡ keeping (plan_at nodes) pid m.plan q
set_at [] pid m is there q = absurd (omega arith)
set_at (n ∷ nodes) pid m is there q = by (eqb n.pid pid) refl (λ later. set_at nodes pid m is later q)
  where
    by : (b : Bool) → eqb n.pid pid ≡ b
        → (place_of (ids_of nodes) pid < length nodes → plan_at (set nodes (place_of (ids_of nodes) pid) m) q ≡ cond (eqb q pid) m.plan (plan_at nodes q))
        → plan_at (set (n ∷ nodes) (place_of (ids_of (n ∷ nodes)) pid) m) q ≡ cond (eqb q pid) m.plan (cond (eqb q n.pid) n.plan (plan_at nodes q))
    by true h further =
        let a : Plan = m.plan in
        let rest : Plan = plan_at nodes q in
        let old : Plan = cond (eqb q n.pid) n.plan rest in
        let place : place_of (ids_of (n ∷ nodes)) pid ≡ 0 = cond-true (eqb n.pid pid) 0 (1 + place_of (ids_of nodes) pid) h in
        let same : n.pid ≡ pid = eqb-true n.pid pid h in
        ap (λ (k : ℕ). plan_at (set (n ∷ nodes) k m) q) place
        ∙ ap (λ (p : ℕ). cond (eqb q p) a rest) is
        ∙ cond_both (eqb q pid) a rest (λ (x : Plan). x ≡ cond (eqb q pid) a old)
        (λ here. sym (cond-true (eqb q pid) a old here))
        (λ away. sym (cond-false (eqb q pid) a old away ∙ cond-false (eqb q n.pid) n.plan rest (ap (λ (p : ℕ). eqb q p) same ∙ away)))
    by false h further =
        let a : Plan = m.plan in
        let rest : Plan = plan_at nodes q in
        let old : Plan = cond (eqb q n.pid) n.plan rest in
        let k = place_of (ids_of nodes) pid in
        let next : suc k ≡ 1 + k = omega arith in
        let place : place_of (ids_of (n ∷ nodes)) pid ≡ suc k = cond-false (eqb n.pid pid) 0 (1 + k) h ∙ sym next in
        let later : k < length nodes = omega (arith, there, place) in
        ap (λ (j : ℕ). plan_at (set (n ∷ nodes) j m) q) place
        ∙ ap (λ (x : Plan). cond (eqb q n.pid) n.plan x) (further later)
        ∙ cond_both (eqb q pid) a old (λ (x : Plan). cond (eqb q n.pid) n.plan (cond (eqb q pid) a rest) ≡ x)
        (λ here.
        let other : eqb q n.pid ≡ false = ap (λ (p : ℕ). eqb p n.pid) (eqb-true q pid here) ∙ turned pid n.pid ∙ h in
        cond-false (eqb q n.pid) n.plan (cond (eqb q pid) a rest) other ∙ cond-true (eqb q pid) a rest here)
        (λ away. ap (λ (x : Plan). cond (eqb q n.pid) n.plan x) (cond-false (eqb q pid) a rest away))

pub planned_set : {D C : Type 0} (nodes : List (WorldNode D C)) (pid k : ℕ) (m : WorldNode D C) → k ≡ place_of (ids_of nodes) pid → k < length nodes → m.pid ≡ pid → plan_at (set nodes k m) ≡ keeping (plan_at nodes) pid m.plan
planned_set nodes pid k m at there is =
    ap (λ (j : ℕ). plan_at (set nodes j m)) at ∙ fun_ext (set_at nodes pid m is (subst (λ (j : ℕ). j < length nodes) at there))

-- ---- the plans of the definitions

-- these are kept then
pub planned_with : {D C : Type 0} (old new : List (WorldNode D C)) (plans : DiskPlans) (pid : ℕ) (x : Plan) (y : DiskPlan) → plan_at new ≡ keeping (plan_at old) pid x → IsPlan x y → ArePlanned old plans → ArePlanned new (plans_with plans pid y)
planned_with old new plans pid x y is plan all q = subst (λ (p : Plan). IsPlan p (cond (eqb q pid) y (plans q))) (sym (ap (λ (f : ℕ → Plan). f q) is)) (by (eqb q pid))
  where
    by : (b : Bool) → IsPlan (cond b x (plan_at old q)) (cond b y (plans q))
    by true = plan
    by false = all q

-- the same where it was kept before
pub planned_still : {D C : Type 0} (old new : List (WorldNode D C)) (plans : DiskPlans) (pid : ℕ) (x : Plan) → plan_at new ≡ keeping (plan_at old) pid x → IsPlan x (plans pid) → ArePlanned old plans → ArePlanned new plans
planned_still old new plans pid x is plan all q = subst (λ (p : Plan). IsPlan p (plans q)) (sym (ap (λ (f : ℕ → Plan). f q) is)) (by (eqb q pid) refl)
  where
    by : (b : Bool) → eqb q pid ≡ b → IsPlan (cond b x (plan_at old q)) (plans q)
    by true h = subst (λ (p : ℕ). IsPlan x (plans p)) (sym (eqb-true q pid h)) plan
    by false h = all q

-- what was dropped is dropped again
pub planned_again : {D C : Type 0} (nodes : List (WorldNode D C)) (plans : DiskPlans) (pid : ℕ) → (let ps : DiskPlans = plans_with plans pid (awaiting (plans pid) Nothing) in ArePlanned nodes (plans_with ps pid (awaiting (ps pid) Nothing)))
    → ArePlanned nodes (plans_with plans pid (awaiting (plans pid) Nothing))
planned_again nodes plans pid all q = by (eqb q pid) (eqb pid pid) (all q)
  where
    by : (b c : Bool) → IsPlan (plan_at nodes q) (cond b (awaiting (cond c (awaiting (plans pid) Nothing) (plans pid)) Nothing) (cond b (awaiting (plans pid) Nothing) (plans q))) → IsPlan (plan_at nodes q) (cond b (awaiting (plans pid) Nothing) (plans q))
    by true true k = k
    by true false k = k
    by false c k = k

-- what awaits a node is dropped
pub plan_dropped : (p q : Plan) (plan : DiskPlan) → IsPlan p plan → awaited_of q.awaited ≡ Nothing → q.killed ≡ p.killed → IsPlan q (awaiting plan Nothing)
plan_dropped p q plan is none same = record {
  awaited = sym none;
  first = is.first ∙ ap (λ (k : Killed). k.first) (sym same);
  second = is.second ∙ ap (λ (k : Killed). k.second) (sym same);
  third = is.third ∙ ap (λ (k : Killed). k.third) (sym same);
  fourth = is.fourth ∙ ap (λ (k : Killed). k.fourth) (sym same);
}

pub plan_stays : (p q : Plan) (plan : DiskPlan) → IsPlan p plan → awaited_of q.awaited ≡ awaited_of p.awaited → q.killed ≡ p.killed → IsPlan q plan
plan_stays p q plan is awaited same = record {
  awaited = is.awaited ∙ sym awaited;
  first = is.first ∙ ap (λ (k : Killed). k.first) (sym same);
  second = is.second ∙ ap (λ (k : Killed). k.second) (sym same);
  third = is.third ∙ ap (λ (k : Killed). k.third) (sym same);
  fourth = is.fourth ∙ ap (λ (k : Killed). k.fourth) (sym same);
}

-- nothing is planned at the start
pub first_plan : IsPlan nothing_planned no_plan
first_plan = record { awaited = refl; first = refl; second = refl; third = refl; fourth = refl }

pub nothing_first : {D C : Type 0} (nodes : List (WorldNode D C)) → All (λ n. n.plan ≡ nothing_planned) nodes → ArePlanned nodes no_plans
nothing_first [] each q = first_plan
nothing_first (n ∷ nodes) each q = by (eqb q n.pid) (nothing_first nodes (All-tail (λ x. x.plan ≡ nothing_planned) n nodes each) q)
  where
    here : IsPlan n.plan no_plan
    here = subst (λ (p : Plan). IsPlan p no_plan) (sym (All-head (λ x. x.plan ≡ nothing_planned) n nodes each)) first_plan

    by : (b : Bool) → IsPlan (plan_at nodes q) no_plan → IsPlan (cond b n.plan (plan_at nodes q)) no_plan
    by true later = here
    by false later = later

-- an area is lost in the one where it is in the other
pub lost_is : (m : Bool) (p : Plan) (plan : DiskPlan) → IsPlan p plan → is_lost m plan ≡ lost_in m p.killed
lost_is false p plan is = ap (λ (b : Bool). b || is_killed plan 2) is.first ∙ ap (λ (b : Bool). (p.killed).first || b) is.second
lost_is true p plan is =
    ap (λ (b : Bool). (b && is_killed plan 3) || (is_killed plan 2 && is_killed plan 4)) is.first
    ∙ ap (λ (b : Bool). ((p.killed).first && b) || (is_killed plan 2 && is_killed plan 4)) is.third
    ∙ ap (λ (b : Bool). ((p.killed).first && (p.killed).third) || (b && is_killed plan 4)) is.second
    ∙ ap (λ (b : Bool). ((p.killed).first && (p.killed).third) || ((p.killed).second && b)) is.fourth

-- what an event plans is planned beside what was
abbrev pub PlansInRange : Planned → Type 0
PlansInRange (planned.Awaits awaited) = Unit {0}
PlansInRange (planned.Kills disk) = IsDisk disk

killed_more : (disk : ℕ) (p : Plan) (plan : DiskPlan) → (disk ≡ 1) ⊎ (disk ≡ 2) ⊎ (disk ≡ 3) ⊎ (disk ≡ 4) → IsPlan p plan → IsPlan (record p { killed = killed_with disk p.killed }) (killing plan disk)
killed_more disk p plan (inl one) is =
    subst (λ (d : ℕ). IsPlan (record p { killed = killed_with d p.killed }) (killing plan d)) (sym one) (record { awaited = is.awaited; first = refl; second = is.second; third = is.third; fourth = is.fourth })
killed_more disk p plan (inr (inl two)) is =
    subst (λ (d : ℕ). IsPlan (record p { killed = killed_with d p.killed }) (killing plan d)) (sym two) (record { awaited = is.awaited; first = is.first; second = refl; third = is.third; fourth = is.fourth })
killed_more disk p plan (inr (inr (inl three))) is =
    subst (λ (d : ℕ). IsPlan (record p { killed = killed_with d p.killed }) (killing plan d)) (sym three) (record { awaited = is.awaited; first = is.first; second = is.second; third = refl; fourth = is.fourth })
killed_more disk p plan (inr (inr (inr four))) is =
    subst (λ (d : ℕ). IsPlan (record p { killed = killed_with d p.killed }) (killing plan d)) (sym four) (record { awaited = is.awaited; first = is.first; second = is.second; third = is.third; fourth = refl })

which_disk : (disk : ℕ) → IsDisk disk → (disk ≡ 1) ⊎ (disk ≡ 2) ⊎ (disk ≡ 3) ⊎ (disk ≡ 4)
which_disk zero in_range = absurd (let low = in_range.0 in omega (arith, low))
which_disk (suc zero) in_range = inl refl
which_disk (suc (suc zero)) in_range = inr (inl refl)
which_disk (suc (suc (suc zero))) in_range = inr (inr (inl refl))
which_disk (suc (suc (suc (suc zero)))) in_range = inr (inr (inr refl))
which_disk (suc (suc (suc (suc (suc n))))) in_range = absurd (let high = in_range.1 in omega (arith, high))

pub planned_more : (planned : Planned) (p : Plan) (plan : DiskPlan) → PlansInRange planned → IsPlan p plan → IsPlan (plan_with planned p) (disk_plan_with planned plan)
planned_more (planned.Awaits awaited) p plan fit is = record { awaited = refl; first = is.first; second = is.second; third = is.third; fourth = is.fourth }
planned_more (planned.Kills disk) p plan fit is = killed_more disk p plan (which_disk disk fit) is

pub awaited_drops : (s : Seated) (d : Doing) → is_awaited s.node.status d ≡ true → drops d (Some s) ≡ true
awaited_drops s (Steps i) is = is
awaited_drops s Stops is = refl
awaited_drops s Opens is = is
awaited_drops s (Tells t) is = is

tells_nothing : (status : NodeStatus) (n : Node) → n.status ≡ status → (t : runs.Told) → is_awaited n.status (Tells t) ≡ false
tells_nothing Up n is t = ap (λ (st : NodeStatus). is_awaited st (Tells t)) is
tells_nothing (Down after) n is t = ap (λ (st : NodeStatus). is_awaited st (Tells t)) is
tells_nothing (Failed count after) n is t = ap (λ (st : NodeStatus). is_awaited st (Tells t)) is

module _ {D C : Type 0} (M : Medium D C) where
  -- it is the same of a node that is shown
  pub awaited_there : (s : NodeState D C) (x : State) (status : NodeStatus) (d : Doing) → IsShown M s x status → is_awaited_at s d ≡ is_awaited status d
  awaited_there (node.Up n) x status d shown = ap (λ (st : NodeStatus). is_awaited st d) (sym shown.1)
  awaited_there (node.Failed n) x status d shown = failed d ∙ ap (λ (st : NodeStatus). is_awaited st d) (sym shown.status_is)
    where
      failed : (e : Doing) → is_awaited_at {D = D} {C = C} (node.Failed n) e ≡ is_awaited (Failed shown.count shown.after) e
      failed (Steps i) = refl
      failed Stops = refl
      failed Opens = refl
      failed (Tells t) = refl
  awaited_there (node.Down n) x status d shown = stopped d ∙ ap (λ (st : NodeStatus). is_awaited st d) (sym shown.status_is)
    where
      stopped : (e : Doing) → is_awaited_at {D = D} {C = C} (node.Down n) e ≡ is_awaited (Down shown.after) e
      stopped (Steps i) = refl
      stopped Stops = refl
      stopped Opens = refl
      stopped (Tells t) = refl

  -- so it drops what awaits the node
  pub dropped_there : (s : NodeState D C) (x : Seated) (d : Doing) → IsShown M s x.node.state x.node.status → drops_at s d ≡ drops d (Some x)
  dropped_there s x (Steps i) shown = awaited_there s x.node.state x.node.status (Steps i) shown
  dropped_there s x Stops shown = refl
  dropped_there s x Opens shown = awaited_there s x.node.state x.node.status Opens shown
  dropped_there s x (Tells t) shown = sym (tells_nothing x.node.status x.node refl t)

-- ---- what may come

pub may_map : (a : Awaited) (lost : Bool) (P Q : Type 0) (fate : Fate) (due : Bool) → (P → Q) → MayEnd a lost P fate due → MayEnd a lost Q fate due
may_map a lost P Q fate due f may = by a may
  where
    fails : (b : Bool) → MayFail b P fate → MayFail b Q fate
    fails b (inl done) = inl done
    fails b (inr k) = inr (k.0, f k.1, k.2, k.3)

    by : (c : Awaited) → MayEnd c lost P fate due → MayEnd c lost Q fate due
    by Nothing k = (fails lost k.0, k.1)
    by Stop (inl k) = inl (f k.0, k.1, k.2)
    by Stop (inr k) = inr (fails lost k.0, k.1)
    by Failure k = (fails true k.0, k.1)

-- the same where it is awaited
pub may_if : (b : Bool) (a : Awaited) (lost : Bool) (P Q : Type 0) (fate : Fate) (due : Bool) → (b ≡ true → P → Q) → MayEnd (cond b a Nothing) (b && lost) P fate due → MayEnd (cond b a Nothing) (b && lost) Q fate due
may_if true a lost P Q fate due f may = may_map a lost P Q fate due (f refl) may
may_if false a lost P Q fate due f may = by may.0
  where
    by : MayFail false P fate → MayEnd Nothing false Q fate due
    by (inl done) = (inl done, may.1)
    by (inr k) = absurd (let no : false ≡ true = k.0 in cc)

-- by what is planned in the definitions
pub may_planned : (m b : Bool) (p : Plan) (plan : DiskPlan) (calls : Type 0) (fate : Fate) (due : Bool) → IsPlan p plan → MayEnd (cond b (awaited_of p.awaited) Nothing) (b && lost_in m p.killed) calls fate due
    → (let now : DiskPlan = cond b plan no_plan in MayEnd now.awaited (is_lost m now) calls fate due)
may_planned m true p plan calls fate due is may =
    subst (λ (a : Awaited). MayEnd a (is_lost m plan) calls fate due) (sym is.awaited) (subst (λ (l : Bool). MayEnd (awaited_of p.awaited) l calls fate due) (sym (lost_is m p plan is)) may)
may_planned false false p plan calls fate due is may = may
may_planned true false p plan calls fate due is may = may

-- nothing stops where nothing is awaited
pub due_awaited : (b m : Bool) (plan : DiskPlan) (calls : Type 0) (fate : Fate) → (let now : DiskPlan = cond b plan no_plan in MayEnd now.awaited (is_lost m now) calls fate true) → b ≡ true
due_awaited true m plan calls fate may = refl
due_awaited false m plan calls fate may = absurd (let no : true ≡ false = may.1 in cc)

-- and all is done where nothing is planned
pub may_nothing : (b m : Bool) (plan : DiskPlan) (calls : Type 0) (fate : Fate) (due : Bool) → b ≡ false → (let now : DiskPlan = cond b plan no_plan in MayEnd now.awaited (is_lost m now) calls fate due) → fate ≡ Done
may_nothing true m plan calls fate due is may = absurd (let no : true ≡ false = is in cc)
may_nothing false false plan calls fate due is may = by may.0
  where
    by : MayFail false calls fate → fate ≡ Done
    by (inl done) = done
    by (inr k) = absurd (let no : false ≡ true = k.0 in cc)
may_nothing false true plan calls fate due is may = by may.0
  where
    by : MayFail false calls fate → fate ≡ Done
    by (inl done) = done
    by (inr k) = absurd (let no : false ≡ true = k.0 in cc)

-- what isn't something is nothing
pub told_nothing : {A : Type 0} (o : Option A) → ((x : A) → o ≡ Some x → ⊥) → o ≡ None
told_nothing None other = refl
told_nothing (Some x) other = absurd (other x refl)
