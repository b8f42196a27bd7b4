-- At a leader that is a majority alone no read waits: its own confirmation is enough for each.
use Rattle.std.proofs.Common.{◌≡◌, ◌≤◌, ℕ, suc, ◌+◌, ◌-◌, ◌*◌, ◌==◌, inl, inr, Bool, true, false, cond, not, eqb, leb, List, [], ◌∷◌, filter, map, length, Option, Some, None, refl, sym, ap, ◌∙◌, subst, arith}
use Rattle.std.specs.Prelude.{option_map}
use Rattle.std.proofs.lemmas.Bool.{le-leb, lt-ltb, ltb-true}
use Rattle.op_quorum.specs.Quorums.{is_majority, passing}
use Rattle.op_types.specs.Changes.{durable_after}
use Rattle.op_types.specs.RoleStates.{Leading}
use Rattle.op_types.specs.Roles.{Role}
use Rattle.op_types.specs.Roles as role
use Rattle.op_types.specs.declared.durable.Part.{Part}
use Rattle.op_types.specs.declared.events.Input.{Input}
use Rattle.op_reads.specs.declared.asked_read.AskedRead.{AskedRead}
use Rattle.op_reads.specs.Reads.{WaitingRead, Reads, with_read, confirming, with_confirmed, is_confirmed, without_answered}
use Rattle.op_protocol.specs.State.{State, state_after}
use Rattle.op_protocol.specs.Reading.{reads_at, asking_by, decided_of, adopted_of, asked_of, answered_of}
use Rattle.op_protocol.specs.Rows.{table_plan, step_plan}
use Rattle.op_protocol.proofs.Asked.{leads_is}
use Rattle.op_runs.specs.World.{Node, Happening, node_at, first_world, run_of}
use Rattle.op_refinement.proofs.View.{Each, Each-append}
use Rattle.op_laws.specs.Runs.{RunInRange}
use Rattle.op_laws.proofs.Asking.{Asked, Keeps, Takes, Confirms, asked, left_is, leads_on_is}
use Rattle.op_laws.proofs.Moves.{JoiningIsAbove, IfKept, Moves, step_moves}
use Rattle.op_laws.proofs.ReadsKept as kept
use Rattle.op_laws.proofs.TriedReads.{AreTried}

none_some : {A : Type 0} (a : A) → None ≡ Some a → ⊥
none_some a e = cc

some_same : {A : Type 0} (a b : A) → Some a ≡ Some b → a ≡ b
some_same a b e = cc

-- ---- what is missing for a read

-- at most the members that aren't this node
abbrev IsFew : ℕ → List ℕ → WaitingRead → Type 0
IsFew me members w = length w.missing ≤ length (filter (λ q. not (eqb q me)) members)

-- the reads are this node's, of these members
abbrev AreOf : ℕ → List ℕ → Reads → Type 0
AreOf me members reads = (reads.me ≡ me) × (reads.members ≡ members) × Each (IsFew me members) reads.waiting

-- the reads of a node are its own, of its part's members
abbrev pub IsOwn : ℕ → State → Type 0
IsOwn me s = (reads : Reads) → s.reads ≡ Some reads → (p : Part) → s.durable.part ≡ Some p → AreOf me p.members reads

filter_fewer : (f : ℕ → Bool) (xs : List ℕ) → length (filter f xs) ≤ length xs
filter_fewer f [] = omega arith
filter_fewer f (x ∷ xs) = by (f x) (filter_fewer f xs)
  where
    by : (b : Bool) → length (filter f xs) ≤ length xs → length (cond b (x ∷ filter f xs) (filter f xs)) ≤ suc (length xs)
    by true h = omega (arith, h)
    by false h = omega (arith, h)

each_left : (P : WaitingRead → Type 0) (test : WaitingRead → Bool) (ws : List WaitingRead) → Each P ws → Each P (filter test ws)
each_left P test [] k = tt
each_left P test (w ∷ ws) k = by (test w) (each_left P test ws k.1)
  where
    by : (b : Bool) → Each P (filter test ws) → Each P (cond b (w ∷ filter test ws) (filter test ws))
    by true h = (k.0, h)
    by false h = h

module _ (me : ℕ) (members : List ℕ) where
  one_confirms : (number from : ℕ) (w : WaitingRead) → IsFew me members w → IsFew me members (confirming number from w)
  one_confirms number from w h = by (eqb w.asked.number number)
    where
      by : (b : Bool) → IsFew me members (cond b (record w { missing = filter (λ q. not (eqb q from)) w.missing }) w)
      by true = omega (arith, h, filter_fewer (λ q. not (eqb q from)) w.missing)
      by false = h

  all_confirm : (number from : ℕ) (ws : List WaitingRead) → Each (IsFew me members) ws → Each (IsFew me members) (map (confirming number from) ws)
  all_confirm number from [] k = tt
  all_confirm number from (w ∷ ws) k = (one_confirms number from w k.0, all_confirm number from ws k.1)

  left_of : (early : Reads) (decided adopted : ℕ) → AreOf me members early → AreOf me members (without_answered early decided adopted)
  left_of early decided adopted k = by (leb adopted decided)
    where
      by : (b : Bool) → AreOf me members (cond b (record early { waiting = filter (λ w. not (is_confirmed (length early.members) w)) early.waiting }) early)
      by true = (k.0, k.1, each_left (IsFew me members) (λ w. not (is_confirmed (length early.members) w)) early.waiting k.2)
      by false = k

-- ---- a step
module _ (me : ℕ) (s : State) (x : Input) (own : IsOwn me s) (p : Part) (has : s.durable.part ≡ Some p) where
  of_base : (o : Option Reads) → s.reads ≡ o → AreOf me p.members (reads_at me p o)
  of_base None e = (refl, refl, tt)
  of_base (Some reads) e = own reads e p has

  -- what waits when an input has come
  of_asked : (early : Reads) → (asking_by me s x).reads ≡ Some early → AreOf me p.members early
  of_asked early e = by (asked me s x)
    where
      of_confirmed : (number from : ℕ) (o : Option Reads) → s.reads ≡ o → option_map (λ y. with_confirmed y number from) o ≡ Some early → AreOf me p.members early
      of_confirmed number from None h k = absurd (none_some early k)
      of_confirmed number from (Some reads) h k =
          let r = own reads h p has in
          subst (AreOf me p.members) (some_same (with_confirmed reads number from) early k) (r.0, r.1, all_confirm me p.members number from reads.waiting r.2)

      by : Asked me s x (asking_by me s x).reads → AreOf me p.members early
      by (Keeps same) = own early (sym same ∙ e) p has
      by (Takes t) =
          let part : t.part ≡ p = some_same t.part p (sym (leads_is s.durable.part s.durable.joining s.volatile.role t.part t.lead t.leads).part ∙ has) in
          let old : Reads = reads_at me p s.reads in
          let r = of_base s.reads refl in
          let new : length (filter (λ q. not (eqb q old.me)) old.members) ≤ length (filter (λ q. not (eqb q me)) p.members) =
          omega (arith, ap (λ (q : ℕ). length (filter (λ z. not (eqb z q)) old.members)) r.0, ap (λ (ms : List ℕ). length (filter (λ z. not (eqb z me)) ms)) r.1) in
          let taken : with_read old t.read ≡ early = ap (λ (y : Part). with_read (reads_at me y s.reads) t.read) (sym part) ∙ some_same (with_read (reads_at me t.part s.reads) t.read) early (sym t.is ∙ e) in
          subst (AreOf me p.members) taken (r.0, r.1, Each-append (IsFew me p.members) old.waiting _ r.2 (new, tt))
      by (Confirms t) = of_confirmed t.number t.from s.reads refl (sym t.is ∙ e)

idle_leads : {P : Type 0} (l : Leading) (r : Role) → r ≡ role.Leading l → r ≡ role.Idle → P
idle_leads l r a b = absurd (differ l (sym a ∙ b))
  where
    differ : (l : Leading) → role.Leading l ≡ role.Idle → ⊥
    differ l h = cc

step_own : (me : ℕ) (s : State) (x : Input) → JoiningIsAbove s.durable → IsOwn me s → IsOwn me (state_after s (step_plan me s x))
step_own me s x above own reads e q has_q =
    let left = left_is me s x reads e in
    let on = leads_on_is s.volatile.role (table_plan me s x).volatile.role left.leads in
    by left.early left.asked left.is on.new on.is (step_moves me s x above)
  where
    kept : (early : Reads) → (asking_by me s x).reads ≡ Some early → reads ≡ without_answered early (decided_of (durable_after s.durable (table_plan me s x).batch).part) (adopted_of (table_plan me s x).volatile.role)
        → ((p : Part) → s.durable.part ≡ Some p → q.members ≡ p.members) → (o : Option Part) → s.durable.part ≡ o → IfKept o (durable_after s.durable (step_plan me s x).batch).part → AreOf me q.members reads
    kept early ho is same None h k = absurd (none_some q (sym k ∙ has_q))
    kept early ho is same (Some p) h k =
        subst (λ (ms : List ℕ). AreOf me ms reads) (sym (same p h)) (subst (AreOf me p.members) (sym is) (left_of me p.members early _ _ (of_asked me s x own p h early ho)))

    by : (early : Reads) → (asking_by me s x).reads ≡ Some early → reads ≡ without_answered early (decided_of (durable_after s.durable (table_plan me s x).batch).part) (adopted_of (table_plan me s x).volatile.role)
        → (l : Leading) → (table_plan me s x).volatile.role ≡ role.Leading l → Moves me s x (step_plan me s x) → AreOf me q.members reads
    by early ho is l leads (inl up) = idle_leads l (table_plan me s x).volatile.role leads up.1
    by early ho is l leads (inr y) = kept early ho is (λ p h. y.members p q h has_q) s.durable.part refl y.part

-- ---- who is a majority alone

both_sides : (me : ℕ) (ms : List ℕ) → length ms ≡ passing (λ q. q == me) ms + length (filter (λ q. not (eqb q me)) ms)
both_sides me [] = refl
both_sides me (m ∷ ms) = by (eqb m me) (both_sides me ms)
  where
    by : (b : Bool) → length ms ≡ passing (λ q. q == me) ms + length (filter (λ q. not (eqb q me)) ms)
        → suc (length ms) ≡ length (cond b (m ∷ filter (λ q. q == me) ms) (filter (λ q. q == me) ms)) + length (cond (not b) (m ∷ filter (λ q. not (eqb q me)) ms) (filter (λ q. not (eqb q me)) ms))
    by true h = omega (arith, h)
    by false h = omega (arith, h)

all_pass : (test : WaitingRead → Bool) (ws : List WaitingRead) → Each (λ w. test w ≡ true) ws → filter test ws ≡ ws
all_pass test [] k = refl
all_pass test (w ∷ ws) k = ap (λ (b : Bool). cond b (w ∷ filter test ws) (filter test ws)) k.0 ∙ ap (λ (l : List WaitingRead). w ∷ l) (all_pass test ws k.1)

confirmed_each : (me : ℕ) (members : List ℕ) → is_majority (passing (λ q. q == me) members) (length members) ≡ true → (ws : List WaitingRead) → Each (IsFew me members) ws → Each (λ w. is_confirmed (length members) w ≡ true) ws
confirmed_each me members many [] k = tt
confirmed_each me members many (w ∷ ws) k = (
  lt-ltb (length members) (2 * (length members - length w.missing)) (omega (arith, ltb-true (length members) (2 * passing (λ q. q == me) members) many, both_sides me members, k.0)),
  confirmed_each me members many ws k.1,
)

-- no read waits at it
pub none_waits : (me : ℕ) (s : State) (p : Part) → s.durable.part ≡ Some p → is_majority (passing (λ q. q == me) p.members) (length p.members) ≡ true
    → IsOwn me s → AreTried s → adopted_of s.volatile.role ≤ decided_of s.durable.part → asked_of s.reads ≡ []
none_waits me s p has many own tried low = by s.reads refl tried
  where
    by : (o : Option Reads) → s.reads ≡ o → answered_of o (decided_of s.durable.part) (adopted_of s.volatile.role) ≡ [] → asked_of o ≡ []
    by None e none = refl
    by (Some reads) e none =
        let r = own reads e p has in
        let all : Each (λ w. is_confirmed (length reads.members) w ≡ true) reads.waiting = subst (λ (ms : List ℕ). Each (λ w. is_confirmed (length ms) w ≡ true) reads.waiting) (sym r.1) (confirmed_each me p.members many reads.waiting r.2) in
        let ready : List AskedRead = map (λ w. w.asked) (filter (is_confirmed (length reads.members)) reads.waiting) in
        ap (map (λ (w : WaitingRead). w.asked)) (sym (all_pass (is_confirmed (length reads.members)) reads.waiting all))
        ∙ sym (ap (λ (b : Bool). cond b ready []) (le-leb (adopted_of s.volatile.role) (decided_of s.durable.part) low)) ∙ none

-- ---- a run

-- so at this node
abbrev pub IfOwn : Option Node → Type 0
IfOwn o = kept.IfHolds IsOwn o

-- so it is after every run
pub always_own : (pid : ℕ) (members spares : List ℕ) (hs : List Happening) → RunInRange members spares hs → IfOwn (node_at (run_of (first_world members spares) hs).nodes pid)
always_own pid members spares hs range =
    kept.always IsOwn (λ me s x above k. step_own me s x above k) (λ me s none reads e. absurd (none_some reads (sym none ∙ e))) pid members spares hs range
