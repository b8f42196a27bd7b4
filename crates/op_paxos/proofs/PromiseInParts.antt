-- The parts of a promise, delivered one after the other, leave what the whole promise leaves.
use mathlib.Core.Path.{fun_ext}
use Rattle.std.proofs.Common.{◌≡◌, ℕ, ◌+◌, ◌-◌, ◌<◌, ◌≤◌, ◌⊎◌, inl, inr, ⊎_elim, List, [], ◌∷◌, ◌++◌, length, Bool, true, false, ◌&&◌, refl, sym, ap, ◌∙◌, subst, arith, Option, Some, None, is_some, ◌==◌, length-append, append_assoc}
use Rattle.std.specs.Prelude.{nat_le, if◌then◌else◌, slice_get}
use Rattle.std.proofs.lemmas.Bool.{cases_lt, cond_both, both_ways, and_parts, eq-eqb, eqb-true, le-leb}
use Rattle.op_types.specs.declared.log.Entry.{Entry}
use Rattle.op_types.specs.Cutting.{parts_from}
use Rattle.op_types.specs.Joinings.{Held, held_with, held_run}
use Rattle.op_spec.specs.Machine.{with_at}
use Rattle.op_paxos.specs.Nodes.{Promised, PreparingState, LeadingState, Role, Idle, Preparing, Leading, Node}
use Rattle.op_paxos.specs.Messages.{Msg, PromisePart, Effect}
use Rattle.op_paxos.specs.Parts.{promised_run, is_run_to, told_by}
use Rattle.op_paxos.specs.Leader.{is_usable, CandidateLog, own_candidate, better, best, is_synced, adopted_node, new_leading, adopt_with, adopt, has_quorum, prepared, on_promise_in, promised_once, on_promise_part_in}
use Rattle.op_paxos.specs.Worlds.{on_msg, Comes, step}
use Rattle.op_paxos.specs.InParts.{after_each, IsAlike, IsLeftAlike}
use Rattle.op_paxos.proofs.Updates.{upd_at, upd_both, upd_here}
use Rattle.op_types.proofs.Elements.{get_left, get_right, get_same}
use Rattle.op_types.proofs.Stages.{Has, StandsIn, with_each, with_has, with_here, run_full, run_is}
use Rattle.op_types.proofs.Cuts.{joined, NoneEmpty}
use Rattle.op_paxos.proofs.SyncInParts.{run_is_to}
use Rattle.op_paxos.proofs.Runs.{led_same}
use Rattle.op_paxos.proofs.FollowerExchange.{count_role}
use Rattle.op_paxos.proofs.Membership.{none_some}

-- ---- a role is no matter of what is adopted
better_same : (nd : Node) (x y : Role) (k : Option Promised) (c : CandidateLog) → better (record nd { role = x }) k c ≡ better (record nd { role = y }) k c
better_same nd x y None c = refl
better_same nd x y (Some told) c = refl

best_same : (nd : Node) (x y : Role) (kept : ℕ → Option Promised) (qs : List ℕ) (c : CandidateLog) → best (record nd { role = x }) kept qs c ≡ best (record nd { role = y }) kept qs c
best_same nd x y kept [] c = refl
best_same nd x y kept (q ∷ qs) c = best_same nd x y kept qs (better (record nd { role = x }) (kept q) c) ∙ ap (λ (d : CandidateLog). best (record nd { role = y }) kept qs d) (better_same nd x y (kept q) c)

adopt_same : (ms : List ℕ) (p : ℕ) (nd : Node) (x y : Role) (r : PreparingState) (s t : ℕ → Held) → adopt ms p (record nd { role = x }) (record r { parts = s }) ≡ adopt ms p (record nd { role = y }) (record r { parts = t })
unfolding adopt adopt_with adopted_node new_leading
adopt_same ms p nd x y r s t = ap (λ (c : CandidateLog). adopt_with ms p (record nd { role = y }) (record r { parts = t }) c) (best_same nd x y r.kept ms (own_candidate nd))

-- what is adopted is led
adopt_leads : (ms : List ℕ) (p : ℕ) (nd : Node) (r : PreparingState) → (l : LeadingState) × ((adopt ms p nd r).node.role ≡ Leading l)
unfolding adopt adopt_with
adopt_leads ms p nd r = (_, (count_role ms p _ _ _ _).0)

-- ---- a node that leads
led_on : (ms : List ℕ) (p : ℕ) (m : Node) (l : LeadingState) (q n : ℕ) (told : Promised) → m.role ≡ Leading l → IsLeftAlike m (on_promise_in ms p m (Leading l) q n told).node
unfolding on_promise_in
led_on ms p m l q n told is =
    cond_both (n == l.ballot) _ _ (λ (o : Effect). IsLeftAlike m o.node)
    (λ e. record {
      promised = refl;
      accepted = refl;
      log = refl;
      decided = refl;
      trimmed = refl;
      role = subst (λ x. IsAlike x (Leading (record l { synced = if is_synced m l (Some told) then with_at q true l.synced else l.synced }))) (sym is)
          (record { ballot = refl; round = refl; size = refl; acked = refl; reports = refl; synced = λ t h. cond_both (is_synced m l (Some told)) (with_at q true l.synced) l.synced (λ f. f t ≡ true) (λ c. upd_both (λ b. b ≡ true) l.synced q t true (λ d. refl) (λ d. h)) (λ c. h) });
    })
    (λ e. record { promised = refl; accepted = refl; log = refl; decided = refl; trimmed = refl; role = subst (λ x. IsAlike x x) (sym is) (record { ballot = refl; round = refl; size = refl; acked = refl; reports = refl; synced = λ t h. h }) })

-- a node is left as itself
alike_self : (r : Role) → IsAlike r r
alike_self Idle = tt
alike_self (Preparing r) = record { ballot = refl; kept = refl; buffer = refl }
alike_self (Leading l) = record { ballot = refl; round = refl; size = refl; synced = λ q h. h; acked = refl; reports = refl }

pub left_self : (nd : Node) → IsLeftAlike nd nd
left_self nd = record { promised = refl; accepted = refl; log = refl; decided = refl; trimmed = refl; role = alike_self nd.role }

-- the same where the parts leave exactly this
pub left_same : (a b : Node) → b ≡ a → IsLeftAlike a b
left_same a b e = subst (λ (m : Node). IsLeftAlike a m) (sym e) (left_self a)

module _ (ms : List ℕ) (p q n : ℕ) (told : Promised) where
  abbrev pub part_of : ℕ → List Entry → Msg
  part_of at run = PromisePart n (promised_run told at run)

  step_in : (nd : Node) (x : Role) (at : ℕ) (run : List Entry) → nd.role ≡ x → (step ms p nd (Comes q (part_of at run))).node ≡ (on_promise_part_in ms p nd x q n (promised_run told at run)).node
  unfolding step on_msg
  step_in nd x at run e = ap (λ y. (on_promise_part_in ms p nd y q n (promised_run told at run)).node) e

  -- parts that do nothing
  pub nothing_all : (nd : Node) → ((at : ℕ) (run : List Entry) → (on_promise_part_in ms p nd nd.role q n (promised_run told at run)).node ≡ nd) → (runs : List (List Entry)) (at : ℕ) → after_each ms p nd q (parts_from part_of at runs) ≡ nd
  nothing_all nd f [] at = refl
  nothing_all nd f (run ∷ runs) at = ap (λ (m : Node). after_each ms p m q (parts_from part_of (at + length run) runs)) (step_in nd nd.role at run refl ∙ f at run) ∙ nothing_all nd f runs (at + length run)

  -- ---- where it leads, the last part counts
  led_last : (m : Node) (l : LeadingState) (at : ℕ) (run : List Entry) → at + length run ≡ told.size → (on_promise_part_in ms p m (Leading l) q n (promised_run told at run)).node ≡ (on_promise_in ms p m (Leading l) q n told).node
  unfolding on_promise_part_in
  led_last m l at run e =
      cond_both (at + length run == told.size) _ _ (λ (o : Effect). o.node ≡ (on_promise_in ms p m (Leading l) q n told).node)
      (λ c. ap (λ (o : Effect). o.node) (led_same ms p m l q n (promised_run told at run) told.rest))
      (λ c. absurd (both_ways (at + length run == told.size) c (eq-eqb (at + length run) told.size e)))

  led_sooner : (m : Node) (l : LeadingState) (at : ℕ) (run : List Entry) → at + length run < told.size → (on_promise_part_in ms p m (Leading l) q n (promised_run told at run)).node ≡ m
  unfolding on_promise_part_in
  led_sooner m l at run lt =
      cond_both (at + length run == told.size) _ _ (λ (o : Effect). o.node ≡ m)
      (λ c. absurd (omega (arith, lt, eqb-true (at + length run) told.size c)))
      (λ c. refl)

  pub led_all : (runs : List (List Entry)) (at : ℕ) (m : Node) (l : LeadingState) → m.role ≡ Leading l → 0 < length runs → NoneEmpty runs → at + length (joined runs) ≡ told.size → after_each ms p m q (parts_from part_of at runs) ≡ (on_promise_in ms p m (Leading l) q n told).node
  led_all [] at m l is some_ full e = absurd (omega (arith, some_))
  led_all (run ∷ []) at m l is some_ full e = step_in m (Leading l) at run is ∙ led_last m l at run (omega (arith, e, length-append run []))
  led_all (run ∷ (r ∷ runs)) at m l is some_ full e =
      let size = length-append run (joined (r ∷ runs)) in
      let more = length-append r (joined runs) in
      ap (λ (k : Node). after_each ms p k q (parts_from part_of (at + length run) (r ∷ runs))) (step_in m (Leading l) at run is ∙ led_sooner m l at run (omega (arith, e, size, more, (full.1).0)))
      ∙ led_all (r ∷ runs) (at + length run) m l is (omega arith) full.1 (omega (arith, e, size))

  -- ---- where it prepares this ballot
  module _ (nd : Node) (r : PreparingState) (ballot : n ≡ r.ballot) (l : List Entry) (stands : (k : ℕ) (e : Entry) → slice_get told.rest k ≡ Some e → slice_get l (told.start + k) ≡ Some e) (size : told.start + length told.rest ≡ told.size) where
    -- the node, with these promises kept, and with this staged
    abbrev K : (ℕ → Option Promised) → (ℕ → Held) → Node
    K k s = record nd { role = Preparing (record r { kept = k; parts = s }) }

    -- what the whole promise then leaves
    abbrev Z : (ℕ → Option Promised) → (ℕ → Held) → Node
    Z k s = (on_promise_in ms p (K k s) (Preparing (record r { kept = k; parts = s })) q n told).node

    -- where a run stands among the entries
    record At (at : ℕ) (runs : List (List Entry)) : Type 0 where
      before : List Entry
      is : told.rest ≡ before ++ joined runs
      place : at ≡ told.start + length before
      full : NoneEmpty runs

    at_next : (at : ℕ) (run : List Entry) (runs : List (List Entry)) → At at (run ∷ runs) → At (at + length run) runs
    at_next at run runs a = record {
      before = a.before ++ run;
      is = a.is ∙ sym (append_assoc a.before run (joined runs));
      place = omega (arith, a.place, length-append a.before run);
      full = (a.full).1;
    }

    at_reach : (at : ℕ) (runs : List (List Entry)) → At at runs → at + length (joined runs) ≡ told.size
    at_reach at runs a = omega (arith, a.place, size, ap (λ (y : List Entry). length y) a.is, length-append a.before (joined runs))

    held_stands : (s : Held) (at : ℕ) (run : List Entry) (runs : List (List Entry)) → At at (run ∷ runs) → StandsIn l s → StandsIn l (held_with s at run)
    held_stands s at run runs a h = with_each (λ i e. slice_get l i ≡ Some e) s at run h
        (λ j e k. let z : told.start + (length a.before + j) ≡ at + j = omega (arith, a.place) in
        subst (λ m. slice_get l m ≡ Some e) z (stands (length a.before + j) e (ap (λ (y : List Entry). slice_get y (length a.before + j)) a.is ∙ get_right a.before (run ++ joined runs) j e (get_left run (joined runs) j e k))))

    -- a part is staged, or it completes the promise
    record Waits (k : ℕ → Option Promised) (s : ℕ → Held) (h : Held) (after : Node) : Type 0 where
      is : after ≡ K k (with_at q h s)
      open_ : is_some (held_run h told.start (told.size - told.start)) ≡ false

    once_one : (k : ℕ → Option Promised) (s : ℕ → Held) (at : ℕ) (run : List Entry) (h : Held) (o : Option (List Entry)) → held_run h told.start (told.size - told.start) ≡ o → StandsIn l h
        → Waits k s h (promised_once ms p (K k s) (record r { kept = k; parts = s }) q (promised_run told at run) h o).node ⊎ ((promised_once ms p (K k s) (record r { kept = k; parts = s }) q (promised_run told at run) h o).node ≡ Z k (with_at q [] s))
    unfolding promised_once
    once_one k s at run h None is f = inl (record { is = refl; open_ = ap is_some is })
    once_one k s at run h (Some es) is f =
        let a = run_is l h told.start (told.size - told.start) es f is in
        let same : es ≡ told.rest = get_same l es told.rest told.start (omega (arith, a.0, size)) a.1 stands in
        inr (ap (λ b. (on_promise_in ms p (K k (with_at q [] s)) (Preparing (record r { kept = k; parts = with_at q [] s })) q b (told_by (promised_run told at run) es)).node) (sym ballot)
        ∙ ap (λ y. (on_promise_in ms p (K k (with_at q [] s)) (Preparing (record r { kept = k; parts = with_at q [] s })) q n (told_by (promised_run told at run) y)).node) same)

    one : (k : ℕ → Option Promised) (s : ℕ → Held) (at : ℕ) (run : List Entry) (runs : List (List Entry)) → At at (run ∷ runs) → StandsIn l (s q)
        → Waits k s (held_with (s q) at run) (step ms p (K k s) (Comes q (part_of at run))).node ⊎ ((step ms p (K k s) (Comes q (part_of at run))).node ≡ Z k (with_at q [] s))
    unfolding step on_msg on_promise_part_in
    one k s at run runs a f =
        let reach = at_reach (at + length run) runs (at_next at run runs a) in
        let yes : ((n == r.ballot) && (nat_le told.start at && is_run_to told.size at run)) ≡ true =
        ap (λ b. b && (nat_le told.start at && is_run_to told.size at run)) (eq-eqb n r.ballot ballot)
        ∙ ap (λ b. b && is_run_to told.size at run) (le-leb told.start at (omega (arith, a.place))) ∙ run_is_to told.size at run (a.full).0 (omega (arith, reach)) in
        cond_both ((n == r.ballot) && (nat_le told.start at && is_run_to told.size at run)) _ _ (λ (o : Effect). Waits k s (held_with (s q) at run) o.node ⊎ (o.node ≡ Z k (with_at q [] s)))
        (λ c. once_one k s at run (held_with (s q) at run) (held_run (held_with (s q) at run) told.start (told.size - told.start)) refl (held_stands (s q) at run runs a f))
        (λ c. absurd (both_ways ((n == r.ballot) && (nat_le told.start at && is_run_to told.size at run)) c yes))

    -- some part completes it, and the others follow
    record Completes (k : ℕ → Option Promised) (after : Node) : Type 0 where
      staged : ℕ → Held
      at : ℕ
      runs : List (List Entry)
      left : At at runs
      there : StandsIn l (staged q)
      is : after ≡ after_each ms p (Z k staged) q (parts_from part_of at runs)

    none_stands : (s : ℕ → Held) → StandsIn l (with_at q [] s q)
    none_stands s = subst (λ (h : Held). StandsIn l h) (sym (upd_at s q [])) (λ i e k. none_some e k)

    completes : (runs : List (List Entry)) (at : ℕ) (k : ℕ → Option Promised) (s : ℕ → Held) → 0 < length runs → At at runs → StandsIn l (s q) → ((i : ℕ) → told.start ≤ i → i < at → Has (s q) i) → Completes k (after_each ms p (K k s) q (parts_from part_of at runs))
    completes [] at k s some_ a f has = absurd (omega (arith, some_))
    completes (run ∷ runs) at k s some_ a f has =
        ⊎_elim
        (λ (y : Waits k s (held_with (s q) at run) (step ms p (K k s) (Comes q (part_of at run))).node).
        subst (λ (m : Node). Completes k (after_each ms p m q (parts_from part_of (at + length run) runs))) (sym y.is)
        (waiting runs (at_next at run runs a) y.open_
        (λ more. completes runs (at + length run) k (with_at q (held_with (s q) at run) s) more (at_next at run runs a) (subst (λ (h : Held). StandsIn l h) (sym (upd_at s q (held_with (s q) at run))) (held_stands (s q) at run runs a f))
        (λ i le lt. subst (λ (h : Held). Has h i) (sym (upd_at s q (held_with (s q) at run))) (held_has (s q) at run has i le lt)))))
        (λ (y : (step ms p (K k s) (Comes q (part_of at run))).node ≡ Z k (with_at q [] s)).
        record { staged = with_at q [] s; at = at + length run; runs = runs; left = at_next at run runs a; there = none_stands s; is = ap (λ (m : Node). after_each ms p m q (parts_from part_of (at + length run) runs)) y })
        (one k s at run runs a f)
      where
        held_has : (h : Held) (at : ℕ) (run : List Entry) → ((i : ℕ) → told.start ≤ i → i < at → Has h i) → (i : ℕ) → told.start ≤ i → i < at + length run → Has (held_with h at run) i
        held_has h at run has i le lt = ⊎_elim (λ (x : i < at). with_has h at run i (has i le x)) (λ (x : at ≤ i). with_here h at run i x lt) (cases_lt i at)

        waiting : (runs : List (List Entry)) → At (at + length run) runs → is_some (held_run (held_with (s q) at run) told.start (told.size - told.start)) ≡ false
            → (0 < length runs → Completes k (after_each ms p (K k (with_at q (held_with (s q) at run) s)) q (parts_from part_of (at + length run) runs)))
            → Completes k (after_each ms p (K k (with_at q (held_with (s q) at run) s)) q (parts_from part_of (at + length run) runs))
        waiting [] b open_ go =
            let reach = at_reach (at + length run) [] b in
            absurd (both_ways (is_some (held_run (held_with (s q) at run) told.start (told.size - told.start))) open_ (run_full (held_with (s q) at run) told.start (told.size - told.start) (λ i le lt. held_has (s q) at run has i le (omega (arith, lt, reach, le)))))
        waiting (c ∷ cs) b open_ go = go (omega arith)

    -- where the whole leaves what is kept, so do all parts
    stays : (k : ℕ → Option Promised) → ((s : ℕ → Held) → Z k s ≡ K k s) → (runs : List (List Entry)) (at : ℕ) (s : ℕ → Held) → At at runs → StandsIn l (s q) → (t : ℕ → Held) × (after_each ms p (K k s) q (parts_from part_of at runs) ≡ K k t)
    stays k fix [] at s a f = (s, refl)
    stays k fix (run ∷ runs) at s a f =
        ⊎_elim
        (λ (y : Waits k s (held_with (s q) at run) (step ms p (K k s) (Comes q (part_of at run))).node).
        let b = stays k fix runs (at + length run) (with_at q (held_with (s q) at run) s) (at_next at run runs a) (subst (λ (h : Held). StandsIn l h) (sym (upd_at s q (held_with (s q) at run))) (held_stands (s q) at run runs a f)) in
        (b.0, ap (λ (m : Node). after_each ms p m q (parts_from part_of (at + length run) runs)) y.is ∙ b.1))
        (λ (y : (step ms p (K k s) (Comes q (part_of at run))).node ≡ Z k (with_at q [] s)).
        let b = stays k fix runs (at + length run) (with_at q [] s) (at_next at run runs a) (none_stands s) in
        (b.0, ap (λ (m : Node). after_each ms p m q (parts_from part_of (at + length run) runs)) (y ∙ fix (with_at q [] s)) ∙ b.1))
        (one k s at run runs a f)

    -- ---- the three outcomes
    -- with the promise kept
    abbrev kept_with : ℕ → Option Promised
    kept_with = with_at q (Some told) r.kept

    kept_twice : with_at q (Some told) kept_with ≡ kept_with
    kept_twice = fun_ext (λ t. upd_both (λ x. x ≡ kept_with t) kept_with q t (Some told) (λ e. sym (upd_here r.kept q t (Some told) e)) (λ e. refl))

    abbrev usable : Bool
    usable = is_usable nd told

    abbrev quorum : Bool
    quorum = has_quorum ms p (record r { kept = kept_with })

    unusable_stays : (k : ℕ → Option Promised) (s : ℕ → Held) → usable ≡ false → Z k s ≡ K k s
    unfolding on_promise_in
    unusable_stays k s e =
        cond_both ((n == r.ballot) && is_usable nd told) _ _ (λ (o : Effect). o.node ≡ K k s)
        (λ c. absurd (both_ways (is_usable nd told) e (and_parts (n == r.ballot) (is_usable nd told) c).1))
        (λ c. refl)

    few_keeps : (k : ℕ → Option Promised) (s : ℕ → Held) → with_at q (Some told) k ≡ kept_with → usable ≡ true → quorum ≡ false → Z k s ≡ K kept_with s
    unfolding on_promise_in prepared
    few_keeps k s same e f =
        cond_both ((n == r.ballot) && is_usable nd told) _ _ (λ (o : Effect). o.node ≡ K kept_with s)
        (λ c. cond_both (has_quorum ms p (record r { kept = with_at q (Some told) k; parts = s })) _ _ (λ (o : Effect). o.node ≡ K kept_with s)
        (λ d. absurd (both_ways quorum f (ap (λ k. has_quorum ms p (record r { kept = k })) (sym same) ∙ d)))
        (λ d. ap (λ k. K k s) same))
        (λ c. absurd (both_ways ((n == r.ballot) && is_usable nd told) c (ap (λ b. b && is_usable nd told) (eq-eqb n r.ballot ballot) ∙ e)))

    many_adopts : (s : ℕ → Held) → usable ≡ true → quorum ≡ true → Z r.kept s ≡ (adopt ms p (K r.kept s) (record r { kept = kept_with; parts = s })).node
    unfolding on_promise_in prepared
    many_adopts s e f =
        cond_both ((n == r.ballot) && is_usable nd told) _ _ (λ (o : Effect). o.node ≡ (adopt ms p (K r.kept s) (record r { kept = kept_with; parts = s })).node)
        (λ c. cond_both (has_quorum ms p (record r { kept = kept_with; parts = s })) _ _ (λ (o : Effect). o.node ≡ (adopt ms p (K r.kept s) (record r { kept = kept_with; parts = s })).node)
        (λ d. refl)
        (λ d. absurd (both_ways quorum d f)))
        (λ c. absurd (both_ways ((n == r.ballot) && is_usable nd told) c (ap (λ b. b && is_usable nd told) (eq-eqb n r.ballot ballot) ∙ e)))

    adopts_same : (s t : ℕ → Held) → usable ≡ true → quorum ≡ true → Z r.kept s ≡ Z r.kept t
    adopts_same s t e f =
        many_adopts s e f ∙ ap (λ (o : Effect). o.node) (adopt_same ms p nd (Preparing (record r { kept = r.kept; parts = s })) (Preparing (record r { kept = r.kept; parts = t })) (record r { kept = kept_with }) s t) ∙ sym (many_adopts t e f)

    -- what the parts leave is what the whole leaves
    abbrev Alike : Node → Type 0
    Alike after = IsLeftAlike (Z r.kept r.parts) after

    kept_alike : (k : ℕ → Option Promised) (s t : ℕ → Held) → IsLeftAlike (K k s) (K k t)
    kept_alike k s t = record { promised = refl; accepted = refl; log = refl; decided = refl; trimmed = refl; role = record { ballot = refl; kept = refl; buffer = refl } }

    when_unusable : (after : Node) → Completes r.kept after → usable ≡ false → Alike after
    when_unusable after c e =
        let b = stays r.kept (λ s. unusable_stays r.kept s e) c.runs c.at c.staged c.left c.there in
        let now : after ≡ K r.kept b.0 = c.is ∙ ap (λ (m : Node). after_each ms p m q (parts_from part_of c.at c.runs)) (unusable_stays r.kept c.staged e) ∙ b.1 in
        subst (λ (m : Node). IsLeftAlike m after) (sym (unusable_stays r.kept r.parts e)) (subst (λ (m : Node). IsLeftAlike (K r.kept r.parts) m) (sym now) (kept_alike r.kept r.parts b.0))

    when_few : (after : Node) → Completes r.kept after → usable ≡ true → quorum ≡ false → Alike after
    when_few after c e f =
        let b = stays kept_with (λ s. few_keeps kept_with s kept_twice e f) c.runs c.at c.staged c.left c.there in
        let now : after ≡ K kept_with b.0 = c.is ∙ ap (λ (m : Node). after_each ms p m q (parts_from part_of c.at c.runs)) (few_keeps r.kept c.staged refl e f) ∙ b.1 in
        subst (λ (m : Node). IsLeftAlike m after) (sym (few_keeps r.kept r.parts refl e f)) (subst (λ (m : Node). IsLeftAlike (K kept_with r.parts) m) (sym now) (kept_alike kept_with r.parts b.0))

    when_many : (after : Node) → Completes r.kept after → usable ≡ true → quorum ≡ true → Alike after
    when_many after c e f =
        let whole = Z r.kept r.parts in
        let a = adopt_leads ms p (K r.kept r.parts) (record r { kept = kept_with; parts = r.parts }) in
        let role : whole.role ≡ Leading a.0 = ap (λ (m : Node). m.role) (many_adopts r.parts e f) ∙ a.1 in
        let now : after ≡ after_each ms p whole q (parts_from part_of c.at c.runs) = c.is ∙ ap (λ (m : Node). after_each ms p m q (parts_from part_of c.at c.runs)) (adopts_same c.staged r.parts e f) in
        subst (λ (m : Node). IsLeftAlike whole m) (sym now) (by whole a.0 role c.runs c.at c.left)
      where
        by : (whole : Node) (k : LeadingState) → whole.role ≡ Leading k → (runs : List (List Entry)) (at : ℕ) → At at runs → IsLeftAlike whole (after_each ms p whole q (parts_from part_of at runs))
        by whole k role [] at left = left_self whole
        by whole k role (run ∷ runs) at left = subst (λ (m : Node). IsLeftAlike whole m) (sym (led_all (run ∷ runs) at whole k role (omega arith) left.full (at_reach at (run ∷ runs) left))) (led_on ms p whole k q n told role)

    -- so it is in each outcome
    pub prepares_alike : (runs : List (List Entry)) → 0 < length runs → NoneEmpty runs → joined runs ≡ told.rest → StandsIn l (r.parts q) → Alike (after_each ms p (K r.kept r.parts) q (parts_from part_of told.start runs))
    prepares_alike runs some_ full is f =
        let c = completes runs told.start r.kept r.parts some_ (record { before = []; is = sym is; place = omega arith; full = full }) f (λ i le lt. absurd (omega (arith, le, lt))) in
        by c usable refl quorum refl
      where
        by : Completes r.kept (after_each ms p (K r.kept r.parts) q (parts_from part_of told.start runs)) → (u : Bool) → usable ≡ u → (m : Bool) → quorum ≡ m → Alike (after_each ms p (K r.kept r.parts) q (parts_from part_of told.start runs))
        by c false e m f = when_unusable _ c e
        by c true e false f = when_few _ c e f
        by c true e true f = when_many _ c e f
