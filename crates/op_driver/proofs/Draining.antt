-- Sessions that are over, and their Downs: each is given, and then none is left.
use Rattle.std.proofs.Common.{◌≡◌, ◌<◌, ◌≤◌, ◌+◌, ◌∷◌, ◌⊎◌, [], ℕ, zero, suc, Bool, true, false, List, length, drop, Option, Some, None, is_some, inl, inr, nat_lt, if◌then◌else◌, refl, sym, ◌∙◌, ap, subst, arith}
use Rattle.std.proofs.lemmas.Bool.{cases_Bool}
use Rattle.std.proofs.lemmas.List.{append-nil}
use Rattle.op_types.specs.declared.events.Input.{Input}
use Rattle.op_types.specs.declared.events.Input.TheVariants as input
use Rattle.op_serving.specs.declared.mark.Mark.{Mark}
use Rattle.op_serving.specs.State.{Loop, find, is_open, is_overfull, kind_at, left_by, next, counted, shed}
use Rattle.op_serving.specs.Losses.{most_marks, mark_at, noted, stopped_if, lost_by, lost_one, is_here, is_due, is_open_one, settle, settled, size, IsCalm, Foretells, Grew, Stays}
use Rattle.op_serving.specs.Inputs.{State, Luck, asked_by, calm, loop_taking, loop_after, next_fate, entered_with, handing, enter, leaves, first_down, shedding, drained_in, drained, rest}
use Rattle.op_serving.specs.Fates.{Fate, lost}
use Rattle.op_driver.specs.Driver.{Served, Any, Stores, with_deeds, IsShed, IsDrained, Does, Enters, Gives, Drained, Loses}
use Rattle.op_queues.proofs.Settling.{settled_before, found_lost, kinds_then, gone, grew_still, foretold, lost_first, lost_grew, left_lost, left_place}
use Rattle.op_queues.proofs.Sizes.{size_settle, size_marked, size_loop_after}
use Rattle.op_queues.proofs.Shedding.{Sheds, sheds, size_shed, shed_closed, thin_shed, shed_thin}
use Rattle.op_driver.proofs.Calm.{no_right, calm_before, calm_same, calm_past, calm_settled}
use Rattle.op_driver.proofs.Stepping.{run_then, run_as, run_any, run_sure, run_still, at_once}
use Rattle.op_driver.proofs.Telling.{blind_same, blind_after}

pub no_items : {X : Type 0} (xs : List X) → length xs ≤ 0 → xs ≡ []
no_items [] h = refl
no_items (x ∷ xs) h = absurd (omega (arith, h))

none_is : {X : Type 0} (o : Option X) → is_some o ≡ false → o ≡ None
none_is None h = refl
none_is (Some x) h = absurd cc

-- ---- an input ends no session twice

size_taking : (f : Fate) (s : Loop) → size (loop_taking f s) ≤ size s
size_taking lost s = size_marked None s
size_taking f s = omega arith

-- what is kept once an input was taken, and what it gives out was handed out
abbrev behind_input : Luck → List ℕ → Input → State → Loop
behind_input l from i s = let f : Fate = next_fate l [] i s in loop_after (asked_by from i) i f s.node (loop_taking f s.loop)

size_enter : (l : Luck) (from : List ℕ) (i : Input) (s : State) → size (enter l from i s).loop ≤ size s.loop
size_enter l from i s = by_room (nat_lt (length s.loop.lost) most_marks)
  where
    by_room : (b : Bool) → size (if b then entered_with l from i (next_fate l [] i s) s else s).loop ≤ size s.loop
    by_room true =
        let f : Fate = next_fate l [] i s in
        let t : Loop = behind_input l from i s in
        omega (arith, size_settle (drop (length t.lost) l.marks) t, size_loop_after (asked_by from i) i f s.node (loop_taking f s.loop), size_taking f s.loop)
    by_room false = omega arith

-- ---- what is over ends

-- in a loop without sessions none is lost
none_open : (o : Option ℕ) (s : Loop) → s.sessions ≡ [] → is_open_one o s ≡ false
none_open None s e = refl
none_open (Some c) s e = ap (λ t. is_some (find c t)) e

settle_closed : (ms : List Mark) (s : Loop) → s.sessions ≡ [] → settle ms s ≡ s
settle_closed [] s e = refl
settle_closed (m ∷ ms) s e =
    let not_due : is_due m s ≡ false = no_right (nat_lt (length s.lost) most_marks) _ (no_right (is_here s.place m) _ (none_open m.conn s e)) in
    rw not_due refl

-- none is overfull behind a loss
pub shed_one : (o : Option ℕ) (s : Loop) → IsShed s → IsShed (lost_one o s)
shed_one None s h = h
shed_one (Some d) s h = λ c. elim (found_lost c d s) [ inl e ↦ ap is_overfull e ∙ h c | inr e ↦ ap is_overfull e ]

shed_settle : (ms : List Mark) (s : Loop) → IsShed s → IsShed (settle ms s)
shed_settle [] s h = h
shed_settle (m ∷ ms) s h = elim (cases_Bool (is_due m s)) [
  | inl e ↦ rw e (shed_settle ms (lost_one m.conn s) (shed_one m.conn s h))
  | inr e ↦ rw e h
]

-- what was lost here is lost once
pub calm_again : (l : Luck) (s : State) → calm l (calm l s) ≡ calm l s
calm_again l s = ap (λ x. record s { loop = x }) (settled_before (λ (x : Loop). x) blind_same l.marks s.loop)

-- where nothing is to end and no session is lost, nothing is done
shedding_still : (l : Luck) (s : State) → IsShed s.loop → calm l s ≡ s → shedding l s ≡ s
shedding_still l s h e = ap (λ x. calm l (record s { loop = x })) (shed_thin s.loop h) ∙ e

shedding_twice : (l : Luck) (s : State) → shedding l (shedding l s) ≡ shedding l s
shedding_twice l s =
    let thin : IsShed (shedding l s).loop = shed_settle (drop (length (shed s.loop).lost) l.marks) (shed s.loop) (λ c. thin_shed c s.loop) in
    shedding_still l (shedding l s) thin (calm_again l (record s { loop = shed s.loop }))

-- ---- sessions end, and Downs are given, until none is left, however often one looks

-- one look
abbrev look : Luck → State → State
look l s = let t : State = shedding l s in first_down l t.loop.downs t

-- no Down is to be given, and nothing is to end
record Settled (l : Luck) (s : State) : Type 0 where
  none : s.loop.downs ≡ []
  still : shedding l s ≡ s

look_still : (l : Luck) (s : State) → Settled l s → look l s ≡ s
look_still l s a = ap (λ (t : State). first_down l t.loop.downs t) a.still ∙ ap (λ d. first_down l d s) a.none

in_still : (k : ℕ) (l : Luck) (s : State) → Settled l s → drained_in k l s ≡ s
in_still zero l s a = refl
in_still (suc k) l s a = ap (drained_in k l) (look_still l s a) ∙ in_still k l s a

-- without sessions and Downs nothing is done
settled_none : (l : Luck) (s : State) → size s.loop ≤ 0 → Settled l s
settled_none l s h =
    let closed : s.loop.sessions ≡ [] = no_items s.loop.sessions (omega (arith, h)) in
    record {
      none = no_items s.loop.downs (omega (arith, h));
      still = shedding_still l s (λ c. ap (λ t. is_overfull (find c t)) closed) (ap (λ x. record s { loop = x }) (settle_closed (drop (length s.loop.lost) l.marks) s.loop closed));
    }

-- by a look there is less to do, or nothing is left
abbrev Looks : Luck → State → State → Type 0
Looks l s t = (size t.loop + 1 ≤ size s.loop) ⊎ (Settled l t × (size t.loop ≤ size s.loop))

looks_at : (l : Luck) (s t : State) (ds : List ℕ) → t.loop.downs ≡ ds → size t.loop ≤ size s.loop → shedding l t ≡ t → Looks l s (first_down l ds t)
looks_at l s t [] e le still = inr (record { none = e; still = still }, le)
looks_at l s t (q ∷ qs) e le still = inl (omega (arith, size_enter l [] (input.Down q) (record t { loop = record t.loop { downs = qs } }), ap length e, le))

looks : (l : Luck) (s : State) → Looks l s (look l s)
looks l s =
    let t : Loop = shed s.loop in
    looks_at l s (shedding l s) (shedding l s).loop.downs refl (omega (arith, size_settle (drop (length t.lost) l.marks) t, size_shed s.loop)) (shedding_twice l s)

-- so many looks are enough as there are Downs and sessions
enough : (j k : ℕ) (l : Luck) (s : State) → size s.loop ≤ j → size s.loop ≤ k → drained_in j l s ≡ drained_in k l s
enough zero k l s h g = sym (in_still k l s (settled_none l s h))
enough (suc j) zero l s h g = in_still (suc j) l s (settled_none l s g)
enough (suc j) (suc k) l s h g = elim (looks l s) [
  | inl less ↦ enough j k l (look l s) (omega (arith, less, h)) (omega (arith, less, g))
  | inr a ↦ in_still j l (look l s) a.0 ∙ sym (in_still k l (look l s) a.0)
]

settled_in : (k : ℕ) (l : Luck) (s : State) → size s.loop ≤ k → Settled l (drained_in k l s)
settled_in zero l s h = settled_none l s h
settled_in (suc k) l s h = elim (looks l s) [
  | inl less ↦ settled_in k l (look l s) (omega (arith, less, h))
  | inr a ↦ subst (λ (t : State). Settled l t) (sym (in_still k l (look l s) a.0)) a.0
]

drained_more : (l : Luck) (s : State) → drained l s ≡ drained l (look l s)
unfolding drained
drained_more l s =
    let u : State = look l s in
    let le : size u.loop ≤ size s.loop = elim (looks l s) [ inl less ↦ omega (arith, less) | inr a ↦ a.1 ] in
    enough (size s.loop) (suc (size s.loop)) l s (omega arith) (omega arith) ∙ enough (size s.loop) (size u.loop) l u le (omega arith)

drained_still : (l : Luck) (s : State) → Settled l s → drained l s ≡ s
unfolding drained
drained_still l s a = in_still (size s.loop) l s a

-- sessions that are over make no difference
drained_shedding : (l : Luck) (s : State) → drained l s ≡ drained l (shedding l s)
drained_shedding l s = drained_more l s ∙ ap (λ (t : State). drained l (first_down l t.loop.downs t)) (sym (shedding_twice l s)) ∙ sym (drained_more l (shedding l s))

-- to hand out nothing where it came to rest changes nothing
pub drained_again : (l : Luck) (s : State) → drained l (handing l [] (drained l s)) ≡ drained l s
unfolding drained
drained_again l s =
    let t : State = drained l s in
    let a : Settled l t = settled_in (size s.loop) l s (omega arith) in
    let calm_t : calm l t ≡ t = ap (calm l) (sym a.still) ∙ calm_again l (record t { loop = shed t.loop }) ∙ a.still in
    ap (λ ds. drained l (record (calm l t) { deeds = ds })) (append-nil t.deeds) ∙ ap (drained l) calm_t ∙ drained_still l t a

-- ---- where it comes to rest

pub calm_is : (l : Luck) (s : State) → IsCalm l.marks s.loop → calm l s ≡ s
calm_is l s h = ap (λ x. record s { loop = x }) (calm_settled l.marks s.loop h)

pub rest_drained : (l : Luck) (s : State) → IsCalm l.marks s.loop → rest l s ≡ drained l s
unfolding rest
rest_drained l s h = ap (drained l) (calm_is l s h)

pub rest_still : (l : Luck) (s : State) → IsCalm l.marks s.loop → IsDrained s.loop → rest l s ≡ s
rest_still l s h none = rest_drained l s h ∙ drained_still l s (record { none = none.0; still = shedding_still l s none.1 (calm_is l s h) })

-- ---- what is closed stays so

closed_settle : (c : ℕ) (ms : List Mark) (s : Loop) → find c s.sessions ≡ None → find c (settle ms s).sessions ≡ None
closed_settle c [] s e = e
closed_settle c (m ∷ ms) s e = elim (cases_Bool (is_due m s)) [
  | inl h ↦ rw h (closed_settle c ms (lost_one m.conn s) (closed_one m.conn))
  | inr h ↦ rw h e
]
  where
    closed_one : (o : Option ℕ) → find c (lost_one o s).sessions ≡ None
    closed_one None = e
    closed_one (Some d) = elim (found_lost c d s) [ inl same ↦ same ∙ e | inr none ↦ none ]

closed_stopped : (c : ℕ) (b : Bool) (s : Loop) → find c s.sessions ≡ None → find c (stopped_if b s).sessions ≡ None
closed_stopped c true s e = e
closed_stopped c false s e = refl

closed_taking : (f : Fate) (c : ℕ) (s : Loop) → find c s.sessions ≡ None → find c (loop_taking f s).sessions ≡ None
closed_taking lost c s e = closed_stopped c (nat_lt (length s.lost + 1) most_marks) (noted (mark_at s.place None) s) e
closed_taking f c s e = e

closed_enter : (l : Luck) (from : List ℕ) (i : Input) (c : ℕ) (s : State) → find c s.loop.sessions ≡ None → find c (enter l from i s).loop.sessions ≡ None
closed_enter l from i c s e = by_room (nat_lt (length s.loop.lost) most_marks)
  where
    by_room : (b : Bool) → find c (if b then entered_with l from i (next_fate l [] i s) s else s).loop.sessions ≡ None
    by_room true =
        let f : Fate = next_fate l [] i s in
        let u : Loop = loop_taking f s.loop in
        let t : Loop = loop_after (asked_by from i) i f s.node u in
        closed_settle c (drop (length t.lost) l.marks) t (none_is (find c t.sessions) ((blind_after (asked_by from i) i f s.node).opens c u ∙ ap is_some (closed_taking f c s.loop e)))
    by_room false = e

closed_in : (k : ℕ) (l : Luck) (c : ℕ) (s : State) → find c s.loop.sessions ≡ None → find c (drained_in k l s).loop.sessions ≡ None
closed_in zero l c s e = e
closed_in (suc k) l c s e = closed_in k l c (look l s) (closed_first (shedding l s).loop.downs (shedding l s) (closed_settle c (drop (length (shed s.loop).lost) l.marks) (shed s.loop) (shed_closed c s.loop e)))
  where
    closed_first : (ds : List ℕ) (t : State) → find c t.loop.sessions ≡ None → find c (first_down l ds t).loop.sessions ≡ None
    closed_first [] t e = e
    closed_first (q ∷ qs) t e = closed_enter l [] (input.Down q) c (record t { loop = record t.loop { downs = qs } }) e

pub closed_drained : (l : Luck) (c : ℕ) (s : State) → find c s.loop.sessions ≡ None → find c (drained l s).loop.sessions ≡ None
unfolding drained
closed_drained l c s e = closed_in (size s.loop) l c s e

-- ---- one thing behind the other

module _ {K : Type 0} {stores : Stores K} where
  pub does_then : (f g : Luck → State → State) {d m e : Served K} → Does stores f d m → Does stores g m e → Does stores (λ l s. g l (f l s)) d e
  does_then f g a b = run_then (λ l s t. g l (f l s) ≡ t) a b (λ l before xs zs k mid end x y. ap (g l) x ∙ y)

  -- where no session is lost behind it, it has come to rest
  pub gives_does : (f : Luck → State → State) {d e : Served K} → Gives stores f d e → Does stores f d e
  gives_does f {d} {e} a = run_as (λ l s t. f l s ≡ t) (run_any a.run) (λ l before zs k end x. x ∙ rest_still l (with_deeds zs e) end a.none)

  -- ---- Downs

  drained_none : (d : Served K) → Drained stores d d
  drained_none d = record { run = run_still d (λ marks h. tt) (λ l before. refl); kinds = λ c. inl refl; calm = λ marks f c. c }

  pub drained_then : {d m e : Served K} → Drained stores d m → Drained stores m e → Drained stores d e
  drained_then {d} {m} {e} a b = record {
    run = run_then (λ l s t. rest l s ≡ rest l t) a.run b.run (λ l before xs zs k mid end x y. x ∙ y);
    kinds = kinds_then d.loop m.loop e.loop a.kinds b.kinds;
    calm = λ marks f c. a.calm marks (foretold b.run.grew f) (b.calm marks f c);
  }

  -- sessions for which too many bytes wait end, and what is lost then is of a later place
  shed_later : (d : Served K) → Sheds d.loop (shed d.loop) → Grew (counted d.loop) (shed d.loop) → Drained stores d (record d { loop = shed d.loop })
  unfolding rest
  shed_later d a later = record {
    run = run_as (λ l s t. rest l s ≡ rest l t) (at_once Any Any (λ s. record s { loop = shed s.loop }) {d = d} {s = shed d.loop} refl a.grew (λ marks f h. tt) (λ before. refl)) (λ l before zs k h x.
        ap (drained l) (calm_is l (with_deeds before d) (calm_before l.marks d.loop (shed d.loop) later k.marks))
        ∙ drained_shedding l (with_deeds before d)
        ∙ ap (λ (u : State). drained l (calm l u)) x);
    kinds = a.kinds;
    calm = λ marks f c. calm_before marks d.loop (shed d.loop) later f;
  }

  pub drained_shed : (d e : Served K) → e ≡ record d { loop = shed d.loop } → d.loop.place.inputs ≤ next d.loop.place.inputs → Drained stores d e
  drained_shed d e is up =
      let a : Sheds d.loop (shed d.loop) = sheds d.loop up in
      subst (λ (x : Served K). Drained stores d x) (sym is) (elim a.moves [
        | inl same ↦ subst (λ x. Drained stores d (record d { loop = x })) (sym same) (drained_none d)
        | inr later ↦ shed_later d a later
      ])

  -- one Down
  pub drained_one : (q : ℕ) (qs : List ℕ) (d e : Served K) → d.loop.downs ≡ q ∷ qs → IsShed d.loop → Enters stores (λ l s. enter l [] (input.Down q) s) (record d { loop = record d.loop { downs = qs } }) e → Drained stores d e
  unfolding rest
  drained_one q qs d e downs thin does =
      let m : Loop = record d.loop { downs = qs } in
      let calm_d : (marks : List Mark) → IsCalm marks m → IsCalm marks d.loop = λ marks h. calm_same marks d.loop m refl refl (λ c. refl) h in
      record {
        run = run_then (λ l s t. rest l s ≡ rest l t) (at_once Any IsCalm (λ s. record s { loop = record s.loop { downs = qs } }) {d = d} {s = m} refl (grew_still refl refl) (λ marks f h. tt) (λ before. refl)) does.run (λ l before xs zs k mid end x y.
            let s : State = with_deeds before d in
            let calm_now : calm l s ≡ s = calm_is l s (calm_d l.marks mid) in
            ap (drained l) calm_now
            ∙ drained_more l s
            ∙ ap (λ (t : State). drained l (first_down l t.loop.downs t)) (shedding_still l s thin calm_now)
            ∙ ap (λ ds. drained l (first_down l ds s)) downs
            ∙ ap (drained l) (ap (enter l [] (input.Down q)) x ∙ y));
        kinds = does.kinds;
        calm = λ marks f c. calm_d marks (does.run.sure marks f tt);
      }

  -- an input, and then the Downs
  pub gives : (f : Luck → State → State) {d m e : Served K} → Enters stores f d m → Drained stores m e → Stays d.loop e.loop → IsDrained e.loop → Gives stores (λ l s. drained l (f l s)) d e
  unfolding rest
  gives f {d} {m} {e} a b stays none = record {
    run = run_then (λ l s t. drained l (f l s) ≡ rest l t) a.run b.run (λ l before xs zs k mid end x y. ap (drained l) x ∙ y);
    kinds = kinds_then d.loop m.loop e.loop a.kinds b.kinds;
    stays = stays;
    none = none;
  }

  -- a session ends
  pub ends : (c : ℕ) (d m e : Served K) → m ≡ record d { loop = left_by c d.loop } → Drained stores m e → IsDrained e.loop → (d.loop.place.at ≡ 0 → ⊥) → Does stores (λ l s. leaves l c s) d e
  ends c d m e is b none past =
      let same_lost : (left_by c d.loop).lost ≡ d.loop.lost = left_lost c (kind_at c d.loop) d.loop in
      let same_place : (left_by c d.loop).place ≡ d.loop.place = left_place c (kind_at c d.loop) d.loop in
      run_then (λ l s t. leaves l c s ≡ t) (at_once IsCalm IsCalm (λ s. record s { loop = left_by c s.loop }) is (grew_still same_lost same_place) (λ marks f h. calm_past marks d.loop (left_by c d.loop) same_lost same_place past h) (λ before. refl)) (run_sure (run_any b.run) b.calm)
      (λ l before xs zs k mid end x y. ap (drained l) x ∙ sym (rest_drained l (with_deeds xs m) mid) ∙ y ∙ rest_still l (with_deeds zs e) end none)

  -- a session is lost
  pub loses : (c : ℕ) (d m e : Served K) → is_open c d.loop ≡ true → length d.loop.lost < most_marks → m ≡ record d { loop = lost_by c d.loop } → Drained stores m e → Stays d.loop e.loop → IsDrained e.loop → Loses stores c d e
  unfolding rest
  loses c d m e there few is b stays none =
      let s : Loop = lost_by c d.loop in
      let marked_is : (marks : List Mark) → Foretells marks e.loop → Foretells marks s = λ marks f. subst (λ (x : Served K). Foretells marks x.loop) is (foretold b.run.grew f) in
      let first : (marks : List Mark) → Foretells marks e.loop → settled marks d.loop ≡ settled marks s = λ marks f. lost_first c d.loop marks there few (marked_is marks f) in
      record {
        there = there;
        few = few;
        stays = stays;
        none = none;
        marked = marked_is;
        run = run_then (λ l u t. (rest l u ≡ rest l t) × (find c (rest l u).loop.sessions ≡ None)) (at_once Any Any (λ u. record u { loop = lost_by c u.loop }) {d = d} is (lost_grew c d.loop) (λ marks f h. tt) (λ before. refl)) b.run (λ l before xs zs k mid end x y.
            let now : find c (settled l.marks d.loop).sessions ≡ None = ap (λ (z : Loop). find c z.sessions) (first l.marks k.marks) ∙ closed_settle c (drop (length s.lost) l.marks) s (gone c d.loop) in (
              ap (λ (z : Loop). drained l (record { loop = z; node = d.node; deeds = before })) (first l.marks k.marks) ∙ ap (rest l) x ∙ y,
              closed_drained l c (calm l (with_deeds before d)) now,
            ));
      }
