-- Inputs that are given: those that one call deals with are taken, and then all that they give out is handed out; the
-- others, behind one that found no memory, are a group of their own.
use Rattle.std.proofs.Common.{◌≡◌, ◌⊎◌, ◌<◌, ◌≤◌, ◌++◌, ◌∷◌, [], Bool, true, false, ℕ, List, length, map, drop, nat_lt, if◌then◌else◌, Option, None, refl, sym, ◌∙◌, ap, subst, inl, inr, arith, append_assoc}
use Rattle.std.proofs.lemmas.Bool.{cases_Bool, lt-ltb, le-ltb}
use Rattle.std.proofs.lemmas.List.{append-nil}
use Rattle.op_types.specs.declared.events.Input.{Input}
use Rattle.op_serving.specs.declared.mark.Mark.{Mark}
use Rattle.op_serving.specs.declared.wanted.Wanted.{Wanted}
use Rattle.op_serving.specs.Cores.{Standing}
use Rattle.op_serving.specs.Fates.{Fate, lost, is_lost, ends_lost, after_fate, after_all, MayComeAll, Steps}
use Rattle.op_serving.specs.Room.{Frame}
use Rattle.op_serving.specs.State.{Loop}
use Rattle.op_serving.specs.Losses as losses
use Rattle.op_serving.specs.Losses.{most_marks, is_due, settle, settled, IsCalm, Foretells, KeepsKinds, Stays}
use Rattle.op_serving.specs.Inputs.{Brought, Taken, Deed, enters, says, State, Luck, asked_by, kept_fate, kept, calm, loop_taking, loop_after, loop_after_all, frames_after_all, broke, next_fate, takes_in, taken_as, handing, entered_with, enter, drained, rest, together, given_together}
use Rattle.op_driver.specs.Answering.{Answer, counting, answered}
use Rattle.op_driver.specs.Driver.{Served, Any, Stores, Run, served_at, with_deeds, Enters, Gives, Drained, IsDrained}
use Rattle.op_driver.specs.Ungiven.{GivesSome}
use Rattle.op_queues.proofs.Settling.{kinds_then, foretold, grew_trans, does_as}
use Rattle.op_driver.proofs.Calm.{no_left, calm_full}
use Rattle.op_driver.proofs.Stepping.{kept_both, walks_group, run_then, run_as, run_any, run_still}
use Rattle.op_driver.proofs.Taking.{Entry, FailAll, brought_of, came_of, taken_of, enters_of, loop_taken, state_at, kept_more, next_is, InCount, in_count, grew_taken, kinds_taken, calm_taking, came_enters, steps_all, broke_more}
use Rattle.op_driver.proofs.Telling.{counting_is, answered_is}
use Rattle.op_driver.proofs.Draining.{rest_still, drained_again}

-- ---- those that one call deals with

module _ (l : Luck) (left : List Brought) where
  -- an input with this fate, and what then follows
  abbrev then_goes : List Taken → Brought → Fate → State → State
  then_goes ts b f s = let us : List Taken = ts ++ taken_as b.0 b.1 f s ∷ [] in
      let t : State = takes_in b.0 b.1 f s in
      if is_lost f then together l [] left (drained l (handing l us t)) else together l us left t

  -- the others begin anew behind what was handed out
  abbrev pub left_behind : List Taken → State → State
  left_behind ts s = drained l (together l [] left (drained l (handing l ts s)))

  goes_next : (ts : List Taken) (b : Brought) (f : Fate) (s : State) → length s.loop.lost < most_marks → next_fate l ts b.1 s ≡ f → together l ts (b ∷ left) s ≡ then_goes ts b f s
  goes_next ts b f s few is = ap (λ o. if o then then_goes ts b (next_fate l ts b.1 s) s else handing l ts s) (lt-ltb (length s.loop.lost) most_marks few) ∙ ap (λ g. then_goes ts b g s) is

-- where nothing is left, nothing more is done
ends_here : (l : Luck) (ts : List Taken) (s : State) → drained l (handing l ts s) ≡ left_behind l [] ts s
ends_here l ts s = sym (drained_again l (handing l ts s))

-- the last of them
last_goes : (l : Luck) (left : List Brought) (ts : List Taken) (b : Brought) (f : Fate) (s : State) → (left ≡ []) ⊎ (is_lost f ≡ true) → drained l (then_goes l left ts b f s) ≡ left_behind l left (ts ++ taken_as b.0 b.1 f s ∷ []) (takes_in b.0 b.1 f s)
last_goes l left ts b f s ends = elim (cases_Bool (is_lost f)) [
  | inl h ↦ rw h refl
  | inr h ↦ elim ends [
    | inl none ↦ rw (h, none) (ends_here l (ts ++ taken_as b.0 b.1 f s ∷ []) (takes_in b.0 b.1 f s))
    | inr bad ↦ absurd (let k : true ≡ false = sym bad ∙ h in cc)
  ]
]

-- one that wasn't lost, and then others
more_goes : (l : Luck) (left : List Brought) (ts : List Taken) (b : Brought) (f : Fate) (s : State) → is_lost f ≡ false → then_goes l left ts b f s ≡ together l (ts ++ taken_as b.0 b.1 f s ∷ []) left (takes_in b.0 b.1 f s)
more_goes l left ts b f s h = rw h refl

-- an input behind which others come was not lost
not_last : {A : Type 0} (x : A) (xs : List A) (b : Bool) → (b ≡ true → x ∷ xs ≡ []) → b ≡ false
not_last x xs true h = absurd (let k = h refl in cc)
not_last x xs false h = refl

few_taking : (f : Fate) (s : Loop) → is_lost f ≡ false → length s.lost < most_marks → length (loop_taking f s).lost < most_marks
few_taking lost s h few = absurd (let k = h in cc)
few_taking f s h few = few

-- the first of what is kept of some deeds
kept_first : (ds : List Deed) (z : Entry) → kept (ds ++ enters z.0.0 z.0.1 z.1 ∷ []) ≡ kept ds ++ kept_fate z.1
kept_first ds z = kept_both ds (enters z.0.0 z.0.1 z.1 ∷ []) ∙ ap (λ r. kept ds ++ r) (append-nil (kept_fate z.1))

-- where the first has the next fate, the others have those behind it
module _ (l : Luck) (ds : List Deed) (z : Entry) (zs : List Entry) (more : List Fate) (fates : l.fates ≡ kept ds ++ (kept (enters_of (z ∷ zs)) ++ more)) where
  fates_first : l.fates ≡ kept ds ++ (kept_fate z.1 ++ (kept (enters_of zs) ++ more))
  fates_first = fates ∙ ap (λ r. kept ds ++ r) (append_assoc (kept_fate z.1) (kept (enters_of zs)) more)

  fates_behind : l.fates ≡ kept (ds ++ enters z.0.0 z.0.1 z.1 ∷ []) ++ (kept (enters_of zs) ++ more)
  fates_behind = fates_first ∙ sym (append_assoc (kept ds) (kept_fate z.1) (kept (enters_of zs) ++ more)) ∙ ap (λ r. r ++ (kept (enters_of zs) ++ more)) (sym (kept_first ds z))

together_so : (l : Luck) (left : List Brought) (more : List Fate) (z : Entry) (zs : List Entry) (ts : List Taken) (s : Loop) (n : Standing) (ds : List Deed) → length s.lost < most_marks → InCount s → MayComeAll n (broke ts) (came_of (z ∷ zs)) → FailAll (z ∷ zs) → Foretells l.marks (loop_taken (z ∷ zs) s)
    → l.fates ≡ kept ds ++ (kept (enters_of (z ∷ zs)) ++ more) → (left ≡ []) ⊎ (ends_lost (came_of (z ∷ zs)) ≡ true)
    → drained l (together l ts (brought_of (z ∷ zs) ++ left) (state_at s n ds)) ≡ left_behind l left (ts ++ taken_of (z ∷ zs) n) (state_at (loop_taken (z ∷ zs) s) (after_all n (came_of (z ∷ zs))) (ds ++ enters_of (z ∷ zs)))
together_so l left more z [] ts s n ds few short may fails marks fates ends =
    let first : next_fate l ts z.0.1 (state_at s n ds) ≡ z.1 = next_is l ts z.0.1 s n ds z.1 more may.0 fails.0 may.1 marks (fates_first l ds z [] more fates) in
    ap (drained l) (goes_next l left ts z.0 z.1 (state_at s n ds) few first) ∙ last_goes l left ts z.0 z.1 (state_at s n ds) ends
together_so l left more z (y ∷ zs) ts s n ds few short may fails marks fates ends =
    let t : Taken = taken_as z.0.0 z.0.1 z.1 (state_at s n ds) in
    let d : Deed = enters z.0.0 z.0.1 z.1 in
    let u : Loop = loop_taking z.1 s in
    let m : Standing = after_fate n z.0.1 z.1 in
    let behind : List Entry = y ∷ zs in
    let first : next_fate l ts z.0.1 (state_at s n ds) ≡ z.1 = next_is l ts z.0.1 s n ds z.1 (kept (enters_of behind) ++ more) may.0 fails.0 may.1 (foretold (grew_taken behind u (in_count z.1 s)) marks) (fates_first l ds z behind more fates) in
    let goes_on : is_lost z.1 ≡ false = not_last (y.0.1, y.1) (came_of zs) (is_lost z.1) may.2 in
    let then_may : MayComeAll m (broke (ts ++ t ∷ [])) (came_of behind) = subst (λ b. MayComeAll m b (came_of behind)) (sym (broke_more ts t)) may.3 in
    ap (drained l) (goes_next l (brought_of behind ++ left) ts z.0 z.1 (state_at s n ds) few first ∙ more_goes l (brought_of behind ++ left) ts z.0 z.1 (state_at s n ds) goes_on)
    ∙ together_so l left more y zs (ts ++ t ∷ []) u m (ds ++ d ∷ []) (few_taking z.1 s goes_on few) (in_count z.1 s) then_may fails.1 marks (fates_behind l ds z behind more fates) ends
    ∙ ap (λ us. left_behind l left us (state_at (loop_taken behind u) (after_all m (came_of behind)) ((ds ++ d ∷ []) ++ enters_of behind))) (append_assoc ts (t ∷ []) (taken_of behind m))
    ∙ ap (λ es. left_behind l left (ts ++ taken_of (z ∷ behind) n) (state_at (loop_taken behind u) (after_all m (came_of behind)) es)) (append_assoc ds (d ∷ []) (enters_of behind))

-- ---- a group, with what is kept and the node

module _ {K : Type 0} (stores : Stores K) where
  -- these came of some inputs that were given together, and what they give out was handed out
  pub record ComesAll (zs : List Entry) (d e : Served K) : Type 0 where
    pub few : length d.loop.lost < most_marks
    pub short : InCount d.loop
    pub may : MayComeAll d.node None (came_of zs)
    pub fails : FailAll zs
    pub node : e.node ≡ after_all d.node (came_of zs)
    pub stored : stores d.core (came_of zs) e.core
    pub out : losses.Does (λ ms s. settled ms (loop_after_all (taken_of zs d.node) s)) (loop_taken zs d.loop) e.loop

-- the state once they were taken
abbrev taken_all : List Entry → State → State
taken_all zs s = state_at (loop_taken zs s.loop) (after_all s.node (came_of zs)) (s.deeds ++ enters_of zs)

-- they came as the marks and fates tell, and what is handed out of them is what it comes to
record Handed (zs : List Entry) (l : Luck) (s t : State) : Type 0 where
  more : List Fate
  fates : l.fates ≡ kept s.deeds ++ (kept (enters_of zs) ++ more)
  marks : Foretells l.marks (loop_taken zs s.loop)
  handed : handing l (taken_of zs s.node) (taken_all zs s) ≡ calm l t

module _ {K : Type 0} {stores : Stores K} {z : Entry} {zs : List Entry} {d e : Served K} (c : ComesAll stores (z ∷ zs) d e) where
  abbrev all_of : List Entry
  all_of = z ∷ zs

  comes_kinds : KeepsKinds d.loop e.loop
  comes_kinds = kinds_then d.loop (loop_taken all_of d.loop) e.loop (kinds_taken all_of d.loop) c.out.kinds

  comes_run : Run stores IsCalm Any (Handed (z ∷ zs)) d e
  comes_run =
      let frames : List Frame = frames_after_all (taken_of all_of d.node) (loop_taken all_of d.loop) in
      record {
        deeds = enters_of all_of ++ map says frames;
        grew = grew_trans (grew_taken all_of d.loop c.short) c.out.grew;
        went = record {
          steps = steps_all all_of frames d.node e.node None c.may c.node;
          walks = walks_group stores (enters_of all_of) frames (came_of all_of) d.core e.core (came_enters all_of) c.stored;
        };
        sure = λ marks f h. calm_taking z.1 marks d.loop e.loop (grew_trans (grew_taken zs (loop_taking z.1 d.loop) (in_count z.1 d.loop)) c.out.grew) f;
        is = λ l before k h. record {
          more = k.rest;
          fates = k.fates ∙ ap (λ r. r ++ k.rest) (kept_more before (enters_of all_of) frames) ∙ append_assoc (kept before) (kept (enters_of all_of)) k.rest;
          marks = foretold c.out.grew k.marks;
          handed =
              ap (λ (r : Loop). state_at r (after_all d.node (came_of all_of)) ((before ++ enters_of all_of) ++ map says frames)) (c.out.is l.marks k.marks)
              ∙ ap (λ n. state_at (settled l.marks e.loop) n ((before ++ enters_of all_of) ++ map says frames)) (sym c.node)
              ∙ ap (state_at (settled l.marks e.loop) e.node) (append_assoc before (enters_of all_of) (map says frames));
        };
      }

-- ---- an input that is given alone

enter_is : (l : Luck) (from : List ℕ) (i : Input) (f : Fate) (s : State) → length s.loop.lost < most_marks → next_fate l [] i s ≡ f → enter l from i s ≡ entered_with l from i f s
enter_is l from i f s h e = ap (λ b. if b then entered_with l from i (next_fate l [] i s) s else s) (lt-ltb (length s.loop.lost) most_marks h) ∙ ap (λ x. entered_with l from i x s) e

-- serving has stopped
settle_full : (ms : List Mark) (s : Loop) → most_marks ≤ length s.lost → settle ms s ≡ s
settle_full [] s h = refl
settle_full (m ∷ ms) s h = let no : is_due m s ≡ false = no_left (nat_lt (length s.lost) most_marks) _ (le-ltb (length s.lost) most_marks h) in rw no refl

module _ {K : Type 0} {stores : Stores K} where
  enters_one : {z : Entry} {d e : Served K} → ComesAll stores (z ∷ []) d e → Enters stores (λ l s. enter l z.0.0 z.0.1 s) d e
  enters_one {z} {d} {e} c = record {
    run = run_as (λ l s t. enter l z.0.0 z.0.1 s ≡ calm l t) (comes_run c) (λ l before zs k end h.
        enter_is l z.0.0 z.0.1 z.1 (with_deeds before d) c.few (next_is l [] z.0.1 d.loop d.node before z.1 h.more c.may.0 c.fails.0 c.may.1 h.marks (fates_first l before z [] h.more h.fates)) ∙ h.handed);
    kinds = comes_kinds c;
  }

  -- by what a step answered
  pub entered : {standing : K → Standing} (from : List ℕ) {i : Input} {r : Answer} {w : Option Wanted} {s u t : Loop} {k m : K} → Steps standing stores k i r m → length s.lost < most_marks → InCount s → w ≡ asked_by from i → u ≡ counting r s
      → losses.Does (λ ms x. settled ms (answered w false r x)) u t → Enters stores (λ l x. enter l from i x) (served_at s (standing k) k) (served_at t (standing m) m)
  entered {standing} from {i} {r} {w} {s} {u} {t} {k} {m} steps few short w_is u_is out =
      let n : Standing = standing k in
      let f : Fate = steps.fate in
      let now : Loop = loop_taking f s in
      let taken : losses.Does (λ ms x. settled ms (answered w false r x)) now t = subst (λ (x : Loop). losses.Does (λ ms y. settled ms (answered w false r y)) x t) (u_is ∙ counting_is r n i f s steps.tells) out in
      enters_one {z = ((from, i), f)} (record {
        few = few;
        short = short;
        may = (steps.may, steps.alone, λ h. refl, tt);
        fails = (steps.fails, tt);
        node = steps.node;
        stored = steps.stored;
        out = does_as (answered w false r) (loop_after (asked_by from i) i f n) (ap (λ x. answered x false r now) w_is ∙ answered_is (asked_by from i) None r n i f now steps.tells steps.alone) taken;
      })

  pub entered_full : (from : List ℕ) (i : Input) (d : Served K) → most_marks ≤ length d.loop.lost → Enters stores (λ l s. enter l from i s) d d
  entered_full from i d h = record {
    run = run_still d (λ marks c. calm_full marks d.loop h) (λ l before.
        ap (λ b. if b then entered_with l from i (next_fate l [] i (with_deeds before d)) (with_deeds before d) else with_deeds before d) (le-ltb (length d.loop.lost) most_marks h)
        ∙ ap (λ r. record { loop = r; node = d.node; deeds = before }) (sym (settle_full (drop (length d.loop.lost) l.marks) d.loop h)));
    kinds = λ c. inl refl;
  }

-- ---- several

-- these inputs are to be given, or those that are left
abbrev Goes : List Brought → List Brought → Luck → State → State → Type 0
Goes bs left l s t = drained l (together l [] bs s) ≡ drained l (together l [] left (rest l t))

module _ {K : Type 0} {stores : Stores K} where
  -- some were dealt with, and these are left
  pub gives_group : {z : Entry} {zs : List Entry} (left : List Brought) {d e : Served K} → ComesAll stores (z ∷ zs) d e → (left ≡ []) ⊎ (ends_lost (came_of (z ∷ zs)) ≡ true) → GivesSome stores (brought_of (z ∷ zs) ++ left) left d e
  unfolding rest
  gives_group {z} {zs} left {d} {e} c ends = record {
    run = run_as (Goes (brought_of (z ∷ zs) ++ left) left) (comes_run c) (λ l before xs k h x.
        together_so l left x.more z zs [] d.loop d.node before c.few c.short c.may c.fails x.marks x.fates ends ∙ ap (λ t. drained l (together l [] left (drained l t))) x.handed);
    kinds = comes_kinds c;
  }

  -- and then the Downs
  pub some_drained : {bs left : List Brought} {d m e : Served K} → GivesSome stores bs left d m → Drained stores m e → GivesSome stores bs left d e
  some_drained {bs} {left} {d} {m} {e} a b = record {
    run = run_then (Goes bs left) a.run b.run (λ l before xs zs k mid end x y. x ∙ ap (λ t. drained l (together l [] left t)) y);
    kinds = kinds_then d.loop m.loop e.loop a.kinds b.kinds;
  }

  -- one group behind the other
  pub some_then : {bs cs left : List Brought} {d m e : Served K} → GivesSome stores bs cs d m → IsDrained m.loop → GivesSome stores cs left m e → GivesSome stores bs left d e
  some_then {bs} {cs} {left} {d} {m} {e} a none b = record {
    run = run_then (Goes bs left) (run_any a.run) b.run (λ l before xs zs k mid end x y. x ∙ ap (λ t. drained l (together l [] cs t)) (rest_still l (with_deeds xs m) mid none) ∙ y);
    kinds = kinds_then d.loop m.loop e.loop a.kinds b.kinds;
  }

  -- where none is left, it comes to rest so
  pub some_gives : {bs : List Brought} {d e : Served K} → 0 < length bs → GivesSome stores bs [] d e → Stays d.loop e.loop → IsDrained e.loop → Gives stores (λ l s. given_together l bs s) d e
  unfolding rest
  some_gives {bs = []} some a stays none = absurd (omega (arith, some))
  some_gives {bs = b ∷ bs} {d} {e} some a stays none = record {
    run = run_as (λ l s t. given_together l (b ∷ bs) s ≡ rest l t) a.run (λ l before zs k h x. x ∙ drained_again l (calm l (with_deeds zs e)));
    kinds = a.kinds;
    stays = stays;
    none = none;
  }

  -- serving has stopped: nothing of them is given
  pub some_full : (bs : List Brought) (d : Served K) → most_marks ≤ length d.loop.lost → GivesSome stores bs [] d d
  unfolding rest
  some_full bs d h = record {
    run = run_still d (λ marks c. calm_full marks d.loop h) (λ l before.
        let s : State = with_deeds before d in
        ap (drained l) (none_full l bs s h ∙ ap (λ ds. record (calm l s) { deeds = ds }) (append-nil s.deeds)) ∙ sym (drained_again l (calm l s)));
    kinds = λ c. inl refl;
  }
    where
      none_full : (l : Luck) (bs : List Brought) (s : State) → most_marks ≤ length s.loop.lost → together l [] bs s ≡ handing l [] s
      none_full l [] s h = refl
      none_full l (b ∷ bs) s h = ap (λ o. if o then then_goes l bs [] b (next_fate l [] b.1 s) s else handing l [] s) (le-ltb (length s.loop.lost) most_marks h)
