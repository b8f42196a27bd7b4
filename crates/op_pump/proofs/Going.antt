-- One moment after another: each answer leads to the next, and runs are put together.
use Rattle.std.proofs.Common.{◌≡◌, ◌<◌, ◌≤◌, ◌+◌, ◌++◌, ◌∷◌, [], ℕ, Bool, List, map, length, true, false, nat_lt, if◌then◌else◌, drop, get_or, add-one, Result, Ok, Err, OnOk, refl, sym, ◌∙◌, ap, ap₂, subst, append_assoc}
use Rattle.std.specs.Prelude.{Option}
use Rattle.std.proofs.lemmas.Bool.{lt-ltb, ltb-true, ltb-false}
use Rattle.std.proofs.lemmas.List.{append-nil}
use Rattle.std.proofs.Math.ListN.{drop_of_length-le}
use Rattle.std.proofs.Math.Seq.{drop-cons}
use Rattle.op_outside.specs.Causes.{RisesIf}
use Rattle.op_outside.specs.Nets.{Call, Closed}
use Rattle.op_outside.specs.Seen.{NetSeen}
use Rattle.op_outside.specs.Telling.{Grows}
use Rattle.op_outside.proofs.Seen.{grows_none, grows_both}
use Rattle.op_serving.specs.declared.serve_end.ServeEnd.{ServeEnd}
use Rattle.op_serving.specs.declared.serve_end.ServeEnd.TheVariants as ends
use Rattle.op_serving.specs.Cores.{Standing}
use Rattle.op_serving.specs.State.{Loop}
use Rattle.op_serving.specs.Losses.{most_marks, IsCalm}
use Rattle.op_serving.specs.Inputs.{State, Deed, Luck}
use Rattle.op_serving.specs.Pump.{Settings, Stage, stop, Pump, Ask, nothing, Answer, no_answer, call_of, ask, answered, shut, after, calls}
use Rattle.op_serving.specs.Answers.{IsAnswer, Answers, time_of}
use Rattle.op_driver.specs.Driver.{Served, Chance, Stores, Run, with_deeds, emptied, IsIdle}
use Rattle.op_pump.specs.declared.timer.Timer.{Timer}
use Rattle.op_pump.specs.Moments.{Moment, moment, pump_at, pump_of, reached, unless_full, is_broken, is_starved, MarksAt, Leads, times_in, GoesBy, On, Goes, TurnGoes, IsIdleAt, Settles}
use Rattle.op_queues.proofs.Settling.{grew_still}
use Rattle.op_driver.proofs.Stepping.{run_then, run_from, run_still, at_once}
use Rattle.op_pump.proofs.Knowing.{calm_emptied}

-- ---- answers after answers

module _ (o : Settings) (l : Luck) (line : Standing → List ℕ) where
  after_both : (xs ys : List Answer) (p : Pump) → after o l line (xs ++ ys) p ≡ after o l line ys (after o l line xs p)
  after_both [] ys p = refl
  after_both (x ∷ xs) ys p = after_both xs ys (shut o l line (answered o l line x p))

  calls_both : (xs ys : List Answer) (p : Pump) → calls o l line (xs ++ ys) p ≡ calls o l line xs p ++ calls o l line ys (after o l line xs p)
  calls_both [] ys p = refl
  calls_both (x ∷ xs) ys p =
      let q : Pump = shut o l line (answered o l line x p) in
      let u : List Call = call_of (ask o l line p) x in
      let v : List Call = map Closed (answered o l line x p).driver.loop.closes in
      ap (λ r. (u ++ v) ++ r) (calls_both xs ys q) ∙ sym (append_assoc (u ++ v) (calls o l line xs q) (calls o l line ys (after o l line xs q)))

  answers_both : (xs ys : List Answer) (p : Pump) → Answers o l line xs p → Answers o l line ys (after o l line xs p) → Answers o l line (xs ++ ys) p
  answers_both [] ys p a b = b
  answers_both (x ∷ xs) ys p a b = (a.0, answers_both xs ys (shut o l line (answered o l line x p)) a.1 b)

pub leads_then : {o : Settings} {l : Luck} {line : Standing → List ℕ} {xs ys : List Answer} {p q r : Pump} {us vs : List Call} → Leads o l line xs p us q
    → Leads o l line ys q vs r → Leads o l line (xs ++ ys) p (us ++ vs) r
leads_then {o} {l} {line} {xs} {ys} {p} a b = record {
  fit = answers_both o l line xs ys p a.fit (subst (λ x. Answers o l line ys x) (sym a.after) b.fit);
  after = after_both o l line xs ys p ∙ ap (after o l line ys) a.after ∙ b.after;
  calls = calls_both o l line xs ys p ∙ ap (λ x. calls o l line xs p ++ calls o l line ys x) a.after ∙ ap₂ (λ x y. x ++ y) a.calls b.calls;
}

times_both : (xs ys : List Answer) → times_in (xs ++ ys) ≡ times_in xs ++ times_in ys
times_both [] ys = refl
times_both (x ∷ xs) ys = ap (λ r. time_of x ++ r) (times_both xs ys) ∙ sym (append_assoc (time_of x) (times_in xs) (times_in ys))

-- ---- moments after moments

module _ {K : Type 0} {stores : Stores K} {o : Settings} {line : Standing → List ℕ} where
  pub goes_then : {A : Chance} {ts us : List ℕ} {a b c : Moment K} {n0 n1 n2 : NetSeen} → GoesBy stores A o line ts a b n0 n1 → is_broken b.at ≡ false
      → Goes stores o line us b c n1 n2 → GoesBy stores A o line (ts ++ us) a c n0 n2
  goes_then {a = a} {b = b} {c = c} {n0 = n0} {n1 = n1} {n2 = n2} x whole y =
      let same : n1.1 ≡ n0.1 = subst (λ z. RisesIf z n0.1 n1.1) whole x.counts in
      record {
        answers = x.answers ++ y.answers;
        made = x.made ++ y.made;
        run = run_then (λ l s t. Leads o l line (x.answers ++ y.answers) (pump_at a.at a.timer s) (x.made ++ y.made) (pump_at c.at c.timer t)) x.run y.run
            (λ l before xs zs k mid end u v. leads_then u v);
        told = grows_both n0.0 x.made y.made x.told y.told;
        counts = subst (λ n. RisesIf (is_broken c.at) n n2.1) same y.counts;
        marks = y.marks;
        times = times_both x.answers y.answers ∙ ap₂ (λ p q. p ++ q) x.times y.times;
      }

  -- where nothing need come before it
  pub on_goes : {ts : List ℕ} {a b : Moment K} {n0 n1 : NetSeen} → Goes stores o line ts a b n0 n1 → On stores o line ts a b n0 n1
  on_goes x = record { answers = x.answers; made = x.made; run = run_from x.run; told = x.told; counts = x.counts; marks = x.marks; times = x.times }

  -- to the same stage, spelled otherwise
  pub goes_to : {X : Type 0} {ts : List ℕ} {a : Moment K} {t : Timer} {d : Served K} {n0 n1 : NetSeen} (stage : X → Stage) {x y : X} → x ≡ y
      → Goes stores o line ts a (moment (stage x) t d) n0 n1 → Goes stores o line ts a (moment (stage y) t d) n0 n1
  goes_to {ts = ts} {a = a} {t = t} {d = d} {n0 = n0} {n1 = n1} stage is g =
      subst (λ z. Goes stores o line ts a (moment (stage z) t d) n0 n1) is g

  -- from the same driver, spelled otherwise
  pub on_from : {ts : List ℕ} {stage : Stage} {t : Timer} {b : Moment K} {n0 n1 : NetSeen} {d e : Served K} → d ≡ e
      → On stores o line ts (moment stage t d) b n0 n1 → On stores o line ts (moment stage t e) b n0 n1
  on_from {ts = ts} {stage = stage} {t = t} {b = b} {n0 = n0} {n1 = n1} is x = subst (λ z. On stores o line ts (moment stage t z) b n0 n1) is x

  -- nothing happens
  pub goes_still : {a : Moment K} {n : NetSeen} → IsIdle a.served.loop → is_broken a.at ≡ false → is_starved a.at ≡ false → Goes stores o line [] a a n n
  goes_still {a} {n} idle whole goes_on = record {
    answers = [];
    made = [];
    run = run_still a.served (λ marks h. h) (λ l before. record { fit = tt; after = refl; calls = refl });
    told = grows_none n.0;
    counts = rw whole refl;
    marks = rw goes_on idle.few;
    times = refl;
  }

-- ---- one answer

-- an answer leads to a stage, and to what the driver did; what is to be closed is not closed yet
pub record Done {K : Type 0} (stores : Stores K) (A : Chance) (o : Settings) (line : Standing → List ℕ) (x : Answer) (q : Ask) (a : Moment K) (stage : Stage) (t : Timer)
    (m : Served K) : Type 0 where
  pub goes_on : is_starved stage ≡ false
  pub f : Luck → State → State
  pub does : Run stores A IsCalm (λ l s u. f l s ≡ u) a.served m
  pub asks : (l : Luck) (before : List Deed) → ask o l line (pump_of before a) ≡ q
  pub fits : IsAnswer q x
  pub is : (l : Luck) (before : List Deed) → answered o l line x (pump_of before a) ≡ pump_at stage t (f l (with_deeds before a.served))

marks_if : (b : Bool) (stage : Stage) (s : Loop) → nat_lt (length s.lost) most_marks ≡ b → is_starved stage ≡ false
    → MarksAt (is_starved (if b then stage else stop ends.Starved)) s
marks_if true stage s e goes_on = rw goes_on (ltb-true (length s.lost) most_marks e)
marks_if false stage s e goes_on = ltb-false (length s.lost) most_marks e

-- the net's count of faults, where its call didn't fail
unbroken_if : (b : Bool) (stage : Stage) (f : ℕ) → is_broken stage ≡ false → RisesIf (is_broken (if b then stage else stop ends.Starved)) f f
unbroken_if true stage f e = rw e refl
unbroken_if false stage f e = refl

unbroken : (s : Loop) (stage : Stage) {f g : ℕ} → is_broken stage ≡ false → g ≡ f → RisesIf (is_broken (unless_full s stage)) f g
unbroken s stage {f} e same = subst (λ n. RisesIf (is_broken (unless_full s stage)) f n) (sym same) (unbroken_if (nat_lt (length s.lost) most_marks) stage f e)

pub few_is : (s : Loop) (stage : Stage) → IsIdle s → unless_full s stage ≡ stage
few_is s stage i = let few : nat_lt (length s.lost) most_marks ≡ true = lt-ltb (length s.lost) most_marks i.few in rw few refl

module _ {K : Type 0} {stores : Stores K} {o : Settings} {line : Standing → List ℕ} where
  one_emptied : {A : Chance} {x : Answer} {q : Ask} {a : Moment K} {stage : Stage} {t : Timer} {m : Served K} {n0 n1 n2 : NetSeen}
      → Done stores A o line x q a stage t m → Grows n0.0 (call_of q x) n1.0 → RisesIf (is_broken (unless_full m.loop stage)) n0.1 n1.1
      → Grows n1.0 (map Closed m.loop.closes) n2.0 → n2.1 ≡ n1.1
      → GoesBy stores A o line (time_of x ++ []) a (moment (unless_full m.loop stage) t (emptied m)) n0 n2
  one_emptied {x = x} {q = q} {a = a} {stage = stage} {t = t} {m = m} {n0 = n0} d told counts closed same =
      let call : List Call = call_of q x in
      let closes : List Call = map Closed m.loop.closes in
      record {
        answers = x ∷ [];
        made = call ++ closes;
        run = run_then (λ l s u. Leads o l line (x ∷ []) (pump_at a.at a.timer s) (call ++ closes) (pump_at (unless_full m.loop stage) t u)) d.does
            (at_once IsCalm IsCalm (λ s. record s { loop = record s.loop { closes = [] } }) {d = m} {s = (emptied m).loop} refl (grew_still refl refl)
            (λ marks f h. calm_emptied marks m h) (λ before. refl)) (λ l before xs zs k mid end u v.
            let e : answered o l line x (pump_of before a) ≡ pump_at stage t (with_deeds xs m) = d.is l before ∙ ap (pump_at stage t) u in
            record {
              fit = (subst (λ r. IsAnswer r x) (sym (d.asks l before)) d.fits, tt);
              after = ap (shut o l line) e ∙ ap (pump_at (unless_full m.loop stage) t) v;
              calls = ap₂ (λ r v. (call_of r x ++ map Closed v) ++ []) (d.asks l before) (ap (λ (p : Pump). p.driver.loop.closes) e)
                  ∙ append-nil (call ++ closes);
            });
        told = grows_both n0.0 call closes told closed;
        counts = subst (λ n. RisesIf (is_broken (unless_full m.loop stage)) n0.1 n) (sym same) counts;
        marks = marks_if (nat_lt (length m.loop.lost) most_marks) stage (emptied m).loop refl d.goes_on;
        times = refl;
      }

  pub goes_one : {A : Chance} (x : Answer) (q : Ask) (stage : Stage) {a : Moment K} {t u : Timer} {m e : Served K} {r : Result (Unit {0}) ServeEnd}
      {n0 n1 n2 : NetSeen} → u ≡ t → Settles m r e n1 n2 → Done stores A o line x q a stage t m → is_broken stage ≡ false
      → Grows n0.0 (call_of q x) n1.0 → n1.1 ≡ n0.1 → GoesBy stores A o line (time_of x ++ []) a (moment (reached r stage) u e) n0 n2
  goes_one {A = A} x q stage {a = a} {t = t} {m = m} {e = e} {r = r} {n0 = n0} {n2 = n2} later s d whole told same =
      let one = one_emptied d told (unbroken m.loop stage whole same) s.closes.told s.closes.counts in
      subst (λ y. GoesBy stores A o line (time_of x ++ []) a (moment (reached r stage) y e) n0 n2) (sym later)
      (subst (λ y. GoesBy stores A o line (time_of x ++ []) a (moment (reached r stage) t y) n0 n2) (sym s.closes.is)
      (subst (λ y. GoesBy stores A o line (time_of x ++ []) a (moment y t (emptied m)) n0 n2) (sym (s.stage stage)) one))

  -- an answer with which nothing is to be closed
  pub goes_idle : {A : Chance} (x : Answer) (q : Ask) {a : Moment K} {stage : Stage} {t : Timer} {m : Served K} {n0 n1 : NetSeen}
      → Done stores A o line x q a stage t m → IsIdle m.loop → Grows n0.0 (call_of q x) n1.0 → RisesIf (is_broken stage) n0.1 n1.1
      → GoesBy stores A o line (time_of x ++ []) a (moment stage t m) n0 n1
  goes_idle {A = A} x q {a = a} {stage = stage} {t = t} {m = m} {n0 = n0} {n1 = n1} d i told counts =
      let few : unless_full m.loop stage ≡ stage = few_is m.loop stage i in
      let none : Grows n1.0 (map Closed m.loop.closes) n1.0 = rw i.closes (grows_none n1.0) in
      let one = one_emptied d told (subst (λ y. RisesIf (is_broken y) n0.1 n1.1) (sym few) counts) none refl in
      let same : emptied m ≡ m = ap (λ cs. record m { loop = record m.loop { closes = cs } }) (sym i.closes) in
      subst (λ y. GoesBy stores A o line (time_of x ++ []) a (moment stage t y) n0 n1) same
      (subst (λ y. GoesBy stores A o line (time_of x ++ []) a (moment y t (emptied m)) n0 n1) few one)

  -- an answer that changes nothing of the driver
  pub goes_same : (x : Answer) (q : Ask) {s stage : Stage} {t u : Timer} {d : Served K} {n0 n1 : NetSeen} → is_starved stage ≡ false → IsIdle d.loop
      → ((l : Luck) (before : List Deed) → ask o l line (pump_of before (moment s t d)) ≡ q) → IsAnswer q x
      → ((l : Luck) (before : List Deed) → answered o l line x (pump_of before (moment s t d)) ≡ pump_of before (moment stage u d))
      → Grows n0.0 (call_of q x) n1.0 → RisesIf (is_broken stage) n0.1 n1.1
      → Goes stores o line (time_of x ++ []) (moment s t d) (moment stage u d) n0 n1
  goes_same x q {d = d} goes_on idle asks fits is told counts =
      goes_idle x q (record { goes_on = goes_on; f = λ l s. s; does = run_still d (λ marks h. h) (λ l before. refl); asks = asks; fits = fits; is = is }) idle told counts

  -- nothing is asked, and so it goes on
  pub goes_by : {s stage : Stage} {t : Timer} {d : Served K} {n : NetSeen} → is_starved stage ≡ false → RisesIf (is_broken stage) n.1 n.1 → IsIdle d.loop
      → ((l : Luck) (before : List Deed) → ask o l line (pump_of before (moment s t d)) ≡ nothing)
      → ((l : Luck) (before : List Deed) → answered o l line no_answer (pump_of before (moment s t d)) ≡ pump_of before (moment stage t d))
      → Goes stores o line [] (moment s t d) (moment stage t d) n n
  goes_by {n = n} goes_on whole idle asks is = goes_same no_answer nothing goes_on idle asks tt is (grows_none n.0) whole

  -- ---- other words for the same

  -- where serving ended, no stage is ahead
  pub cut : {B : Type 0} {ts : List ℕ} {a : Moment K} {e : ServeEnd} {r : Result B ServeEnd} {t : Timer} {d : Served K} {n0 n1 : NetSeen} (u : Stage)
      → r ≡ Err e → Goes stores o line ts a (moment (stop e) t d) n0 n1 → Goes stores o line ts a (moment (reached r u) t d) n0 n1
  cut {ts = ts} {a = a} {t = t} {d = d} {n0 = n0} {n1 = n1} u is g = subst (λ y. Goes stores o line ts a (moment (reached y u) t d) n0 n1) (sym is) g

  -- both with the other timer
  pub with_timer : {ts : List ℕ} {s1 s2 : Stage} {t u : Timer} {d e : Served K} {n0 n1 : NetSeen} → u ≡ t
      → Goes stores o line ts (moment s1 u d) (moment s2 u e) n0 n1 → Goes stores o line ts (moment s1 t d) (moment s2 t e) n0 n1
  with_timer {ts} {s1} {s2} {d = d} {e = e} {n0 = n0} {n1 = n1} is g = subst (λ y. Goes stores o line ts (moment s1 y d) (moment s2 y e) n0 n1) is g

  -- the last with the other timer
  pub to_timer : {ts : List ℕ} {a : Moment K} {s : Stage} {t u : Timer} {e : Served K} {n0 n1 : NetSeen} → u ≡ t → Goes stores o line ts a (moment s t e) n0 n1
      → Goes stores o line ts a (moment s u e) n0 n1
  to_timer {ts} {a} {s} {e = e} {n0 = n0} {n1 = n1} is g = subst (λ y. Goes stores o line ts a (moment s y e) n0 n1) (sym is) g

  -- ---- turns

  pub turn_then : {a b c : Moment K} {n0 n1 n2 : NetSeen} {c0 c1 c2 : Option (List ℕ)} → TurnGoes stores o line a b n0 n1 c0 c1 → is_broken b.at ≡ false
      → TurnGoes stores o line b c n1 n2 c1 c2 → TurnGoes stores o line a c n0 n2 c0 c2
  turn_then {c0 = c0} x whole y =
      record { times = x.times ++ y.times; goes = goes_then x.goes whole y.goes; clock = grows_both c0 x.times y.times x.clock y.clock }

  pub turn_still : {a b : Moment K} {n : NetSeen} {clock : Option (List ℕ)} → Goes stores o line [] a b n n → TurnGoes stores o line a b n n clock clock
  turn_still {clock = clock} g = record { times = []; goes = g; clock = grows_none clock }

-- ---- the driver is idle

pub on_ok : {A E P Q : Type 0} (r : Result A E) → (P → Q) → OnOk r P → OnOk r Q
on_ok (Ok x) f h = f h
on_ok (Err e) f h = tt

pub idle_at : {n k m i : ℕ} {s : Loop} → n ≡ m → k ≡ i → IsIdleAt n k s → IsIdleAt m i s
idle_at a b h = record { idle = h.idle; turn = h.turn ∙ a; at = h.at ∙ b }

-- ---- lists that are gone over

pub list_at : {A : Type 0} (xs : List A) (i : ℕ) (d : A) → i < length xs → drop i xs ≡ get_or xs i d ∷ drop (i + 1) xs
list_at xs i d lt = rw (drop-cons xs i d lt, add-one i) refl

pub list_end : {A : Type 0} (xs : List A) (i : ℕ) → length xs ≤ i → drop i xs ≡ []
list_end xs i le = rw (drop_of_length-le xs le) refl
