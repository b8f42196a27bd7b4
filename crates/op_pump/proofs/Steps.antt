-- What each answer leads to.
use Rattle.std.proofs.Common.{◌≡◌, ◌<◌, ◌+◌, ◌-◌, ◌++◌, ◌∷◌, ◌⊎◌, [], ℕ, Bool, List, true, false, not, nat_lt, ◌&&◌, if◌then◌else◌, Option, Some, None, is_some, Result, refl, sym, ◌∙◌, ap, ap₂, map, subst, inl, inr, arith}
use Rattle.std.proofs.lemmas.Bool.{lt-ltb, le-ltb}
use Rattle.op_outside.specs.Causes.{RisesIf}
use Rattle.op_outside.specs.Nets.{Readied, Closed}
use Rattle.op_outside.specs.Seen.{NetSeen}
use Rattle.op_outside.specs.Telling.{Grows}
use Rattle.op_outside.specs.declared.net.Addr.{Addr}
use Rattle.op_outside.specs.declared.net.Happening.{Happening}
use Rattle.op_outside.specs.declared.net.Happening.TheVariants.{Readable, Writable}
use Rattle.op_outside.proofs.Seen.{grows_none, grows_both}
use Rattle.op_serving.specs.declared.serve_end.ServeEnd.{ServeEnd}
use Rattle.op_serving.specs.declared.serve_end.ServeEnd.TheVariants as ends
use Rattle.op_serving.specs.declared.kind.Kind.{Kind}
use Rattle.op_serving.specs.Cores.{Standing}
use Rattle.op_serving.specs.State.{Loop, find, is_open, session_of}
use Rattle.op_serving.specs.Losses.{last_count}
use Rattle.op_serving.specs.Inputs.{State, Deed, Luck, flushed}
use Rattle.op_serving.specs.Turns.{happens_at, at_happening, turn_begins, turn_begun, joined, queue_in, waiting_from}
use Rattle.op_serving.specs.Pump.{writes_place, Settings, Stage, turn, dials, asks, reads, writes, stop, wait, dial, ready, write_to, nothing, Answer, was_readied, was_written, no_answer, call_of, ask, answered}
use Rattle.op_serving.specs.Pump as pump
use Rattle.op_serving.specs.Answers.{IsAnswer, time_of}
use Rattle.op_driver.specs.Driver.{Served, Stores, with_deeds, Acts, Does, IsIdle}
use Rattle.op_pump.specs.declared.timer.Timer.{Timer}
use Rattle.op_pump.specs.Moments.{moment, pump_at, pump_of, reached, is_broken, is_starved, Leads, On, Goes, Settles, admitted, read_at, happened}
use Rattle.op_driver.proofs.Stepping.{run_then, run_as, run_any, run_from, run_still}
use Rattle.op_pump.proofs.Knowing.{moved_run, does_moved}
use Rattle.op_pump.proofs.Going.{goes_one, goes_idle, goes_by, few_is, leads_then}

-- ---- a turn begins

abbrev turned : {K : Type 0} → Served K → Served K
turned d = record d { loop = turn_begins d.loop }

module _ {K : Type 0} {stores : Stores K} {o : Settings} {line : Standing → List ℕ} where
  pub turn_goes : (x : Answer) {stage : Stage} {t u v : Timer} {d e : Served K} {n0 n1 : NetSeen} → is_starved stage ≡ false → 0 < t.left
      → d.loop.ending ≡ false → d.loop.place.turn < last_count → IsIdle d.loop → e ≡ turned d → u ≡ v → IsAnswer (wait (t.due - t.last)) x
      → ((l : Luck) (before : List Deed) → answered o l line x (pump_of before (moment turn t d)) ≡ pump_at stage v (turn_begun (with_deeds before d)))
      → Grows n0.0 (call_of (wait (t.due - t.last)) x) n1.0 → RisesIf (is_broken stage) n0.1 n1.1
      → Goes stores o line (time_of x ++ []) (moment turn t d) (moment stage u e) n0 n1
  turn_goes x {stage} {t} {u} {v} {d} {e} {n0} {n1} goes_on left ending before_last idle e_is later fits is told counts =
      let does = run_any (moved_run {stores = stores} turn_begun {d = d} {s = turn_begins d.loop} refl (inl (omega (arith, before_last))) (omega arith) (λ before. refl)) in
      let few : nat_lt 0 t.left ≡ true = lt-ltb 0 t.left left in
      subst (λ y. Goes stores o line (time_of x ++ []) (moment turn t d) (moment stage u y) n0 n1) (sym e_is)
      (subst (λ y. Goes stores o line (time_of x ++ []) (moment turn t d) (moment stage y (turned d)) n0 n1) (sym later)
      (goes_idle x (wait (t.due - t.last))
      (record { goes_on = goes_on; f = λ l s. turn_begun s; does = does; asks = λ l before. rw (few, ending) refl; fits = fits; is = is })
      (record { closes = idle.closes; none = idle.none; few = idle.few }) told counts))

  -- the end of the turns
  pub turns_end : {t : Timer} {d : Served K} {end : ServeEnd} {n : NetSeen} → IsIdle d.loop → (nat_lt 0 t.left && not d.loop.ending) ≡ false
      → end ≡ (if d.loop.ending then ends.Ended else ends.TurnsOver) → Goes stores o line [] (moment turn t d) (moment (stop end) t d) n n
  turns_end {t} {d} {end} {n} idle over is =
      goes_by (ap (λ y. is_starved (stop y)) is ∙ fed_if d.loop.ending) (subst (λ y. RisesIf (is_broken (stop y)) n.1 n.1) (sym is) (whole_if d.loop.ending))
      idle (λ l before. rw over refl) (λ l before. rw is refl)
    where
      fed_if : (b : Bool) → is_starved (stop (if b then ends.Ended else ends.TurnsOver)) ≡ false
      fed_if true = refl
      fed_if false = refl

      whole_if : (b : Bool) → RisesIf (is_broken (stop (if b then ends.Ended else ends.TurnsOver))) n.1 n.1
      whole_if true = refl
      whole_if false = refl

-- ---- what is asked

no_dial_if : (b : Bool) (o : Option ℕ) (addr : Addr) → (b ≡ false) ⊎ (is_some o ≡ true)
    → (if b then elim o [ None ↦ dial addr | Some c ↦ nothing ] else nothing) ≡ nothing
no_dial_if false o addr h = refl
no_dial_if true (Some c) addr h = refl
no_dial_if true None addr (inl e) = absurd cc
no_dial_if true None addr (inr e) = absurd cc

module _ {K : Type 0} {stores : Stores K} {o : Settings} {line : Standing → List ℕ} where
  pub not_dialled : {t : Timer} {d : Served K} {p : ℕ × Addr} {more : List (ℕ × Addr)} {k : ℕ} {n : NetSeen} → IsIdle d.loop
      → (nat_lt p.0 d.loop.me ≡ false) ⊎ (is_some (session_of p.0 d.loop) ≡ true)
      → Goes stores o line [] (moment (dials (p ∷ more) k) t d) (moment (dials more k) t d) n n
  not_dialled {d = d} {p = p} idle h = goes_by refl refl idle (λ l before. no_dial_if (nat_lt p.0 d.loop.me) (session_of p.0 d.loop) p.1 h) (λ l before. refl)

module _ {K : Type 0} (o : Settings) (line : Standing → List ℕ) (t : Timer) (d : Served K) where
  pub dial_asks : (p : ℕ × Addr) (more : List (ℕ × Addr)) (k : ℕ) → p.0 < d.loop.me → session_of p.0 d.loop ≡ None → (l : Luck) (before : List Deed)
      → ask o l line (pump_of before (moment (dials (p ∷ more) k) t d)) ≡ dial p.1
  dial_asks p more k smaller none l before = let less : nat_lt p.0 d.loop.me ≡ true = lt-ltb p.0 d.loop.me smaller in rw (less, none) refl

  pub ready_asks : (i k : ℕ) → i < k → (l : Luck) (before : List Deed) → ask o l line (pump_of before (moment (asks i k) t d)) ≡ ready i
  ready_asks i k h l before = let less : nat_lt i k ≡ true = lt-ltb i k h in rw less refl

  pub write_asks : {c : ℕ} (low : ℕ) → Some c ≡ waiting_from low d.loop.sessions → (l : Luck) (before : List Deed)
      → ask o l line (pump_of before (moment (writes low) t d)) ≡ write_to c (queue_in (find c d.loop.sessions))
  write_asks low first l before = ap (λ n. pump.write_next o l line n (with_deeds before d)) (sym first)

  -- and what is done with what was answered
  pub written : {c : ℕ} (low : ℕ) (x : Answer) → Some c ≡ waiting_from low d.loop.sessions → (l : Luck) (before : List Deed)
      → answered o l line x (pump_of before (moment (writes low) t d)) ≡ pump.writes_at o l line (Some c) x (pump_of before (moment (writes low) t d))
  written low x first l before = ap (λ q. pump.writes_at o l line q x (pump_of before (moment (writes low) t d))) (sym first)

module _ {K : Type 0} {stores : Stores K} {o : Settings} {line : Standing → List ℕ} where
  -- nothing waits any more
  pub writes_end : {t : Timer} {d : Served K} {low : ℕ} {n : NetSeen} → IsIdle d.loop → None ≡ waiting_from low d.loop.sessions
      → Goes stores o line [] (moment (writes low) t d) (moment turn t d) n n
  writes_end {t} {d} {low} idle none =
      goes_by refl refl idle (λ l before. ap (λ n. pump.write_next o l line n (with_deeds before d)) (sym none))
      (λ l before. ap (λ q. pump.writes_at o l line q no_answer (pump_of before (moment (writes low) t d))) (sym none))

-- ---- happenings

abbrev pub moved_to : {K : Type 0} → ℕ → Served K → Served K
moved_to i d = record d { loop = happens_at i d.loop }

module _ {K : Type 0} {stores : Stores K} where
  does_happen : (f : Luck → State → State) (i : ℕ) {d m : Served K} → d.loop.place.at < i → Acts stores f (moved_to i d) m
      → Does stores (λ l s. f l (at_happening i s)) d m
  does_happen f i {d} h a = does_moved f (at_happening i) {d = d} {s = happens_at i d.loop} refl (inr (refl, h)) (omega arith) (λ before. refl) a

some_none : (b : Bool) (c : ℕ) → (if b then Some c else None) ≡ None → b ≡ false
some_none false c e = refl
some_none true c e = absurd cc

happens_is : {K : Type 0} (o : Settings) (line : Standing → List ℕ) (t : Timer) (d : Served K) (i k : ℕ) (h : Happening) → read_at h d.loop ≡ None
    → (l : Luck) (before : List Deed)
    → answered o l line (was_readied h) (pump_of before (moment (asks i k) t d)) ≡ pump_at (asks (i + 1) k) t
    (happened l h (at_happening (i + 1) (with_deeds before d)))
happens_is o line t d i k (Readable c) e l before = let closed : is_open c d.loop ≡ false = some_none (is_open c d.loop) c e in rw closed refl
happens_is o line t d i k h e l before = refl

open_read : (h : Happening) (c : ℕ) (s : Loop) → read_at h s ≡ Some c → (h ≡ Readable c) × (is_open c s ≡ true)
open_read (Readable d) c s e = open_if (is_open d s) refl e
  where
    open_if : (b : Bool) → is_open d s ≡ b → (if b then Some d else None) ≡ Some c → (Readable d ≡ Readable c) × (is_open c s ≡ true)
    open_if false is e = absurd cc
    open_if true is e = let same : d ≡ c = cc in (ap Readable same, ap (λ x. is_open x s) (sym same) ∙ is)
open_read h c s e = absurd cc

module _ {K : Type 0} {stores : Stores K} {o : Settings} {line : Standing → List ℕ} where
  pub happened_so : {t u : Timer} {d m e : Served K} {r : Result (Unit {0}) ServeEnd} {i k : ℕ} {n0 n1 n2 : NetSeen} (h : Happening) → i < k
      → d.loop.place.at ≡ i → read_at h d.loop ≡ None → Acts stores (λ l s. happened l h s) (moved_to (i + 1) d) m → u ≡ t
      → Grows n0.0 (Readied i h ∷ []) n1.0 → n1.1 ≡ n0.1 → Settles m r e n1 n2
      → Goes stores o line [] (moment (asks i k) t d) (moment (reached r (asks (i + 1) k)) u e) n0 n2
  happened_so {t} {d = d} {i = i} {k = k} h less at none acts later told same s =
      let does = does_happen (λ l s. happened l h s) (i + 1) {d = d} (omega (arith, at)) acts in
      goes_one (was_readied h) (ready i) (asks (i + 1) k) later s
      (record {
        goes_on = refl;
        f = λ l s. happened l h (at_happening (i + 1) s);
        does = does;
        asks = ready_asks o line t d i k less;
        fits = tt;
        is = happens_is o line t d i k h none;
      }) refl told same

  -- behind the last one what was gathered is given
  pub happenings_end : {t u : Timer} {d m e : Served K} {r : Result (Unit {0}) ServeEnd} {k : ℕ} {n0 n1 : NetSeen} → d.loop.place.at < writes_place
      → Does stores (λ l s. flushed l s) (moved_to writes_place d) m → u ≡ t → Settles m r e n0 n1
      → Goes stores o line [] (moment (asks k k) t d) (moment (reached r (writes 0)) u e) n0 n1
  happenings_end {d = d} {k = k} {n0 = n0} before_it flushes later s =
      let does = does_happen (λ l s. flushed l s) writes_place {d = d} before_it (run_from flushes) in
      let no_more : nat_lt k k ≡ false = le-ltb k k (omega arith) in
      goes_one no_answer nothing (writes 0) later s
      (record {
        goes_on = refl;
        f = λ l s. flushed l (at_happening writes_place s);
        does = does;
        asks = λ l before. rw no_more refl;
        fits = tt;
        is = λ l before. refl;
      }) refl (grows_none n0.0) refl

  -- a connection that can be read is read
  pub then_read : {t u : Timer} {d e : Served K} {stage : Stage} {i k c : ℕ} {n0 n1 n2 : NetSeen} (h : Happening) → i < k → d.loop.place.at ≡ i
      → read_at h d.loop ≡ Some c → IsIdle d.loop → Grows n0.0 (Readied i h ∷ []) n1.0 → n1.1 ≡ n0.1
      → On stores o line [] (moment (reads c i k) t (moved_to (i + 1) d)) (moment stage u e) n1 n2
      → Goes stores o line [] (moment (asks i k) t d) (moment stage u e) n0 n2
  then_read {t} {u} {d} {e} {stage} {i} {k} {c} {n0} {n1} {n2} h less at reads_c idle told same y =
      let x = was_readied h in
      let m : Served K = moved_to (i + 1) d in
      let idle_m : IsIdle m.loop = record { closes = idle.closes; none = idle.none; few = idle.few } in
      let is = open_read h c d.loop reads_c in
      let led : (l : Luck) (before : List Deed)
      → Leads o l line (x ∷ []) (pump_of before (moment (asks i k) t d)) (Readied i h ∷ [])
      (pump_at (reads c i k) t (at_happening (i + 1) (with_deeds before d))) = λ l before.
      let asked : ask o l line (pump_of before (moment (asks i k) t d)) ≡ ready i = ready_asks o line t d i k less l before in
      let to_read : answered o l line x (pump_of before (moment (asks i k) t d)) ≡ pump_of before (moment (reads c i k) t m) =
      ap (λ g. answered o l line (was_readied g) (pump_of before (moment (asks i k) t d))) is.0
      ∙ (let there : is_open c d.loop ≡ true = is.1 in rw there refl) in
      record {
        fit = (subst (λ q. IsAnswer q x) (sym asked) tt, tt);
        after = ap (pump.shut o l line) to_read
            ∙ ap (λ z. pump_at z t (with_deeds before (record m { loop = record m.loop { closes = [] } }))) (few_is m.loop (reads c i k) idle_m)
            ∙ ap (λ cs. pump_at (reads c i k) t (with_deeds before (record m { loop = record m.loop { closes = cs } }))) (sym idle.closes);
        calls = ap₂ (λ q v. (call_of q x ++ map Closed v) ++ []) asked (ap (λ (p : pump.Pump). p.driver.loop.closes) to_read ∙ idle.closes);
      } in
      record {
        answers = x ∷ y.answers;
        made = Readied i h ∷ y.made;
        run = run_then (λ l s z. Leads o l line (x ∷ y.answers) (pump_at (asks i k) t s) (Readied i h ∷ y.made) (pump_at stage u z))
            (moved_run (at_happening (i + 1)) {d = d} {s = m.loop} refl (inr (refl, omega (arith, at))) (omega arith) (λ before. refl)) y.run
            (λ l before xs zs kn mid end p q.
            leads_then (subst (λ z. Leads o l line (x ∷ []) (pump_of before (moment (asks i k) t d)) (Readied i h ∷ []) (pump_at (reads c i k) t z)) p (led l before))
            q);
        told = grows_both n0.0 (Readied i h ∷ []) y.made told y.told;
        counts = subst (λ n. RisesIf (is_broken stage) n n2.1) same y.counts;
        marks = y.marks;
        times = y.times;
      }

-- ---- what the driver does with what is told

module _ {K : Type 0} {stores : Stores K} where
  pub admit_open : (c : ℕ) (kind : Kind) {d : Served K} → is_open c d.loop ≡ true → Acts stores (λ l s. admitted l c kind s) d d
  admit_open c kind {d} e = run_still d (λ marks h. tt) (λ l before. rw e refl)

  pub admit_new : {c : ℕ} {kind : Kind} {d m : Served K} → is_open c d.loop ≡ false → Acts stores (λ l s. joined l c kind s) d m
      → Acts stores (λ l s. admitted l c kind s) d m
  admit_new {c} {kind} e a = run_as (λ l s t. admitted l c kind s ≡ t) a (λ l before zs k end x. rw e x)

  pub still_happened : (c : ℕ) (h : Happening) (d : Served K) → (h ≡ Readable c) ⊎ (h ≡ Writable c) → Acts stores (λ l s. happened l h s) d d
  still_happened c h d (inl e) = run_still d (λ marks g. tt) (λ l before. ap (λ x. happened l x (with_deeds before d)) e)
  still_happened c h d (inr e) = run_still d (λ marks g. tt) (λ l before. ap (λ x. happened l x (with_deeds before d)) e)

pub frames_moved : {K : Type 0} {x : Served K} (i : ℕ) (d : Served K) → x ≡ moved_to i d
    → (x.loop.place.at ≡ i) × (x.loop.place.frames ≡ 0) × (x.loop.place.turn ≡ d.loop.place.turn)
frames_moved i d e = (ap (λ (y : Served _). y.loop.place.at) e, ap (λ (y : Served _). y.loop.place.frames) e, ap (λ (y : Served _). y.loop.place.turn) e)
