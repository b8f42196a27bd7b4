-- Connections that begin, and bytes that were written.
use Rattle.std.proofs.Common.{◌≡◌, ◌<◌, ◌≤◌, ◌-◌, ◌+◌, ◌++◌, ◌∷◌, ◌⊎◌, [], ℕ, Bool, true, false, not, length, drop, take, Option, Some, None, is_some, option_map, arith, ◌||◌, ◌==◌, nat_lt, refl, sym, ◌∙◌, ap, subst, inl, inr, append_assoc}
use Rattle.std.proofs.lemmas.Bool.{cases_Bool, eq-eqb, le-ltb, ltb-false}
use Rattle.std.proofs.lemmas.List.{length-drop}
use Rattle.std.proofs.Math.Seq.{drop-nil}
use Rattle.std.specs.BTreeMap.{is_at, insert_entry}
use Rattle.std.specs.Ordering.{nat_cmp}
use Rattle.op_types.specs.declared.events.Input.TheVariants as input
use Rattle.op_serving.specs.declared.kind.Kind.{Kind}
use Rattle.op_serving.specs.declared.kind.Kind.TheVariants.{Peer}
use Rattle.op_serving.specs.declared.mark.Mark.{Mark}
use Rattle.op_serving.specs.declared.session.Session.{Session}
use Rattle.op_serving.specs.State.{Table, Loop, find, changed_at, is_open, is_overfull, most_waiting, kind_at, down_of, left_at, left_by}
use Rattle.op_serving.specs.Losses.{most_marks, mark_at, noted as noted_mark, stopped_if, is_here, lost_by, IsCalm, Foretells, Grew, KeepsKinds}
use Rattle.op_serving.specs.Inputs.{State, Deed, begins, takes, calm, noting, give}
use Rattle.op_serving.specs.Turns.{hello_less, first_bytes, made_session, joining, joined, queue_in, without_bytes, taken_of, taken_by, up_peer, up_at, wrote}
use Rattle.op_driver.specs.Driver.{Served, Any, Stores, Run, with_deeds, Acts, FromCalm, Does, Gives, IsShed, IsDrained, Rests, hello_of, hello_left}
use Rattle.op_queues.proofs.Tables.{same_or_not, find_set, find_set_apart, found_changed}
use Rattle.op_queues.proofs.Settling.{grew_still, grew_trans, lost_first, lost_grew, lost_lost, lost_place}
use Rattle.op_queues.proofs.Joining.{order_cases, find_put}
use Rattle.op_queues.proofs.Filling.{made_thin}
use Rattle.op_driver.proofs.Calm.{no_right, calm_less, calm_same, calm_next, calm_settled}
use Rattle.op_driver.proofs.Stepping.{run_then, run_as, run_any, noted}
use Rattle.op_driver.proofs.Draining.{calm_is, shed_one, rest_still}

-- ---- a table with a new entry

-- it is found there, and what was there is
put_is : (c n : ℕ) (x : Session) (t : Table Session) → (find n (insert_entry nat_cmp t c x) ≡ Some x) ⊎ (find n (insert_entry nat_cmp t c x) ≡ find n t)
put_is c n x [] = elim (cases_Bool (is_at (nat_cmp n) c)) [ inl g ↦ rw g (inl refl) | inr g ↦ rw g (inr refl) ]
put_is c n x (d ∷ t) = elim (order_cases (nat_cmp c d.0)) [
  | inl o ↦ rw o (elim (cases_Bool (is_at (nat_cmp n) c)) [ inl g ↦ rw g (inl refl) | inr g ↦ rw g (inr refl) ])
  | inr (inl o) ↦ rw o (elim (cases_Bool (is_at (nat_cmp n) d.0)) [ inl g ↦ rw g (inl refl) | inr g ↦ rw g (inr refl) ])
  | inr (inr o) ↦ rw o (elim (cases_Bool (is_at (nat_cmp n) d.0)) [ inl g ↦ rw g (inr refl) | inr g ↦ rw g (put_is c n x t) ])
]

-- no less is open
opens_joined : (c n : ℕ) (kind : Kind) (s : Loop) → is_open n s ≡ true → is_open n (joining c kind s) ≡ true
opens_joined c n kind s o = elim (put_is c n (made_session kind s.me) s.sessions) [ inl e ↦ ap is_some e | inr e ↦ ap is_some e ∙ o ]

shed_joined : (c : ℕ) (kind : Kind) (s : Loop) → IsShed s → IsShed (joining c kind s)
shed_joined c kind s h = λ n. elim (put_is c n (made_session kind s.me) s.sessions) [
  | inl e ↦ ap is_overfull e ∙ le-ltb most_waiting (length (made_session kind s.me).queue) (made_thin kind s.me)
  | inr e ↦ ap is_overfull e ∙ h n
]

-- ---- a new connection

-- a new one that is lost leaves no Down
down_new : (c : ℕ) (kind : Kind) (b : Bool) (s : Loop) → is_open c s ≡ false → down_of kind ≡ [] → s.downs ≡ [] → (left_by c (stopped_if b (joining c kind s))).downs ≡ []
down_new c kind true s new down none =
    ap (λ o. (left_at c (option_map (λ (z : Session). z.kind) o) (joining c kind s)).downs) (find_put c (made_session kind s.me) s.sessions new) ∙ ap (λ l. l ++ down_of kind) none ∙ down
down_new c kind false s new down none = refl

module _ {K : Type 0} (c : ℕ) (kind : Kind) (d : Served K) {e : Served K} where
  pub joins_rests : IsDrained d.loop → e ≡ record d { loop = joining c kind d.loop } → Rests d.loop e.loop
  joins_rests none is = subst (λ (x : Served K). Rests d.loop x.loop) (sym is) (record { turn = refl; at = refl; none = (none.0, shed_joined c kind d.loop none.1) })

  pub joins_lost_rests : is_open c d.loop ≡ false → e ≡ record d { loop = lost_by c (joining c kind d.loop) } → down_of kind ≡ [] → IsDrained d.loop → Rests d.loop e.loop
  joins_lost_rests new is down none =
      let j : Loop = joining c kind d.loop in
      let place : (lost_by c j).place ≡ d.loop.place = lost_place c j in
      subst (λ (x : Served K). Rests d.loop x.loop) (sym is) (record {
        turn = ap (λ p. p.turn) place;
        at = ap (λ p. p.at) place;
        none = (
          down_new c kind (nat_lt (length d.loop.lost + 1) most_marks) (noted_mark (mark_at d.loop.place (Some c)) d.loop) new down none.0,
          shed_one (Some c) j (shed_joined c kind d.loop none.1),
        );
      })

  -- among the dials its mark says nothing of the sessions before it
  pub joins_lost_calm : is_open c d.loop ≡ false → e ≡ record d { loop = lost_by c (joining c kind d.loop) } → d.loop.place.at ≡ 0 → FromCalm d e
  joins_lost_calm new is dials marks f calm_e =
      let j : Loop = joining c kind d.loop in
      let m : Mark = mark_at d.loop.place (Some c) in
      let f_j : Foretells marks (lost_by c j) = subst (λ (x : Served K). Foretells marks x.loop) is f in
      calm_next marks d.loop m f_j.rest (f_j.split ∙ ap (λ x. x ++ f_j.rest) (lost_lost c j) ∙ append_assoc d.loop.lost (m ∷ []) f_j.rest)
      (no_right (nat_lt (length d.loop.lost) most_marks) _ (no_right (is_here d.loop.place m) _ (ap (λ b. b || not (d.loop.place.at == 0)) new ∙ ap not (eq-eqb d.loop.place.at 0 dials))))

module _ {K : Type 0} {stores : Stores K} {c : ℕ} {kind : Kind} {d e : Served K} where
  pub joins : e ≡ record d { loop = joining c kind d.loop } → Does stores (λ l s. joined l c kind s) d e
  joins is =
      let j : Loop = joining c kind d.loop in
      let begun : State → State = λ s. noting (begins c (first_bytes kind s.loop.me)) (record s { loop = joining c kind s.loop }) in
      let opens : (n : ℕ) → is_open n d.loop ≡ true → (is_open n j || not (d.loop.place.at == 0)) ≡ true = λ n o. let there : is_open n j ≡ true = opens_joined c n kind d.loop o in rw there refl in
      run_as (λ l s t. joined l c kind s ≡ t) (noted IsCalm IsCalm begun (begins c (first_bytes kind d.loop.me)) refl is (grew_still refl refl) (λ marks f h. calm_less marks d.loop j refl refl opens h) (λ before. refl))
      (λ l before zs k end x. ap (calm l) x ∙ calm_is l (with_deeds zs e) end)

  pub joins_lost : is_open c d.loop ≡ false → e ≡ record d { loop = lost_by c (joining c kind d.loop) } → length d.loop.lost < most_marks → Acts stores (λ l s. joined l c kind s) d e
  joins_lost new is few =
      let j : Loop = joining c kind d.loop in
      let deed : Deed = begins c (first_bytes kind d.loop.me) in
      let lost_at : State → State = λ s. noting (begins c (first_bytes kind s.loop.me)) (record s { loop = lost_by c (joining c kind s.loop) }) in
      let grew : Grew d.loop (lost_by c j) = grew_trans (grew_still {s = d.loop} {t = j} refl refl) (lost_grew c j) in
      let there : is_open c j ≡ true = ap is_some (find_put c (made_session kind d.loop.me) d.loop.sessions new) in
      run_as (λ l s t. joined l c kind s ≡ t) (noted Any IsCalm lost_at deed refl is grew (λ marks f h. tt) (λ before. refl)) (λ l before zs k end x.
      let f : Foretells l.marks (lost_by c j) = subst (λ (y : Served K). Foretells l.marks y.loop) is k.marks in
      let calm_j : IsCalm l.marks (lost_by c j) = subst (λ (y : Served K). IsCalm l.marks y.loop) is end in
      ap (λ (r : Loop). record { loop = r; node = d.node; deeds = before ++ deed ∷ [] }) (lost_first c j l.marks there few f ∙ calm_settled l.marks (lost_by c j) calm_j) ∙ x)

-- ---- bytes that were written

module _ {K : Type 0} {stores : Stores K} (c n : ℕ) {d m : Served K} (is : m ≡ record d { loop = taken_of c n d.loop }) where
  took_run : Run stores IsCalm IsCalm (λ l s t. taken_by c n s ≡ t) d m
  took_run =
      let s : Loop = taken_of c n d.loop in
      noted IsCalm IsCalm (taken_by c n) (takes c (take n (queue_in (find c d.loop.sessions)))) refl is (grew_still refl refl)
      (λ marks f h. calm_same marks d.loop s refl refl (λ k. found_changed (without_bytes n) c k d.loop.sessions) h) (λ before. refl)

  -- no peer goes up by it
  pub wrote_some : up_peer (kind_at c d.loop) (kind_at c m.loop) ≡ None → Does stores (λ l s. wrote l c n s) d m
  wrote_some none = run_as (λ l s t. wrote l c n s ≡ t) took_run (λ l before zs k end x. ap (λ t. up_at l (up_peer (kind_at c d.loop) (kind_at c t.loop)) t) x ∙ ap (λ o. up_at l o (with_deeds zs m)) none)

  -- or its hello went out whole
  pub wrote_hello : {q : ℕ} {e : Served K} → up_peer (kind_at c d.loop) (kind_at c m.loop) ≡ Some q → Gives stores (λ l s. give l [] (input.Up q) s) m e → Does stores (λ l s. wrote l c n s) d e
  wrote_hello {q} {e} up g = run_then (λ l s t. wrote l c n s ≡ t) took_run (run_any g.run) (λ l before xs zs k mid end x y.
      ap (λ t. up_at l (up_peer (kind_at c d.loop) (kind_at c t.loop)) t) x ∙ ap (λ o. up_at l o (with_deeds xs m)) up ∙ y ∙ rest_still l (with_deeds zs e) end g.none)

-- ---- what is left of a hello, and of what waits

found_took : (c n : ℕ) (t : Table Session) (o : Option Session) → find c t ≡ o → find c (changed_at (without_bytes n) c o t) ≡ option_map (without_bytes n) o
found_took c n t None e = e
found_took c n t (Some x) e = find_set c (without_bytes n x) x t e

found_taken : (c n : ℕ) (s : Loop) → find c (taken_of c n s).sessions ≡ option_map (without_bytes n) (find c s.sessions)
found_taken c n s = found_took c n s.sessions (find c s.sessions) refl

-- less waits than before
over_less : (n : ℕ) (o : Option Session) → is_overfull o ≡ false → is_overfull (option_map (without_bytes n) o) ≡ false
over_less n None e = refl
over_less n (Some x) e = le-ltb most_waiting (length (drop n x.queue)) (omega (arith, length-drop n x.queue, ltb-false most_waiting (length x.queue) e))

over_taken : (c k n : ℕ) (s : Loop) → is_overfull (find k s.sessions) ≡ false → is_overfull (find k (taken_of c n s).sessions) ≡ false
over_taken c k n s e = elim (same_or_not c k) [
  | inl is ↦ ap (λ i. is_overfull (find i (taken_of c n s).sessions)) (sym is) ∙ ap is_overfull (found_taken c n s) ∙ over_less n (find c s.sessions) (ap (λ i. is_overfull (find i s.sessions)) is ∙ e)
  | inr apart ↦ ap is_overfull (found_other apart (find c s.sessions)) ∙ e
]
  where
    found_other : (c ≡ k → ⊥) → (o : Option Session) → find k (changed_at (without_bytes n) c o s.sessions) ≡ find k s.sessions
    found_other apart None = refl
    found_other apart (Some x) = find_set_apart c k (without_bytes n x) s.sessions apart

abbrev kind_in : Option Session → Option Kind
kind_in o = option_map (λ x. x.kind) o

took_hello : (n : ℕ) (o : Option Session) → hello_of (kind_in (option_map (without_bytes n) o)) ≤ hello_of (kind_in o) - n
took_hello n None = omega arith
took_hello n (Some x) = less_hello x.kind
  where
    less_hello : (k : Kind) → hello_of (Some (hello_less n k)) ≤ hello_of (Some k) - n
    less_hello (Peer q h) = omega arith
    less_hello k = omega arith

poured : (n : ℕ) (x : Session) (k : Kind) → x.kind ≡ k → hello_of (Some k) ≡ 0 → queue_in (Some (without_bytes n x)) ≡ drop n (queue_in (Some x))
poured n x (Peer q h) e z = rw (e, eq-eqb h 0 z, eq-eqb (h - n) 0 (omega (arith, z))) refl
poured n x k e z = rw e refl

took_pours : (n : ℕ) (o : Option Session) → hello_of (kind_in o) ≡ 0 → queue_in (option_map (without_bytes n) o) ≡ drop n (queue_in o)
took_pours n None z = sym (drop-nil n)
took_pours n (Some x) z = poured n x x.kind refl z

no_up : (a b : Option Kind) (q : ℕ) → hello_of a ≡ 0 → up_peer a b ≡ Some q → ⊥
no_up (Some (Peer p h)) (Some (Peer r left)) q z e = let k = rw (eq-eqb h 0 z) at e in cc
no_up a b q z e = cc

module _ {K : Type 0} (c n : ℕ) (d : Served K) {m : Served K} (is : m ≡ record d { loop = taken_of c n d.loop }) where
  pub wrote_rests : IsDrained d.loop → Rests d.loop m.loop
  wrote_rests none = subst (λ (x : Served K). Rests d.loop x.loop) (sym is) (record { turn = refl; at = refl; none = (none.0, λ k. over_taken c k n d.loop (none.1 k)) })

  pub wrote_less : hello_left c m.loop ≤ hello_left c d.loop - n
  wrote_less = subst (λ (x : Served K). hello_left c x.loop ≤ hello_left c d.loop - n) (sym is) (omega (arith, took_hello n (find c d.loop.sessions), ap (λ o. hello_of (kind_in o)) (found_taken c n d.loop)))

  -- also where the peer went up
  pub wrote_less_then : (e : Served K) → KeepsKinds m.loop e.loop → hello_left c e.loop ≤ hello_left c d.loop - n
  wrote_less_then e kinds = elim (kinds c) [ inl k ↦ omega (arith, wrote_less, ap hello_of k) | inr k ↦ omega (arith, wrote_less, ap hello_of k) ]

  pub wrote_pours : hello_left c d.loop ≡ 0 → queue_in (find c m.loop.sessions) ≡ drop n (queue_in (find c d.loop.sessions))
  wrote_pours z = ap (λ (x : Served K). queue_in (find c x.loop.sessions)) is ∙ ap queue_in (found_taken c n d.loop) ∙ took_pours n (find c d.loop.sessions) z

  -- where nothing was left of a hello, no peer goes up
  pub wrote_no_up : {q : ℕ} → hello_left c d.loop ≡ 0 → up_peer (kind_at c d.loop) (kind_at c m.loop) ≡ Some q → ⊥
  wrote_no_up {q} z up = no_up (kind_at c d.loop) (kind_at c m.loop) q z up
