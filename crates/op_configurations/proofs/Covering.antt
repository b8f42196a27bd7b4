-- The run's machine has all that servers show: so one that shows its state again changes nothing.
use Rattle.std.proofs.Common.{◌≡◌, ℕ, ◌≤◌, ⊎_elim, max, List, [], ◌∷◌, ◌++◌, Bool, true, false, cond, ◌&&◌, ◌||◌, ◌==◌, refl, sym, ap, ◌∙◌, subst, arith, Option, Some, None, append-nil, drop_of_length-le}
use Rattle.std.specs.Prelude.{fold, slice_get, nat_eq}
use Rattle.op_spec.specs.Ledger.{machine_proposing}
use Rattle.std.specs.Set.{is_member}
use Rattle.std.proofs.lemmas.Bool.{cond_both, cases_eq, eq-eqb, or_left, or_right, both_ways}
use Rattle.op_types.specs.declared.log.Entry.{Entry}
use Rattle.op_spec.specs.Machine.{Machine, IsSame, first_machine, with_at}
use Rattle.op_paxos.proofs.Updates.{upd_other}
use Rattle.op_configurations.specs.Servers.{Part, State, Letter, Fate, Done, Stopped, Event, Reads, new_part, may_propose, Proposes, Ticks, TicksAlone, Trims, Links, Unlinks, ReadsLong, Notes}
use Rattle.op_configurations.specs.Worlds.{Life, Running, Down, Server, World, Happening, At, Delivers, Stops, Opens, is_letter, stepped, at_server, delivered, stops, opened, opens, happens, run, start, decided_in, entries_in, has_part, machine_showing, reader, actor, proposed_in, proposed_at, proposed_by, shown_by, machine_with, machine_after, machine_of, DeliversLong}
use Rattle.op_configurations.proofs.Fronts.{none_some, some_same, front_length}
use Rattle.op_configurations.proofs.Rising.{entries_told}
use Rattle.op_configurations.proofs.Book.{told_front, all_ok}

-- a machine has what a server shows
pub record HasShown (m : Machine) (q : ℕ) (st : State) : Type 0 where
  pub known : (c : ℕ) → decided_in st c ≤ m.known q c
  pub opened : (c : ℕ) → has_part st.part c ≡ true → m.opened q c ≡ true

-- ---- who acts

none_is : {A : Type 0} (a : A) → None ≡ Some a → ⊥
none_is a e = none_some a e

-- the others stay as they are
module _ (w : World) (q : ℕ) where
  with_other : (p : ℕ) (sv : Server) → (Some p ≡ Some q → ⊥) → with_at p sv w.servers q ≡ w.servers q
  with_other p sv n = upd_other w.servers p q sv (λ e. n (ap Some (sym e)))

  stepped_other : (f : Fate) (p : ℕ) (e : Event) → (Some p ≡ Some q → ⊥) → (stepped w f p (w.servers p).state e).servers q ≡ w.servers q
  unfolding stepped
  stepped_other Done p e n = with_other p _ n
  stepped_other Stopped p e n = with_other p _ n

  at_other : (f : Fate) (p : ℕ) (l : Life) (e : Event) → (Some p ≡ Some q → ⊥) → (at_server w f p l e).servers q ≡ w.servers q
  unfolding at_server
  at_other f p Running e n = stepped_other f p e n
  at_other f p (Down o) e n = refl

  delivered_other : (f : Fate) (read : Letter → Event) (o : Option Letter) → (reader o ≡ Some q → ⊥) → (delivered w f read o).servers q ≡ w.servers q
  unfolding delivered
  delivered_other f read None n = refl
  delivered_other f read (Some m) n = at_other f m.to (w.servers m.to).life (read m) n

  stops_other : (p : ℕ) (l : Life) → (Some p ≡ Some q → ⊥) → (stops w p l).servers q ≡ w.servers q
  unfolding stops
  stops_other p Running n = with_other p _ n
  stops_other p (Down o) n = refl

  opens_other : (p : ℕ) (after : Bool) (l : Life) → (Some p ≡ Some q → ⊥) → (opens w p after l).servers q ≡ w.servers q
  unfolding opens opened
  opens_other p after Running n = refl
  opens_other p after (Down o) n = with_other p _ n

  pub happens_other : (h : Happening) → (actor w h ≡ Some q → ⊥) → (happens w h).servers q ≡ w.servers q
  unfolding happens
  happens_other (At f p e) n = cond_both (is_letter e) w (at_server w f p (w.servers p).life e) (λ (x : World). x.servers q ≡ w.servers q) (λ _. refl) (λ _. at_other f p (w.servers p).life e n)
  happens_other (Delivers f i) n = delivered_other f (Reads i) (slice_get w.soup i) n
  happens_other (DeliversLong f i total) n = delivered_other f (ReadsLong i total) (slice_get w.soup i) n
  happens_other (Stops p) n = stops_other p (w.servers p).life n
  happens_other (Opens p after) n = opens_other p after (w.servers p).life n

-- ---- what a machine has it keeps

-- what is proposed changes neither what is known nor what is open
pub proposed_known : (m : Machine) (w : World) (h : Happening) (P : Machine → Type 0) → P m → ((f : ℕ → List Entry) → P (record m { proposed = f })) → P (proposed_by m w h)
proposed_known m w (Delivers f i) P a b = a
proposed_known m w (DeliversLong f i total) P a b = a
proposed_known m w (Stops p) P a b = a
proposed_known m w (Opens p after) P a b = a
proposed_known m w (At f p e) P a b = at_event e (w.servers p).life
  where
    in_all : (c : ℕ) (es : List Entry) (f : ℕ → List Entry) → P (fold (λ (x : Machine) (e : Entry). machine_proposing x c e) (record m { proposed = f }) es)
    in_all c [] f = b f
    in_all c (e ∷ es) f = in_all c es _

    in_part : (es : List Entry) (o : Option Part) → P (proposed_in m o es)
    in_part es None = a
    in_part es (Some pt) = in_all pt.conf es m.proposed

    at_event : (e : Event) (l : Life) → P (proposed_at m (w.servers p) p e l)
    at_event (Proposes e) Running = cond_both (may_propose p (w.servers p).state (w.servers p).state.part e) (proposed_in m (w.servers p).state.part e) m P (λ _. in_part e (w.servers p).state.part) (λ _. a)
    at_event (Proposes e) (Down o) = a
    at_event (Ticks n) l = a
    at_event (TicksAlone heard) l = a
    at_event Trims l = a
    at_event (Links r) l = a
    at_event (Unlinks r) l = a
    at_event (Notes xs) l = a
    at_event (Reads i m) l = a
    at_event (ReadsLong i total m) l = a

-- who shows its state has shown it
shows_own : (m : Machine) (q : ℕ) (st : State) → HasShown (machine_showing m q st) q st
shows_own m q st = record {
  known = λ c. omega (arith, ap (λ (b : Bool). cond b (max (m.known q c) (decided_in st c)) (m.known q c)) (eq-eqb q q refl));
  opened = λ c h. or_right (m.opened q c) (q == q && has_part st.part c) (ap (λ (b : Bool). b && has_part st.part c) (eq-eqb q q refl) ∙ h);
}

-- and what others have shown stays so
shows_other : (m : Machine) (p q : ℕ) (st other : State) → HasShown m q other → HasShown (machine_showing m p st) q other
shows_other m p q st other h = record {
  known = λ c. cond_both (q == p) (max (m.known q c) (decided_in st c)) (m.known q c) (λ (k : ℕ). decided_in other c ≤ k) (λ _. omega (arith, h.known c)) (λ _. h.known c);
  opened = λ c e. or_left (m.opened q c) (q == p && has_part st.part c) (h.opened c e);
}

-- all servers' states are shown
abbrev AllShown : Machine → World → Type 0
AllShown m w = (q : ℕ) → HasShown m q (w.servers q).state

shown_after : (m : Machine) (w : World) (o : Option ℕ) (before : World) → ((q : ℕ) → (o ≡ Some q → ⊥) → w.servers q ≡ before.servers q) → AllShown m before → AllShown (shown_by m w o) w
shown_after m w None before same h q = subst (λ (sv : Server). HasShown m q sv.state) (sym (same q (λ e. none_is q e))) (h q)
shown_after m w (Some p) before same h q =
    ⊎_elim
    (λ (e : q ≡ p). subst (λ (r : ℕ). HasShown (machine_showing m p (w.servers p).state) r (w.servers r).state) (sym e) (shows_own m p (w.servers p).state))
    (λ (n : q ≡ p → ⊥).
    let at : w.servers q ≡ before.servers q = same q (λ e. n (sym (some_same p q e))) in
    subst (λ (sv : Server). HasShown (machine_showing m p (w.servers p).state) q sv.state) (sym at) (shows_other m p q (w.servers p).state (before.servers q).state (h q)))
    (cases_eq q p)

proposed_shown : (m : Machine) (w : World) (h : Happening) → AllShown m w → AllShown (proposed_by m w h) w
proposed_shown m w h a q = proposed_known m w h (λ (n : Machine). HasShown n q (w.servers q).state) (a q) (λ f. record { known = (a q).known; opened = (a q).opened })

run_shown : (hs : List Happening) (w : World) (m : Machine) → AllShown m w → AllShown (machine_after hs w m) (run hs w)
unfolding run machine_after machine_with
run_shown [] w m a = a
run_shown (h ∷ hs) w m a =
    run_shown hs (happens w h) (shown_by (proposed_by m w h) (happens w h) (actor w h))
    (shown_after (proposed_by m w h) (happens w h) (actor w h) w (λ q n. happens_other w q h n) (proposed_shown m w h a))

-- in every run
pub all_shown : (first : List ℕ) (hs : List Happening) (q : ℕ) → HasShown (machine_of first hs) q ((run hs (start first)).servers q).state
unfolding machine_of start
all_shown first hs q = run_shown hs (start first) (first_machine first) at_start q
  where
    at_start : AllShown (first_machine first) (start first)
    at_start r = record {
      known = λ c. cond_both (is_member nat_eq first r) (Some (new_part 1 first)) None (λ (o : Option Part). decided_in (record { part = o; closed = None; joining = None }) c ≤ 0)
          (λ _. cond_both (c == 1) 0 0 (λ (k : ℕ). max k 0 ≤ 0) (λ _. omega arith) (λ _. omega arith)) (λ _. omega arith);
      opened = λ c. cond_both (is_member nat_eq first r) (Some (new_part 1 first)) None (λ (o : Option Part). has_part o c ≡ true → (c == 1 && is_member nat_eq first r) ≡ true)
          (λ x e. ap (λ (b : Bool). (c == 1) && b) x ∙ and_true (c == 1) e) (λ _ e. absurd (both_ways false refl e));
    }
      where
        and_true : (b : Bool) → b ≡ true → (b && true) ≡ true
        and_true true e = refl
        and_true false e = e

-- so a server that shows its state again changes nothing
pub shows_again : (first : List ℕ) (hs : List Happening) (q : ℕ) → IsSame (machine_showing (machine_of first hs) q ((run hs (start first)).servers q).state) (machine_of first hs)
shows_again first hs q =
    let m = machine_of first hs in
    let st : State = ((run hs (start first)).servers q).state in
    let k = all_ok first hs in
    let s = all_shown first hs q in
    record {
      lists = λ c.
          let told = entries_told k.tale q st ((k.good).servers q).state c in
          let low = front_length (entries_in st c) (m.lists c) (told_front first k.tale m k.book c (entries_in st c) told) in
          ap (λ (l : List Entry). m.lists c ++ l) (drop_of_length-le (entries_in st c) low) ∙ append-nil (m.lists c);
      known = λ p c. cond_both (p == q) (max (m.known p c) (decided_in st c)) (m.known p c) (λ (x : ℕ). x ≡ m.known p c)
          (λ e. let at : p ≡ q = Rattle.std.proofs.lemmas.Bool.eqb-true p q e in omega (arith, s.known c, ap (λ (r : ℕ). m.known r c) at)) (λ _. refl);
      proposed = λ c. refl;
      opened = λ p c. same p c (p == q) (has_part st.part c) refl refl;
    }
  where
    same : (p c : ℕ) (a b : Bool) → (p == q) ≡ a → has_part ((run hs (start first)).servers q).state.part c ≡ b → ((machine_of first hs).opened p c || (a && b)) ≡ (machine_of first hs).opened p c
    same p c true true e h =
        let at : p ≡ q = Rattle.std.proofs.lemmas.Bool.eqb-true p q e in
        let is : (machine_of first hs).opened p c ≡ true = ap (λ (r : ℕ). (machine_of first hs).opened r c) at ∙ (all_shown first hs q).opened c h in
        or_right ((machine_of first hs).opened p c) true refl ∙ sym is
    same p c true false e h = or_none ((machine_of first hs).opened p c)
      where
        or_none : (x : Bool) → (x || false) ≡ x
        or_none true = refl
        or_none false = refl
    same p c false b e h = or_none ((machine_of first hs).opened p c)
      where
        or_none : (x : Bool) → (x || false) ≡ x
        or_none true = refl
        or_none false = refl
