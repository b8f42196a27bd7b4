-- The run's machine: whatever happens is finitely many of its steps, and its lists cover what was decided.
use Rattle.std.proofs.Common.{◌≡◌, ℕ, max, ◌≤◌, inl, inr, ⊎_elim, List, [], ◌∷◌, ◌++◌, length, true, false, cond, ◌==◌, refl, sym, ap, ◌∙◌, subst, arith, Option, Some, None}
use Rattle.std.specs.Prelude.{fold, nat_eq}
use Rattle.std.specs.Set.{is_member}
use Rattle.std.proofs.lemmas.Bool.{cond_both, cases_Bool, both_ways, eq-eqb}
use Rattle.op_types.specs.declared.log.Entry.{Entry}
use Rattle.op_spec.specs.Machine.{Machine, Propose, IsAmong, first_machine, Leads}
use Rattle.op_spec.specs.Ledger.{machine_proposing}
use Rattle.op_spec.proofs.Safety.{IsAmong-append, IsAmong-push}
use Rattle.op_paxos.specs.Worlds as paxos
use Rattle.op_configurations.proofs.Among.{In}
use Rattle.op_paxos.specs.Agreement.{IsPrefix, decided_log}
use Rattle.op_paxos.proofs.Updates.{upd_at, upd_both}
use Rattle.op_configurations.specs.Servers.{Part, State, Fate, Ticks, TicksAlone, Proposes, Trims, Links, Unlinks, Reads, may_propose, ReadsLong, Notes}
use Rattle.op_configurations.specs.Worlds.{Life, Running, Down, World, Happening, At, Delivers, Stops, Opens, happens, run, start, entries_in, decided_in, actor, proposed_in, proposed_at, proposed_by, shown_by, machine_showing, machine_with, machine_after, machine_of, DeliversLong}
use Rattle.op_configurations.proofs.Fronts.{none_some, some_same, front_refl, front_trans, front_nil, front_same, either_shorter}
use Rattle.op_configurations.proofs.Runs.{told_here, told_fronts, decided_length}
use Rattle.op_configurations.proofs.Tale.{Tale, inst, ToldIn, TaleOk, Onward, told_on}
use Rattle.op_configurations.proofs.Rising.{Rises, rises_same, rises_on, decided_entries}
use Rattle.op_configurations.proofs.Acting.{LowState, LowAt}
use Rattle.op_configurations.specs.Laws.{Keeps}
use Rattle.op_configurations.proofs.Goes.{Good, Goes, FairAt, running_down, happens_goes, widened, first_tale, start_good}
use Rattle.op_configurations.proofs.Showing.{Fits, shows_state, showing_fits, showing_grows}

-- the machine fits the tale, its lists cover what members have decided, and it has the first configuration open at its members
pub record BookOk (first : List ℕ) (t : Tale) (m : Machine) : Type 0 where
  pub fits : Fits t m
  -- what a member has decided, it has shown
  pub knows : (q c : ℕ) → length (decided_log (inst t c) q) ≤ m.known q c
  pub first_open : (q : ℕ) → In q first → m.opened q 1 ≡ true

-- what is told stands in the list
pub told_front : (first : List ℕ) (t : Tale) (m : Machine) → BookOk first t m → (c : ℕ) (l : List Entry) → ToldIn t c l → IsPrefix l (m.lists c)
told_front first t m b c l d =
    let who = decided_log (inst t c) d.who in
    front_trans l who (m.lists c) d.front (either_shorter who (m.lists c) (told_fronts (t.members c) (t.events c) who (m.lists c) (told_here (t.members c) (t.events c) d.who) ((b.fits).told c)) (omega (arith, b.knows d.who c, (b.fits).known d.who c)))

-- ---- proposals

-- the machine with what is proposed
record Proposing (m n : Machine) : Type 0 where
  lists : (c : ℕ) → n.lists c ≡ m.lists c
  known : (p c : ℕ) → n.known p c ≡ m.known p c
  opened : (p c : ℕ) → n.opened p c ≡ m.opened p c
  up : (c : ℕ) (e : Entry) → IsAmong (m.proposed c) e → IsAmong (n.proposed c) e
  leads : (x : Machine) → Leads n x → Leads m x

abbrev Proposed : Machine → Machine → Tale → World → Happening → Type 0
Proposed m n t w h = Proposing m n × FairAt n.proposed t w h

same_machine : (m : Machine) → Proposing m m
same_machine m = record { lists = λ c. refl; known = λ p c. refl; opened = λ p c. refl; up = λ c e i. i; leads = λ x l. l }

one_more : (m : Machine) (c : ℕ) (e : Entry) → Proposing m (machine_proposing m c e)
one_more m c e = record {
  lists = λ k. refl;
  known = λ p k. refl;
  opened = λ p k. refl;
  up = λ k x i. upd_both (λ (l : List Entry). IsAmong l x) m.proposed c k (m.proposed c ++ e ∷ []) (λ s. IsAmong-append (m.proposed c) (e ∷ []) x (subst (λ r. IsAmong (m.proposed r) x) s i)) (λ n. i);
  leads = λ x l. (Propose c e ∷ l.0, (tt, l.1), l.2);
}

abbrev each_more : Machine → ℕ → List Entry → Machine
each_more m c es = fold (λ x e. machine_proposing x c e) m es

proposing_on : (m n k : Machine) → Proposing m n → Proposing n k → Proposing m k
proposing_on m n k a b = record {
  lists = λ c. b.lists c ∙ a.lists c;
  known = λ p c. b.known p c ∙ a.known p c;
  opened = λ p c. b.opened p c ∙ a.opened p c;
  up = λ c e i. b.up c e (a.up c e i);
  leads = λ x l. a.leads x (b.leads x l);
}

all_more : (m : Machine) (c : ℕ) (es : List Entry) → Proposing m (each_more m c es)
all_more m c [] = same_machine m
all_more m c (e ∷ es) = proposing_on m (machine_proposing m c e) _ (one_more m c e) (all_more (machine_proposing m c e) c es)

-- each of them is then proposed
all_among : (m : Machine) (c : ℕ) (es : List Entry) (e : Entry) → IsAmong es e → IsAmong ((each_more m c es).proposed c) e
all_among m c [] e i = absurd i
all_among m c (d ∷ es) e (inl is) =
    (all_more (machine_proposing m c d) c es).up c e
    (subst (λ (l : List Entry). IsAmong l e) (sym (upd_at m.proposed c (m.proposed c ++ d ∷ []))) (subst (IsAmong (m.proposed c ++ d ∷ [])) is (IsAmong-push (m.proposed c) d)))
all_among m c (d ∷ es) e (inr i) = all_among (machine_proposing m c d) c es e i

module _ (m : Machine) (t : Tale) (w : World) where
  proposes : (f : Fate) (p : ℕ) (e : List Entry) (l : Life) (o : Option Part) → (w.servers p).life ≡ l → ((w.servers p).state).part ≡ o → Proposed m (proposed_at m (w.servers p) p (Proposes e) l) t w (At f p (Proposes e))
  proposes f p e (Down d) o has at = (same_machine m, λ r. absurd (running_down d (sym r ∙ has)))
  proposes f p e Running o has at =
      subst (λ (x : Option Part). Proposed m (cond (may_propose p (w.servers p).state x e) (proposed_in m x e) m) t w (At f p (Proposes e))) (sym at) (of_part o at)
    where
      of_part : (o : Option Part) → ((w.servers p).state).part ≡ o → Proposed m (cond (may_propose p (w.servers p).state o e) (proposed_in m o e) m) t w (At f p (Proposes e))
      of_part None at = (same_machine m, λ r pt d b u i. absurd (none_some pt (sym at ∙ d)))
      of_part (Some pt) at =
          cond_both (may_propose p (w.servers p).state (Some pt) e) (each_more m pt.conf e) m (λ (n : Machine). Proposed m n t w (At f p (Proposes e)))
          (λ b. (
            all_more m pt.conf e,
            λ r x d y u i. subst (λ (k : Part). IsAmong ((each_more m pt.conf e).proposed k.conf) u) (some_same pt x (sym at ∙ d)) (all_among m pt.conf e u i),
          ))
          (λ b. (same_machine m, λ r x d y u i. absurd (both_ways (may_propose p (w.servers p).state (Some x) e) (ap (λ (k : Option Part). may_propose p (w.servers p).state k e) (sym (sym at ∙ d)) ∙ b) y)))

  proposing : (h : Happening) → Proposed m (proposed_by m w h) t w h
  proposing (At f p (Ticks n)) = (same_machine m, tt)
  proposing (At f p (TicksAlone heard)) = (same_machine m, tt)
  proposing (At f p (Proposes e)) = proposes f p e (w.servers p).life ((w.servers p).state).part refl refl
  proposing (At f p Trims) = (same_machine m, tt)
  proposing (At f p (Links q)) = (same_machine m, tt)
  proposing (At f p (Unlinks q)) = (same_machine m, tt)
  proposing (At f p (Notes xs)) = (same_machine m, tt)
  proposing (At f p (Reads n x)) = (same_machine m, tt)
  proposing (At f p (ReadsLong n total x)) = (same_machine m, tt)
  proposing (Delivers f n) = (same_machine m, tt)
  proposing (DeliversLong f n total) = (same_machine m, tt)
  proposing (Stops p) = (same_machine m, tt)
  proposing (Opens p after) = (same_machine m, tt)

-- ---- whatever happens

-- the list of a configuration that isn't open is empty
list_empty : (first : List ℕ) (pr : ℕ → List Entry) (t : Tale) → TaleOk first pr t → (c : ℕ) (l : List Entry) → t.opened c ≡ false → ToldIn t c l → l ≡ []
unfolding paxos.run paxos.start
list_empty first pr t ok c l new d =
    front_same l [] (omega arith) (subst (IsPrefix l) (none (t.members c) (t.events c) d.who (ok.empty c new)) d.front)
  where
    none : (ms : List ℕ) (es : List paxos.Event) (p : ℕ) → es ≡ [] → decided_log (paxos.run ms es paxos.start) p ≡ []
    none ms es p e = ap (λ (k : List paxos.Event). decided_log (paxos.run ms k paxos.start) p) e

any_told : (t : Tale) (c : ℕ) (l : List Entry) → l ≡ [] → ToldIn t c l
any_told t c l e = subst (ToldIn t c) (sym e) (record { who = 0; front = front_nil _ })

-- the machine after proposals fits the tale as it goes on
fits_onward : (first : List ℕ) (pr : ℕ → List Entry) (t t' : Tale) (m n : Machine) → TaleOk first pr t → TaleOk first n.proposed t' → Onward t t' → Proposing m n → Fits t m → Fits t' n
fits_onward first pr t t' m n ok ok' o x f = record {
  told = λ c. subst (ToldIn t' c) (sym (x.lists c))
      (⊎_elim (λ (h : t.opened c ≡ true). told_on t t' o c (m.lists c) h (f.told c)) (λ (h : t.opened c ≡ false). any_told t' c (m.lists c) (list_empty first pr t ok c (m.lists c) h (f.told c))) (cases_Bool (t.opened c)));
  known = λ p c. omega (arith, f.known p c, x.known p c, ap (λ (l : List Entry). length l) (x.lists c));
  proposed = ok'.proposed;
}

pub record Next (first : List ℕ) (t : Tale) (w : World) (m : Machine) (h : Happening) : Type 0 where
  pub tale : Tale
  pub good : Good first (machine_with m w h).proposed tale (happens w h)
  pub onward : Onward t tale
  pub book : BookOk first tale (machine_with m w h)
  pub leads : Leads m (machine_with m w h)
  pub grows : (c : ℕ) → IsPrefix (m.lists c) ((machine_with m w h).lists c)
  pub rises : (q : ℕ) → Rises (w.servers q).state ((happens w h).servers q).state
  pub low : (q : ℕ) → actor w h ≡ Some q → LowState t ((happens w h).servers q).state
  pub kept : (q : ℕ) → Keeps (w.servers q).state ((happens w h).servers q).state

-- what was known stays known, and the server knows what it shows
showing_knows : (n : Machine) (p : ℕ) (st : State) (q c : ℕ) → n.known q c ≤ (machine_showing n p st).known q c
showing_knows n p st q c = cond_both (q == p) (max (n.known q c) (decided_in st c)) (n.known q c) (λ (k : ℕ). n.known q c ≤ k) (λ e. omega arith) (λ e. omega arith)

showing_here : (n : Machine) (p : ℕ) (st : State) (q c : ℕ) → q ≡ p → decided_in st c ≤ (machine_showing n p st).known q c
showing_here n p st q c same = cond_both (q == p) (max (n.known q c) (decided_in st c)) (n.known q c) (λ (k : ℕ). decided_in st c ≤ k) (λ e. omega arith) (λ e. absurd (both_ways (q == p) e (eq-eqb q p same)))

module _ (first : List ℕ) (t : Tale) (w : World) (m : Machine) (good : Good first m.proposed t w) (b : BookOk first t m) (h : Happening) where
  abbrev n : Machine
  n = proposed_by m w h

  abbrev x : Proposed m n t w h
  x = proposing m t w h

  grown : (c : ℕ) → IsPrefix (m.lists c) (n.lists c)
  grown c = subst (IsPrefix (m.lists c)) (sym ((x.0).lists c)) (front_refl (m.lists c))

  first_open : (q : ℕ) → In q first → n.opened q 1 ≡ true
  first_open q i = (x.0).opened q 1 ∙ b.first_open q i

  shown : (a : Option ℕ) → (g : Goes first n.proposed t w (happens w h) a) → (tale : Tale) × Good first (shown_by n (happens w h) a).proposed tale (happens w h) × Onward t tale × BookOk first tale (shown_by n (happens w h) a) × Leads m (shown_by n (happens w h) a) × ((c : ℕ) → IsPrefix (m.lists c) ((shown_by n (happens w h) a).lists c))
  shown None g =
      let f : Fits g.tale n = fits_onward first m.proposed t g.tale m n good.tale (g.good).tale g.onward x.0 b.fits in (
        g.tale,
        g.good,
        g.onward,
        record {
          fits = f;
          knows = λ q c. ⊎_elim (λ (e : decided_log (inst g.tale c) q ≡ decided_log (inst t c) q). omega (arith, ap (λ (l : List Entry). length l) e, b.knows q c, (x.0).known q c))
              (λ (e : (None ≡ Some q) × (entries_in ((happens w h).servers q).state c ≡ decided_log (inst g.tale c) q)). absurd (none_some q e.0)) (g.decided q c);
          first_open = first_open;
        },
        (x.0).leads n ([], tt, record { lists = λ c. refl; known = λ p c. refl; proposed = λ c. refl; opened = λ p c. refl }),
        grown,
      )
  shown (Some p) g =
      let f : Fits g.tale n = fits_onward first m.proposed t g.tale m n good.tale (g.good).tale g.onward x.0 b.fits in
      let st : State = ((happens w h).servers p).state in
      let sk = ((g.good).servers p).state in
      let up : (c : ℕ) → IsPrefix (n.lists c) ((machine_showing n p st).lists c) = λ c. showing_grows first g.tale n p st sk f ((g.good).tale).low ((g.good).tale).first_members first_open c in (
        g.tale,
        g.good,
        g.onward,
        record {
          fits = showing_fits first g.tale n p st sk f ((g.good).tale).low ((g.good).tale).first_members first_open;
          knows = λ q c. ⊎_elim (λ (e : decided_log (inst g.tale c) q ≡ decided_log (inst t c) q). omega (arith, ap (λ (l : List Entry). length l) e, b.knows q c, (x.0).known q c, showing_knows n p st q c))
              (λ (e : (Some p ≡ Some q) × (entries_in ((happens w h).servers q).state c ≡ decided_log (inst g.tale c) q)).
              let same : p ≡ q = some_same p q e.0 in
              omega (arith, ap (λ (l : List Entry). length l) (ap (λ r. entries_in ((happens w h).servers r).state c) same ∙ e.1), decided_entries g.tale p st sk c, showing_here n p st q c (sym same))) (g.decided q c);
          first_open = λ q i. Rattle.std.proofs.lemmas.Bool.or_left (n.opened q 1) _ (first_open q i);
        },
        (x.0).leads (machine_showing n p st) (shows_state first g.tale n p st sk f ((g.good).tale).low ((g.good).tale).first_members first_open),
        λ c. front_trans (m.lists c) (n.lists c) ((machine_showing n p st).lists c) (grown c) (up c),
      )

  pub next : Next first t w m h
  unfolding machine_with
  next =
      let g : Goes first n.proposed t w (happens w h) (actor w h) = happens_goes first n.proposed t w (widened first m.proposed n.proposed t w (x.0).up good) h x.1 in
      let r = shown (actor w h) g in
      record {
        tale = r.0;
        good = r.1;
        onward = r.2;
        book = r.3;
        leads = r.4;
        grows = r.5;
        rises = g.rises;
        low = g.low;
        kept = g.kept;
      }

-- what some member had decided, the lists before reach over
pub low_lists : (first : List ℕ) (t : Tale) (m : Machine) → BookOk first t m → (w : World) (h : Happening) (c x : ℕ) → LowAt t c x → x ≤ length ((proposed_by m w h).lists c)
low_lists first t m b w h c x l =
    let y = proposing m t w h in
    omega (arith, l.1, decided_length (t.members c) (t.events c) l.0, b.knows l.0 c, (b.fits).known l.0 c, ap (λ (k : List Entry). length k) ((y.0).lists c))

-- ---- a run

pub record Kept (first : List ℕ) (t : Tale) (w w' : World) (m m' : Machine) : Type 0 where
  pub tale : Tale
  pub good : Good first m'.proposed tale w'
  pub book : BookOk first tale m'
  pub onward : Onward t tale
  pub grows : (c : ℕ) → IsPrefix (m.lists c) (m'.lists c)
  pub rises : (q : ℕ) → Rises (w.servers q).state (w'.servers q).state

pub runs_ok : (first : List ℕ) (hs : List Happening) (t : Tale) (w : World) (m : Machine) → Good first m.proposed t w → BookOk first t m → Kept first t w (run hs w) m (machine_after hs w m)
unfolding run machine_after
runs_ok first [] t w m good b = record { tale = t; good = good; book = b; onward = Rattle.op_configurations.proofs.Tale.same_onward t; grows = λ c. front_refl (m.lists c); rises = λ q. rises_same (w.servers q).state (w.servers q).state refl refl }
runs_ok first (h ∷ hs) t w m good b =
    let s = next first t w m good b h in
    let r = runs_ok first hs s.tale (happens w h) (machine_with m w h) s.good s.book in
    record {
      tale = r.tale;
      good = r.good;
      book = r.book;
      onward = Rattle.op_configurations.proofs.Tale.onward_on t s.tale r.tale s.onward r.onward;
      grows = λ c. front_trans (m.lists c) ((machine_with m w h).lists c) ((machine_after hs (happens w h) (machine_with m w h)).lists c) (s.grows c) (r.grows c);
      rises = λ q. rises_on (w.servers q).state ((happens w h).servers q).state ((run hs (happens w h)).servers q).state (s.rises q) (r.rises q);
    }

-- each first member has the first configuration open
member_from : (xs : List ℕ) (p : ℕ) → In p xs → is_member nat_eq xs p ≡ true
member_from [] p i = absurd i
member_from (y ∷ xs) p (inl e) = Rattle.std.proofs.lemmas.Bool.or_left (nat_eq p y) (is_member nat_eq xs p) (eq-eqb p y (sym e))
member_from (y ∷ xs) p (inr i) = Rattle.std.proofs.lemmas.Bool.or_right (nat_eq p y) (is_member nat_eq xs p) (member_from xs p i)

pub first_book : (first : List ℕ) → BookOk first (first_tale first) (first_machine first)
unfolding paxos.run paxos.start
first_book first = record {
  fits = record { told = λ c. any_told (first_tale first) c [] refl; known = λ p c. omega arith; proposed = λ c e i. absurd i };
  knows = λ q c. omega arith;
  first_open = λ q i. member_from first q i;
}

pub all_ok : (first : List ℕ) (hs : List Happening) → Kept first (first_tale first) (start first) (run hs (start first)) (first_machine first) (machine_of first hs)
unfolding machine_of
all_ok first hs = runs_ok first hs (first_tale first) (start first) (first_machine first) (start_good first (λ c. [])) (first_book first)
