-- A run of all configurations, seen from one, and what may be answered in it.
use Rattle.std.proofs.Common.{◌≡◌, ℕ, suc, ◌≤◌, ⊎_elim, List, [], ◌∷◌, ◌++◌, length, true, false, take, drop, sym, ap, ◌∙◌, subst, arith, length-append}
use Rattle.std.proofs.lemmas.Bool.{cases_Bool}
use Rattle.std.proofs.lemmas.List.{take-take, take-append-drop, take-append-le, take_all}
use Rattle.op_types.specs.declared.log.Entry.{Entry}
use Rattle.op_spec.specs.Machine.{Machine, IsAmong, stop_at_end, members_of}
use Rattle.op_spec.specs.Laws.{OnlyGrows}
use Rattle.op_paxos.specs.Nodes.{Node, LeadingState, Leading, majority_passes}
use Rattle.op_paxos.specs.Worlds as paxos
use Rattle.op_paxos.specs.Agreement.{decided_log}
use Rattle.op_paxos.specs.Exchange.{world_before, node_before}
use Rattle.op_paxos.proofs.Roles.{lead_is}
use Rattle.op_paxos.proofs.Runs.{start_ok, run_on}
use Rattle.op_configurations.specs.Servers.{Part}
use Rattle.op_configurations.specs.Worlds.{World, Happening, run, start, machine_of}
use Rattle.op_configurations.specs.Views.{view, events_from}
use Rattle.op_configurations.proofs.Fronts.{front_length, whole_front}
use Rattle.op_configurations.proofs.Runs.{told_tidy, decided_length}
use Rattle.op_configurations.proofs.Book.{told_front, runs_ok, all_ok}
use Rattle.op_configurations.proofs.Standing.{members_are, machine_append, stands, safe, grows}
use Rattle.op_configurations.proofs.Views.{view_is, each_is_a_run, inner_grows}
use Rattle.op_configurations.proofs.Unended.{all_unended}
use Rattle.op_fresh.specs.Fresh.{MayAnswer, IsFresh}
use Rattle.op_fresh.specs.Above.{AreInOrder}
use Rattle.op_fresh.proofs.Beginning.{LeadsIn, led_between}
use Rattle.op_fresh.proofs.Freshness.{are_fresh, decided_in_list}
use Rattle.op_fresh.proofs.Opening.{none_was_above}
use Rattle.op_fresh_lists.specs.FreshLists.{world_at, machine_at, Takes, MayAnswerIn, IsFreshIn, ListsReadsAreFresh}

take_front : {A : Type 0} (xs ys : List A) → take (length xs) (xs ++ ys) ≡ xs
take_front xs ys = take-append-le (length xs) xs ys (omega arith) ∙ take_all (length xs) xs (omega arith)

among_length : (l : List Entry) (e : Entry) → IsAmong l e → 1 ≤ length l
among_length [] e i = absurd i
among_length (x ∷ l) e i = omega arith

-- where nothing happened nothing is decided
nothing_decided : (ms : List ℕ) (es : List paxos.Event) (p : ℕ) → es ≡ [] → length (decided_log (paxos.run ms es paxos.start) p) ≡ 0
unfolding paxos.run paxos.start
nothing_decided ms es p e = ap (λ xs. length (decided_log (paxos.run ms xs paxos.start) p)) e

-- lists are filled in the order of their configurations
in_order : (first : List ℕ) (hs : List Happening) → AreInOrder (machine_of first hs)
in_order first hs c e pos i =
    let k = all_ok first hs in
    let t = k.tale in
    let m = machine_of first hs in
    let d = k.book.fits.told (suc c) in
    ⊎_elim
    (λ (h : t.opened (suc c) ≡ true).
    let l = k.good.tale.linked c pos h in
    let same = whole_front l.list (m.lists c) l.sign l.whole.last (told_tidy (t.members c) (t.events c) (m.lists c) (k.book.fits.told c)) (told_front first t m k.book c l.list l.whole.told) in
    (l.sign, ap stop_at_end (sym same) ∙ l.whole.last))
    (λ (h : t.opened (suc c) ≡ false).
    absurd (omega (arith, among_length (m.lists (suc c)) e i, front_length (m.lists (suc c)) _ d.front, nothing_decided (t.members (suc c)) (t.events (suc c)) d.who (k.good.tale.empty (suc c) h))))
    (cases_Bool (t.opened (suc c)))

module _ (first : List ℕ) (hs : List Happening) (c : ℕ) where
  abbrev pub R : ℕ → World
  R k = world_at first hs k

  abbrev pub M : ℕ → Machine
  M k = machine_at first hs k

  -- what happened inside the configuration
  abbrev pub es : List paxos.Event
  es = (run hs (start first)).inner c

  abbrev pub n : ℕ → ℕ
  n k = length ((R k).inner c)

  abbrev pub MS : List ℕ
  MS = members_of first (machine_of first hs).lists c

  pub inner_take : (k : ℕ) → take (n k) es ≡ (R k).inner c
  inner_take k =
      let is = sym (ap (λ xs. (run xs (start first)).inner c) (take-append-drop k hs)) ∙ sym (inner_grows first (take k hs) (drop k hs) c) in
      ap (take (n k)) is ∙ take_front ((R k).inner c) (events_from (R k) (drop k hs) c)

  pub split : (i j : ℕ) → i ≤ j → take j hs ≡ take i hs ++ drop i (take j hs)
  split i j le = sym (take-append-drop i (take j hs)) ∙ ap (λ xs. xs ++ drop i (take j hs)) (take-take i j hs le)

  pub n_up : (i j : ℕ) → i ≤ j → n i ≤ n j
  n_up i j le =
      let is = ap (λ xs. (run xs (start first)).inner c) (split i j le) ∙ sym (inner_grows first (take i hs) (drop i (take j hs)) c) in
      omega (arith, ap (λ xs. length xs) is, length-append ((R i).inner c) (events_from (R i) (drop i (take j hs)) c))

  opened_at : (k q : ℕ) → Takes first hs c k q → (all_ok first (take k hs)).tale.opened c ≡ true
  opened_at k q x = subst (λ d. (all_ok first (take k hs)).tale.opened d ≡ true) x.conf_is (((all_ok first (take k hs)).good.servers q).state.part x.part x.has).opened

  -- the members stay
  pub members_at : (k q : ℕ) → Takes first hs c k q → members_of first (M k).lists c ≡ MS
  unfolding machine_of
  members_at k q x =
      let o = all_ok first (take k hs) in
      let h = opened_at k q x in
      let r = runs_ok first (drop k hs) o.tale (R k) (M k) o.good o.book in
      let end = sym (machine_append (take k hs) (drop k hs) (start first) _) ∙ ap (λ xs. machine_of first xs) (take-append-drop k hs) in
      sym (members_are first o.tale (M k) o.good.tale o.book c h) ∙ sym (r.onward.members c h)
      ∙ members_are first r.tale _ r.good.tale r.book c (r.onward.opened c h) ∙ ap (λ (m : Machine). members_of first m.lists c) end

  -- the configuration's own world at that moment
  view_at : (k q : ℕ) → Takes first hs c k q → view first (M k).lists (R k) c ≡ world_before MS paxos.start es (n k)
  view_at k q x =
      ap (λ ms. paxos.run ms ((R k).inner c) paxos.start) (members_at k q x) ∙ ap (λ xs. paxos.run MS xs paxos.start) (sym (inner_take k))

  pub node_at : (k q : ℕ) → (x : Takes first hs c k q) → node_before MS paxos.start es (n k) q ≡ (x.part).node
  node_at k q x = ap (λ (w : paxos.World). w.nodes q) (sym (view_at k q x)) ∙ (each_is_a_run first (take k hs) c).nodes q x.part x.has x.conf_is

  -- ---- who leads

  -- the server's members are those of the configuration
  pub members_in : (k q : ℕ) → (x : Takes first hs c k q) → (x.part).members ≡ MS
  members_in k q x = ((stands first (take k hs) q).part x.part x.has).members ∙ ap (members_of first (M k).lists) x.conf_is ∙ members_at k q x

  -- a leader has promised its ballot
  pub lead_promised : (k p : ℕ) → (x : Takes first hs c k p) → (l : LeadingState) → ((x.part).node).role ≡ Leading l → l.ballot ≡ ((x.part).node).promised
  lead_promised k p x l leads =
      let e = take (n k) es in
      let a = run_on MS e paxos.start Rattle.op_paxos.proofs.Runs.first (start_ok MS) in
      let node = node_at k p x in
      let o = lead_is MS (paxos.run MS e paxos.start) a.0 a.1 p l (ap (λ (y : Node). y.role) node ∙ leads) in
      o.promised ∙ ap (λ (y : Node). y.promised) node

  es_split : (i j : ℕ) → i ≤ j → take (n j) es ≡ take (n i) es ++ drop (n i) (take (n j) es)
  es_split i j le = sym (take-append-drop (n i) (take (n j) es)) ∙ ap (λ xs. xs ++ drop (n i) (take (n j) es)) (take-take (n i) (n j) es (n_up i j le))

  -- who leads a ballot early and late leads it at each moment between
  pub leads_between : (i j k p b : ℕ) → i ≤ j → j ≤ k → (x : Takes first hs c i p) → (y : Takes first hs c j p) → (z : Takes first hs c k p)
      → (l : LeadingState) × (((x.part).node).role ≡ Leading l) × (l.ballot ≡ b) → (l : LeadingState) × (((z.part).node).role ≡ Leading l) × (l.ballot ≡ b)
      → (l : LeadingState) × (((y.part).node).role ≡ Leading l) × (l.ballot ≡ b)
  leads_between i j k p b low high x y z was is =
      let At : Node → Type 0 = λ (m : Node). (l : LeadingState) × (m.role ≡ Leading l) × (l.ballot ≡ b) in
      let middle = drop (n i) (take (n j) es) in
      let late = drop (n j) (take (n k) es) in
      let to_j : take (n j) es ≡ take (n i) es ++ middle = es_split i j low in
      let to_k : take (n k) es ≡ (take (n i) es ++ middle) ++ late = es_split j k high ∙ ap (λ xs. xs ++ late) to_j in
      let early : LeadsIn (paxos.run MS (take (n i) es) paxos.start) p b = subst At (sym (node_at i p x)) was in
      let last : LeadsIn (paxos.run MS (take (n k) es) paxos.start) p b = subst At (sym (node_at k p z)) is in
      let r = led_between MS (take (n i) es) middle late p b early (subst (λ xs. LeadsIn (paxos.run MS xs paxos.start) p b) to_k last) in
      subst At (node_at j p y) (subst (λ xs. LeadsIn (paxos.run MS xs paxos.start) p b) (sym to_j) r)

  module _ (b p i j : ℕ) (m : MayAnswerIn first hs c b p i j) where
    abbrev part : Part
    part = (m.now).part

    stand : Rattle.op_configurations.specs.Laws.PartStands first (M j).lists part
    stand = (stands first (take j hs) p).part part m.now.has

    members : part.members ≡ MS
    members = stand.members ∙ ap (members_of first (M j).lists) m.now.conf_is ∙ members_at j p m.now

    may : MayAnswer MS es b p (n i) (n j)
    may =
        let node = node_at j p m.now in
        record {
          later = n_up i j m.later;
          leadership = m.leadership;
          leads = ap (λ (x : Node). x.role) node ∙ m.leads;
          ballot = m.ballot;
          decided = omega (arith, m.decided, ap (λ (x : Node). x.decided) node);
          voters = m.voters;
          majority = subst (λ ms. majority_passes ms m.voters ≡ true) members m.majority;
          confirmed = λ q a e.
              let f = m.confirmed q (subst (λ ms. IsAmong ms q) (sym members) a) e in
              record { at = n f.at; late = n_up i f.at f.late; promised = ap (λ (x : Node). x.promised) (node_at f.at q f.takes) ∙ f.promised };
        }

    inside : IsFresh MS 1 es p (n i) (n j)
    inside = are_fresh MS 1 es b p (n i) (n j) may

    -- the list of moment i is what some member had decided
    at_least : length ((M i).lists c) ≤ (part.node).decided
    at_least =
        let k = all_ok first (take i hs) in
        let d = k.book.fits.told c in
        let seen = view_is first k.tale (M i) (R i) k.good k.book c ∙ view_at i p m.asked in
        omega (arith, front_length ((M i).lists c) _ d.front, decided_length (k.tale.members c) (k.tale.events c) d.who, ap (λ (w : paxos.World). (w.nodes d.who).decided) seen, decided_in_list MS 1 es (n i) d.who, inside.at_least, ap (λ (x : Node). x.decided) (node_at j p m.now))

    lists_only_grow : OnlyGrows (M i) (M j)
    lists_only_grow = subst (λ xs. OnlyGrows (M i) (machine_of first xs)) (sym (split i j m.later)) (grows first (take i hs) (drop i (take j hs)))

    entries : take (part.node).decided (part.node).log ≡ take (part.node).decided ((M j).lists c)
    entries = stand.entries ∙ ap (λ d. take (part.node).decided ((M j).lists d)) m.now.conf_is

    fresh_in : IsFreshIn first hs c p i j part
    fresh_in = record {
      at_least = at_least;
      at_most = subst (λ d. (part.node).decided ≤ length ((M j).lists d)) m.now.conf_is stand.decided;
      prefix = entries;
      none_above = none_was_above first c (part.node).decided (M i) (M j) (record {
        conf_from_1 = (all_ok first (take i hs)).good.tale.low c (opened_at i p m.asked);
        safe = safe first (take i hs);
        in_order = in_order first (take i hs);
        late_safe = safe first (take j hs);
        grows = lists_only_grow;
        at_least = at_least;
        unended = ap stop_at_end (sym entries) ∙ all_unended first (take j hs) p part m.now.has;
      });
    }

-- the clause fresh
pub lists_reads_fresh : ListsReadsAreFresh
lists_reads_fresh first hs conf b p i j m = fresh_in first hs conf b p i j m
