-- The run of a cluster begins with the starts of its observers: then each server stands as one does before its first deed.
use Rattle.std.proofs.Common.{◌≡◌, ◌<◌, ℕ, ltb, eqb, nat_eq, cond, Bool, true, false, List, [], ◌∷◌, map, Option, Some, None, ◌||◌, refl, sym, ◌∙◌, ap, subst, ◌⊎◌, inl, inr, arith}
use Rattle.std.specs.Prelude.{All}
use Rattle.std.specs.Set.{is_member}
use Rattle.std.proofs.lemmas.Bool.{cases_eq, cond_both, eq-eqb, ne_eqb, false≢true}
use Rattle.std.proofs.lemmas.Cmp.{nat_eq_equiv}
use Rattle.std.proofs.lemmas.Map.Made.{All-is_member}
use Rattle.std.proofs.lemmas.List.Elements.{All-nil, All-cons, All-head, All-tail, All-weaker}
use Rattle.op_types.specs.Ranges.{IsPid, IsMember, AreRising, MembersInRange}
use Rattle.op_runs.specs.Possible.{SparesInRange, ObserversInRange, WhatInRange, kind_if, kind_in, proposals_in, server_ids}
use Rattle.op_runs.specs.Schedules.{seated, seated_at, beginning, observers_begun}
use Rattle.op_runs.specs.World.{World, Node, Happening, done_event, first_node, first_observer, first_world, insert_node, node_at, node_ids, run_of, world_after}
use Rattle.op_runs.proofs.Servers.{all_at, first_ids, none_found}
use Rattle.op_bounds.proofs.Known.{nodes_are_ids, rising_ids}
use Rattle.op_bounds.proofs.Starts.{all_ids}
use Rattle.op_watch_laws.proofs.Nodes.{insert_other}
use Rattle.op_cluster_laws.specs.Traces.{first_as}
use Rattle.op_cluster_laws.proofs.Currency.{reads_in}
use Rattle.op_cluster_laws.proofs.Proposing.{commands_in}

-- ---- one begins

-- it does where no server has its id
starts : (w : World) (p : ℕ) → node_at w.nodes p ≡ None → node_at w.observers p ≡ None
    → world_after w (done_event (beginning p)) ≡ record w { observers = insert_node w.observers (first_observer w.members p) }
starts w p a b = rw a (rw b refl)

-- where nobody has its id it is there
insert_here : (nodes : List Node) (m : Node) → node_at nodes m.pid ≡ None → node_at (insert_node nodes m) m.pid ≡ Some m
insert_here [] m none = let own : eqb m.pid m.pid ≡ true = eq-eqb m.pid m.pid refl in rw own refl
insert_here (n ∷ nodes) m none =
    cond_both (ltb m.pid n.pid) (m ∷ n ∷ nodes) (n ∷ insert_node nodes m) (λ (l : List Node). node_at l m.pid ≡ Some m)
    (λ _. let own : eqb m.pid m.pid ≡ true = eq-eqb m.pid m.pid refl in rw own refl)
    (λ _. by (insert_here nodes m) (eqb n.pid m.pid) refl)
  where
    some_none : Some n ≡ None → ⊥
    some_none z = cc

    by : (node_at nodes m.pid ≡ None → node_at (insert_node nodes m) m.pid ≡ Some m) → (b : Bool) → eqb n.pid m.pid ≡ b → cond (eqb n.pid m.pid) (Some n) (node_at (insert_node nodes m) m.pid) ≡ Some m
    by more true e = absurd (some_none (sym (ap (λ (c : Bool). cond c (Some n) (node_at nodes m.pid)) e) ∙ none))
    by more false e =
        ap (λ (c : Bool). cond c (Some n) (node_at (insert_node nodes m) m.pid)) e
        ∙ more (sym (ap (λ (c : Bool). cond c (Some n) (node_at nodes m.pid)) e) ∙ none)

-- ---- rising ids

-- each is above what they rise from
above : (low : ℕ) (ids : List ℕ) (q : ℕ) → AreRising low ids → is_member nat_eq ids q ≡ true → low < q
above low [] q r one = absurd (false≢true one)
above low (x ∷ ids) q r one = elim (cases_eq x q) [
  | inl e ↦ subst (λ (z : ℕ). low < z) e r.0
  | inr n ↦ (let past : nat_eq q x ≡ false = ne_eqb q x (λ e. n (sym e)) in
      let more : x < q = above x ids q r.2 (rw past at one) in
      let first : low < x = r.0 in
      omega (arith, more, first))
]

-- that they rise from is none of them
none_low : (low : ℕ) (ids : List ℕ) → AreRising low ids → is_member nat_eq ids low ≡ false
none_low low ids r = by (is_member nat_eq ids low) refl
  where
    by : (b : Bool) → is_member nat_eq ids low ≡ b → b ≡ false
    by false e = refl
    by true e = absurd (let bad : low < low = above low ids low r e in omega (arith, bad))

-- ---- all begin

-- these observers have begun in a world, and nothing else has changed
record HaveBegun (w v : World) (ids : List ℕ) : Type 0 where
  nodes : v.nodes ≡ w.nodes
  members : v.members ≡ w.members
  messages : v.messages ≡ w.messages
  lines : v.lines ≡ w.lines
  there : (q : ℕ) → is_member nat_eq ids q ≡ true → node_at v.observers q ≡ Some (first_observer w.members q)
  others : (q : ℕ) → is_member nat_eq ids q ≡ false → node_at v.observers q ≡ node_at w.observers q

own_id : (x : ℕ) (ids : List ℕ) → is_member nat_eq (x ∷ ids) x ≡ true
own_id x ids = let same : nat_eq x x ≡ true = eq-eqb x x refl in rw same refl

late_id : (x : ℕ) (ids : List ℕ) (q : ℕ) → is_member nat_eq ids q ≡ true → is_member nat_eq (x ∷ ids) q ≡ true
late_id x ids q one = by (nat_eq q x)
  where
    by : (c : Bool) → (c || is_member nat_eq ids q) ≡ true
    by true = refl
    by false = one

-- an id behind the first is another
differs : (x : ℕ) (ids : List ℕ) → AreRising x ids → (q : ℕ) → is_member nat_eq ids q ≡ true → q ≡ x → ⊥
differs x ids r q one e = let more : x < q = above x ids q r one in omega (arith, more, e)

-- an id that is none of these is not the first, nor one behind it
no_id : (x : ℕ) (ids : List ℕ) (q : ℕ) → is_member nat_eq (x ∷ ids) q ≡ false → (q ≡ x → ⊥) × (is_member nat_eq ids q ≡ false)
no_id x ids q none = by (nat_eq q x) refl
  where
    by : (c : Bool) → nat_eq q x ≡ c → (q ≡ x → ⊥) × (is_member nat_eq ids q ≡ false)
    by true e = absurd (false≢true (sym (rw e at none)))
    by false e = (λ same. false≢true (sym e ∙ eq-eqb q x same), rw e at none)

-- the world with one more
abbrev with_observer : World → ℕ → World
with_observer w x = record w { observers = insert_node w.observers (first_observer w.members x) }

one_begins : (x : ℕ) (ids : List ℕ) (w : World) → AreRising x ids → node_at w.nodes x ≡ None → node_at w.observers x ≡ None
    → HaveBegun (with_observer w x) (run_of (with_observer w x) (observers_begun ids)) ids → HaveBegun w (run_of w (observers_begun (x ∷ ids))) (x ∷ ids)
one_begins x ids w r a b k =
    subst (λ (u : World). HaveBegun w (run_of u (observers_begun ids)) (x ∷ ids)) (sym (starts w x a b)) (record {
      nodes = k.nodes;
      members = k.members;
      messages = k.messages;
      lines = k.lines;
      there = is_there;
      others = λ q none. (let h = no_id x ids q none in k.others q h.1 ∙ insert_other w.observers (first_observer w.members x) q h.0);
    })
  where
    end : World
    end = run_of (with_observer w x) (observers_begun ids)

    is_there : (q : ℕ) → is_member nat_eq (x ∷ ids) q ≡ true → node_at end.observers q ≡ Some (first_observer w.members q)
    is_there q one = elim (cases_eq x q) [
      | inl e ↦ (let here : node_at end.observers x ≡ Some (first_observer w.members x) =
          k.others x (none_low x ids r) ∙ insert_here w.observers (first_observer w.members x) b in
          subst (λ (z : ℕ). node_at end.observers z ≡ Some (first_observer w.members z)) e here)
      | inr n ↦ (let past : nat_eq q x ≡ false = ne_eqb q x (λ e. n (sym e)) in k.there q (rw past at one))
    ]

-- so it is where they rise, and no server has one of their ids
all_begin : (low : ℕ) (ids : List ℕ) (w : World) → AreRising low ids → ((q : ℕ) → IsMember ids q → node_at w.nodes q ≡ None) → ((q : ℕ) → IsMember ids q → node_at w.observers q ≡ None)
    → HaveBegun w (run_of w (observers_begun ids)) ids
all_begin low [] w r a b = record { nodes = refl; members = refl; messages = refl; lines = refl; there = λ q one. absurd (false≢true one); others = λ q none. refl }
all_begin low (x ∷ ids) w r a b =
    one_begins x ids w r.2 (a x (own_id x ids)) (b x (own_id x ids))
    (all_begin x ids (with_observer w x) r.2 (λ q one. a q (late_id x ids q one))
    (λ q one. insert_other w.observers (first_observer w.members x) q (differs x ids r.2 q one) ∙ b q (late_id x ids q one)))

-- ---- servers and their ids

-- an id of two lists is of one of them
pub either : (xs ys : List ℕ) (p : ℕ) → IsMember (node_ids xs ys) p → IsMember ys p ⊎ IsMember xs p
either xs ys p one =
    all_at (λ (q : ℕ). IsMember ys q ⊎ IsMember xs q) (node_ids xs ys) p
    (all_ids (λ (q : ℕ). IsMember ys q ⊎ IsMember xs q) ys xs
    (All-weaker (IsMember xs) (λ (q : ℕ). IsMember ys q ⊎ IsMember xs q) (λ q h. inr h) xs (All-is_member nat_eq_equiv xs))
    (All-weaker (IsMember ys) (λ (q : ℕ). IsMember ys q ⊎ IsMember xs q) (λ q h. inl h) ys (All-is_member nat_eq_equiv ys)))
    one

-- a node is found where its id is one of these
first_found : (all ids : List ℕ) (p : ℕ) → is_member nat_eq ids p ≡ true → node_at (map (first_node all) ids) p ≡ Some (first_node all p)
first_found all [] p h = absurd (false≢true h)
first_found all (m ∷ ids) p h = elim (cases_eq m p) [
  | inl e ↦ rw (eq-eqb m p e) (ap (λ k. Some (first_node all k)) e)
  | inr n ↦ rw (ne_eqb m p n) (first_found all ids p (let away : nat_eq p m ≡ false = ne_eqb p m (λ e. n (sym e)) in rw away at h))
]

module _ (members spares observers : List ℕ) (ms : MembersInRange members) (ss : SparesInRange members spares) (os : ObserversInRange members spares observers) where
  pub server_pids : (p : ℕ) → IsMember (server_ids members spares observers) p → IsPid p
  server_pids p one = elim (either (node_ids members spares) observers p one) [
    | inl own ↦ all_at IsPid observers p (rising_ids 0 observers os.rising) own
    | inr node ↦ nodes_are_ids members spares ms ss p node
  ]

  -- no node has an observer's id
  no_node : (p : ℕ) → IsMember observers p → is_member nat_eq (node_ids members spares) p ≡ false
  no_node p own = by (is_member nat_eq (node_ids members spares) p) refl
    where
      by : (b : Bool) → is_member nat_eq (node_ids members spares) p ≡ b → b ≡ false
      by false e = refl
      by true e = elim (either members spares p e) [
        | inl spare ↦ absurd (os.no_spare p own spare)
        | inr member ↦ absurd (os.no_member p own member)
      ]

  abbrev first : World
  first = first_world members spares

  unseated : (p : ℕ) → IsMember observers p → node_at first.nodes p ≡ None
  unseated p own = none_found first.nodes p (ap (λ (l : List ℕ). is_member nat_eq l p) (first_ids members (node_ids members spares)) ∙ no_node p own)

  abbrev pub begun_world : World
  begun_world = run_of first (observers_begun observers)

  all_begun : HaveBegun first begun_world observers
  all_begun = all_begin 0 observers first os.rising unseated (λ q own. refl)

  -- each server is there then
  pub begun_seat : (p : ℕ) → IsMember (server_ids members spares observers) p
      → seated_at begun_world p ≡ Some (record { kind = kind_in observers p; node = first_as (kind_in observers p) members p })
  begun_seat p one = by (is_member nat_eq observers p) refl
    where
      by : (b : Bool) → is_member nat_eq observers p ≡ b → seated_at begun_world p ≡ Some (record { kind = kind_if b; node = first_as (kind_if b) members p })
      by true own =
          ap (λ (o : Option Node). seated o (node_at begun_world.observers p)) (ap (λ (l : List Node). node_at l p) all_begun.nodes ∙ unseated p own)
          ∙ ap (λ (o : Option Node). seated None o) (all_begun.there p own)
      by false none = elim (either (node_ids members spares) observers p one) [
        | inl own ↦ absurd (false≢true (sym none ∙ own))
        | inr node ↦ ap (λ (o : Option Node). seated o (node_at begun_world.observers p))
            (ap (λ (l : List Node). node_at l p) all_begun.nodes ∙ first_found members (node_ids members spares) p node)
      ]

  pub begun_messages : begun_world.messages ≡ []
  begun_messages = all_begun.messages

-- ---- what their starts are

-- each is in range
begun_fit : (ids : List ℕ) → All IsPid ids → All (λ (h : Happening). WhatInRange h.event.what) (observers_begun ids)
begun_fit [] fit = All-nil (λ (h : Happening). WhatInRange h.event.what)
begun_fit (x ∷ ids) fit =
    All-cons (λ (h : Happening). WhatInRange h.event.what) (done_event (beginning x)) (observers_begun ids) (All-head IsPid x ids fit) (begun_fit ids (All-tail IsPid x ids fit))

pub begun_range : (ids : List ℕ) → AreRising 0 ids → All (λ (h : Happening). WhatInRange h.event.what) (observers_begun ids)
begun_range ids rising = begun_fit ids (rising_ids 0 ids rising)

-- none proposes anything, nor asks for anything
pub begun_proposals : (ids : List ℕ) → proposals_in (observers_begun ids) ≡ 0
begun_proposals [] = refl
begun_proposals (x ∷ ids) = let k = begun_proposals ids in omega (arith, k)

pub begun_commands : (ids : List ℕ) → commands_in (observers_begun ids) ≡ []
begun_commands [] = refl
begun_commands (x ∷ ids) = begun_commands ids

pub begun_reads : (ids : List ℕ) → reads_in (observers_begun ids) ≡ []
begun_reads [] = refl
begun_reads (x ∷ ids) = begun_reads ids
