-- The start of a world: its nodes are there, and then its observers begin, one after the other.
use Rattle.std.proofs.Common.{◌≡◌, ◌<◌, ◌≤◌, ℕ, Bool, true, false, nat_eq, eqb, List, [], ◌∷◌, map, Option, None, All, refl, sym, ap, subst, ◌∙◌, arith, ⊎_elim}
use Rattle.std.proofs.lemmas.Bool.{cases_lt, eq-eqb, or_left, or_right}
use Rattle.std.proofs.lemmas.List.Elements.{All-nil, All-cons, All-head, All-tail, All-map, All-weaker}
use Rattle.std.proofs.lemmas.Cmp.{nat_eq_equiv}
use Rattle.std.proofs.lemmas.Map.Made.{All-is_member}
use Rattle.std.proofs.lemmas.Map.Views.{All-insert_key}
use Rattle.std.specs.BTreeSet.{insert_key}
use Rattle.std.specs.Ordering.{nat_cmp}
use Rattle.std.specs.Set.{is_member}
use Rattle.op_types.specs.Ranges.{AreRising, IsMember, IsPid, MembersInRange}
use Rattle.op_runs.specs.World.{Kind, Votes, Observes, World, Node, Happening, Deed, Opens, node_ids, node_at, insert_node, first_node, first_observer, first_world, world_at_node, world_at_observer, world_after, run_of, done_event}
use Rattle.op_runs.specs.Possible.{SparesInRange, ObserversInRange, HappeningsInRange, WhatInRange, kind_if, kind_in, proposals_in, server_ids}
use Rattle.op_runs.specs.Schedules.{Seated, beginning, observers_begun}
use Rattle.op_bounds.specs.Laws.{HappeningInRange}
use Rattle.op_bounds.proofs.Known.{rising_ids}
use Rattle.op_executions.specs.Servers.{first_as}
use Rattle.op_executions.specs.Worlds.{also, seated_as, first_seated}
use Rattle.op_executions.proofs.Spares.{above, below}
use Rattle.op_runs.proofs.Servers.{all_at}
use Rattle.op_executions.proofs.ServerIds.{put_rising, nodes_rising, beside, no_observer}
use Rattle.op_executions.proofs.Seated.{pids_in, none_there, all_above, all_as, later_put, put_first}
use Rattle.op_executions.proofs.Servers.{pid_as, pid_first}

-- ---- what happens

none_begun : (observers : List ℕ) → proposals_in (observers_begun observers) ≡ 0
none_begun [] = refl
none_begun (q ∷ observers) = omega (arith, none_begun observers)

begun_fit : (observers : List ℕ) → All IsPid observers → All (λ h. WhatInRange h.event.what) (observers_begun observers)
begun_fit [] each = All-nil (λ (h : Happening). WhatInRange h.event.what)
begun_fit (q ∷ observers) each =
    All-cons (λ (h : Happening). WhatInRange h.event.what) (done_event (beginning q)) (observers_begun observers) (All-head IsPid q observers each) (begun_fit observers (All-tail IsPid q observers each))

-- the beginnings of observers are in range, and propose nothing
pub begun_in_range : (observers : List ℕ) → AreRising 0 observers → HappeningsInRange (observers_begun observers)
begun_in_range observers r = record { few = omega (arith, none_begun observers); each = begun_fit observers (rising_ids 0 observers r) }

pub begun_propose_none : (observers : List ℕ) → proposals_in (observers_begun observers) ≡ 0
begun_propose_none observers = none_begun observers

-- they name the observers alone
pub begun_known : (Known : ℕ → Type 0) (observers : List ℕ) → All IsPid observers → All Known observers → All (HappeningInRange Known) (observers_begun observers)
begun_known Known [] each known = All-nil (HappeningInRange Known)
begun_known Known (q ∷ observers) each known =
    All-cons (HappeningInRange Known) (done_event (beginning q)) (observers_begun observers) (All-head IsPid q observers each, All-head Known q observers known)
    (begun_known Known observers (All-tail IsPid q observers each) (All-tail Known q observers known))

-- ---- one begins

begins : (w : World) (q : ℕ) → node_at w.nodes q ≡ None → node_at w.observers q ≡ None → world_after w (done_event (beginning q)) ≡ record w { observers = insert_node w.observers (first_observer w.members q) }
begins w q no_node none =
    let h : Happening = done_event (beginning q) in
    let d : Deed = record { pid = q; doing = Opens } in
    ap (λ (o : Option Node). world_at_node o Opens h w) no_node
    ∙ ap (λ (o : Option Node). let z : World = record (world_at_observer o d h w) { nodes = w.nodes; members = w.members } in z) none

-- ---- the servers of these ids, where all of these observe

rising_over : (low : ℕ) (ids : List ℕ) → AreRising low ids → All (λ q. low < q) ids
rising_over low [] r = All-nil (λ (q : ℕ). low < q)
rising_over low (x ∷ ids) r = All-cons (λ (q : ℕ). low < q) x ids r.0 (λ k d there. let rest = rising_over x ids r.2 k d there in let here = r.0 in omega (arith, rest, here))

module _ (members all : List ℕ) where
  abbrev seats : List ℕ → List Seated
  seats ids = map (first_seated members all) ids

  abbrev nodes_of : Kind → List ℕ → List Node
  nodes_of k ids = seated_as k (seats ids)

  pids_first : (ids : List ℕ) → pids_in (seats ids) ≡ ids
  pids_first [] = refl
  pids_first (x ∷ ids) = ap (λ (i : ℕ). i ∷ pids_in (seats ids)) (pid_first all members x) ∙ ap (λ (ks : List ℕ). x ∷ ks) (pids_first ids)

  -- one more that observes is among the observers
  kind_then : (j : Kind) (q : ℕ) (nodes : List Node) (k : Kind) → kind_in all q ≡ k → also j (kind_in all q) (first_as (kind_in all q) members q) nodes ≡ also j k (first_as k members q) nodes
  kind_then j q nodes k is = ap (λ (i : Kind). also j i (first_as i members q) nodes) is

  put_votes : (low : ℕ) (ids : List ℕ) (q : ℕ) → AreRising low ids → kind_in all q ≡ Observes → All (λ n. n ≡ q → ⊥) ids → nodes_of Votes (insert_key nat_cmp ids q) ≡ nodes_of Votes ids
  put_votes low [] q r watches differ = kind_then Votes q [] Observes watches
  put_votes low (x ∷ ids) q r watches differ =
      ⊎_elim (λ less. later less (put_votes x ids q r.2 watches (All-tail (λ (n : ℕ). n ≡ q → ⊥) x ids differ))) least (cases_lt x q)
    where
      later : x < q → nodes_of Votes (insert_key nat_cmp ids q) ≡ nodes_of Votes ids → nodes_of Votes (insert_key nat_cmp (x ∷ ids) q) ≡ nodes_of Votes (x ∷ ids)
      later less rest = ap (λ (ks : List ℕ). nodes_of Votes ks) (above q x ids less) ∙ ap (λ (ns : List Node). also Votes (kind_in all x) (first_as (kind_in all x) members x) ns) rest

      least : q ≤ x → nodes_of Votes (insert_key nat_cmp (x ∷ ids) q) ≡ nodes_of Votes (x ∷ ids)
      least most =
          let other : x ≡ q → ⊥ = All-head (λ (n : ℕ). n ≡ q → ⊥) x ids differ in
          let less : q < x = omega (arith, most, other) in
          ap (λ (ks : List ℕ). nodes_of Votes ks) (below q x ids less) ∙ kind_then Votes q (nodes_of Votes (x ∷ ids)) Observes watches

  later_also : (k : Kind) (n m : Node) (nodes : List Node) → n.pid ≤ m.pid → also Observes k n (insert_node nodes m) ≡ insert_node (also Observes k n nodes) m
  later_also Votes n m nodes most = refl
  later_also Observes n m nodes most = sym (later_put n m nodes most)

  put_observes : (low : ℕ) (ids : List ℕ) (q : ℕ) → AreRising low ids → kind_in all q ≡ Observes → All (λ n. n ≡ q → ⊥) ids → nodes_of Observes (insert_key nat_cmp ids q) ≡ insert_node (nodes_of Observes ids) (first_observer members q)
  put_observes low [] q r watches differ = kind_then Observes q [] Observes watches
  put_observes low (x ∷ ids) q r watches differ =
      ⊎_elim (λ less. later less (put_observes x ids q r.2 watches (All-tail (λ (n : ℕ). n ≡ q → ⊥) x ids differ))) least (cases_lt x q)
    where
      later : x < q → nodes_of Observes (insert_key nat_cmp ids q) ≡ insert_node (nodes_of Observes ids) (first_observer members q)
          → nodes_of Observes (insert_key nat_cmp (x ∷ ids) q) ≡ insert_node (nodes_of Observes (x ∷ ids)) (first_observer members q)
      later less rest =
          let one : Node = first_as (kind_in all x) members x in
          let at : one.pid ≡ x = pid_as (kind_in all x) members x in
          ap (λ (ks : List ℕ). nodes_of Observes ks) (above q x ids less)
          ∙ ap (λ (ns : List Node). also Observes (kind_in all x) one ns) rest
          ∙ later_also (kind_in all x) one (first_observer members q) (nodes_of Observes ids) (omega (arith, at, less))

      least : q ≤ x → nodes_of Observes (insert_key nat_cmp (x ∷ ids) q) ≡ insert_node (nodes_of Observes (x ∷ ids)) (first_observer members q)
      least most =
          let other : x ≡ q → ⊥ = All-head (λ (n : ℕ). n ≡ q → ⊥) x ids differ in
          let less : q < x = omega (arith, most, other) in
          let rises : AreRising q (pids_in (seats (x ∷ ids))) = subst (λ (ks : List ℕ). AreRising q ks) (sym (pids_first (x ∷ ids))) (less, r.1, r.2) in
          ap (λ (ks : List ℕ). nodes_of Observes ks) (below q x ids less)
          ∙ kind_then Observes q (nodes_of Observes (x ∷ ids)) Observes watches
          ∙ sym (put_first (first_observer members q) (nodes_of Observes (x ∷ ids)) (all_as (λ n. q < n.pid) Observes (seats (x ∷ ids)) (all_above q (seats (x ∷ ids)) rises)))

  -- where none of them observes
  all_vote : (ids : List ℕ) → All (λ n. kind_in all n ≡ Votes) ids → nodes_of Votes ids ≡ map (first_node members) ids
  all_vote [] each = refl
  all_vote (x ∷ ids) each =
      kind_then Votes x (nodes_of Votes ids) Votes (All-head (λ (n : ℕ). kind_in all n ≡ Votes) x ids each)
      ∙ ap (λ (ns : List Node). first_node members x ∷ ns) (all_vote ids (All-tail (λ (n : ℕ). kind_in all n ≡ Votes) x ids each))

  none_observes : (ids : List ℕ) → All (λ n. kind_in all n ≡ Votes) ids → nodes_of Observes ids ≡ []
  none_observes [] each = refl
  none_observes (x ∷ ids) each =
      kind_then Observes x (nodes_of Observes ids) Votes (All-head (λ (n : ℕ). kind_in all n ≡ Votes) x ids each) ∙ none_observes ids (All-tail (λ (n : ℕ). kind_in all n ≡ Votes) x ids each)

  -- ---- a world at its start, so far

  -- the servers of these ids have begun
  pub record HaveBegun (ids : List ℕ) (w : World) : Type 0 where
    pub nodes : w.nodes ≡ nodes_of Votes ids
    pub observers : w.observers ≡ nodes_of Observes ids
    pub members_are : w.members ≡ members
    pub messages : w.messages ≡ []
    pub lines : w.lines ≡ []

  -- none of these has this id
  none_has : (k : Kind) (q : ℕ) (ids : List ℕ) → All (λ n. n ≡ q → ⊥) ids → node_at (nodes_of k ids) q ≡ None
  none_has k q ids differ =
      none_there k q (seats ids)
      (All-map (λ (s : Seated). s.node.pid ≡ q → ⊥) (first_seated members all) ids
      (All-weaker (λ (n : ℕ). n ≡ q → ⊥) (λ (n : ℕ). (first_seated members all n).node.pid ≡ q → ⊥) (λ n d same. d (sym (pid_first all members n) ∙ same)) ids differ))

  begin_on : (more ids : List ℕ) (low : ℕ) (w : World) → AreRising low more → AreRising 0 ids → ((q : ℕ) → IsMember more q → IsMember all q) → ((q : ℕ) → IsMember more q → All (λ n. n ≡ q → ⊥) ids) → HaveBegun ids w → HaveBegun (node_ids ids more) (run_of w (observers_begun more))
  begin_on [] ids low w rise r among fresh have = have
  begin_on (q ∷ more) ids low w rise r among fresh have =
      let here : IsMember (q ∷ more) q = or_left (eqb q q) (is_member nat_eq more q) (eq-eqb q q refl) in
      let watches : kind_in all q ≡ Observes = ap kind_if (among q here) in
      let differ : All (λ n. n ≡ q → ⊥) ids = fresh q here in
      let no_node : node_at w.nodes q ≡ None = ap (λ (ns : List Node). node_at ns q) have.nodes ∙ none_has Votes q ids differ in
      let none : node_at w.observers q ≡ None = ap (λ (ns : List Node). node_at ns q) have.observers ∙ none_has Observes q ids differ in
      let v : World = record w { observers = insert_node w.observers (first_observer w.members q) } in
      let next : HaveBegun (insert_key nat_cmp ids q) v = record {
        nodes = have.nodes ∙ sym (put_votes 0 ids q r watches differ);
        observers = ap (λ (ns : List Node). insert_node ns (first_observer w.members q)) have.observers ∙ ap (λ (ms : List ℕ). insert_node (nodes_of Observes ids) (first_observer ms q)) have.members_are
            ∙ sym (put_observes 0 ids q r watches differ);
        members_are = have.members_are;
        messages = have.messages;
        lines = have.lines;
      } in
      let first = rise.0 in
      subst (λ (u : World). HaveBegun (node_ids (insert_key nat_cmp ids q) more) (run_of u (observers_begun more))) (sym (begins w q no_node none))
      (begin_on more (insert_key nat_cmp ids q) q v rise.2 (put_rising 0 ids q r (omega (arith, first)) rise.1) (λ p h. among p (or_right (eqb p q) (is_member nat_eq more p) h))
      (λ p h.
      let over : q < p = all_at (λ (n : ℕ). q < n) more p (rising_over q more rise.2) h in
      All-insert_key nat_cmp q (λ (n : ℕ). n ≡ p → ⊥) ids (fresh p (or_right (eqb p q) (is_member nat_eq more p) h)) (λ same. omega (arith, over, same)))
      next)

-- ---- the start

module _ (members spares observers : List ℕ) (m : MembersInRange members) (s : SparesInRange members spares) (o : ObserversInRange members spares observers) where
  votes : (q : ℕ) → IsMember (node_ids members spares) q → kind_in observers q ≡ Votes
  votes q node = by (is_member nat_eq observers q) (no_observer members spares observers m s o q node)
    where
      by : (b : Bool) → (b ≡ true → ⊥) → kind_if b ≡ Votes
      by true none = absurd (none refl)
      by false none = refl

  pub have_begun : HaveBegun members observers (server_ids members spares observers) (run_of (first_world members spares) (observers_begun observers))
  have_begun =
      let nodes : List ℕ = node_ids members spares in
      let vote : All (λ q. kind_in observers q ≡ Votes) nodes = All-weaker (IsMember nodes) (λ (q : ℕ). kind_in observers q ≡ Votes) votes nodes (All-is_member nat_eq_equiv nodes) in
      begin_on members observers observers nodes 0 (first_world members spares) o.rising (nodes_rising members spares observers m s) (λ q h. h) (beside members spares observers m s o)
      (record { nodes = sym (all_vote members observers nodes vote); observers = sym (none_observes members observers nodes vote); members_are = refl; messages = refl; lines = refl })
