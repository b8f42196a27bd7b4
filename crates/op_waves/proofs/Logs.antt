-- Logs of two members: what is decided at one is in each log of a later round, so what a member answers to one that asks with its
-- log as it is can be adopted there.
use Rattle.std.proofs.Common.{◌≡◌, ◌<◌, ◌≤◌, ◌⊎◌, ◌+◌, ◌-◌, inl, inr, ⊎_elim, ◌&&◌, ◌||◌, not, ℕ, Bool, true, false, cond, eqb, leb, ltb, List, length, Option, Some, None, refl, sym, ap, ◌∙◌, subst, arith}
use Rattle.std.proofs.lemmas.Bool.{cond_both, and_from, or_left, or_right, le-leb, ltb-true, eq-eqb, cases_lt, le-ltb}
use Rattle.std.proofs.lemmas.List.{length-drop}
use Rattle.op_types.specs.Limits.{positions_end, last_conf}
use Rattle.op_types.specs.Ballots.{is_below, is_same_ballot}
use Rattle.op_types.specs.Changes.{len_of}
use Rattle.op_types.specs.declared.durable.Part.{Part as StoredPart}
use Rattle.op_types.specs.declared.log.Entry.{Entry}
use Rattle.op_types.specs.declared.role.Promised.{Promised}
use Rattle.op_spec.specs.Machine.{members_of}
use Rattle.op_protocol.specs.State.{Volatile}
use Rattle.op_protocol.specs.Parts.{log_from, is_admitted, has_stop}
use Rattle.op_protocol.specs.Promises.{is_above, is_usable}
use Rattle.op_protocol.specs.Follower.{suffix_start}
use Rattle.op_runs.specs.World.{World, Happening, node_at, first_world, run_of}
use Rattle.op_runs.specs.Run.{Execution, first_execution, execution_of}
use Rattle.op_paxos.specs.Worlds as paxos
use Rattle.op_paxos.proofs.History.{History, core}
use Rattle.op_paxos.proofs.Invariant.{ChosenBy, log_short}
use Rattle.op_paxos.proofs.OneStep.{Invariant, promises, accepts}
use Rattle.op_paxos.proofs.Runs.{run_on}
use Rattle.op_paxos.proofs.Runs as runs
use Rattle.op_configurations.specs.Servers.{Part}
use Rattle.op_configurations.specs.Views.{view}
use Rattle.op_configurations.specs.Worlds as worlds
use Rattle.op_configurations.proofs.Views.{each_is_a_run}
use Rattle.op_refinement.proofs.Pure as pure
use Rattle.op_refinement.proofs.View.{rank, is_below-rank}
use Rattle.op_refinement.proofs.Logs.{len_of-whole}
use Rattle.op_refinement.proofs.Relation.{PartRel, IfPartRel, all_before}
use Rattle.op_refinement.proofs.Worlds.{lists_of, world_of, state_of}
use Rattle.op_refinement.proofs.Beside.{NodeRel, IsBeside}
use Rattle.op_refinement.proofs.NodeLists.{IfThere, found}
use Rattle.op_refinement.proofs.EveryRun.{every_run_is_beside}
use Rattle.op_laws.specs.Runs.{RunInRange}
use Rattle.op_laws.proofs.Reached.{world_of_run}
use Rattle.op_progress.specs.Progress.{MayAdopt}
use Rattle.op_progress.specs.Trimmed.{StoresThere}

-- ---- as a pure machine
-- what is decided at one is in each log of a later round
reaches : (ms : List ℕ) (w : paxos.World) (g : History) → Invariant ms w g → (p q : ℕ) → (w.nodes p).accepted < (w.nodes q).accepted → (w.nodes p).decided ≤ length (w.nodes q).log
reaches ms w g i p q later = ⊎_elim (λ (e : (w.nodes p).decided ≡ 0). omega (arith, e)) chosen (i.nodes p).sure
  where
    chosen : ChosenBy ms g (w.nodes p).accepted (w.nodes p).decided → (w.nodes p).decided ≤ length (w.nodes q).log
    chosen s =
        let n : ℕ = (w.nodes p).decided in
        let o = i.nodes q in
        let voted = (i.hist).voted q (w.nodes q).accepted (omega (arith, o.vote)) in
        let c = core ms _ g i.hist s.at n (w.nodes q).accepted s.chosen (omega (arith, s.low, later)) voted.0 in
        omega (arith, c.0, voted.1, o.vote)

-- ---- nodes beside it
module _ (members spares : List ℕ) (hs : List Happening) (range : RunInRange members spares hs) where
  abbrev beside : (ks : List worlds.Happening) × IsBeside members ks (execution_of (first_execution members spares) hs)
  beside = every_run_is_beside members spares (range).first (range).others hs (range).happenings

  abbrev ks : List worlds.Happening
  ks = (beside).0

  -- the part is one of the pure machine
  record Seen (p : ℕ) (a : StoredPart) : Type 0 where
    part : Part
    has : (state_of members ks p).part ≡ Some part
    memory : Volatile
    rel : PartRel (all_before (lists_of members ks) part.conf) a memory part

  seen_at : (p : ℕ) (a : StoredPart) → StoresThere (run_of (first_world members spares) hs) p a → Seen p a
  seen_at p a k =
      let t : Execution = execution_of (first_execution members spares) hs in
      let v : Volatile = (k.node).state.volatile in
      let here : node_at t.world.nodes p ≡ Some k.node = ap (λ (w : World). node_at w.nodes p) (world_of_run (first_execution members spares) hs) ∙ k.at in
      let r : IfThere (NodeRel members ks t.world.messages) p (Some k.node) = subst (IfThere (NodeRel members ks t.world.messages) p) here (found (NodeRel members ks t.world.messages) t.world.nodes ((beside).1).nodes p) in
      let rel : IfPartRel (lists_of members ks) (Some a) v (state_of members ks p).part =
      subst (λ (o : Option StoredPart). IfPartRel (lists_of members ks) o v (state_of members ks p).part) k.has (subst (λ (q : ℕ). IfPartRel (lists_of members ks) (k.node).state.durable.part v (state_of members ks q).part) r.0 ((r.1).rel).part) in
      by_part v (state_of members ks p).part refl rel
    where
      by_part : (v : Volatile) (o : Option Part) → (state_of members ks p).part ≡ o → IfPartRel (lists_of members ks) (Some a) v o → Seen p a
      by_part v None at rel = absurd rel
      by_part v (Some pt) at rel = record { part = pt; has = at; memory = v; rel = rel }

  -- the members of configuration 1, by what happened inside it
  abbrev ms : List ℕ
  ms = members_of members (lists_of members ks) 1

  abbrev inner : paxos.World
  inner = view members (lists_of members ks) (world_of members ks) 1

  abbrev invariant : (g : History) × Invariant ms inner g
  invariant = let a = run_on ms ((world_of members ks).inner 1) paxos.start runs.first (runs.start_ok ms) in (a.0, a.1)

  node_is : (p : ℕ) (a : StoredPart) (k : Seen p a) → a.conf ≡ 1 → (inner).nodes p ≡ ((k.part).node)
  node_is p a k conf = (each_is_a_run members ks 1).nodes p k.part k.has (sym (k.rel).conf ∙ conf)

  size_is : (p : ℕ) (a : StoredPart) (k : Seen p a) → a.conf ≡ 1 → length ((inner).nodes p).log ≡ len_of a
  size_is p a k conf =
      ap (λ (n : pure.Node). length n.log) (node_is p a k conf) ∙ ap (λ (n : pure.Node). length n.log) (sym (k.rel).seen) ∙ sym (len_of-whole (k.rel).front a (k.rel).fits)

  decided_is : (p : ℕ) (a : StoredPart) (k : Seen p a) → a.conf ≡ 1 → ((inner).nodes p).decided ≡ a.decided
  decided_is p a k conf = ap (λ (n : pure.Node). n.decided) (node_is p a k conf) ∙ ap (λ (n : pure.Node). n.decided) (sym (k.rel).seen)

  accepted_is : (p : ℕ) (a : StoredPart) (k : Seen p a) → a.conf ≡ 1 → ((inner).nodes p).accepted ≡ rank a.accepted
  accepted_is p a k conf = ap (λ (n : pure.Node). n.accepted) (node_is p a k conf) ∙ ap (λ (n : pure.Node). n.accepted) (sym (k.rel).seen)

  -- no log is longer than there are positions
  pub log_fits : (p : ℕ) (a : StoredPart) → StoresThere (run_of (first_world members spares) hs) p a → a.conf ≡ 1 → len_of a ≤ positions_end
  log_fits p a at conf =
      let k = seen_at p a at in
      let g : History = (invariant).0 in
      let i = (invariant).1 in
      let short : length ((inner).nodes p).log ≤ positions_end = log_short ms (promises inner) (accepts inner) g p ((inner).nodes p) i.hist (i.nodes p) in
      subst (λ (n : ℕ). n ≤ positions_end) (size_is p a k conf) short

  -- what is decided is in the log
  pub decided_fits : (p : ℕ) (a : StoredPart) → StoresThere (run_of (first_world members spares) hs) p a → a.conf ≡ 1 → a.decided ≤ len_of a
  decided_fits p a at conf =
      let k = seen_at p a at in
      let fits : ((inner).nodes p).decided ≤ length ((inner).nodes p).log = ((invariant).1.nodes p).fits in
      omega (arith, fits, size_is p a k conf, decided_is p a k conf)

  -- and in each log of a later round
  pub decided_reaches : (p q : ℕ) (a c : StoredPart) → StoresThere (run_of (first_world members spares) hs) p a → StoresThere (run_of (first_world members spares) hs) q c → a.conf ≡ 1 → c.conf ≡ 1 → is_below a.accepted c.accepted ≡ true
      → a.decided ≤ len_of c
  decided_reaches p q a c at_p at_q conf_p conf_q below =
      let k = seen_at p a at_p in
      let j = seen_at q c at_q in
      let low : rank a.accepted < rank c.accepted = ltb-true (rank a.accepted) (rank c.accepted) (sym (is_below-rank a.accepted c.accepted (k.rel).small.1 (j.rel).small.1) ∙ below) in
      let later : ((inner).nodes p).accepted < ((inner).nodes q).accepted = omega (arith, low, accepted_is p a k conf_p, accepted_is q c j conf_q) in
      let le : ((inner).nodes p).decided ≤ length ((inner).nodes q).log = reaches ms inner (invariant).0 (invariant).1 p q later in
      omega (arith, le, size_is q c j conf_q, decided_is p a k conf_p)

-- ---- what a member answers
-- what q, which stores c, tells one that stores a
abbrev pub answer_to : StoredPart → ℕ → StoredPart → Promised
answer_to a q c =
    let start : ℕ = suffix_start c a.accepted (len_of a) a.decided in
    record { from = q; accepted = c.accepted; len = len_of c; decided = c.decided; start = start; entries = log_from c start }

-- its log from where it may be lacking, which isn't trimmed past that
pub behind : (c : StoredPart) (at : ℕ) → c.trimmed ≤ at → at ≤ len_of c → at + length (log_from c at) ≡ len_of c
behind c at low high = omega (arith, low, high, length-drop (at - c.trimmed) c.tail.items)

behind_low : (c : StoredPart) (at : ℕ) → c.trimmed ≤ at → (at + length (log_from c at) ≤ at) ⊎ (at + length (log_from c at) ≤ len_of c)
behind_low c at low = ⊎_elim (λ (x : len_of c < at). inl (omega (arith, x, length-drop (at - c.trimmed) c.tail.items))) (λ (x : at ≤ len_of c). inr (omega (arith, behind c at low x))) (cases_lt (len_of c) at)

module _ (a c : StoredPart) (q : ℕ) (conf : a.conf ≡ 1) (short : len_of a ≤ positions_end) (short_q : len_of c ≤ positions_end) (within : a.decided ≤ len_of a) (trimmed : c.trimmed ≤ suffix_start c a.accepted (len_of a) a.decided) (reach : is_below a.accepted c.accepted ≡ true → a.decided ≤ len_of c) where
  abbrev at : ℕ
  at = suffix_start c a.accepted (len_of a) a.decided

  at_low : at ≤ positions_end
  at_low =
      cond_both (is_below a.accepted c.accepted) _ _ (λ (x : ℕ). x ≤ positions_end) (λ _. least a.decided (len_of a) positions_end within short)
      (λ _. cond_both (is_same_ballot c.accepted a.accepted) _ _ (λ (x : ℕ). x ≤ positions_end) (λ _. short) (λ _. short_q))
    where
      least : (x y z : ℕ) → x ≤ y → y ≤ z → x ≤ z
      least x y z e f = omega (arith, e, f)

  admitted_there : is_admitted a at (log_from c at) ≡ true
  admitted_there =
      let es : List Entry = log_from c at in
      and_from (leb (at + length es) positions_end) (not (eqb a.conf last_conf && has_stop es))
      (le-leb (at + length es) positions_end (⊎_elim (λ (x : at + length es ≤ at). least (at + length es) at positions_end x at_low) (λ (x : at + length es ≤ len_of c). least (at + length es) (len_of c) positions_end x short_q) (behind_low c at trimmed)))
      (ap (λ (n : ℕ). not (eqb n last_conf && has_stop es)) conf)
    where
      least : (x y z : ℕ) → x ≤ y → y ≤ z → x ≤ z
      least x y z e f = omega (arith, e, f)

  abbrev Usable : ℕ → ℕ → Bool
  Usable size x = not (is_above c.accepted (len_of c) a.accepted (len_of a)) || (leb a.decided x && (leb x (len_of a) && eqb (x + size) (len_of c)))

  goes_on : (size x : ℕ) → a.decided ≤ x → x ≤ len_of a → x + size ≡ len_of c → Usable size x ≡ true
  goes_on size x from to ends =
      or_right (not (is_above c.accepted (len_of c) a.accepted (len_of a))) _
      (and_from (leb a.decided x) _ (le-leb a.decided x from) (and_from (leb x (len_of a)) _ (le-leb x (len_of a) to) (eq-eqb (x + size) (len_of c) ends)))

  abbrev above : Bool
  above = is_above c.accepted (len_of c) a.accepted (len_of a)

  -- nothing is brought by a log that isn't above
  none_above : (size x : ℕ) → above ≡ false → Usable size x ≡ true
  none_above size x e = or_left (not above) _ (ap not e)

  -- entries that go from there to the log's end are adopted, or not needed
  pub usable : (es : List Entry) → (at ≤ len_of c → at + length es ≡ len_of c) → is_usable a (record { from = q; accepted = c.accepted; len = len_of c; decided = c.decided; start = at; entries = es }) ≡ true
  usable es ends = by_round (is_below a.accepted c.accepted) (is_same_ballot c.accepted a.accepted) refl refl
    where
      later_is : is_below a.accepted c.accepted ≡ true → at ≡ a.decided
      later_is e = ap (λ (t : Bool). cond t a.decided (cond (is_same_ballot c.accepted a.accepted) (len_of a) (len_of c))) e

      same_is : is_below a.accepted c.accepted ≡ false → is_same_ballot c.accepted a.accepted ≡ true → at ≡ len_of a
      same_is e f = ap (λ (t : Bool). cond t a.decided (cond (is_same_ballot c.accepted a.accepted) (len_of a) (len_of c))) e ∙ ap (λ (t : Bool). cond t (len_of a) (len_of c)) f

      not_later : is_below a.accepted c.accepted ≡ false → above ≡ (is_same_ballot c.accepted a.accepted && ltb (len_of a) (len_of c))
      not_later e = ap (λ (t : Bool). t || (is_same_ballot c.accepted a.accepted && ltb (len_of a) (len_of c))) e

      by_round : (x y : Bool) → is_below a.accepted c.accepted ≡ x → is_same_ballot c.accepted a.accepted ≡ y → Usable (length es) at ≡ true
      by_round true y e f =
          subst (λ (x : ℕ). Usable (length es) x ≡ true) (sym (later_is e)) (goes_on (length es) a.decided (omega arith) within (subst (λ (x : ℕ). x ≤ len_of c → x + length es ≡ len_of c) (later_is e) ends (reach e)))
      by_round false true e f =
          ⊎_elim
          (λ (less : len_of c < len_of a). none_above (length es) at (not_later e ∙ ap (λ (t : Bool). t && ltb (len_of a) (len_of c)) f ∙ le-ltb (len_of a) (len_of c) (omega (arith, less))))
          (λ (le : len_of a ≤ len_of c). subst (λ (x : ℕ). Usable (length es) x ≡ true) (sym (same_is e f)) (goes_on (length es) (len_of a) within (omega arith) (subst (λ (x : ℕ). x ≤ len_of c → x + length es ≡ len_of c) (same_is e f) ends le)))
          (cases_lt (len_of c) (len_of a))
      by_round false false e f = none_above (length es) at (not_later e ∙ ap (λ (t : Bool). t && ltb (len_of a) (len_of c)) f)

  pub may_adopt : MayAdopt (answer_to a q c) (Some a)
  may_adopt = (admitted_there, usable (log_from c at) (behind c at trimmed))
