-- What a leader may answer a read from is fresh.
use Rattle.std.proofs.Common.{◌≡◌, ℕ, ◌+◌, ◌-◌, ◌*◌, ◌<◌, ◌≤◌, inl, inr, ⊎_elim, List, [], ◌∷◌, ◌++◌, length, take, drop, refl, sym, ap, ◌∙◌, subst, arith, Option, Some, None, length-append}
use Rattle.std.specs.Prelude.{nat_lt}
use Rattle.std.proofs.lemmas.Bool.{cond_both, cases_lt, cases_order, ltb-true}
use Rattle.std.proofs.lemmas.List.{length-drop, length-take-le, take-take, take-append-drop}
use Rattle.op_types.specs.declared.log.Entry.{Entry}
use Rattle.op_spec.specs.Machine.{Machine}
use Rattle.op_spec.specs.Ledger.{machine_proposing}
use Rattle.op_quorum.specs.Quorums.{passing}
use Rattle.op_paxos.specs.Nodes.{Node, owner}
use Rattle.op_paxos.specs.Worlds.{Input, World, Event, Leads, Proposes, Delivers, Restarts, Trims, Links, Asks, Unlinks, Stops, input_of, happens, start}
use Rattle.op_paxos.specs.Ledger.{refuses, proposing_each, Execution, showing, proposing, showing_at, execution_with, execution_of, first_execution, ledger}
use Rattle.op_paxos.specs.Exchange.{world_before, node_before}
use Rattle.op_paxos.proofs.Majorities.{shared}
use Rattle.op_paxos.proofs.History.{History, Chosen, core}
use Rattle.op_paxos.proofs.Invariant.{NodeOk, LeadOk, RoleOk}
use Rattle.op_paxos.proofs.OneStep.{promises, accepts}
use Rattle.op_paxos.proofs.Runs.{first}
use Rattle.op_paxos.proofs.Ledgers.{start_kept, kept_at, execution_world}
use Rattle.op_paxos.proofs.Updates.{upd_here}
use Rattle.op_fresh.specs.Fresh.{MayAnswer, IsFresh, AreFresh}
use Rattle.op_fresh.proofs.Backing.{Backed, Onward, onward_same, onward_on, chosen_low, backed_low, Backs, happens_backs, start_backs}

-- ---- a run with its list
-- the list is backed too
pub record Stays (ms : List ℕ) (conf : ℕ) (t : Execution) (g : History) : Type 0 where
  pub backs : Backs ms t.world g
  pub list : Backed ms t.world g (length ((t.machine).lists conf))

-- it goes on to this run
pub record StaysOn (ms : List ℕ) (conf : ℕ) (t : Execution) (g : History) (u : Execution) : Type 0 where
  pub history : History
  pub stays : Stays ms conf u history
  pub onward : Onward t.world g u.world history

-- proposing leaves the lists
each_lists : (m : Machine) (conf : ℕ) (es : List Entry) → (proposing_each m conf es).lists ≡ m.lists
each_lists m conf [] = refl
each_lists m conf (e ∷ es) = each_lists (machine_proposing m conf e) conf es

proposing_lists : (m : Machine) (conf : ℕ) (w : World) (e : Event) → (proposing m conf w e).lists ≡ m.lists
proposing_lists m conf w (Proposes p es) = cond_both (refuses (w.nodes p) es) m (proposing_each m conf es) (λ (x : Machine). x.lists ≡ m.lists) (λ d. refl) (λ d. each_lists m conf es)
proposing_lists m conf w (Stops e) = proposing_lists m conf w e
proposing_lists m conf w (Leads p n) = refl
proposing_lists m conf w (Delivers i) = refl
proposing_lists m conf w (Restarts p) = refl
proposing_lists m conf w (Trims p) = refl
proposing_lists m conf w (Links p q) = refl
proposing_lists m conf w (Asks p heard) = refl
proposing_lists m conf w (Unlinks p q) = refl

-- a node shows what is backed
shown_backed : (ms : List ℕ) (conf : ℕ) (w : World) (g : History) → Backs ms w g → (m : Machine) → Backed ms w g (length (m.lists conf)) → (k : Option (ℕ × Input)) → Backed ms w g (length ((showing_at m conf w k).lists conf))
shown_backed ms conf w g b m l None = l
shown_backed ms conf w g b m l (Some x) =
    let n = w.nodes x.0 in
    let list = m.lists conf in
    let shown = take n.decided n.log in
    let is : length ((showing m conf x.0 n).lists conf) ≡ length list + (length shown - length list) = ap (λ (y : List Entry). length y) (upd_here m.lists conf conf (list ++ drop (length list) shown) refl) ∙ omega (arith, length-append list (drop (length list) shown), length-drop (length list) shown) in
    let fits = length-take-le n.decided n.log (b.inv.nodes x.0).fits in
    ⊎_elim (λ (lt : length list < n.decided). backed_low ms w g w g (onward_same w g) n.decided _ (omega (arith, is, fits, lt)) (b.nodes x.0))
    (λ (le : n.decided ≤ length list). backed_low ms w g w g (onward_same w g) (length list) _ (omega (arith, is, fits, le)) l)
    (cases_lt (length list) n.decided)

module _ (ms : List ℕ) (conf : ℕ) where
  event_stays : (t : Execution) (g : History) → Stays ms conf t g → (e : Event) → StaysOn ms conf t g (execution_with ms conf t e)
  event_stays t g s e =
      let h = happens_backs ms t.world g s.backs e in
      let m = proposing t.machine conf t.world e in
      let list : Backed ms (happens ms t.world e) h.history (length (m.lists conf)) =
      subst (λ (ls : ℕ → List Entry). Backed ms (happens ms t.world e) h.history (length (ls conf))) (sym (proposing_lists t.machine conf t.world e))
      (backed_low ms t.world g (happens ms t.world e) h.history h.onward (length ((t.machine).lists conf)) (length ((t.machine).lists conf)) (omega arith) s.list) in
      record {
        history = h.history;
        stays = record { backs = h.backs; list = shown_backed ms conf (happens ms t.world e) h.history h.backs m list (input_of t.world e) };
        onward = h.onward;
      }

  run_stays : (es : List Event) (t : Execution) (g : History) → Stays ms conf t g → StaysOn ms conf t g (execution_of ms conf es t)
  unfolding execution_of
  run_stays [] t g s = record { history = g; stays = s; onward = onward_same t.world g }
  run_stays (e ∷ es) t g s =
      let a = event_stays t g s e in
      let b = run_stays es (execution_with ms conf t e) a.history a.stays in
      record { history = b.history; stays = b.stays; onward = onward_on t.world _ _ g a.history b.history a.onward b.onward }

  execution_append : (early late : List Event) (t : Execution) → execution_of ms conf (early ++ late) t ≡ execution_of ms conf late (execution_of ms conf early t)
  unfolding execution_of
  execution_append [] late t = refl
  execution_append (e ∷ early) late t = execution_append early late (execution_with ms conf t e)

  start_stays : Stays ms conf (first_execution ms) first
  start_stays = record { backs = start_backs ms; list = inl refl }

  -- ---- moments
  module _ (events : List Event) where
    -- the run up to moment i
    abbrev T : ℕ → Execution
    T i = execution_of ms conf (take i events) (first_execution ms)

    split : (i j : ℕ) → i ≤ j → T j ≡ execution_of ms conf (drop i (take j events)) (T i)
    split i j le =
        ap (λ es. execution_of ms conf es (first_execution ms)) (sym (take-append-drop i (take j events)) ∙ ap (λ es. es ++ drop i (take j events)) (take-take i j events le))
        ∙ execution_append (take i events) (drop i (take j events)) (first_execution ms)

    -- from a moment to a later one
    onwards : (i j : ℕ) → i ≤ j → (g : History) → Stays ms conf (T i) g → StaysOn ms conf (T i) g (T j)
    onwards i j le g s = subst (λ u. StaysOn ms conf (T i) g u) (sym (split i j le)) (run_stays (drop i (take j events)) (T i) g s)

    world_is : (i : ℕ) → (T i).world ≡ world_before ms start events i
    world_is i = execution_world ms conf (take i events) (first_execution ms)

    module _ (n p i j : ℕ) (m : MayAnswer ms events n p i j) where
      early : StaysOn ms conf (first_execution ms) first (T i)
      early = run_stays (take i events) (first_execution ms) first start_stays

      abbrev GI : History
      GI = early.history

      late : StaysOn ms conf (T i) GI (T j)
      late = onwards i j m.later GI early.stays

      abbrev GJ : History
      GJ = late.history

      abbrev P : Node
      P = (T j).world.nodes p

      node_is : P ≡ node_before ms start events j p
      node_is = ap (λ (w : World). w.nodes p) (world_is j)

      ok : NodeOk ms (promises (T j).world) (accepts (T j).world) GJ p P
      ok = late.stays.backs.inv.nodes p

      lead : LeadOk GJ p P m.leadership
      lead = subst (λ r. RoleOk ms (promises (T j).world) (accepts (T j).world) GJ p P r) (ap (λ (x : Node). x.role) node_is ∙ m.leads) ok.role

      decided_is : P.decided ≡ (node_before ms start events j p).decided
      decided_is = ap (λ (x : Node). x.decided) node_is

      -- none of a majority had accepted anything above n at moment i
      above : (a d : ℕ) → Chosen ms GI a d → n < a → ⊥
      above a d c lt =
          let s = shared ms (λ q. nat_lt d (GI.acc q a)) m.voters c (ltb-true (length ms) (2 * passing m.voters ms) m.majority) in
          let q = s.0 in
          let o = early.stays.backs.inv.nodes q in
          let f = m.confirmed q s.3 s.2 in
          let up = (onwards i f.at f.late GI early.stays).onward.promised q in
          let e = ap (λ (w : World). (w.nodes q).promised) (world_is f.at) in
          omega (arith, lt, o.last a (omega (arith, ltb-true d (GI.acc q a) s.1)), o.within, up, e, f.promised)

      -- what was backed at moment i the leader has decided at moment j
      reached : (d : ℕ) → Backed ms (T i).world GI d → d ≤ P.decided
      reached d (inl e) = omega (arith, e)
      reached d (inr b) =
          ⊎_elim
          (λ (e : b.at ≡ n). omega (arith, b.own, late.onward.decided (owner b.at), ap (λ x. ((T j).world.nodes (owner x)).decided) (e ∙ sym m.ballot), ap (λ x. ((T j).world.nodes x).decided) lead.owned))
          (⊎_elim
          (λ (l : b.at < n).
          let c = core ms (promises (T j).world) GJ late.stays.backs.inv.hist b.at d n (chosen_low ms GI GJ late.onward.later b.at d d (omega arith) b.chosen) l (omega (arith, lead.size_is, ap GJ.mark m.ballot)) in
          omega (arith, c.0, lead.size_is, ap GJ.mark m.ballot, m.decided, decided_is))
          (λ (l : n < b.at). absurd (above b.at d b.chosen l)))
          (cases_order b.at n)

      fresh : IsFresh ms conf events p i j
      fresh =
          let k = (kept_at ms conf (take j events) (first_execution ms) first (start_kept ms conf)).1.stands p in
          record {
            at_least = omega (arith, reached (length ((T i).machine.lists conf)) early.stays.list, decided_is);
            at_most = omega (arith, k.within, decided_is);
            prefix = subst (λ (w : World). take (w.nodes p).decided ((T j).machine.lists conf) ≡ take (w.nodes p).decided (w.nodes p).log) (world_is j) k.prefix;
          }

-- what anybody has decided at a moment stands in the list of that moment
pub decided_in_list : (ms : List ℕ) (conf : ℕ) (events : List Event) (i q : ℕ) → (node_before ms start events i q).decided ≤ length (ledger ms conf (take i events))
decided_in_list ms conf events i q =
    let k = (kept_at ms conf (take i events) (first_execution ms) first (start_kept ms conf)).1.stands q in
    omega (arith, k.within, ap (λ (w : World). (w.nodes q).decided) (world_is ms conf events i))

-- the clause fresh
pub are_fresh : AreFresh
are_fresh ms conf events n p i j m = fresh ms conf events n p i j m
