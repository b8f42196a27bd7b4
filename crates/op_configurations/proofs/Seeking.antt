-- A server that is no member of a configuration may ask for a Prepare in it: that changes nothing but the messages.
use Rattle.std.proofs.Common.{◌≡◌, ℕ, suc, inl, inr, ⊎_elim, List, [], ◌∷◌, ◌++◌, Bool, true, false, cond, ◌==◌, refl, sym, ap, ◌∙◌, subst, arith, append-nil, Option, Some, None}
use Rattle.std.proofs.lemmas.Bool.{cases_eq, eq-eqb, ne_eqb}
use Rattle.op_types.specs.declared.log.Entry.{Entry}
use Rattle.op_spec.specs.Machine.{IsAmong, with_at}
use Rattle.op_paxos.specs.Nodes.{Node}
use Rattle.op_paxos.specs.Messages.{PrepareReq, packet}
use Rattle.op_paxos.specs.Worlds as paxos
use Rattle.op_paxos.specs.Worlds.{Up, stepped}
use Rattle.op_paxos.specs.Agreement.{proposals}
use Rattle.op_paxos.proofs.Updates.{upd_at, upd_other, upd_both}
use Rattle.op_paxos.proofs.Membership.{in_append}
use Rattle.op_configurations.specs.Servers.{Closed, State, Letter, Inner, Done, Inside, Stepped, letter}
use Rattle.op_configurations.specs.Worlds.{inner_of}
use Rattle.op_configurations.proofs.Among.{In}
use Rattle.op_configurations.proofs.Runs.{acts, one_more}
use Rattle.op_configurations.proofs.Tale.{Tale, inst, TaleOk, ClosedOk, StateOk, LetterOk, Onward, onward_on, linked_on, state_on}
use Rattle.op_configurations.proofs.Moved.{true_false, proposals_append}
use Rattle.op_configurations.proofs.Rising.{rises_same}
use Rattle.op_configurations.proofs.Keeping.{keeps_same}
use Rattle.op_configurations.proofs.Entered.{Opening, opening}
use Rattle.op_configurations.proofs.Acting.{StepGood, low_of, single}

-- a session's request, in a configuration that is open
module _ (first : List ℕ) (pr : ℕ → List Entry) (t : Tale) (ok : TaleOk first pr t) (p q c : ℕ) (opened : t.opened c ≡ true) where
  abbrev event : paxos.Event
  event = paxos.Links p q

  abbrev next : Tale
  next = record { members = t.members; opened = t.opened; events = with_at c (t.events c ++ event ∷ []) t.events }

  inst_here : inst next c ≡ stepped (inst t c) p (record { node = (inst t c).nodes p; sends = packet p q PrepareReq ∷ [] })
  unfolding paxos.step
  inst_here =
      ap (λ (es : List paxos.Event). paxos.run (t.members c) es paxos.start) (upd_at t.events c (t.events c ++ event ∷ []))
      ∙ one_more (t.members c) (t.events c) event ∙ acts (t.members c) (inst t c) p 0 Done (Up q) tt

  inst_other : (k : ℕ) → (k ≡ c → ⊥) → inst next k ≡ inst t k
  inst_other k n = ap (λ (es : List paxos.Event). paxos.run (t.members k) es paxos.start) (upd_other t.events c k (t.events c ++ event ∷ []) n)

  pub next_on : Onward t next
  next_on = record {
    opened = λ k d. d;
    members = λ k d. refl;
    events = λ k d. upd_both (λ (es : List paxos.Event). (more : List paxos.Event) × (es ≡ t.events k ++ more)) t.events c k (t.events c ++ event ∷ [])
        (λ e. (event ∷ [], ap (λ (r : ℕ). t.events r ++ event ∷ []) (sym e))) (λ n. ([], sym (append-nil (t.events k))));
  }

  -- no node changes
  pub nodes_same : (r k : ℕ) → (inst next k).nodes r ≡ (inst t k).nodes r
  nodes_same r k =
      ⊎_elim (λ (e : k ≡ c). ap (λ (x : ℕ). (inst next x).nodes r) e ∙ ap (λ (w : paxos.World). w.nodes r) inst_here
      ∙ upd_both (λ (nd : Node). nd ≡ (inst t c).nodes r) (inst t c).nodes p r ((inst t c).nodes p) (λ d. ap (inst t c).nodes (sym d)) (λ d. refl)
      ∙ ap (λ (x : ℕ). (inst t x).nodes r) (sym e))
      (λ (d : k ≡ c → ⊥). ap (λ (w : paxos.World). w.nodes r) (inst_other k d)) (cases_eq k c)

  pub next_ok : TaleOk first pr next
  next_ok = record {
    one = ok.one;
    first_members = ok.first_members;
    low = ok.low;
    empty = λ k d. upd_other t.events c k (t.events c ++ event ∷ []) (λ e. true_false (t.opened k) (ap t.opened e ∙ opened) d) ∙ ok.empty k d;
    linked = λ k pos d. linked_on t next next_on k d (ok.linked k pos d);
    proposed = λ k x. upd_both (λ (es : List paxos.Event). In x (proposals es) → IsAmong (pr k) x) t.events c k (t.events c ++ event ∷ [])
        (λ e j. ⊎_elim (λ (a : In x (proposals (t.events c))). subst (λ (r : ℕ). IsAmong (pr r) x) (sym e) (ok.proposed c x a)) (λ (b : In x (proposals (event ∷ []))). absurd b)
        (in_append x (proposals (t.events c)) (proposals (event ∷ [])) (subst (In x) (proposals_append (t.events c) (event ∷ [])) j)))
        (λ n j. ok.proposed k x j);
  }

  events_are : (k : ℕ) → next.events k ≡ t.events k ++ cond (k == c) (event ∷ []) []
  events_are k =
      upd_both (λ (es : List paxos.Event). es ≡ t.events k ++ cond (k == c) (event ∷ []) []) t.events c k (t.events c ++ event ∷ [])
      (λ e. ap (λ r. t.events r ++ event ∷ []) (sym e) ∙ ap (λ (b : Bool). t.events k ++ cond b (event ∷ []) []) (sym (eq-eqb k c e)))
      (λ d. sym (append-nil (t.events k)) ∙ ap (λ (b : Bool). t.events k ++ cond b (event ∷ []) []) (sym (ne_eqb k c d)))

  packets_are : (k : ℕ) → (inst next k).packets ≡ (inst t k).packets ++ inner_of k (letter p q c (Inner PrepareReq) ∷ [])
  packets_are k =
      ⊎_elim (λ (e : k ≡ c). ap (λ (x : ℕ). (inst next x).packets) e ∙ ap (λ (w : paxos.World). w.packets) inst_here
      ∙ ap (λ (x : ℕ). (inst t x).packets ++ packet p q PrepareReq ∷ []) (sym e)
      ∙ ap (λ (b : Bool). (inst t k).packets ++ cond b (packet p q PrepareReq ∷ []) []) (sym (eq-eqb c k (sym e))))
      (λ (d : k ≡ c → ⊥). ap (λ (w : paxos.World). w.packets) (inst_other k d) ∙ sym (append-nil (inst t k).packets)
      ∙ ap (λ (b : Bool). (inst t k).packets ++ cond b (packet p q PrepareReq ∷ []) []) (sym (ne_eqb c k (λ x. d (sym x))))) (cases_eq k c)

-- a server without a part asks in the configuration behind its closed list
module _ (first : List ℕ) (pr : ℕ → List Entry) (t : Tale) (ok : TaleOk first pr t) (soup : List Letter) (p q : ℕ) (st : State) (h : StateOk t p st) (k : Closed) (has : st.closed ≡ Some k) where
  abbrev asked : Stepped
  asked = record { state = st; sends = letter p q (suc k.conf) (Inner PrepareReq) ∷ []; inside = record { conf = suc k.conf; fate = Done; input = Up q; number = 0 } ∷ [] }

  pub asked_good : StepGood first pr t soup p Done st asked
  asked_good =
      let kh : ClosedOk t k = h.closed k has in
      let op : Opening first pr t k.conf kh.sign = opening first pr t ok k.conf k.list kh.sign kh.whole in
      let c : ℕ = suc k.conf in
      let u : Tale = next first pr op.tale op.ok p q c op.opened in
      let on : Onward t u = onward_on t op.tale u op.onward (next_on first pr op.tale op.ok p q c op.opened) in
      let same : (r x : ℕ) → (inst u x).nodes r ≡ (inst t x).nodes r = λ r x. nodes_same first pr op.tale op.ok p q c op.opened r x ∙ ap (λ (w : paxos.World). w.nodes r) (op.same x) in
      record {
        tale = u;
        ok = next_ok first pr op.tale op.ok p q c op.opened;
        onward = on;
        state = state_on t u on p st (λ x. same p x) h;
        sends = single (LetterOk u) (letter p q c (Inner PrepareReq)) tt;
        others = λ r x n. same r x;
        own = λ x. inl (ap (λ (nd : Node). Rattle.std.proofs.Common.take nd.decided nd.log) (same p x));
        rises = rises_same st st refl refl;
        low = low_of t p st h;
        kept = keeps_same st st refl;
        events = λ x. events_are first pr op.tale op.ok p q c op.opened x ∙ ap (λ (es : List paxos.Event). es ++ cond (x == c) (paxos.Links p q ∷ []) []) (op.events x);
        sent = λ x. packets_are first pr op.tale op.ok p q c op.opened x ∙ ap (λ (w : paxos.World). w.packets ++ inner_of x (letter p q c (Inner PrepareReq) ∷ [])) (op.same x);
        quiet = λ e. absurd (not_stopped e);
      }
    where
      not_stopped : Done ≡ Rattle.op_configurations.specs.Servers.Stopped → ⊥
      not_stopped e = cc
