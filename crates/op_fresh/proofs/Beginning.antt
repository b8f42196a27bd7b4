-- In a ballot that a node begins to lead no read was asked before.
use Rattle.std.proofs.Common.{◌≡◌, ℕ, suc, ◌<◌, ◌≤◌, ◌⊎◌, inl, inr, ⊎_elim, List, [], ◌∷◌, ◌++◌, true, false, refl, sym, ap, ◌∙◌, subst, arith, None}
use Rattle.std.proofs.lemmas.Bool.{cond_both}
use Rattle.op_paxos.specs.Nodes.{owner, PreparingState, LeadingState, Role, Idle, Preparing, Leading, Node}
use Rattle.op_paxos.specs.Messages.{Effect}
use Rattle.op_paxos.specs.Worlds.{Input, step, World, Event, stopped, input_of, happens, run, start}
use Rattle.op_paxos.specs.Exchange.{is_stopped}
use Rattle.op_paxos.proofs.Moves.{Move, Resting, Tending, Extending, Idling, Promising, Asking, Gathering, Adopting, Taking, Appending, Filling}
use Rattle.op_paxos.proofs.StepMoves.{step_moves}
use Rattle.op_paxos.proofs.Roles.{roles_differ, same_lead, same_prep}
use Rattle.op_paxos.proofs.EventSteps.{Acts, what_happens, fate_is}
use Rattle.op_paxos.proofs.Updates.{upd_both}
use Rattle.op_paxos.proofs.History.{History}
use Rattle.op_paxos.proofs.OneStep.{Invariant}
use Rattle.op_paxos.proofs.Agreeing.{run_append}
use Rattle.op_paxos.proofs.Runs.{first, start_ok, happens_on, run_on}
use Rattle.op_paxos.proofs.StepKeeping.{steps_keep}
use Rattle.op_paxos.proofs.Roles.{lead_is}
use Rattle.op_fresh.specs.Reading.{Reading, ReadEvent, Happens, Asks, Hears, Counts, asked_as, reads_on, read_run, first_reading, NumbersBegin}

-- a node that leads b, or can no longer
pub record Spent (b : ℕ) (node : Node) : Type 0 where
  pub low : b ≤ node.promised
  pub unprepared : (r : PreparingState) → node.role ≡ Preparing r → r.ballot ≡ b → ⊥

idle_prepares : (r : PreparingState) → Idle ≡ Preparing r → ⊥
idle_prepares r e = cc

idle_leads : (l : LeadingState) → Idle ≡ Leading l → ⊥
idle_leads l e = cc

-- what a step leaves: it is spent still, and if it leads b then, it did before
record Keeps (b : ℕ) (nd nd' : Node) : Type 0 where
  spent : Spent b nd'
  led : (l : LeadingState) → nd'.role ≡ Leading l → l.ballot ≡ b → (k : LeadingState) × (nd.role ≡ Leading k) × (k.ballot ≡ b)

module _ (b : ℕ) (nd : Node) (s : Spent b nd) where
  -- the role stays
  same_role : (nd' : Node) → nd.promised ≤ nd'.promised → nd'.role ≡ nd.role → Keeps b nd nd'
  same_role nd' up e = record {
    spent = record { low = omega (arith, s.low, up); unprepared = λ r is same. s.unprepared r (sym e ∙ is) same };
    led = λ l is same. (l, sym e ∙ is, same);
  }

  -- it is idle
  idles : (nd' : Node) → nd.promised ≤ nd'.promised → nd'.role ≡ Idle → Keeps b nd nd'
  idles nd' up e = record {
    spent = record { low = omega (arith, s.low, up); unprepared = λ r is same. idle_prepares r (sym e ∙ is) };
    led = λ l is same. absurd (idle_leads l (sym e ∙ is));
  }

  -- it leads on
  leads_on : (nd' : Node) (k l : LeadingState) → nd.promised ≤ nd'.promised → nd.role ≡ Leading k → nd'.role ≡ Leading l → l.ballot ≡ k.ballot → Keeps b nd nd'
  leads_on nd' k l up was is e = record {
    spent = record { low = omega (arith, s.low, up); unprepared = λ r has same. roles_differ r l nd'.role has is };
    led = λ m has same. (k, was, sym e ∙ ap (λ (x : LeadingState). x.ballot) (same_lead l m nd'.role is has) ∙ same);
  }

  -- it prepares another ballot
  prepares : (nd' : Node) (r : PreparingState) → nd.promised ≤ nd'.promised → nd'.role ≡ Preparing r → (r.ballot ≡ b → ⊥) → Keeps b nd nd'
  prepares nd' r up is other = record {
    spent = record { low = omega (arith, s.low, up); unprepared = λ k has same. other (ap (λ (x : PreparingState). x.ballot) (same_prep r k nd'.role is has) ∙ same) };
    led = λ l has same. roles_differ r l nd'.role is has;
  }

  -- it begins to lead another ballot
  begins : (nd' : Node) (l : LeadingState) → nd.promised ≤ nd'.promised → nd'.role ≡ Leading l → (l.ballot ≡ b → ⊥) → Keeps b nd nd'
  begins nd' l up is other = record {
    spent = record { low = omega (arith, s.low, up); unprepared = λ r has same. roles_differ r l nd'.role has is };
    led = λ m has same. absurd (other (ap (λ (x : LeadingState). x.ballot) (same_lead l m nd'.role is has) ∙ same));
  }

  move_keeps : (ms : List ℕ) (p : ℕ) (i : Input) (o : Effect) → Move ms p nd i o → Keeps b nd o.node
  move_keeps ms p i o (Resting m) = same_role o.node (omega (arith, m.same.promised)) m.role
  move_keeps ms p i o (Tending m) = leads_on o.node m.lead m.next (omega (arith, m.same.promised)) m.was m.role m.ballot
  move_keeps ms p i o (Extending m) = leads_on o.node m.lead m.lead (omega (arith, m.promised)) m.was m.role refl
  move_keeps ms p i o (Idling m) = idles o.node (omega (arith, m.same.promised)) m.role
  move_keeps ms p i o (Promising m) =
      ⊎_elim (λ (x : (nd.promised < m.ballot) × ((o.node).role ≡ Idle)). idles o.node (omega (arith, m.up, m.promised)) x.1)
      (λ (x : (nd.promised ≡ m.ballot) × ((o.node).role ≡ nd.role)). same_role o.node (omega (arith, m.up, m.promised)) x.1) m.role
  move_keeps ms p i o (Asking m) = prepares o.node m.prep (omega (arith, m.up, m.promised)) m.role (λ e. omega (arith, e, m.up, s.low))
  move_keeps ms p i o (Gathering m) = prepares o.node m.next (omega (arith, m.same.promised)) m.role (λ e. s.unprepared m.prep m.was (sym m.ballot ∙ e))
  move_keeps ms p i o (Adopting m) =
      ⊎_elim
      (λ (x : ((o.node).promised ≡ nd.promised) × ((prep : PreparingState) × (nd.role ≡ Preparing prep) × (prep.ballot ≡ (m.lead).ballot) × (prep.buffer ≡ m.buffer))). begins o.node m.lead (omega (arith, x.0)) m.role (λ e. s.unprepared x.1.0 x.1.1 (x.1.2 ∙ e)))
      (λ (x : (nd.promised < (o.node).promised) × ((o.node).promised ≡ (m.lead).ballot)). begins o.node m.lead (omega (arith, x.0)) m.role (λ e. omega (arith, e, x.0, x.1, s.low)))
      m.promised
  move_keeps ms p i o (Taking m) = same_role o.node (omega (arith, m.promised)) m.role
  move_keeps ms p i o (Appending m) = same_role o.node (omega (arith, m.promised)) m.role
  move_keeps ms p i o (Filling m) = same_role o.node (omega (arith, m.promised)) m.role

-- ---- an event
module _ (ms : List ℕ) (w : World) (e : Event) (b q : ℕ) (s : Spent b (w.nodes q)) where
  fate_keeps : (p : ℕ) (i : Input) → q ≡ p → (o : Effect) → ((is_stopped e ≡ false) × (o ≡ step ms p (w.nodes p) i)) ⊎ ((is_stopped e ≡ true) × (o ≡ stopped (step ms p (w.nodes p) i))) → Keeps b (w.nodes q) o.node
  fate_keeps p i d o (inl f) =
      let at : Spent b (w.nodes p) = subst (λ r. Spent b (w.nodes r)) d s in
      subst (λ (x : Effect). Keeps b (w.nodes q) x.node) (sym f.1) (subst (λ r. Keeps b (w.nodes r) (step ms p (w.nodes p) i).node) (sym d) (move_keeps b (w.nodes p) at ms p i (step ms p (w.nodes p) i) (step_moves ms p (w.nodes p) i)))
  fate_keeps p i d o (inr f) =
      subst (λ (x : Effect). Keeps b (w.nodes q) x.node) (sym f.1) (idles b (w.nodes q) s (stopped (step ms p (w.nodes p) i)).node (omega (arith, (steps_keep ms p (w.nodes p) i).promised, ap (λ r. (w.nodes r).promised) d)) refl)

  event_keeps : Keeps b (w.nodes q) ((happens ms w e).nodes q)
  event_keeps =
      ⊎_elim
      (λ (x : (input_of w e ≡ None) × (happens ms w e ≡ w)). subst (λ (y : World). Keeps b (w.nodes q) (y.nodes q)) (sym x.1) (same_role b (w.nodes q) s (w.nodes q) (omega arith) refl))
      (λ (x : Acts ms w e). subst (λ (y : World). Keeps b (w.nodes q) (y.nodes q)) (sym x.now)
      (upd_both (λ (n : Node). Keeps b (w.nodes q) n) w.nodes x.node q _
      (λ d. fate_keeps x.node x.input d _ (fate_is e (step ms x.node (w.nodes x.node) x.input)))
      (λ d. same_role b (w.nodes q) s (w.nodes q) (omega arith) refl)))
      (what_happens ms w e)

-- ---- a run with reads
-- the owner of a ballot in which a read was asked leads it, or can no longer
record AllSpent (ms : List ℕ) (t : Reading) : Type 0 where
  history : History
  inv : Invariant ms t.world history
  spent : (b : ℕ) → 0 < t.asked b → Spent b (t.world.nodes (owner b))

asked_spent : (ms : List ℕ) (p : ℕ) (t : Reading) (role : Role) → (t.world.nodes p).role ≡ role → AllSpent ms t → AllSpent ms (asked_as p t role)
asked_spent ms p t Idle is a = a
asked_spent ms p t (Preparing r) is a = a
asked_spent ms p t (Leading l) is a =
    let o = lead_is ms t.world a.history a.inv p l is in
    record {
      history = a.history;
      inv = a.inv;
      spent = λ b. upd_both (λ x. 0 < x → Spent b (t.world.nodes (owner b))) t.asked l.ballot b (suc (t.asked l.ballot))
          (λ d pos. subst (λ q. Spent b (t.world.nodes q)) (sym (ap owner d ∙ o.owned)) (record {
            low = omega (arith, d, o.promised);
            unprepared = λ r has same. roles_differ r l (t.world.nodes p).role has is;
          }))
          (λ d pos. a.spent b pos);
    }

spent_on : (ms : List ℕ) (t : Reading) (e : ReadEvent) → AllSpent ms t → AllSpent ms (reads_on ms t e)
unfolding reads_on
spent_on ms t (Happens e) a =
    let h = happens_on ms t.world a.history a.inv e in
    record { history = h.0; inv = h.1; spent = λ b pos. (event_keeps ms t.world e b (owner b) (a.spent b pos)).spent }
spent_on ms t (Asks p) a = asked_spent ms p t (t.world.nodes p).role refl a
spent_on ms t (Hears x c r) a =
    cond_both _ _ _ (AllSpent ms) (λ h. record { history = a.history; inv = a.inv; spent = a.spent }) (λ h. a)
spent_on ms t (Counts c r x) a =
    cond_both _ _ _ (AllSpent ms) (λ h. record { history = a.history; inv = a.inv; spent = a.spent }) (λ h. a)

run_spent : (ms : List ℕ) (es : List ReadEvent) (t : Reading) → AllSpent ms t → AllSpent ms (read_run ms es t)
unfolding read_run
run_spent ms [] t a = a
run_spent ms (e ∷ es) t a = run_spent ms es (reads_on ms t e) (spent_on ms t e a)

-- the clause numbers
pub numbers_begin : NumbersBegin
numbers_begin ms events e p b l is same pos =
    let t = read_run ms events first_reading in
    let a = run_spent ms events first_reading (record { history = first; inv = start_ok ms; spent = λ c h. absurd (omega (arith, h)) }) in
    let h = happens_on ms t.world a.history a.inv e in
    let o = lead_is ms (happens ms t.world e) h.0 h.1 p l is in
    let k = event_keeps ms t.world e b (owner b) (a.spent b pos) in
    let d : owner b ≡ p = ap owner (sym same) ∙ o.owned in
    subst (λ q. (k : LeadingState) × ((t.world.nodes q).role ≡ Leading k) × (k.ballot ≡ b)) d (k.led l (ap (λ q. ((happens ms t.world e).nodes q).role) d ∙ is) same)

-- ---- between two moments

-- p leads ballot b in this world
abbrev pub LeadsIn : World → ℕ → ℕ → Type 0
LeadsIn w p b = (l : LeadingState) × ((w.nodes p).role ≡ Leading l) × (l.ballot ≡ b)

-- first one and then the other
keeps_then : (b : ℕ) (x y z : Node) → Keeps b x y → (Spent b y → Keeps b y z) → Keeps b x z
keeps_then b x y z k f =
    let m = f k.spent in
    record { spent = m.spent; led = λ l is same. let r = m.led l is same in k.led r.0 r.1 r.2 }

run_keeps : (ms : List ℕ) (es : List Event) (w : World) (b q : ℕ) → Spent b (w.nodes q) → Keeps b (w.nodes q) ((run ms es w).nodes q)
unfolding run
run_keeps ms [] w b q s = same_role b (w.nodes q) s (w.nodes q) (omega arith) refl
run_keeps ms (e ∷ es) w b q s =
    keeps_then b (w.nodes q) ((happens ms w e).nodes q) ((run ms es (happens ms w e)).nodes q) (event_keeps ms w e b q s) (λ t. run_keeps ms es (happens ms w e) b q t)

-- who leads a ballot is spent for it
leader_spent : (ms : List ℕ) (es : List Event) (p b : ℕ) → LeadsIn (run ms es start) p b → Spent b ((run ms es start).nodes p)
leader_spent ms es p b k =
    let a = run_on ms es start first (start_ok ms) in
    let o = lead_is ms (run ms es start) a.0 a.1 p k.0 k.1 in
    record { low = omega (arith, o.promised, k.2); unprepared = λ r has same. roles_differ r k.0 ((run ms es start).nodes p).role has k.1 }

-- what leads a ballot early and late leads it at each moment between
pub led_between : (ms : List ℕ) (early middle late : List Event) (p b : ℕ) → LeadsIn (run ms early start) p b → LeadsIn (run ms ((early ++ middle) ++ late) start) p b → LeadsIn (run ms (early ++ middle) start) p b
led_between ms early middle late p b was is =
    let s = leader_spent ms early p b was in
    let m : Spent b ((run ms (early ++ middle) start).nodes p) =
    subst (λ (w : World). Spent b (w.nodes p)) (sym (run_append ms early middle start)) (run_keeps ms middle (run ms early start) b p s).spent in
    let l : LeadsIn (run ms late (run ms (early ++ middle) start)) p b = subst (λ (w : World). LeadsIn w p b) (run_append ms (early ++ middle) late start) is in
    (run_keeps ms late (run ms (early ++ middle) start) b p m).led l.0 l.1 l.2
