-- How a node that prepares or leads goes on while nothing disturbs it.
use Rattle.std.proofs.Common.{◌≡◌, ℕ, ◌<◌, ◌≤◌, ◌⊎◌, inl, inr, ⊎_elim, List, ◌++◌, true, refl, sym, ap, ◌∙◌, subst, arith}
use Rattle.op_types.specs.declared.log.Entry.{Entry}
use Rattle.op_spec.specs.Machine.{IsAmong}
use Rattle.op_paxos.specs.Nodes.{PreparingState, LeadingState, Idle, Preparing, Leading, Node}
use Rattle.op_paxos.specs.Messages.{Effect}
use Rattle.op_paxos.specs.Worlds.{Input, Down, World}
use Rattle.op_paxos.specs.Exchange.{Interrupts}
use Rattle.op_paxos.proofs.History.{History}
use Rattle.op_paxos.proofs.OneStep.{Invariant}
use Rattle.op_paxos.proofs.Runs.{Known}
use Rattle.op_paxos.proofs.Moves.{Extends, Adopts, Move, Resting, Tending, Extending, Idling, Promising, Asking, Gathering, Adopting, Taking, Appending, Filling}
use Rattle.op_paxos.proofs.Roles.{roles_differ, same_lead, same_prep, lead_is, prep_is, leader_same, filled_same}

-- a leader goes on: it leads, keeps what was acknowledged and who is synced, and its log grows by entries that it tells
pub record LeadsOn (ms : List ℕ) (p : ℕ) (others : List ℕ) (nd : Node) (i : Input) (l : LeadingState) (o : Effect) : Type 0 where
  pub next : LeadingState
  pub role : (o.node).role ≡ Leading next
  pub ballot : next.ballot ≡ l.ballot
  pub acked : (q : ℕ) → l.acked q ≤ next.acked q
  pub synced : (q : ℕ) → IsAmong others q → l.synced q ≡ true → next.synced q ≡ true
  pub log : ((o.node).log ≡ nd.log) ⊎ ((x : Extends ms p nd i o) × (x.lead ≡ l))

-- one that prepares goes on: it prepares, with what is buffered, or it begins to lead
pub record PreparesOn (r : PreparingState) (o : Effect) : Type 0 where
  pub next : PreparingState
  pub role : (o.node).role ≡ Preparing next
  pub ballot : next.ballot ≡ r.ballot
  pub buffer : (next.buffer ≡ r.buffer) ⊎ ((es : List Entry) × (next.buffer ≡ r.buffer ++ es))

module _ (ms : List ℕ) (w : World) (g : History) (i : Invariant ms w g) (p : ℕ) where
  module _ (input : Input) (known : Known w p input) (o : Effect) (others : List ℕ) (alone : Interrupts others input → ⊥) where
    module _ (l : LeadingState) (was : (w.nodes p).role ≡ Leading l) (low : (o.node).promised ≤ l.ballot) where
      same_on : (o.node).role ≡ (w.nodes p).role → (o.node).log ≡ (w.nodes p).log → LeadsOn ms p others (w.nodes p) input l o
      same_on e f = record { next = l; role = e ∙ was; ballot = refl; acked = λ q. omega arith; synced = λ q j h. h; log = inl f }

      -- an undisturbed leader goes on
      pub leads_on : Move ms p (w.nodes p) input o → LeadsOn ms p others (w.nodes p) input l o
      leads_on (Resting k) = same_on k.role (k.same).log
      leads_on (Tending k) =
          let e = same_lead k.lead l (w.nodes p).role k.was was in
          record {
            next = k.next;
            role = k.role;
            ballot = k.ballot ∙ ap (λ (y : LeadingState). y.ballot) e;
            acked = λ q. omega (arith, k.acked q, ap (λ (y : LeadingState). y.acked q) e);
            synced = λ q j h. ⊎_elim (λ (x : (k.next).synced q ≡ true). x) (λ (x : input ≡ Down q). absurd (alone (subst (λ (y : Input). Interrupts others y) (sym x) j))) (k.synced q (ap (λ (y : LeadingState). y.synced q) e ∙ h));
            log = inl (k.same).log;
          }
      leads_on (Extending k) =
          let e = same_lead k.lead l (w.nodes p).role k.was was in
          record { next = l; role = k.role ∙ ap Leading e; ballot = refl; acked = λ q. omega arith; synced = λ q j h. h; log = inr (k, e) }
      leads_on (Idling k) = absurd (alone (subst (λ (y : Input). Interrupts others y) (sym k.input) tt))
      leads_on (Promising k) = ⊎_elim
          (λ (x : ((w.nodes p).promised < k.ballot) × ((o.node).role ≡ Idle)). absurd (omega (arith, x.0, k.promised, low, (lead_is ms w g i p l was).promised)))
          (λ (x : ((w.nodes p).promised ≡ k.ballot) × ((o.node).role ≡ (w.nodes p).role)). same_on x.1 k.log) k.role
      leads_on (Asking k) = absurd (omega (arith, k.up, k.promised, low, (lead_is ms w g i p l was).promised))
      leads_on (Gathering k) = roles_differ k.prep l (w.nodes p).role k.was was
      leads_on (Adopting k) = ⊎_elim
          (λ (x : ((o.node).promised ≡ (w.nodes p).promised) × ((r : PreparingState) × ((w.nodes p).role ≡ Preparing r) × (r.ballot ≡ (k.lead).ballot) × (r.buffer ≡ k.buffer))). roles_differ (x.1).0 l (w.nodes p).role (x.1).1 was)
          (λ (x : ((w.nodes p).promised < (o.node).promised) × ((o.node).promised ≡ (k.lead).ballot)). absurd (omega (arith, x.0, low, (lead_is ms w g i p l was).promised))) k.promised
      leads_on (Taking k) = let a = lead_is ms w g i p l was in absurd (omega (arith, a.promised, a.accepted, k.below))
      leads_on (Appending k) = same_on k.role (leader_same ms w g i p input known o k l was)
      leads_on (Filling k) = same_on k.role (filled_same ms w g i p input known o k l was)

    module _ (r : PreparingState) (was : (w.nodes p).role ≡ Preparing r) (low : (o.node).promised ≤ r.ballot) where
      stays_on : (o.node).role ≡ (w.nodes p).role → PreparesOn r o
      stays_on e = record { next = r; role = e ∙ was; ballot = refl; buffer = inl refl }

      -- an undisturbed node that prepares goes on, or it begins to lead
      pub prepares_on : Move ms p (w.nodes p) input o → PreparesOn r o ⊎ ((k : Adopts ms p (w.nodes p) input o) × (k.buffer ≡ r.buffer) × ((k.lead).ballot ≡ r.ballot))
      prepares_on (Resting k) = inl (stays_on k.role)
      prepares_on (Tending k) = roles_differ r k.lead (w.nodes p).role was k.was
      prepares_on (Extending k) = roles_differ r k.lead (w.nodes p).role was k.was
      prepares_on (Idling k) = absurd (alone (subst (λ (y : Input). Interrupts others y) (sym k.input) tt))
      prepares_on (Promising k) = ⊎_elim
          (λ (x : ((w.nodes p).promised < k.ballot) × ((o.node).role ≡ Idle)). absurd (omega (arith, x.0, k.promised, low, (prep_is ms w g i p r was).promised)))
          (λ (x : ((w.nodes p).promised ≡ k.ballot) × ((o.node).role ≡ (w.nodes p).role)). inl (stays_on x.1)) k.role
      prepares_on (Asking k) = absurd (omega (arith, k.up, k.promised, low, (prep_is ms w g i p r was).promised))
      prepares_on (Gathering k) =
          let e = same_prep k.prep r (w.nodes p).role k.was was in
          inl (record {
            next = k.next;
            role = k.role;
            ballot = k.ballot ∙ ap (λ (y : PreparingState). y.ballot) e;
            buffer = ⊎_elim (λ (x : (k.next).buffer ≡ (k.prep).buffer). inl (x ∙ ap (λ (y : PreparingState). y.buffer) e)) (λ (x : (ds : List Entry) × ((k.next).buffer ≡ (k.prep).buffer ++ ds)). inr (x.0, x.1 ∙ ap (λ (y : PreparingState). y.buffer ++ x.0) e)) k.buffer;
          })
      prepares_on (Adopting k) = ⊎_elim
          (λ (x : ((o.node).promised ≡ (w.nodes p).promised) × ((r' : PreparingState) × ((w.nodes p).role ≡ Preparing r') × (r'.ballot ≡ (k.lead).ballot) × (r'.buffer ≡ k.buffer))).
          let e = same_prep (x.1).0 r (w.nodes p).role (x.1).1 was in
          inr (k, sym (x.1).3 ∙ ap (λ (y : PreparingState). y.buffer) e, sym (x.1).2 ∙ ap (λ (y : PreparingState). y.ballot) e))
          (λ (x : ((w.nodes p).promised < (o.node).promised) × ((o.node).promised ≡ (k.lead).ballot)). absurd (omega (arith, x.0, low, (prep_is ms w g i p r was).promised))) k.promised
      prepares_on (Taking k) = inl (stays_on k.role)
      prepares_on (Appending k) = inl (stays_on k.role)
      prepares_on (Filling k) = inl (stays_on k.role)
