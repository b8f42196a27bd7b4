-- A plan that is adopted leaves what it plans.
use Rattle.std.proofs.Common.{◌≡◌, ℕ, inl, inr, ◌∷◌, ◌++◌, List, [], Option, Some, None, length, refl, sym, ap, ◌∙◌, subst, append-nil, append_assoc, ◌≤◌, arith}
use Rattle.std.specs.Prelude.{fold}
use Rattle.std.proofs.lemmas.Bool.{cases_Bool}
use Rattle.op_types.specs.Changes.{durable_after}
use Rattle.op_types.specs.Roomed.{Roomed}
use Rattle.op_types.specs.Rooms.{no_needs, with_room}
use Rattle.op_types.specs.declared.answers.Outcome.{Outcome}
use Rattle.op_types.specs.declared.answers.Reply.{Reply}
use Rattle.op_types.specs.declared.changes.Change.{Change}
use Rattle.op_types.specs.declared.durable.Durable.{Durable}
use Rattle.op_types.specs.declared.durable.Part.{Part}
use Rattle.op_types.specs.declared.messages.Msg.{Msg}
use Rattle.op_types.specs.declared.plan.Plan.{Plan}
use Rattle.op_types.specs.declared.plan.PlanParts.{PlanParts}
use Rattle.op_types.specs.declared.turn.Turn.{Turn}
use Rattle.op_types.proofs.Adoption.{left_rested}
use Rattle.op_spec.specs.Service.{Service}
use Rattle.op_protocol.specs.State as step
use Rattle.op_protocol.specs.State.{State, Planned, Waiting}
use Rattle.op_protocol.specs.Serving.{Dropping, dropping, dropping_reply, is_of_stop, waits}
use Rattle.op_change.specs.Over.{service_over}
use Rattle.op_instance.specs.Memory.{volatile_of, adopted_in}
use Rattle.op_instance.specs.Sound.{IfSound, IsSoundNode, AreOfOneConf, IfNodeOf, IsNode}
use Rattle.op_instance.specs.declared.volatile.Volatile.{Volatile}
use Rattle.op_chain.specs.Answering.{dropped_of, giving_reply, giving}
use Rattle.op_chain.specs.Chains.{state_of, HaveBases, IsSoundChain}
use Rattle.op_chain.specs.Plans.{renewed, planned_by, told_anew, volatile_anew, service_by, LeavesWith, LeavesNode, Adopts}
use Rattle.op_chain.specs.declared.chain.Chain.{Chain}
use Rattle.op_chain.specs.declared.chain_plan.ChainPlan.{ChainPlan}
use Rattle.op_chain.specs.declared.given.Given.{Given}
use Rattle.op_chain.specs.declared.renewal.Renewal.{Renewal}
use Rattle.op_chain.specs.Waiting.{WaitingSet}
use Rattle.op_chain.proofs.Answered.{told_few}
use Rattle.op_chain.proofs.Rooms.{rested, node_room}

-- ---- who is told after others

-- the same, behind these replies
abbrev behind : List Reply → Dropping → Dropping
behind xs d = record { waiting = d.waiting; replies = xs ++ d.replies }

one_behind : (xs : List Reply) (d : Dropping) (r : Reply) → dropping_reply (behind xs d) r ≡ behind xs (dropping_reply d r)
one_behind xs d r =
    let told : (ws : Waiting) → (let a : Dropping = record { waiting = ws; replies = (xs ++ d.replies) ++ r ∷ [] } in let b : Dropping = record { waiting = ws; replies = xs ++ (d.replies ++ r ∷ []) } in a ≡ b) = λ ws.
    ap (λ (rs : List Reply). let a : Dropping = record { waiting = ws; replies = rs } in a) (append_assoc xs d.replies (r ∷ [])) in
    elim (cases_Bool (is_of_stop r)) [
      | inl e ↦ rw e (told d.waiting)
      | inr e ↦ rw e (elim (cases_Bool (waits d.waiting r.client r.seq)) [ inl w ↦ rw w (told _) | inr w ↦ rw w refl ])
    ]

all_behind : (xs : List Reply) (d : Dropping) (rs : List Reply) → fold dropping_reply (behind xs d) rs ≡ behind xs (fold dropping_reply d rs)
all_behind xs d [] = refl
all_behind xs d (r ∷ rs) = ap (λ (t : Dropping). fold dropping_reply t rs) (one_behind xs d r) ∙ all_behind xs (dropping_reply d r) rs

-- who is told after these replies
pub told_behind : (ws : Waiting) (xs rs : List Reply) → (let d : Dropping = record { waiting = ws; replies = xs } in fold dropping_reply d rs ≡ behind xs (dropping ws rs))
told_behind ws xs rs =
    ap (λ (ys : List Reply). let d : Dropping = record { waiting = ws; replies = ys } in fold dropping_reply d rs) (sym (append-nil xs))
    ∙ all_behind xs (record { waiting = ws; replies = [] }) rs

-- ---- what begins anew

-- what is made, field by field
abbrev made_anew : Option Renewal → Volatile → Planned → Planned
made_anew o kept x =
    let g = dropping x.waiting (told_anew o) in
    record x {
      volatile = volatile_of (volatile_anew o kept);
      service = service_by o x.service;
      waiting = g.waiting;
      replies = x.replies ++ g.replies;
    }

renewed_is : (o : Option Renewal) (kept : Volatile) (x : Planned) → x.volatile ≡ volatile_of kept → renewed o x ≡ made_anew o kept x
renewed_is None kept x same =
    ap (λ (v : step.Volatile). let y : Planned = record x { volatile = v } in y) same
    ∙ ap (λ (rs : List Reply). let y : Planned = record x { volatile = volatile_of kept; replies = rs } in y) (sym (append-nil x.replies))
renewed_is (Some r) kept x same = refl

-- ---- the memory of a node stays that of what it stores

part_node : (me : ℕ) (o q : Option Part) (v w : Volatile) → IfNodeOf me o v → IfSound q (volatile_of w) → AreOfOneConf q o → w.election.me ≡ v.election.me → w.election.members ≡ v.election.members → w.rounds.me ≡ v.rounds.me → w.rounds.members ≡ v.rounds.members
    → IfNodeOf me q w
part_node me None None v w node sound same a b c d = tt
part_node me None (Some q) v w node sound same a b c d = absurd same
part_node me (Some p) None v w node sound same a b c d = tt
part_node me (Some p) (Some q) v w node sound same a b c d =
    record {
      sound = sound.sound;
      staged = sound.staged;
      kept = record { elector = a ∙ node.kept.elector; electors = b ∙ node.kept.electors ∙ ap length (sym same.1); listener = c ∙ node.kept.listener; members = d ∙ node.kept.members ∙ sym same.1 };
    }

-- ---- adopting a plan

-- a plan by what it was taken apart into
abbrev pub of_parts : PlanParts → Plan
of_parts r = record { batch = r.batch; turn = r.turn; sends = r.sends; replies = r.replies; outcome = r.outcome }

pub parts_of : (x : Plan) (r : PlanParts) → r.batch ≡ x.batch → r.turn ≡ x.turn → r.sends ≡ x.sends → r.replies ≡ x.replies → r.outcome ≡ x.outcome → of_parts r ≡ x
parts_of x r batch turn sends replies outcome =
    ap (λ (b : List Change). let y : Plan = record (of_parts r) { batch = b } in y) batch
    ∙ ap (λ (t : Turn). let y : Plan = record (of_parts r) { batch = x.batch; turn = t } in y) turn
    ∙ ap (λ (m : List (ℕ × Msg)). let y : Plan = record (of_parts r) { batch = x.batch; turn = x.turn; sends = m } in y) sends
    ∙ ap (λ (t : List Reply). let y : Plan = record (of_parts r) { batch = x.batch; turn = x.turn; sends = x.sends; replies = t } in y) replies
    ∙ ap (λ (o : Option Outcome). let y : Plan = record (of_parts r) { batch = x.batch; turn = x.turn; sends = x.sends; replies = x.replies; outcome = o } in y) outcome

-- what is known when a plan was adopted, with what is kept of the part after its turn
pub record Made (old : Chain) (plan : ChainPlan) (kept : Volatile) (new : Chain) (g : Given) : Type 0 where
  pub me : new.me ≡ old.me
  pub durable : new.durable ≡ with_room no_needs (durable_after old.durable plan.plan.batch)
  pub turned : volatile_of kept ≡ adopted_in plan.plan.batch plan.plan.turn (volatile_of old.volatile)
  pub elector : kept.election.me ≡ old.volatile.election.me
  pub electors : kept.election.members ≡ old.volatile.election.members
  pub listener : kept.rounds.me ≡ old.volatile.rounds.me
  pub members : kept.rounds.members ≡ old.volatile.rounds.members
  pub volatile : new.volatile ≡ volatile_anew plan.renewal kept
  pub service : new.service.service ≡ service_by plan.renewal (service_over old.service.service plan.served.change)
  pub told :
      let d = dropping old.waiting.next plan.plan.replies in
      let e = giving d.waiting plan.served.replies in
      let first : Dropping = record { waiting = e.waiting; replies = e.replies ++ d.replies } in
      let last : Dropping = record { waiting = new.waiting.waiting; replies = g.replies } in
      last ≡ fold dropping_reply first (told_anew plan.renewal)
  pub sends : g.sends ≡ plan.plan.sends
  pub outcome : g.outcome ≡ plan.plan.outcome

-- a state by its parts
abbrev pub state_with : Durable → step.Volatile → Service → Waiting → State
state_with d v s w = record { durable = d; volatile = v; service = s; waiting = w; reads = None }

-- equal parts make equal states
pub state_is : {d e : Durable} {v w : step.Volatile} {s t : Service} {ws xs : Waiting} → d ≡ e → v ≡ w → s ≡ t → ws ≡ xs → state_with d v s ws ≡ state_with e w t xs
state_is durable volatile service waiting = cc

module _ (old new : Chain) (plan : ChainPlan) (kept : Volatile) (g : Given) (k : Made old plan kept new g) (sound : IsSoundChain old) (leaves : LeavesNode old plan) where
  -- what is stored then
  abbrev left : Durable
  left = durable_after (state_of old).durable plan.plan.batch

  stored : new.durable ≡ left
  stored = k.durable ∙ left_rested old.durable plan.plan.batch

  state_stored : with_room no_needs new.durable ≡ left
  state_stored = ap (λ (d : Durable). with_room no_needs d) k.durable ∙ rested no_needs (durable_after old.durable plan.plan.batch) ∙ left_rested old.durable plan.plan.batch

  node_by : (o : Option Renewal) → LeavesWith old.me (state_of old).durable plan.plan o old.volatile → IsNode old.me left (volatile_anew o kept)
  node_by None row =
      let before : IsNode old.me (state_of old).durable old.volatile = node_room no_needs old.me old.durable old.volatile sound.node in
      let after : IsSoundNode old.me left (volatile_of kept) = subst (λ (v : step.Volatile). IsSoundNode old.me left v) (sym k.turned) row.step.sound in
      record {
        part = part_node old.me (state_of old).durable.part left.part old.volatile kept before.part after.part row.step.same k.elector k.electors k.listener k.members;
        closed = after.closed;
        joining = after.joining;
      }
  node_by (Some r) begins = begins.node

  sound_after : IsSoundChain new
  sound_after =
      let there : IsNode old.me left (volatile_anew plan.renewal kept) = node_by plan.renewal leaves.node in
      let here : IsNode old.me new.durable (volatile_anew plan.renewal kept) = subst (λ (d : Durable). IsNode old.me d (volatile_anew plan.renewal kept)) (sym stored) there in
      let mine : IsNode old.me new.durable new.volatile = subst (λ (v : Volatile). IsNode old.me new.durable v) (sym k.volatile) here in
      record {
        node = subst (λ (n : ℕ). IsNode n new.durable new.volatile) (sym k.me) mine;
        bases = subst HaveBases (sym stored) leaves.bases;
      }

  -- what the plan makes but for what begins anew
  abbrev first : Planned
  first =
      let d = dropping old.waiting.next plan.plan.replies in
      let e = giving d.waiting plan.served.replies in
      record {
        batch = plan.plan.batch;
        volatile = adopted_in plan.plan.batch plan.plan.turn (volatile_of old.volatile);
        service = service_over old.service.service plan.served.change;
        waiting = e.waiting;
        reads = None;
        sends = plan.plan.sends;
        replies = e.replies ++ d.replies;
        read_replies = [];
        outcome = plan.plan.outcome;
      }

  pub plan_adopted : Adopts old (planned_by old plan) new g
  plan_adopted =
      let made : Planned = made_anew plan.renewal kept first in
      let is : planned_by old plan ≡ made = renewed_is plan.renewal kept first (sym k.turned) in
      let told = k.told ∙ told_behind first.waiting first.replies (told_anew plan.renewal) in
      let adopts : Adopts old made new g = record {
        me = k.me;
        state = state_is state_stored (ap volatile_of k.volatile) k.service (ap (λ (d : Dropping). d.waiting) told);
        sound = sound_after;
        given = record { sends = k.sends; replies = ap (λ (d : Dropping). d.replies) told; outcome = k.outcome };
      } in
      subst (λ (p : Planned). Adopts old p new g) (sym is) adopts

-- ---- who is told when a plan is adopted

module _ (w w' : WaitingSet) (t t' : Roomed Reply) (ws : Waiting) (given_up : List Reply) (waits_then : w.waiting ≡ ws) (none : t.items ≡ [])
    (told : dropped_of w' t' ≡ fold dropping_reply (dropped_of w t) given_up) where
  begins : (let d : Dropping = record { waiting = ws; replies = [] } in dropped_of w t ≡ d)
  begins =
      ap (λ (x : Waiting). let d : Dropping = record { waiting = x; replies = t.items } in d) waits_then
      ∙ ap (λ (rs : List Reply). let d : Dropping = record { waiting = ws; replies = rs } in d) none

  -- those whose proposals a row gives up
  pub rows_told : dropped_of w' t' ≡ dropping ws given_up
  rows_told = told ∙ ap (λ (d : Dropping). fold dropping_reply d given_up) begins

  -- they are no more than were given up
  pub rows_few : length t'.items ≤ length given_up
  rows_few =
      let few = told_few (record { waiting = ws; replies = [] }) given_up in
      let same : length t'.items ≡ length (dropping ws given_up).replies = ap (λ (d : Dropping). length d.replies) rows_told in
      omega arith

  module _ (v : WaitingSet) (g g' : Roomed Reply) (replies : List Reply) (empty : g.items ≡ []) (gives : dropped_of v g' ≡ fold giving_reply (dropped_of w' g) replies) where
    -- those who are answered
    pub answers_given : dropped_of v g' ≡ giving (dropping ws given_up).waiting replies
    answers_given =
        gives
        ∙ ap (λ (d : Dropping). fold giving_reply d replies)
        (ap (λ (x : Waiting). let d : Dropping = record { waiting = x; replies = g.items } in d) (ap (λ (d : Dropping). d.waiting) rows_told)
        ∙ ap (λ (rs : List Reply). let d : Dropping = record { waiting = (dropping ws given_up).waiting; replies = rs } in d) empty)

    -- all of them, and who is told by what begins anew
    pub all_told : (more dropped out : List Reply) (u : WaitingSet) (h h' : Roomed Reply) → more ≡ t'.items → h.items ≡ g'.items ++ more
        → dropped_of u h' ≡ fold dropping_reply (dropped_of v h) dropped → out ≡ h'.items
        → (let d = dropping ws given_up in
        let e = giving d.waiting replies in
        let first : Dropping = record { waiting = e.waiting; replies = e.replies ++ d.replies } in
        let last : Dropping = record { waiting = u.waiting; replies = out } in
        last ≡ fold dropping_reply first dropped)
    all_told more dropped out u h h' is adds tells gives_out =
        let d = dropping ws given_up in
        let e = giving d.waiting replies in
        let waits_still : v.waiting ≡ e.waiting = ap (λ (x : Dropping). x.waiting) answers_given in
        let items : h.items ≡ e.replies ++ d.replies =
        adds ∙ ap (λ (rs : List Reply). rs ++ more) (ap (λ (x : Dropping). x.replies) answers_given) ∙ ap (λ (rs : List Reply). e.replies ++ rs) (is ∙ ap (λ (x : Dropping). x.replies) rows_told) in
        ap (λ (rs : List Reply). let x : Dropping = record { waiting = u.waiting; replies = rs } in x) gives_out
        ∙ tells
        ∙ ap (λ (x : Dropping). fold dropping_reply x dropped)
        (ap (λ (y : Waiting). let x : Dropping = record { waiting = y; replies = h.items } in x) waits_still
        ∙ ap (λ (rs : List Reply). let x : Dropping = record { waiting = e.waiting; replies = rs } in x) items)
