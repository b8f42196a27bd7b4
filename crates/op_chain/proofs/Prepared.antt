-- A step that is made ready: what it does is what the step table plans, it applies, and it leaves a sound node.
use Rattle.std.proofs.Common.{◌≡◌, ℕ, inl, inr, ◌∷◌, ◌++◌, false, List, [], All, Option, Some, None, refl, sym, ap, ◌∙◌, subst, append-nil}
use Rattle.std.specs.Prelude.{is_some, nat_eq}
use Rattle.std.specs.Set.{is_member}
use Rattle.std.proofs.lemmas.Bool.{cases_Bool}
use Rattle.std.proofs.lemmas.List.Elements.{All-nil, All-cons, All-head, All-tail}
use Rattle.op_types.specs.Changes.{closed_by, durable_after, Applies}
use Rattle.op_types.specs.Joinings.{Held, Base, cover_of}
use Rattle.op_types.specs.Roles.{Role, role_of}
use Rattle.op_types.specs.Rooms.{no_needs, with_room}
use Rattle.op_types.specs.Stages.{Pieces}
use Rattle.op_types.specs.Stops.{stop_at_end}
use Rattle.op_types.specs.declared.answers.Outcome.{Outcome}
use Rattle.op_types.specs.declared.changes.Change.{Change}
use Rattle.op_types.specs.declared.changes.Change.TheVariants as change
use Rattle.op_types.specs.declared.durable.Durable.{Durable}
use Rattle.op_types.specs.declared.durable.Joining.{Joining}
use Rattle.op_types.specs.declared.durable.Part.{Part}
use Rattle.op_types.specs.declared.events.Input.{Input}
use Rattle.op_types.specs.declared.log.Entry.{Entry}
use Rattle.op_types.specs.declared.messages.Body.{Body}
use Rattle.op_types.specs.declared.plan.Plan.{Plan}
use Rattle.op_types.specs.declared.turn.Turn.{Turn}
use Rattle.op_record.specs.Ranges.{ChangeInRange, BatchInRange}
use Rattle.op_spec.specs.Service.{Service, base_bytes}
use Rattle.op_protocol.specs.State as step
use Rattle.op_protocol.specs.State.{State, PartStep, Planned, Waiting, raises_promise}
use Rattle.op_protocol.specs.Parts.{part_after, decided_since}
use Rattle.op_protocol.specs.Configurations.{closing}
use Rattle.op_protocol.specs.Joining.{brought_to, holds_more}
use Rattle.op_protocol.specs.Rows.{brought_by, step_at, waiting_at, based_batch, newly_decided, planned, plan_of, step_bringing, table_plan}
use Rattle.op_protocol.proofs.StepBatches.{IsInside, inside_after, inside_none, step_inside, inside_all_based}
use Rattle.op_change.specs.Over.{Written, service_over}
use Rattle.op_kv.specs.Maps.{MapState}
use Rattle.op_follower.specs.Staging.{StagedIsAdmitted}
use Rattle.op_instance.specs.Memory.{volatile_of, adopted_in, part_step_of, HasRoomIn}
use Rattle.op_instance.specs.Sound.{IsSound, IfSound, IsSoundNode, IsSoundStep, IfNodeOf, IsNode}
use Rattle.op_instance.specs.declared.volatile.Volatile.{Volatile}
use Rattle.op_instance.proofs.StepsApply.{sound_step}
use Rattle.op_deciding.specs.Deciding.{IsServed}
use Rattle.op_chain.specs.Bringing.{joining_after, joined, IfJoined, turn_beside, turn_holding}
use Rattle.op_chain.specs.Chains.{state_of, HaveBases, IsSoundChain, Admits}
use Rattle.op_chain.specs.Plans.{renewed, planned_by, made_by, IsPartAfter, Stays, BeginsIn, LeavesWith, HasRoomToTell, Prepares, waiters_of, waiting_by, based_step, IfMayClose, IfCloses, IfGoesOn}
use Rattle.op_chain.specs.declared.chain.Chain.{Chain}
use Rattle.op_chain.specs.declared.chain_plan.ChainPlan.{ChainPlan}
use Rattle.op_chain.specs.declared.renewal.Renewal.{Renewal}
use Rattle.op_chain.specs.declared.room.Room.{Room}
use Rattle.op_deciding.specs.declared.served.Served.{Served}
use Rattle.op_chain.specs.Waiting.{WaitingSet}
use Rattle.op_chain.proofs.Adopted.{state_with, state_is}
use Rattle.op_chain.proofs.Based.{begins_fit, bases_after, based_sound}
use Rattle.op_chain.proofs.Closes.{may_close, close_applies, close_leaves}
use Rattle.op_chain.proofs.Leaves.{hold_applies, hold_leaves, hold_sound, hold_calms, hold_same, hold_part, go_applies, go_leaves}
use Rattle.op_chain.proofs.Steps.{chain_plan, unserved, step_table, storing_plan, IsKept, holding_kept, join_table, waits_table}

-- ---- words of lists and records

first_all : {A : Type 0} (P : A → Type 0) (xs ys : List A) → All P (xs ++ ys) → All P xs
first_all P [] ys all = All-nil P
first_all P (x ∷ xs) ys all = All-cons P x xs (All-head P x (xs ++ ys) all) (first_all P xs ys (All-tail P x (xs ++ ys) all))

-- what a plan stores doesn't hang on what begins anew
renewed_batch : (o : Option Renewal) (x : Planned) → (renewed o x).batch ≡ x.batch
renewed_batch None x = refl
renewed_batch (Some r) x = refl

pub batch_made : (ws : Waiting) (v : step.Volatile) (s : Service) (plan : ChainPlan) → (made_by ws v s plan).batch ≡ plan.plan.batch
batch_made ws v s plan = renewed_batch plan.renewal _

-- ---- the same node

sound_part : (me : ℕ) (o : Option Part) (v : Volatile) → IfNodeOf me o v → IfSound o (volatile_of v)
sound_part me None v node = tt
sound_part me (Some p) v node = record { sound = node.sound; staged = node.staged }

pub sound_of : (me : ℕ) (d : Durable) (v : Volatile) → IsNode me d v → IsSoundNode me d (volatile_of v)
sound_of me d v node = record { part = sound_part me d.part v node.part; closed = node.closed; joining = node.joining }

-- the memory of a node with another role and other entries staged, which are seen as the same
abbrev alike : Volatile → Volatile → Volatile
alike v w = record v { role = w.role; staged = w.staged }

part_same : (me : ℕ) (o : Option Part) (v w : Volatile) → volatile_of (alike v w) ≡ volatile_of v → IfNodeOf me o v → IfNodeOf me o (alike v w)
part_same me None v w same node = tt
part_same me (Some p) v w same node =
    record {
      sound = subst (λ (x : step.Volatile). IsSound p x.role) (sym same) node.sound;
      staged = subst (λ (x : step.Volatile). StagedIsAdmitted p.conf x.staged) (sym same) node.staged;
      kept = record { elector = node.kept.elector; electors = node.kept.electors; listener = node.kept.listener; members = node.kept.members };
    }

node_same : (me : ℕ) (d : Durable) (v w : Volatile) → volatile_of (alike v w) ≡ volatile_of v → IsNode me d v → IsNode me d (alike v w)
node_same me d v w same node = record { part = part_same me d.part v w same node.part; closed = node.closed; joining = node.joining }

-- a chain with the same state, but for room
pub record IsLike (a c : Chain) : Type 0 where
  pub me : c.me ≡ a.me
  pub durable : c.durable ≡ a.durable
  pub volatile : c.volatile ≡ alike a.volatile c.volatile
  pub same : volatile_of c.volatile ≡ volatile_of a.volatile
  pub service : c.service.service ≡ a.service.service
  pub waiting : c.waiting.waiting ≡ a.waiting.waiting

sound_like : (a c : Chain) → IsLike a c → IsSoundChain a → IsSoundChain c
sound_like a c like sound =
    let same : volatile_of (alike a.volatile c.volatile) ≡ volatile_of a.volatile = ap volatile_of (sym like.volatile) ∙ like.same in
    let here : IsNode a.me a.durable (alike a.volatile c.volatile) = node_same a.me a.durable a.volatile c.volatile same sound.node in
    let kept : IsNode a.me a.durable c.volatile = subst (λ (w : Volatile). IsNode a.me a.durable w) (sym like.volatile) here in
    let stored : IsNode a.me c.durable c.volatile = subst (λ (d : Durable). IsNode a.me d c.volatile) (sym like.durable) kept in
    record {
      node = subst (λ (n : ℕ). IsNode n c.durable c.volatile) (sym like.me) stored;
      bases = subst HaveBases (sym like.durable) sound.bases;
    }

-- the state of a chain whose log has no room
abbrev pub state_at : Chain → State
state_at a = state_with a.durable (volatile_of a.volatile) a.service.service a.waiting.waiting

pub state_rested : (a : Chain) → with_room no_needs a.durable ≡ a.durable → state_of a ≡ state_at a
state_rested a rested = state_is rested refl refl refl

-- ---- a step that brings nothing of a closed list

closing_more : (me : ℕ) (o : Option Part) (x : Planned) → (more : List Change) × ((closing me o x).batch ≡ x.batch ++ more)
closing_more me None x = ([], sym (append-nil x.batch))
closing_more me (Some p) x = elim (cases_Bool (is_some (stop_at_end (decided_since p (part_after p x.batch))))) [
  | inl e ↦ rw e (_, refl)
  | inr e ↦ rw e ([], sym (append-nil x.batch))
]

-- the step that an admitted input makes, where the log has no room
module _ (a : Chain) (x : Input) (admits : Admits a x) (bare : with_room no_needs a.durable ≡ a.durable) (none : brought_by a.durable (volatile_of a.volatile) x ≡ None) where
  -- what the step does at the part, with the bases of what it trims
  abbrev stepped : PartStep
  stepped = step_at a.me a.durable (volatile_of a.volatile) x

  abbrev trimmed : PartStep
  trimmed = based_step a.durable.part stepped

  -- who waits then
  abbrev waiting_then : Waiting
  waiting_then = waiting_at a.me (state_at a) x

  table_is : table_plan a.me (state_of a) x ≡ plan_of a.me (state_at a) waiting_then stepped
  table_is =
      ap (λ (s : State). table_plan a.me s x) (state_rested a bare)
      ∙ ap (λ (o : Option (List Change)). step_bringing a.me (state_at a) x o) none

  range_here : BatchInRange (plan_of a.me (state_at a) waiting_then stepped).batch
  range_here = subst (λ (p : Planned). BatchInRange p.batch) table_is admits.range

  -- what it stores but for a Close is in range
  trims_in_range : All ChangeInRange trimmed.batch
  trims_in_range =
      let more = closing_more a.me a.durable.part (planned (state_at a) waiting_then stepped) in
      first_all ChangeInRange trimmed.batch more.0 (subst (λ (b : List Change). All ChangeInRange b) more.1 range_here.each)

  inside_step : All IsInside stepped.batch
  inside_step = (step_inside a.me a.durable (volatile_of a.volatile) x).changes

  inside_by : (o : Option Part) (b : List Change) → All IsInside b → All IsInside (based_batch o b)
  inside_by None b all = all
  inside_by (Some p) b all = inside_all_based p b all

  pub inside_trimmed : All IsInside trimmed.batch
  inside_trimmed = inside_by a.durable.part stepped.batch inside_step

  pub trimmed_sound : IsSoundStep a.me a.durable trimmed
  trimmed_sound =
      based_sound a.me a.durable stepped
      (sound_step a.me a.durable.part a.durable.closed a.durable.joining (volatile_of a.volatile) x (sound_of a.me a.durable a.volatile admits.sound.node) (begins_fit a.durable.part stepped.batch trims_in_range))
      inside_step

  -- the plan of this step
  module _ (plan : Plan) (row : part_step_of plan (volatile_of a.volatile) ≡ trimmed) where
    abbrev done : PartStep
    done = part_step_of plan (volatile_of a.volatile)

    done_sound : IsSoundStep a.me a.durable done
    done_sound = subst (λ (z : PartStep). IsSoundStep a.me a.durable z) (sym row) trimmed_sound

    done_inside : All IsInside plan.batch
    done_inside = subst (λ (z : PartStep). All IsInside z.batch) (sym row) inside_trimmed

    may_by : (o : Option Part) → a.durable.part ≡ o → IfMayClose o plan.batch
    may_by None is = tt
    may_by (Some p) is = may_close a.me a.durable p done is done_inside done_sound

    -- it may be closed
    pub may_be_closed : IfMayClose a.durable.part plan.batch
    may_be_closed = may_by a.durable.part refl

    module _ (c : Chain) (new : Plan) (served : Served) (r : Option Renewal) (room : Room) (like : IsLike a c)
        (serves : IsServed a.service.service (newly_decided a.durable.part plan.batch) served)
        (closes : IfCloses a.me a.durable.part (service_over a.service.service served.change) (role_of a.volatile.role) plan new r) where
      -- the plan that is made ready
      abbrev ready : ChainPlan
      ready = chain_plan new served r room

      keeps_by : (o : Option Part) (s : Service) (q : Role) (y : Option Renewal) → IfCloses a.me o s q plan new y → (new.turn ≡ plan.turn) × (new.outcome ≡ plan.outcome)
      keeps_by None s q y k = (ap (λ (n : Plan). n.turn) k.0, ap (λ (n : Plan). n.outcome) k.0)
      keeps_by (Some p) s q None k = (ap (λ (n : Plan). n.turn) k.0, ap (λ (n : Plan). n.outcome) k.0)
      keeps_by (Some p) s q (Some y) k = (ap (λ (n : Plan). n.turn) k.0.plan, ap (λ (n : Plan). n.outcome) k.0.plan)

      kept : (new.turn ≡ plan.turn) × (new.outcome ≡ plan.outcome)
      kept = keeps_by a.durable.part (service_over a.service.service served.change) (role_of a.volatile.role) r closes

      -- what adopting it makes is what the table plans
      pub step_is : c.waiting.next ≡ waiting_by new.outcome a.waiting.waiting (waiters_of x) → planned_by c ready ≡ table_plan a.me (state_of a) x
      step_is next =
          let outcome : new.outcome ≡ stepped.outcome = kept.1 ∙ ap (λ (z : PartStep). z.outcome) row in
          let waits : c.waiting.next ≡ waiting_then =
          next ∙ ap (λ (o : Option Outcome). waiting_by o a.waiting.waiting (waiters_of x)) outcome ∙ waits_table a.me (state_at a) x in
          ap (λ (ws : Waiting). made_by ws (volatile_of c.volatile) c.service.service ready) waits
          ∙ ap (λ (v : step.Volatile). made_by waiting_then v c.service.service ready) (like.same)
          ∙ ap (λ (s : Service). made_by waiting_then (volatile_of a.volatile) s ready) like.service
          ∙ step_table a.me waiting_then (volatile_of a.volatile) (state_at a) stepped plan new served r room row serves.change serves.replies closes
          ∙ sym table_is

      pub step_in_range : c.waiting.next ≡ waiting_by new.outcome a.waiting.waiting (waiters_of x) → BatchInRange new.batch
      step_in_range next =
          subst (λ (b : List Change). BatchInRange b) (batch_made c.waiting.next (volatile_of c.volatile) c.service.service ready)
          (subst (λ (p : Planned). BatchInRange p.batch) (sym (step_is next)) admits.range)

      -- where it applies, and what it leaves
      -- the part that its changes make
      part_by : (o : Option Part) → a.durable.part ≡ o → IsPartAfter o plan.batch (durable_after a.durable plan.batch).part
      part_by None is = inside_none a.durable plan.batch done_inside is
      part_by (Some p) is = inside_after a.durable p plan.batch done_inside is

      stays : (y : Option Renewal) → new ≡ plan → y ≡ None → (Applies a.durable new.batch) × LeavesWith a.me a.durable new y c.volatile
      stays y same over =
          let v : step.Volatile = volatile_of c.volatile in
          let here : IsSoundStep a.me a.durable (part_step_of new v) =
          subst (λ (w : step.Volatile). IsSoundStep a.me a.durable (part_step_of new w)) (sym (like.same))
          (subst (λ (n : Plan). IsSoundStep a.me a.durable (part_step_of n (volatile_of a.volatile))) (sym same) done_sound) in
          let part : IsPartAfter a.durable.part new.batch (durable_after a.durable new.batch).part =
          subst (λ (n : Plan). IsPartAfter a.durable.part n.batch (durable_after a.durable n.batch).part) (sym same) (part_by a.durable.part refl) in
          let there : Stays a.me a.durable new c.volatile = record { step = here; part = part } in
          (here.applies, subst (λ (o : Option Renewal). LeavesWith a.me a.durable new o c.volatile) (sym over) there)

      goes_by : (o : Option Part) → a.durable.part ≡ o → (y : Option Renewal) → IfCloses a.me o (service_over a.service.service served.change) (role_of a.volatile.role) plan new y
          → (Applies a.durable new.batch) × LeavesWith a.me a.durable new y c.volatile
      goes_by None is y k = stays y k.0 k.1
      goes_by (Some p) is None k = stays None k.0 refl
      goes_by (Some p) is (Some y) k =
          let base : List ℕ = base_bytes (service_over a.service.service served.change) in
          let batch : new.batch ≡ plan.batch ++ change.Close (is_member nat_eq (closed_by (part_after p plan.batch)).next a.me) base ∷ [] = ap (λ (n : Plan). n.batch) k.0.plan in (
            subst (λ (b : List Change). Applies a.durable b) (sym batch) (close_applies a.me a.durable p done is done_inside done_sound base k.1),
            subst (λ (b : List Change). BeginsIn a.me a.durable b y) (sym batch) (close_leaves a.me a.durable p done is done_inside done_sound base k.1 y k.0.anew k.0.service),
          )

      pub step_goes : (Applies a.durable new.batch) × LeavesWith a.me a.durable new r c.volatile
      step_goes = goes_by a.durable.part refl r closes

      pub step_prepared : c.waiting.next ≡ waiting_by new.outcome a.waiting.waiting (waiters_of x) → HasRoomIn plan.turn c.volatile → c.service.waiting ≡ 0 → HasRoomToTell ready
          → Prepares c (table_plan a.me (state_of a) x) ready
      step_prepared next turn settled tells =
          let stored : (state_of c).durable ≡ a.durable = ap (λ (d : Durable). with_room no_needs d) like.durable ∙ bare in
          let bases : HaveBases (durable_after a.durable new.batch) = bases_after a.durable new.batch admits.sound.bases (step_in_range next).each in
          let leaves : LeavesWith c.me a.durable new r c.volatile = subst (λ (n : ℕ). LeavesWith n a.durable new r c.volatile) (sym like.me) step_goes.1 in
          record {
            sound = sound_like a c like admits.sound;
            table = step_is next;
            applies = subst (λ (d : Durable). Applies d new.batch) (sym stored) step_goes.0;
            turn = subst (λ (t : Turn). HasRoomIn t c.volatile) (sym kept.0) turn;
            settled = settled;
            after = record {
              node = subst (λ (d : Durable). LeavesWith c.me d new r c.volatile) (sym stored) leaves;
              bases = subst (λ (d : Durable). HaveBases (durable_after d new.batch)) (sym stored) bases;
            };
            room = tells;
          }

-- ---- a step that brings something of a closed list

joined_parts : (s : Service) (b : Option Base) (es : Option (List Entry)) → Some s ≡ joined b es → (x : Base) × (xs : List Entry) × (b ≡ Some x) × (es ≡ Some xs)
joined_parts s (Some x) (Some xs) is = (x, xs, refl, refl)
joined_parts s (Some x) None is = absurd cc
joined_parts s None es is = absurd cc

part_kept : (o : Option Part) (v w : step.Volatile) → IsKept v w → IfSound o v → IfSound o w
part_kept None v w same sound = tt
part_kept (Some p) v w same sound =
    record {
      sound = subst (λ (r : Role). IsSound p r) (sym same.role) sound.sound;
      staged = subst (λ (h : Held). StagedIsAdmitted p.conf h) (sym same.staged) sound.staged;
    }

-- what is sound hangs on the role and on what is staged alone
sound_kept : (me : ℕ) (d : Durable) (v w : step.Volatile) → IsKept v w → IsSoundNode me d v → IsSoundNode me d w
sound_kept me d v w same sound = record { part = part_kept d.part v w same sound.part; closed = sound.closed; joining = sound.joining }

-- there is room to stay beside a base
holding_room : (o : Option Joining) (batch : List Change) (v : Volatile) → HasRoomIn (turn_holding o batch) v
holding_room None batch v = tt
holding_room (Some j) batch v = by (joining_after j batch).base
  where
    by : (o : Option Base) → HasRoomIn (turn_beside o) v
    by None = tt
    by (Some b) = tt

module _ (a : Chain) (sound : IsSoundChain a) (bare : with_room no_needs a.durable ≡ a.durable) (s : Option Pieces) (at : ℕ) (b : Body) (batch : List Change) (brings : brought_to a.durable.joining s at b ≡ Some batch)
    (j : Joining) (is : a.durable.joining ≡ Some j) (m : Option MapState) (whole : IfJoined j batch m) (range : BatchInRange (holds_more a.me (state_of a) batch).batch) where
  module _ (c : Chain) (new : Plan) (kv : Written) (r : Option Renewal) (room : Room) (like : IsLike a c) (same : service_over a.service.service kv ≡ a.service.service)
      (goes : IfGoesOn a.me a.durable.joining m (role_of a.volatile.role) (storing_plan batch (turn_holding a.durable.joining batch)) new r) where
    abbrev held : ChainPlan
    held = chain_plan new (unserved kv) r room

    -- the plan that stores what is brought
    abbrev storing : Plan
    storing = storing_plan batch (turn_holding (Some j) batch)

    goes_here : IfGoesOn a.me (Some j) m (role_of a.volatile.role) storing new r
    goes_here = subst (λ (o : Option Joining). IfGoesOn a.me o m (role_of a.volatile.role) (storing_plan batch (turn_holding o batch)) new r) is goes

    calms : raises_promise batch ≡ false
    calms = hold_calms a.me a.durable j is s at b batch brings

    holds_then : (durable_after a.durable batch).joining ≡ Some (joining_after j batch)
    holds_then = ap (λ (d : Durable). d.joining) (hold_leaves a.me a.durable j is s at b batch brings)

    pub join_is : c.waiting.next ≡ a.waiting.waiting → planned_by c held ≡ holds_more a.me (state_of a) batch
    join_is next =
        ap (λ (ws : Waiting). made_by ws (volatile_of c.volatile) c.service.service held) next
        ∙ ap (λ (v : step.Volatile). made_by a.waiting.waiting v c.service.service held) (like.same)
        ∙ ap (λ (s : Service). made_by a.waiting.waiting (volatile_of a.volatile) s held) like.service
        ∙ join_table a.me (state_at a) batch kv same room new calms j m r whole holds_then goes_here
        ∙ sym (ap (λ (s : State). holds_more a.me s batch) (state_rested a bare))

    node_sound : IsSoundNode a.me a.durable (volatile_of a.volatile)
    node_sound = sound_of a.me a.durable a.volatile sound.node

    stored_sound : IsSoundNode a.me (durable_after a.durable batch) (part_step_of storing (volatile_of a.volatile)).volatile
    stored_sound =
        let v : step.Volatile = volatile_of a.volatile in
        sound_kept a.me (durable_after a.durable batch) v (adopted_in batch (turn_holding (Some j) batch) v) (holding_kept (Some j) batch v calms) (hold_sound a.me a.durable j is s at b batch brings v node_sound)

    joins_stay : (y : Option Renewal) → new ≡ storing → y ≡ None → (Applies a.durable new.batch) × LeavesWith a.me a.durable new y c.volatile
    joins_stay y is_plan over =
        let here : IsSoundStep a.me a.durable (part_step_of storing (volatile_of a.volatile)) = record {
          applies = hold_applies a.me a.durable j is s at b batch brings;
          sound = stored_sound;
          same = hold_same a.me a.durable j is s at b batch brings;
        } in
        let there : IsSoundStep a.me a.durable (part_step_of new (volatile_of c.volatile)) =
        subst (λ (w : step.Volatile). IsSoundStep a.me a.durable (part_step_of new w)) (sym (like.same))
        (subst (λ (n : Plan). IsSoundStep a.me a.durable (part_step_of n (volatile_of a.volatile))) (sym is_plan) here) in
        let part : IsPartAfter a.durable.part new.batch (durable_after a.durable new.batch).part =
        subst (λ (n : Plan). IsPartAfter a.durable.part n.batch (durable_after a.durable n.batch).part) (sym is_plan) (hold_part a.me a.durable j is s at b batch brings) in
        let left : Stays a.me a.durable new c.volatile = record { step = there; part = part } in
        (there.applies, subst (λ (o : Option Renewal). LeavesWith a.me a.durable new o c.volatile) (sym over) left)

    joins_by : (z : Option MapState) (y : Option Renewal) → IfJoined j batch z → IfGoesOn a.me (Some j) z (role_of a.volatile.role) storing new y → (Applies a.durable new.batch) × LeavesWith a.me a.durable new y c.volatile
    joins_by None y all k = joins_stay y k.0 k.1
    joins_by (Some z) None all k = absurd k
    joins_by (Some z) (Some y) all k =
        let parts = joined_parts z.service (joining_after j batch).base (cover_of (joining_after j batch)) all in
        let base : List ℕ = base_bytes z.service in
        let stores : new.batch ≡ batch ++ change.JoinDone base ∷ [] = ap (λ (n : Plan). n.batch) k.plan in (
          subst (λ (cs : List Change). Applies a.durable cs) (sym stores) (go_applies a.me a.durable j is s at b batch brings base parts.0 parts.1 parts.2 parts.3),
          subst (λ (cs : List Change). BeginsIn a.me a.durable cs y) (sym stores)
              (go_leaves a.me a.durable j is s at b batch brings base parts.0 parts.1 parts.2 parts.3 (volatile_of a.volatile) y z node_sound k.anew k.service),
        )

    join_goes : (Applies a.durable new.batch) × LeavesWith a.me a.durable new r c.volatile
    join_goes = joins_by m r whole goes_here

    turn_by : (z : Option MapState) (y : Option Renewal) → IfGoesOn a.me (Some j) z (role_of a.volatile.role) storing new y → new.turn ≡ turn_holding (Some j) batch
    turn_by None y k = ap (λ (n : Plan). n.turn) k.0
    turn_by (Some z) None k = absurd k
    turn_by (Some z) (Some y) k = ap (λ (n : Plan). n.turn) k.plan

    pub join_prepared : c.waiting.next ≡ a.waiting.waiting → c.service.waiting ≡ 0 → HasRoomToTell held → Prepares c (holds_more a.me (state_of a) batch) held
    join_prepared next settled tells =
        let stored : (state_of c).durable ≡ a.durable = ap (λ (d : Durable). with_room no_needs d) like.durable ∙ bare in
        let fits : BatchInRange new.batch =
        subst (λ (cs : List Change). BatchInRange cs) (batch_made c.waiting.next (volatile_of c.volatile) c.service.service held)
        (subst (λ (p : Planned). BatchInRange p.batch) (sym (join_is next)) range) in
        let bases : HaveBases (durable_after a.durable new.batch) = bases_after a.durable new.batch sound.bases fits.each in
        let leaves : LeavesWith c.me a.durable new r c.volatile = subst (λ (n : ℕ). LeavesWith n a.durable new r c.volatile) (sym like.me) join_goes.1 in
        record {
          sound = sound_like a c like sound;
          table = join_is next;
          applies = subst (λ (d : Durable). Applies d new.batch) (sym stored) join_goes.0;
          turn = subst (λ (t : Turn). HasRoomIn t c.volatile) (sym (turn_by m r goes_here)) (holding_room (Some j) batch c.volatile);
          settled = settled;
          after = record {
            node = subst (λ (d : Durable). LeavesWith c.me d new r c.volatile) (sym stored) leaves;
            bases = subst (λ (d : Durable). HaveBases (durable_after d new.batch)) (sym stored) bases;
          };
          room = tells;
        }

-- ---- how a plan comes about

-- a chain in whose memory a role, what is staged and those that are to wait have room
pub like_stepped : (a b : Chain) → (let c : Chain = record a { volatile = alike a.volatile b.volatile; waiting = b.waiting } in b ≡ c) → volatile_of b.volatile ≡ volatile_of a.volatile
    → b.waiting.waiting ≡ a.waiting.waiting → IsLike a b
like_stepped a b is same waits =
    record {
      me = ap (λ (n : Chain). n.me) is;
      durable = ap (λ (n : Chain). n.durable) is;
      volatile = ap (λ (n : Chain). n.volatile) is;
      same = same;
      service = ap (λ (n : Chain). n.service.service) is;
      waiting = waits;
    }

-- one whose service is settled
pub like_served : (a b : Chain) (m : MapState) → IsLike a b → m.service ≡ b.service.service → (let c : Chain = record b { service = m } in IsLike a c)
like_served a b m like same =
    record { me = like.me; durable = like.durable; volatile = like.volatile; same = like.same; service = same ∙ like.service; waiting = like.waiting }

-- one where others may wait
pub like_waiting : (a b : Chain) (w : WaitingSet) → IsLike a b → w.waiting ≡ b.waiting.waiting → (let c : Chain = record b { waiting = w } in IsLike a c)
like_waiting a b w like same =
    record { me = like.me; durable = like.durable; volatile = like.volatile; same = like.same; service = like.service; waiting = same ∙ like.waiting }

-- a chain is like itself
pub like_self : (a : Chain) → IsLike a a
like_self a = record { me = refl; durable = refl; volatile = refl; same = refl; service = refl; waiting = refl }

-- equal chains are alike
pub like_is : (a b c : Chain) → IsLike a b → c ≡ b → IsLike a c
like_is a b c like is = subst (λ (n : Chain). IsLike a n) (sym is) like

-- what is closed of the one is closed of the other
pub closes_like : (a c : Chain) (kv : Written) (old new : Plan) (r : Option Renewal) → IsLike a c
    → IfCloses c.me c.durable.part (service_over c.service.service kv) (role_of c.volatile.role) old new r
    → IfCloses a.me a.durable.part (service_over a.service.service kv) (role_of a.volatile.role) old new r
closes_like a c kv old new r like closes =
    subst (λ (v : step.Volatile). IfCloses a.me a.durable.part (service_over a.service.service kv) v.role old new r) like.same
    (subst (λ (s : Service). IfCloses a.me a.durable.part (service_over s kv) (role_of c.volatile.role) old new r) like.service
    (subst (λ (d : Durable). IfCloses a.me d.part (service_over c.service.service kv) (role_of c.volatile.role) old new r) like.durable
    (subst (λ (n : ℕ). IfCloses n c.durable.part (service_over c.service.service kv) (role_of c.volatile.role) old new r) like.me closes)))
