-- A step that is made ready has room in the log too.
use Rattle.std.proofs.Common.{◌≡◌, ℕ, List, refl, sym, ap, ◌∙◌, subst}
use Rattle.op_types.specs.Changes.{durable_after, Applies}
use Rattle.op_types.specs.Rooms.{no_needs, with_room, needed, IsPlain, IsAtRest}
use Rattle.op_types.specs.declared.changes.Change.{Change}
use Rattle.op_types.specs.declared.durable.Durable.{Durable}
use Rattle.op_types.specs.declared.events.Input.{Input}
use Rattle.op_types.specs.declared.needs.Needs.{Needs}
use Rattle.op_types.proofs.Adoption.{bare_rests, room_serves}
use Rattle.op_record.specs.Ranges.{BatchInRange}
use Rattle.op_protocol.specs.State.{State, Planned}
use Rattle.op_protocol.specs.Rows.{table_plan}
use Rattle.op_instance.specs.Memory.{volatile_of}
use Rattle.op_chain.specs.Chains.{state_of, HaveBases, IsSoundChain, IsSame, Admits}
use Rattle.op_chain.specs.Plans.{LeavesWith, Plans, Prepares}
use Rattle.op_chain.specs.declared.chain.Chain.{Chain}
use Rattle.op_chain.specs.declared.chain_plan.ChainPlan.{ChainPlan}
use Rattle.op_chain.proofs.Adopted.{state_is}
use Rattle.op_chain.proofs.Prepared.{batch_made}
use Rattle.op_chain.proofs.Rooms.{rested, node_room, bases_room}

-- the same chain with this room
abbrev pub roomed : Needs → Chain → Chain
roomed n c = record c { durable = with_room n c.durable }

state_roomed : (n : Needs) (c : Chain) → state_of (roomed n c) ≡ state_of c
state_roomed n c = state_is (rested n c.durable) refl refl refl

sound_roomed : (n : Needs) (c : Chain) → IsSoundChain c → IsSoundChain (roomed n c)
sound_roomed n c sound = record { node = node_room n c.me c.durable c.volatile sound.node; bases = bases_room n c.durable sound.bases }

-- room changes nothing
pub same_roomed : (a b c : Chain) (n : Needs) → IsSame a b → c ≡ roomed n b → IsSame a c
same_roomed a b c n same is =
    let made : IsSame a (roomed n b) = record { me = same.me; state = state_roomed n b ∙ same.state; sound = sound_roomed n b same.sound } in
    subst (λ (d : Chain). IsSame a d) (sym is) made

-- a chain is itself
pub same_self : (a : Chain) → IsSoundChain a → IsSame a a
same_self a sound = record { me = refl; state = refl; sound = sound }

pub same_both : (a b c : Chain) → IsSame a b → IsSame b c → IsSame a c
same_both a b c first next = record { me = next.me ∙ first.me; state = next.state ∙ first.state; sound = next.sound }

table_same : (a b : Chain) (x : Input) → IsSame a b → table_plan b.me (state_of b) x ≡ table_plan a.me (state_of a) x
table_same a b x same = ap (λ (n : ℕ). table_plan n (state_of b) x) same.me ∙ ap (λ (s : State). table_plan a.me s x) same.state

-- so does what is admitted
pub admits_same : (a b : Chain) (x : Input) → IsSame a b → Admits a x → Admits b x
admits_same a b x same admits =
    record { sound = same.sound; range = subst (λ (p : Planned). BatchInRange p.batch) (sym (table_same a b x same)) admits.range }

-- what is stored then has no room
pub roomed_rests : (a b : Chain) → b ≡ roomed no_needs a → with_room no_needs b.durable ≡ b.durable
roomed_rests a b is =
    subst (λ (c : Chain). with_room no_needs c.durable ≡ c.durable) (sym is) (rested no_needs a.durable)

module _ (a c d : Chain) (x : Input) (plan : ChainPlan) (admits : Admits a x) (same : IsSame a c) (prepares : Prepares c (table_plan a.me (state_of a) x) plan)
    (bare : with_room no_needs c.durable ≡ c.durable) (plain : IsPlain plan.plan.batch) where
  abbrev batch : List Change
  batch = plan.plan.batch

  abbrev last : Chain
  last = roomed (needed batch) c

  applies_here : Applies c.durable batch
  applies_here = subst (λ (e : Durable). Applies e batch) bare prepares.applies

  rests_here : IsAtRest c.durable
  rests_here = subst IsAtRest bare (bare_rests c.durable)

  stored : (state_of last).durable ≡ (state_of c).durable
  stored = rested (needed batch) c.durable

  plans_last : Plans last x plan
  plans_last =
      let serves = room_serves c.durable batch applies_here plain rests_here in
      let table = prepares.table ∙ sym (table_same a last x (same_roomed a c last (needed batch) same refl)) in
      let range : BatchInRange batch =
      subst (λ (b : List Change). BatchInRange b) (ap (λ (p : Planned). p.batch) (sym prepares.table) ∙ batch_made c.waiting.next (volatile_of c.volatile) c.service.service plan) admits.range in
      record {
        sound = sound_roomed (needed batch) c same.sound;
        table = table;
        range = range;
        applies = serves.applies;
        log = serves.room;
        turn = prepares.turn;
        settled = prepares.settled;
        after = record {
          node = subst (λ (e : Durable). LeavesWith c.me e plan.plan plan.renewal c.volatile) (sym stored) prepares.after.node;
          bases = subst (λ (e : Durable). HaveBases (durable_after e batch)) (sym stored) prepares.after.bases;
        };
        room = prepares.room;
      }

  pub plans_ready : d ≡ last → Plans d x plan
  plans_ready is = subst (λ (n : Chain). Plans n x plan) (sym is) plans_last
