-- What is left of a part where nothing begins anew.
use Rattle.std.proofs.Common.{◌≡◌, ℕ, true, false, eqb, List, [], ◌∷◌, Option, Some, None, refl, sym, ap, ◌∙◌, subst}
use Rattle.std.specs.Prelude.{is_some}
use Rattle.std.proofs.lemmas.Bool.{both_ways, cond-true, eq-eqb}
use Rattle.op_types.specs.Changes.{part_with, durable_after}
use Rattle.op_types.specs.Rooms.{part_with_room, part_option_with_room}
use Rattle.op_types.specs.declared.answers.Cause.TheVariants as cause
use Rattle.op_types.specs.declared.changes.Change.{Change}
use Rattle.op_types.specs.declared.changes.Change.TheVariants as change
use Rattle.op_types.specs.declared.durable.Durable.{Durable}
use Rattle.op_types.specs.declared.durable.Part.{Part}
use Rattle.op_types.specs.declared.plan.Plan.{Plan}
use Rattle.op_protocol.specs.Parts.{part_after}
use Rattle.op_protocol.specs.Configurations.{latest_in, latest_of}
use Rattle.op_protocol.specs.Reading.{decided_of, stop_of_closed, why_given_up}
use Rattle.op_instance.specs.declared.volatile.Volatile.{Volatile}
use Rattle.op_instance.proofs.Batches.{conf_after}
use Rattle.op_chain.specs.Plans.{IsPartAfter, LeavesWith}
use Rattle.op_chain.specs.declared.renewal.Renewal.{Renewal}

-- ---- room

room_with : (n : ℕ) (p : Part) (c : Change) → part_with (part_with_room n p) c ≡ part_with_room n (part_with p c)
room_with n p (change.Promise b) = refl
room_with n p (change.Accept b) = refl
room_with n p (change.CutTo x) = refl
room_with n p (change.Append es) = refl
room_with n p (change.Decided x) = refl
room_with n p (change.Trim x base) = refl
room_with n p _ = refl

-- a batch leaves the same part, whatever the room
room_after : (n : ℕ) (p : Part) (batch : List Change) → part_after (part_with_room n p) batch ≡ part_with_room n (part_after p batch)
room_after n p [] = refl
room_after n p (c ∷ batch) = ap (λ (q : Part). part_after q batch) (room_with n p c) ∙ room_after n (part_with p c) batch

pub decided_roomed : (n : ℕ) (p : Part) (batch : List Change) → (part_after (part_with_room n p) batch).decided ≡ (part_after p batch).decided
decided_roomed n p batch = ap (λ (q : Part). q.decided) (room_after n p batch)

promised_roomed : (n : ℕ) (p : Part) (batch : List Change) → (part_after (part_with_room n p) batch).promised ≡ (part_after p batch).promised
promised_roomed n p batch = ap (λ (q : Part). q.promised) (room_after n p batch)

-- ---- what is left

left_part : (me : ℕ) (d : Durable) (plan : Plan) (o : Option Renewal) (v : Volatile) → is_some o ≡ false → LeavesWith me d plan o v → IsPartAfter d.part plan.batch (durable_after d plan.batch).part
left_part me d plan None v none leaves = leaves.part
left_part me d plan (Some r) v none leaves = absurd (both_ways true none refl)

module _ (me : ℕ) (d : Durable) (plan : Plan) (o : Option Renewal) (v : Volatile) (none : is_some o ≡ false) (leaves : LeavesWith me d plan o v)
    (p : Part) (here : Option Part) (is : here ≡ Some p) (stored : d.part ≡ part_option_with_room 0 here) where
  part_is : d.part ≡ Some (part_with_room 0 p)
  part_is = stored ∙ ap (λ (q : Option Part). part_option_with_room 0 q) is

  left_is : (durable_after d plan.batch).part ≡ Some (part_after (part_with_room 0 p) plan.batch)
  left_is = subst (λ (q : Option Part). IsPartAfter q plan.batch (durable_after d plan.batch).part) part_is (left_part me d plan o v none leaves)

  -- how much is decided
  pub left_decided : (part_after p plan.batch).decided ≡ decided_of (durable_after d plan.batch).part
  left_decided = sym (ap decided_of left_is ∙ decided_roomed 0 p plan.batch)

  -- why the node leads no more
  pub left_why : cause.Ballot (part_after p plan.batch).promised ≡ why_given_up (latest_of d) (durable_after d plan.batch).part (durable_after d plan.batch).closed
  left_why =
      let q : Part = part_after (part_with_room 0 p) plan.batch in
      let closed = (durable_after d plan.batch).closed in
      let same : eqb q.conf p.conf ≡ true = eq-eqb q.conf p.conf (conf_after (part_with_room 0 p) plan.batch) in
      sym (ap (λ (x : Option Part). why_given_up (latest_in x d.closed) (durable_after d plan.batch).part closed) part_is
      ∙ ap (λ (x : Option Part). why_given_up p.conf x closed) left_is
      ∙ cond-true (eqb q.conf p.conf) (cause.Ballot q.promised) (stop_of_closed closed) same
      ∙ ap (λ b. cause.Ballot b) (promised_roomed 0 p plan.batch))
