-- A step that decides its part's stop-sign may close the part: its batch applies with the Close behind it, and what is left
-- is sound.
use Rattle.std.proofs.Common.{◌≡◌, ℕ, ◌+◌, ◌-◌, ◌<◌, ◌≤◌, Bool, true, false, eqb, List, [], ◌∷◌, ◌++◌, length, All, Option, Some, None, refl, sym, ap, ◌∙◌, subst, arith}
use Rattle.std.specs.Prelude.{is_some, nat_eq}
use Rattle.std.specs.Set.{is_member}
use Rattle.std.proofs.lemmas.Bool.{cond-false, ne_eqb}
use Rattle.std.proofs.lemmas.List.{length-take}
use Rattle.std.proofs.lemmas.List.Elements.{All-nil}
use Rattle.op_types.specs.Ballots.{no_ballot}
use Rattle.op_types.specs.Limits.{positions_end, last_conf}
use Rattle.op_types.specs.Joinings.{Held}
use Rattle.op_types.specs.Ranges.{IsMember}
use Rattle.op_types.specs.Stops.{stop_at_end, named_by}
use Rattle.op_types.specs.Changes.{IsCommand, IsEnded, len_of, new_part, closed_len, closed_by, decided_tail, part_after_closed, durable_closing, durable_after, PartOptionApplies, Applies}
use Rattle.op_types.specs.Roles.{Role, Idle, role_of, turned}
use Rattle.op_types.specs.declared.answers.Cause.TheVariants as cause
use Rattle.op_types.specs.declared.changes.Change.{Change}
use Rattle.op_types.specs.declared.changes.Change.TheVariants as change
use Rattle.op_types.specs.declared.log.Entry.{Entry}
use Rattle.op_types.specs.declared.durable.Durable.{Durable}
use Rattle.op_types.specs.declared.durable.Part.{Part}
use Rattle.op_types.specs.declared.log.StopSign.{StopSign}
use Rattle.op_types.specs.declared.messages.Msg.{Msg}
use Rattle.op_types.specs.declared.plan.Plan.{Plan}
use Rattle.op_spec.specs.Service.{Service, base_bytes}
use Rattle.op_protocol.specs.State as step
use Rattle.op_protocol.specs.State.{PartStep}
use Rattle.op_protocol.specs.Parts.{part_after, decided_since}
use Rattle.op_protocol.specs.Configurations.{latest_in, latest_of, news_of}
use Rattle.op_protocol.specs.Reading.{decided_of, why_given_up}
use Rattle.op_protocol.specs.Leader.{given_up_by}
use Rattle.op_protocol.specs.Rows.{newly_decided}
use Rattle.op_protocol.proofs.Plans as plans
use Rattle.op_protocol.proofs.StepBatches.{IsInside, inside_after}
use Rattle.op_kv.specs.Maps.{MapState}
use Rattle.op_plans.specs.Positions.{FitsPositions}
use Rattle.op_follower.specs.Staging.{StagedIsAdmitted}
use Rattle.op_instance.specs.Sound.{IsSound, IsSoundPart, IfSound, IsSoundStep, ListFits, IsNodeOf, IfNodeOf, IsNode}
use Rattle.op_instance.specs.declared.volatile.Volatile.{Volatile}
use Rattle.op_instance.proofs.Batches.{conf_after}
use Rattle.op_plans.proofs.Batches.{after_both as parts_after_both}
use Rattle.op_instance.proofs.Ends.{ended}
use Rattle.op_chain.specs.Leads.{why_closed, why_anew}
use Rattle.op_chain.specs.Plans.{BeginsAnew, BeginsIn, MayClose, IfMayClose, closed_plan, Closes, IfCloses}
use Rattle.op_chain.specs.declared.renewal.Renewal.{Renewal}
use Rattle.op_chain.proofs.Joined.{applies_both}
use Rattle.op_chain.proofs.News.{ends_all}

-- ---- what begins

has_member : (members : List ℕ) (me : ℕ) → IsMember members me → 0 < length members
has_member [] me is = absurd (cc)
has_member (p ∷ members) me is = omega arith

-- where a configuration begins
new_part_sound : (conf me : ℕ) (members base : List ℕ) → conf ≤ last_conf → IsMember members me → IsSound (new_part conf members base) Idle
new_part_sound conf me members base number named =
    record {
      conf = number;
      positions = record { trimmed = omega arith; decided = omega arith; small = omega arith };
      members = has_member members me named;
      log = λ last. All-nil IsCommand;
      promises = tt;
      stops = tt;
      stages = tt;
    }

-- nothing is staged
pub none_staged : (conf : ℕ) (staged : Held) → staged ≡ [] → StagedIsAdmitted conf staged
none_staged conf staged is =
    let none : StagedIsAdmitted conf [] = record { small = tt; stops = λ last. All-nil (λ (x : ℕ × Entry). IsCommand x.1) } in
    subst (λ (h : Held). StagedIsAdmitted conf h) (sym is) none

-- what a member of it keeps in memory
pub new_node : (conf me : ℕ) (members base : List ℕ) (v : Volatile) → conf ≤ last_conf → IsMember members me → BeginsAnew me members v → IsNodeOf me (new_part conf members base) v
new_node conf me members base v number named anew =
    let idle : role_of v.role ≡ Idle = ap (λ (w : step.Volatile). w.role) anew.first in
    record {
      sound = subst (λ (r : Role). IsSound (new_part conf members base) r) (sym idle) (new_part_sound conf me members base number named);
      staged = none_staged conf v.staged.items (ap (λ (w : step.Volatile). w.staged) anew.first);
      kept = anew.kept named (new_part conf members base) refl;
    }

-- ---- what is closed

closed_fits : (p : Part) → FitsPositions p → IsEnded p → ListFits (closed_by p)
closed_fits p fits over =
    let len = length-take (p.decided - p.trimmed) p.tail.items in
    let ends : len_of p ≤ positions_end = fits.small in
    record { number = over.1; len = omega arith }

-- the part that a closing leaves, if it leaves one
left_by : (me : ℕ) (q : Part) (named : Bool) (base : List ℕ) (v : Volatile) → is_member nat_eq (closed_by q).next me ≡ named → IsEnded q → BeginsAnew me (closed_by q).next v
    → IfNodeOf me (part_after_closed (closed_by q) named base) v
left_by me q true base v is over anew = let below : q.conf < last_conf = over.1 in new_node (q.conf + 1) me (closed_by q).next base v (omega arith) is anew
left_by me q false base v is over anew = tt

-- nothing is decided in it
over_decided : (q : Part) (named : Bool) (base : List ℕ) → decided_of (part_after_closed (closed_by q) named base) ≡ 0
over_decided q true base = refl
over_decided q false base = refl

-- the closed list ends at the stop-sign
over_stop : (q : Part) → FitsPositions q → closed_len (closed_by q) ≡ q.decided
over_stop q fits =
    let cut = length-take (q.decided - q.trimmed) q.tail.items in
    let trimmed = fits.trimmed in
    let decided = fits.decided in
    omega (arith, cut, trimmed, decided)

-- and that is why the node leads no more
over_why : (q : Part) (named : Bool) (base : List ℕ) → FitsPositions q → why_given_up q.conf (part_after_closed (closed_by q) named base) (Some (closed_by q)) ≡ cause.Stop (q.decided - 1)
over_why q true base fits =
    let other : eqb (q.conf + 1) q.conf ≡ false = ne_eqb (q.conf + 1) q.conf (λ e. omega (arith, e)) in
    cond-false (eqb (q.conf + 1) q.conf) (cause.Ballot no_ballot) (cause.Stop (closed_len (closed_by q) - 1)) other
    ∙ ap (λ (n : ℕ). cause.Stop (n - 1)) (over_stop q fits)
over_why q false base fits = ap (λ (n : ℕ). cause.Stop (n - 1)) (over_stop q fits)

-- ---- a step that decides the stop-sign

module _ (me : ℕ) (d : Durable) (p : Part) (y : PartStep) (is : d.part ≡ Some p) (inside : All IsInside y.batch) (sound : IsSoundStep me d y) where
  -- the part that it leaves
  abbrev left : Part
  left = part_after p y.batch

  leaves : (durable_after d y.batch).part ≡ Some left
  leaves = inside_after d p y.batch inside is

  left_part : IsSoundPart left y.volatile
  left_part = subst (λ (o : Option Part). IfSound o y.volatile) leaves sound.sound.part

  left_sound : IsSound left y.volatile.role
  left_sound = left_part.sound

  left_ended : is_some (stop_at_end (decided_since p left)) ≡ true → IsEnded left
  left_ended ends = ended p left left_sound.log left_sound.conf ends

  pub may_close : MayClose p y.batch
  may_close =
      record {
        positions = left_sound.positions;
        number = λ ends. let over = left_ended ends in let below : left.conf < last_conf = over.1 in subst (λ (n : ℕ). n < last_conf) (conf_after p y.batch) below;
      }

  module _ (base : List ℕ) (ends : is_some (stop_at_end (decided_since p left)) ≡ true) where
    -- what closes it
    abbrev close : Change
    close = change.Close (is_member nat_eq (closed_by left).next me) base

    -- its batch, with the Close
    pub close_applies : Applies d (y.batch ++ close ∷ [])
    close_applies =
        applies_both d y.batch (close ∷ []) sound.applies
        (subst (λ (o : Option Part). PartOptionApplies o close) (sym leaves) (left_ended ends), tt)

    -- what it leaves
    abbrev named : Bool
    named = is_member nat_eq (closed_by left).next me

    after : durable_after d (y.batch ++ close ∷ []) ≡ durable_closing (Some left) (durable_after d y.batch) named base
    after =
        plans.after_both d y.batch (close ∷ []) ∙ ap (λ (o : Option Part). durable_closing o (durable_after d y.batch) named base) leaves

    close_node : (v : Volatile) → BeginsAnew me (closed_by left).next v → IsNode me (durable_after d (y.batch ++ close ∷ [])) v
    close_node v anew =
        let node : IsNode me (durable_closing (Some left) (durable_after d y.batch) named base) v = record {
          part = left_by me left named base v refl (left_ended ends) anew;
          closed = closed_fits left left_sound.positions (left_ended ends);
          joining = sound.sound.joining;
        } in
        subst (λ (z : Durable). IsNode me z v) (sym after) node

    -- why the node leads no more
    close_why : why_given_up (latest_of d) (durable_after d (y.batch ++ close ∷ [])).part (durable_after d (y.batch ++ close ∷ [])).closed ≡ why_closed d.part (y.batch ++ close ∷ [])
    close_why =
        let latest : latest_of d ≡ left.conf = ap (λ (o : Option Part). latest_in o d.closed) is ∙ sym (conf_after p y.batch) in
        let ended_at : why_closed d.part (y.batch ++ close ∷ []) ≡ cause.Stop (left.decided - 1) =
        ap (λ (o : Option Part). why_closed o (y.batch ++ close ∷ [])) is ∙ ap (λ (q : Part). cause.Stop (q.decided - 1)) (parts_after_both p y.batch (close ∷ [])) in
        ap (λ (n : ℕ). why_given_up n (durable_after d (y.batch ++ close ∷ [])).part (durable_after d (y.batch ++ close ∷ [])).closed) latest
        ∙ ap (λ (z : Durable). why_given_up left.conf z.part z.closed) after
        ∙ over_why left named base left_sound.positions
        ∙ sym ended_at

    pub close_leaves : (r : Renewal) → BeginsAnew me (closed_by left).next r.volatile → r.service ≡ None → BeginsIn me d (y.batch ++ close ∷ []) r
    close_leaves r anew none =
        record {
          node = close_node r.volatile anew;
          idle = ap (λ (w : step.Volatile). w.role) anew.first;
          undecided = ap (λ (z : Durable). decided_of z.part) after ∙ over_decided left named base;
          why = close_why ∙ ap (λ (m : Option MapState). why_anew d (y.batch ++ close ∷ []) m) (sym none);
        }

-- ---- a plan that closes the part

-- those that are named
pub next_is : (p q : Part) (stop : StopSign) → stop_at_end (decided_since p q) ≡ Some stop → (closed_by q).next ≡ stop.members
next_is p q stop ends = ap named_by (ends_all (p.decided - q.trimmed) (decided_tail q) stop ends)

module _ (me : ℕ) (o : Option Part) (s : Service) (r : Role) (old : Plan) where
  module _ (p : Part) (is : o ≡ Some p) (stop : StopSign) (ends : stop_at_end (newly_decided o old.batch) ≡ Some stop) where
    -- the stop-sign of the part
    pub ends_here : stop_at_end (decided_since p (part_after p old.batch)) ≡ Some stop
    ends_here = subst (λ (x : Option Part). stop_at_end (newly_decided x old.batch) ≡ Some stop) is ends

    pub may_here : IfMayClose o old.batch → MayClose p old.batch
    may_here may = subst (λ (x : Option Part). IfMayClose x old.batch) is may

    pub number_here : IfMayClose o old.batch → p.conf < last_conf
    number_here may = (may_here may).number (ap is_some ends_here)

    -- the part is closed with its stop-sign
    pub closes_up : (batch : List Change) (sends : List (ℕ × Msg)) (named : Bool) (base : List ℕ) (x : Renewal) → named ≡ is_member nat_eq stop.members me → base ≡ base_bytes s
        → batch ≡ old.batch ++ change.Close named base ∷ [] → sends ≡ old.sends ++ news_of (closed_by (part_after p old.batch)) → BeginsAnew me stop.members x.volatile → x.service ≡ None
        → x.given_up ≡ given_up_by (turned old.turn r) (cause.Stop ((part_after p old.batch).decided - 1))
        → (let new : Plan = record old { batch = batch; sends = sends } in IfCloses me o s r old new (Some x))
    closes_up batch sends named base x names bases adds tells anew none gives =
        let q : Part = part_after p old.batch in
        let new : Plan = record old { batch = batch; sends = sends } in
        let next : (closed_by q).next ≡ stop.members = next_is p q stop ends_here in
        let same : named ≡ is_member nat_eq (closed_by q).next me = names ∙ ap (λ (ms : List ℕ). is_member nat_eq ms me) (sym next) in
        let changes : batch ≡ old.batch ++ change.Close (is_member nat_eq (closed_by q).next me) (base_bytes s) ∷ [] =
        adds ∙ ap (λ (b : Bool). old.batch ++ change.Close b base ∷ []) same ∙ ap (λ (b : List ℕ). old.batch ++ change.Close (is_member nat_eq (closed_by q).next me) b ∷ []) bases in
        let plan : new ≡ closed_plan me q s old =
        ap (λ (b : List Change). let n : Plan = record old { batch = b; sends = sends } in n) changes
        ∙ ap (λ (m : List (ℕ × Msg)). let n : Plan = record old { batch = old.batch ++ change.Close (is_member nat_eq (closed_by q).next me) (base_bytes s) ∷ []; sends = m } in n) tells in
        let closes : Closes me q s r old new x = record { plan = plan; anew = subst (λ (ms : List ℕ). BeginsAnew me ms x.volatile) (sym next) anew; service = none; given_up = gives } in
        subst (λ (y : Option Part). IfCloses me y s r old new (Some x)) (sym is) (closes, ap is_some ends_here)
