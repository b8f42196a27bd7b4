-- What a step newly decides stands in its configuration's list behind what its node had decided.
use Rattle.std.proofs.Common.{◌≡◌, ◌<◌, ◌≤◌, ℕ, ◌+◌, ◌-◌, Bool, true, false, cond, is_some, List, [], ◌∷◌, ◌++◌, All, length, take, drop, map, Option, Some, refl, sym, ap, ◌∙◌, subst, ⊎_elim, ◌⊎◌, arith, length-take, take-append-drop, drop_of_length-le}
use Rattle.std.proofs.lemmas.Bool.{cases_lt, cond-true, cond-false}
use Rattle.std.proofs.lemmas.List.{drop-take}
use Rattle.std.specs.Prelude.{nat_eq}
use Rattle.std.specs.Set.{is_member}
use Rattle.op_types.specs.Stops.{stop_at_end}
use Rattle.op_types.specs.Changes.{part_with, closed_by, durable_after}
use Rattle.op_types.specs.declared.changes.Change.{Change}
use Rattle.op_types.specs.declared.changes.Change.TheVariants as change
use Rattle.op_types.specs.declared.durable.Part.{Part}
use Rattle.op_types.specs.declared.durable.Durable.{Durable}
use Rattle.op_types.specs.declared.events.Input.{Input}
use Rattle.op_types.specs.declared.log.Entry.{Entry}
use Rattle.op_spec.specs.Service.{base_bytes}
use Rattle.op_spec.specs.Stands.{PartStands, ClosedStands, Stands}
use Rattle.op_protocol.specs.State.{State, Waiting, PartStep, Planned}
use Rattle.op_protocol.specs.Parts.{part_after, decided_since}
use Rattle.op_protocol.specs.Configurations.{closing_part, closing}
use Rattle.op_protocol.specs.Rows.{based, planned, plan_of, step_at}
use Rattle.op_protocol.proofs.Based.{with_base, based_after}
use Rattle.op_protocol.proofs.Plans.{after_both}
use Rattle.op_protocol.proofs.StepBatches.{IsInside, inside_after, inside_all_based, step_low, low_after, step_inside}

-- what stands after a front, and the entries from there up to another place
pub parted : (a b : ℕ) (list : List Entry) → (more : List Entry) × (list ≡ take a list ++ (drop a (take b list) ++ more))
parted a b list = ⊎_elim shorter longer (cases_lt b a)
  where
    shorter : b < a → (more : List Entry) × (list ≡ take a list ++ (drop a (take b list) ++ more))
    shorter l =
        let none : drop a (take b list) ≡ [] = drop_of_length-le (take b list) (omega (arith, length-take b list, l)) in
        (drop a list, sym (ap (λ (xs : List Entry). take a list ++ (xs ++ drop a list)) none ∙ take-append-drop a list))

    longer : a ≤ b → (more : List Entry) × (list ≡ take a list ++ (drop a (take b list) ++ more))
    longer l =
        let sum : b ≡ a + (b - a) = omega (arith, l) in
        let middle : drop a (take b list) ≡ take (b - a) (drop a list) = ap (λ (n : ℕ). drop a (take n list)) sum ∙ drop-take a (b - a) list in
        (drop (b - a) (drop a list), sym (ap (λ (xs : List Entry). take a list ++ (xs ++ drop (b - a) (drop a list))) middle ∙ ap (λ (xs : List Entry). take a list ++ xs) (take-append-drop (b - a) (drop a list)) ∙ take-append-drop a list))

drop_both : (m n : ℕ) (l : List Entry) → drop m (drop n l) ≡ drop (n + m) l
drop_both m n l = Rattle.std.proofs.lemmas.List.drop-drop m n l

conf_one : (p : Part) (c : Change) → (part_with p c).conf ≡ p.conf
conf_one p (change.Promise n) = refl
conf_one p (change.Accept n) = refl
conf_one p (change.CutTo n) = refl
conf_one p (change.Append es) = refl
conf_one p (change.Decided x) = refl
conf_one p (change.Trim x b) = refl
conf_one p (change.Close named b) = refl
conf_one p (change.JoinBegin c members olds len) = refl
conf_one p (change.JoinDonor q t) = refl
conf_one p (change.JoinBase at b) = refl
conf_one p (change.JoinPart at es) = refl
conf_one p (change.JoinDone b) = refl
conf_one p (change.Rebase conf members at base) = refl

-- changes of a part leave its configuration
pub conf_after : (p : Part) (batch : List Change) → (part_after p batch).conf ≡ p.conf
conf_after p [] = refl
conf_after p (c ∷ batch) = conf_after (part_with p c) batch ∙ conf_one p c

-- and its members
members_one : (p : Part) (c : Change) → (part_with p c).members ≡ p.members
members_one p (change.Promise n) = refl
members_one p (change.Accept n) = refl
members_one p (change.CutTo n) = refl
members_one p (change.Append es) = refl
members_one p (change.Decided x) = refl
members_one p (change.Trim x base) = refl
members_one p (change.Close named base) = refl
members_one p (change.JoinBegin conf members olds len) = refl
members_one p (change.JoinDonor q trimmed) = refl
members_one p (change.JoinBase at base) = refl
members_one p (change.JoinPart at es) = refl
members_one p (change.JoinDone base) = refl
members_one p (change.Rebase conf members at base) = refl

pub members_after : (p : Part) (batch : List Change) → (part_after p batch).members ≡ p.members
members_after p [] = refl
members_after p (c ∷ batch) = members_after (part_with p c) batch ∙ members_one p c

-- ---- the part that a step leaves

module _ (first : List ℕ) (lists : ℕ → List Entry) (me : ℕ) (s : State) (p : Part) (has : s.durable.part ≡ Some p) (low : p.trimmed ≤ p.decided) (waiting : Waiting) (x : Input)
    (stands : Stands first lists (durable_after s.durable (plan_of me s waiting (step_at me s.durable s.volatile x)).batch)) where
  abbrev row : PartStep
  row = step_at me s.durable s.volatile x

  abbrev left : Part
  left = part_after p row.batch

  -- the same with bases
  based_left : (y : List ℕ) × (part_after p (map (based p) row.batch) ≡ with_base left y)
  based_left = based_after p p p.base row.batch

  abbrev q : Part
  q = part_after p (map (based p) row.batch)

  kept_low : left.trimmed ≤ p.decided
  kept_low = low_after p.decided p row.batch (step_low me s.durable s.volatile x p has).changes low

  inside : All IsInside (map (based p) row.batch)
  inside = inside_all_based p row.batch (step_inside me s.durable s.volatile x).changes

  abbrev plan : Planned
  plan = planned s waiting row

  batch_is : plan.batch ≡ map (based p) row.batch
  batch_is = ap (λ (o : Option Part). Rattle.op_protocol.specs.Rows.based_batch o row.batch) has

  part_is : (durable_after s.durable plan.batch).part ≡ Some q
  part_is = ap (λ (b : List Change). (durable_after s.durable b).part) batch_is ∙ inside_after s.durable p (map (based p) row.batch) inside has

  -- entries from a front of the list
  since_list : (l : List Entry) (n : ℕ) → take (q.decided - q.trimmed) q.tail.items ≡ drop q.trimmed (take n l) → decided_since p left ≡ drop p.decided (take n l)
  since_list l n e =
      let same : decided_since p left ≡ decided_since p q = sym (ap (decided_since p) based_left.1) in
      let trimmed : q.trimmed ≡ left.trimmed = ap (λ (y : Part). y.trimmed) based_left.1 in
      same ∙ ap (drop (p.decided - q.trimmed)) e ∙ drop_both (p.decided - q.trimmed) q.trimmed (take n l)
      ∙ ap (λ (m : ℕ). drop m (take n l)) (omega (arith, trimmed, kept_low))

  -- it stands
  pub record Newly (c : ℕ) : Type 0 where
    pub to : ℕ
    pub is : decided_since p left ≡ drop p.decided (take to (lists c))

  -- where the part goes on
  open_newly : (d : Durable) → d.part ≡ Some q → Stands first lists d → Newly q.conf
  open_newly d e k = let r : PartStands first lists q = subst (Rattle.op_spec.specs.Stands.IfPartStands first lists) e k.part in record { to = q.decided; is = since_list (lists q.conf) q.decided r.entries }

  -- where it is closed
  closed_newly : (d : Durable) → d.closed ≡ Some (closed_by q) → Stands first lists d → Newly q.conf
  closed_newly d e k =
      let r : ClosedStands first lists (closed_by q) = subst (Rattle.op_spec.specs.Stands.IfClosedStands first lists) e k.closed in
      let l : List Entry = lists q.conf in
      record { to = length l; is = since_list l (length l) (r.entries ∙ ap (drop q.trimmed) (sym (Rattle.std.proofs.Common.take_all (length l) l (omega arith)))) }

  newly_at : Newly q.conf
  newly_at = by (is_some (stop_at_end (decided_since p (part_after p plan.batch)))) refl
    where
      plan_is : plan_of me s waiting row ≡ cond (is_some (stop_at_end (decided_since p (part_after p plan.batch)))) (closing_part me (part_after p plan.batch) plan) plan
      plan_is = ap (λ (o : Option Part). closing me o plan) has

      end_is : part_after p plan.batch ≡ q
      end_is = ap (part_after p) batch_is

      by : (b : Bool) → is_some (stop_at_end (decided_since p (part_after p plan.batch))) ≡ b → Newly q.conf
      by false e =
          open_newly (durable_after s.durable plan.batch) part_is
          (subst (λ (y : Planned). Stands first lists (durable_after s.durable y.batch)) (plan_is ∙ cond-false _ (closing_part me (part_after p plan.batch) plan) plan e) stands)
      by true e =
          let d1 : Durable = durable_after s.durable plan.batch in
          let named : Bool = is_member nat_eq (closed_by (part_after p plan.batch)).next me in
          let close : Change = change.Close named (base_bytes plan.service) in
          let after : Durable = durable_after s.durable (plan.batch ++ close ∷ []) in
          let closed : after.closed ≡ Some (closed_by q) =
          ap (λ (d : Durable). d.closed) (after_both s.durable plan.batch (close ∷ []))
          ∙ ap (λ (o : Option Part). (Rattle.op_types.specs.Changes.durable_closing o d1 named (base_bytes plan.service)).closed) part_is in
          closed_newly after closed
          (subst (λ (y : Planned). Stands first lists (durable_after s.durable y.batch)) (plan_is ∙ cond-true _ (closing_part me (part_after p plan.batch) plan) plan e) stands)

  -- what the step newly decides stands in the list of its configuration, from what was decided on
  pub step_newly : Newly p.conf
  step_newly = subst Newly (conf_after p (map (based p) row.batch)) newly_at
