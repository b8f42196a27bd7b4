-- A step of a node that stays in its configuration, and joins no other one, is its row's plan.
use Rattle.std.proofs.Common.{◌≡◌, ◌<◌, ⊎_elim, ℕ, ltb, true, false, List, Option, Some, None, refl, sym, ap, ◌∙◌, arith}
use Rattle.std.proofs.lemmas.Bool.{cond_both, cond-true, cond-false, cases_Bool}
use Rattle.op_types.specs.Changes.{durable_after}
use Rattle.op_types.specs.declared.changes.Change.{Change}
use Rattle.op_types.specs.declared.durable.Durable.{Durable}
use Rattle.op_types.specs.declared.durable.Joining.{Joining}
use Rattle.op_types.specs.declared.durable.Part.{Part}
use Rattle.op_types.specs.declared.events.Input.{Input}
use Rattle.op_types.specs.declared.events.Input.TheVariants as input
use Rattle.op_types.specs.declared.messages.Body.{Body}
use Rattle.op_types.specs.declared.messages.Body.TheVariants as body
use Rattle.op_protocol.specs.Configurations.{latest_of, closing_part}
use Rattle.op_protocol.specs.Joining.{brought_to}
use Rattle.op_protocol.specs.Parts.{part_after}
use Rattle.op_protocol.specs.Rows.{brought_by, planned, plan_of, step_at, step_bringing, table_plan, step_plan, waiting_at}
use Rattle.op_protocol.specs.State.{State, Volatile, Waiting, PartStep, Planned}
use Rattle.op_protocol.proofs.Based.{based_after}
use Rattle.op_laws.proofs.Moves as moves
use Rattle.op_laws.proofs.Moves.{JoiningIsAbove}

none_some : {A : Type 0} (a : A) → None ≡ Some a → ⊥
none_some a e = cc

nothing_brought : (d : Durable) (v : Volatile) (x : Input) → d.joining ≡ None → brought_by d v x ≡ None
nothing_brought d v input.Tick e = refl
nothing_brought d v (input.Deliver q m) e =
    cond_both (ltb m.conf (latest_of d)) None (brought_to d.joining v.pieces m.conf m.body) (λ (o : Option (List Change)). o ≡ None) (λ _. refl)
    (λ _. ap (λ (o : Option Joining). brought_to o v.pieces m.conf m.body) e ∙ nothing_to m.conf m.body)
  where
    nothing_to : (c : ℕ) (b : Body) → brought_to None v.pieces c b ≡ None
    nothing_to c (body.BasePart at bytes) = refl
    nothing_to c _ = refl
nothing_brought d v (input.Commands cs) e = refl
nothing_brought d v (input.Stop ms) e = refl
nothing_brought d v input.TrimNow e = refl
nothing_brought d v (input.Read r) e = refl
nothing_brought d v (input.Up q) e = refl
nothing_brought d v (input.Down q) e = refl

module _ (me : ℕ) (s : State) (x : Input) (p : Part) (has : s.durable.part ≡ Some p) (stays : s.durable.joining ≡ None) where
  abbrev row : PartStep
  row = step_at me s.durable s.volatile x

  abbrev ws : Waiting
  ws = waiting_at me s x

  above : JoiningIsAbove s.durable
  above j h = absurd (none_some j (sym stays ∙ h))

  -- the plan of its row, closed or not
  pub of_row : table_plan me s x ≡ plan_of me s ws row
  of_row = ap (λ o. step_bringing me s x o) (nothing_brought s.durable s.volatile x stays)

  -- its row's plan, where the latest configuration stays
  pub planned_is : latest_of (durable_after s.durable (step_plan me s x).batch) ≡ latest_of s.durable → table_plan me s x ≡ planned s ws row
  planned_is same =
      let plan : Planned = planned s ws row in
      let closed : Planned = closing_part me (part_after p plan.batch) plan in
      ⊎_elim
      (λ (h : moves.ends me s x above p has ws ≡ true).
      let is : table_plan me s x ≡ closed = of_row ∙ moves.plan_is me s x above p has ws ∙ cond-true (moves.ends me s x above p has ws) closed plan h in
      let up : latest_of s.durable < latest_of (durable_after s.durable closed.batch) = moves.leaves me s x above p has ws in
      absurd (omega (arith, up, same, ap (λ (y : Planned). latest_of (durable_after s.durable y.batch)) is)))
      (λ (h : moves.ends me s x above p has ws ≡ false). of_row ∙ moves.plan_is me s x above p has ws ∙ cond-false (moves.ends me s x above p has ws) closed plan h)
      (cases_Bool (moves.ends me s x above p has ws))

  -- the part then is the row's, but for the base of what is trimmed
  pub part_then : (pl : Planned) → pl ≡ planned s ws row → (y : List ℕ) × ((durable_after s.durable pl.batch).part ≡ Some (record (part_after p row.batch) { base = y }))
  part_then pl is =
      let b = based_after p p p.base row.batch in
      (b.0, ap (λ (z : Planned). (durable_after s.durable z.batch).part) is ∙ moves.part_is me s x above p has ws ∙ ap (λ (q : Part). Some q) b.1)
