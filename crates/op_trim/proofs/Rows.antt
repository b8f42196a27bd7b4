-- What the plans of a leader that trims do, against the rows.
use Rattle.std.proofs.Common.{◌≡◌, ℕ, Bool, true, false, cond, List, [], ◌∷◌, Option, Some, None, Result, Ok, Err, refl, sym, ap, ◌∙◌}
use Rattle.std.specs.Prelude.{IfOk, nat_lt}
use Rattle.std.proofs.lemmas.List.{append-nil}
use Rattle.op_types.specs.declared.changes.Change.TheVariants as change
use Rattle.op_types.specs.declared.durable.Part.{Part}
use Rattle.op_types.specs.declared.messages.Msg.{Msg}
use Rattle.op_types.specs.declared.messages.Body.TheVariants as body
use Rattle.op_types.specs.declared.answers.Outcome.TheVariants as outcome
use Rattle.op_types.specs.declared.plan.Plan.{Plan}
use Rattle.op_types.specs.declared.role.Report.{Report}
use Rattle.op_types.specs.declared.role.Leading as leading
use Rattle.op_types.specs.declared.role.Role.TheVariants as variant
use Rattle.op_types.specs.RoleStates as state
use Rattle.op_types.specs.RoleStates.{reports_with, with_report, without_reports}
use Rattle.op_types.specs.Roles.{Role, Leading, leading_of}
use Rattle.op_types.specs.Effects.{Effects, effects_of, nothing_plan}
use Rattle.op_protocol.specs.Parts.{others, to_each, nothing, first, answered}
use Rattle.op_protocol.specs.Trimming.{least_reported, trims, trims_reported, trims_if_all, trim_now}
use Rattle.op_trim.specs.Plans.{trims_plan, asks_plan, told_plan, report_plan, trims_told}

-- what a plan does where the role is this one then
abbrev plan_effects : Role → Plan → Effects
plan_effects r p = record { batch = p.batch; role = r; sends = p.sends; replies = p.replies; outcome = p.outcome }

-- so much is trimmed, and this is sent
abbrev trimming : ℕ → Role → List (ℕ × Msg) → Effects
trimming x r sends = record { batch = change.Trim x [] ∷ []; role = r; sends = sends; replies = []; outcome = None }

module _ (me : ℕ) (p : Part) (l : state.Leading) (x : ℕ) where
  abbrev told : List (ℕ × Msg)
  told = to_each p.conf (others me p.members) (body.Trim x)

  by_test : (b : Bool) → plan_effects (Leading l) (cond b (record nothing_plan { batch = change.Trim x [] ∷ []; sends = told }) nothing_plan) ≡ cond b (first (change.Trim x [] ∷ []) told [] (nothing (Leading l))) (nothing (Leading l))
  by_test true = ap (trimming x (Leading l)) (sym (append-nil told))
  by_test false = refl

  trims_row : plan_effects (Leading l) (trims_plan me p x) ≡ trims me p l x
  trims_row = by_test (nat_lt p.trimmed x)

module _ (me : ℕ) (p : Part) (l : leading.Leading) where
  told_row : (r : Report) (o : Option ℕ) → effects_of (variant.Leading l) (told_plan me p r o) ≡ trims_reported me p (with_report (leading_of l) r) o
  told_row r None = refl
  told_row r (Some x) = trims_row me p (without_reports (leading_of l)) x

  pub report_row : {E : Type 0} (r : Report) (result : Result Plan E) → IfOk result (λ plan. plan ≡ report_plan me p (leading_of l).reports r)
      → IfOk result (λ plan. effects_of (variant.Leading l) plan ≡ trims_if_all me p (with_report (leading_of l) r))
  report_row r (Ok plan) h = ap (effects_of (variant.Leading l)) h ∙ told_row r (least_reported (reports_with (leading_of l).reports r) (others me p.members) p.decided)
  report_row r (Err e) h = tt

  abbrev asked : List (ℕ × Msg)
  asked = to_each p.conf (others me p.members) (body.TrimAsk l.ballot)

  asked_by : (o : Option ℕ) → answered outcome.Asked (first [] asked [] (plan_effects (Leading (without_reports (leading_of l))) (trims_told me p o)))
      ≡ answered outcome.Asked (first [] asked [] (trims_reported me p (without_reports (leading_of l)) o))
  asked_by None = refl
  asked_by (Some x) = ap (λ (e : Effects). answered outcome.Asked (first [] asked [] e)) (trims_row me p (without_reports (leading_of l)) x)

  pub asks_row : {E : Type 0} (result : Result Plan E) → IfOk result (λ plan. plan ≡ asks_plan me p l.ballot)
      → IfOk result (λ plan. effects_of (variant.Leading l) plan ≡ trim_now me p (Leading (leading_of l)))
  asks_row (Ok plan) h = ap (effects_of (variant.Leading l)) h ∙ asked_by (least_reported [] (others me p.members) p.decided)
  asks_row (Err e) h = tt
