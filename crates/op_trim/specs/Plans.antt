-- Plans of a leader that trims.
use Rattle.std.specs.Prelude.{ℕ, nat_lt, List, [], ◌∷◌, ◌++◌, Option, Some, None, if◌then◌else◌}
use Rattle.op_types.specs.declared.ballot.Ballot.{Ballot}
use Rattle.op_types.specs.declared.changes.Change.TheVariants as change
use Rattle.op_types.specs.declared.durable.Part.{Part}
use Rattle.op_types.specs.declared.messages.Body.TheVariants as body
use Rattle.op_types.specs.declared.answers.Outcome.TheVariants as outcome
use Rattle.op_types.specs.declared.role.Report.{Report}
use Rattle.op_types.specs.declared.plan.Plan.{Plan}
use Rattle.op_types.specs.declared.turn.Turn.TheVariants as turn
use Rattle.op_types.specs.Effects.{nothing_plan}
use Rattle.op_types.specs.RoleStates.{reports_with}
use Rattle.op_protocol.specs.Parts.{others, to_each}
use Rattle.op_protocol.specs.Trimming.{least_reported}

-- so much is trimmed, and the others are told
abbrev pub trimming_plan : ℕ → Part → ℕ → Plan
trimming_plan me p x =
    record nothing_plan {
      batch = change.Trim x [] ∷ [];
      sends = to_each p.conf (others me p.members) (body.Trim x);
    }

-- the same, where that isn't trimmed yet
abbrev pub trims_plan : ℕ → Part → ℕ → Plan
trims_plan me p x = if nat_lt p.trimmed x then trimming_plan me p x else nothing_plan

-- the same, if so much is told
abbrev pub trims_told : ℕ → Part → Option ℕ → Plan
trims_told me p None = nothing_plan
trims_told me p (Some x) = trims_plan me p x

-- the others are asked anew; where there are none, what is decided is trimmed
abbrev pub asks_plan : ℕ → Part → Ballot → Plan
asks_plan me p n =
    let x = trims_told me p (least_reported [] (others me p.members) p.decided) in
    record x {
      turn = turn.ClearReports;
      sends = to_each p.conf (others me p.members) (body.TrimAsk n) ++ x.sends;
      outcome = Some outcome.Asked;
    }

-- a report is kept until all have reported; then so much is trimmed, and the reports are used up
abbrev pub told_plan : ℕ → Part → Report → Option ℕ → Plan
told_plan me p r None = record nothing_plan { turn = turn.KeepReport r }
told_plan me p r (Some x) = let y = trims_plan me p x in record y { turn = turn.ClearReports }

-- the same, by the reports before
abbrev pub report_plan : ℕ → Part → List Report → Report → Plan
report_plan me p reports r =
    told_plan me p r (least_reported (reports_with reports r) (others me p.members) p.decided)
