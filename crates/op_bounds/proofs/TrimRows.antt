-- The rows of trimming are in range.
use Rattle.std.proofs.Common.{◌≤◌, ℕ, not, ltb, leb, eqb, ◌&&◌, List, [], ◌∷◌, ◌++◌, filter, Option, Some, None, arith, All}
use Rattle.std.specs.Prelude.{IfSome}
use Rattle.std.proofs.lemmas.Bool.{cond_both, ltb-true, leb-true, and_parts}
use Rattle.std.proofs.lemmas.List.Elements.{All-nil, All-cons, All-append, All-filter}
use Rattle.op_types.specs.Ballots.{is_same_ballot}
use Rattle.op_types.specs.Ranges.{IsPlace, IsNumber}
use Rattle.op_types.specs.RoleStates.{Leading, report_of, is_news, reports_with, with_report, without_reports}
use Rattle.op_types.specs.Roles as role
use Rattle.op_types.specs.Roles.{Role}
use Rattle.op_types.specs.declared.ballot.Ballot.{Ballot}
use Rattle.op_types.specs.declared.durable.Part.{Part}
use Rattle.op_types.specs.declared.changes.Change.TheVariants as change
use Rattle.op_types.specs.declared.messages.Body.TheVariants as body
use Rattle.op_types.specs.declared.role.Report.{Report}
use Rattle.op_types.specs.declared.answers.Outcome.TheVariants as outcome
use Rattle.op_protocol.specs.Parts.{message, others, to_each, saying, nothing, first}
use Rattle.op_protocol.specs.Reading.{on_confirm}
use Rattle.op_protocol.specs.Trimming.{lesser, least_reported, trims, trims_reported, trims_if_all, trim_now, on_progress, on_trim_ask, on_trim}
use Rattle.op_bounds.specs.Messages.{BallotOf, SendInRange, ReplyInRange}
use Rattle.op_bounds.specs.States.{ReportInRange, LeadingInRange}
use Rattle.op_bounds.proofs.Batches.{PartIn}
use Rattle.op_bounds.proofs.Effects.{RoleIn, RowInRange, row_saying, row_nothing, row_first, row_answered, send_one, send_each, others_all}
use Rattle.op_bounds.proofs.FollowerRows.{decided_place}

-- ---- reports

reports_now : (Known : ℕ → Type 0) (l : Leading) (reports : List Report) → LeadingInRange Known l → All (ReportInRange Known) reports → LeadingInRange Known (record l { reports = reports })
reports_now Known l reports k all =
    record { ballot = k.ballot; adopted_round = k.adopted_round; adopted_len = k.adopted_len; synced = k.synced; acknowledged = k.acknowledged; reports = all }

report_more : (Known : ℕ → Type 0) (l : Leading) (r : Report) → LeadingInRange Known l → ReportInRange Known r → LeadingInRange Known (with_report l r)
report_more Known l r k one =
    reports_now Known l (reports_with l.reports r) k
    (cond_both (is_news (report_of l.reports r.from) r.decided) (filter (λ o. not (eqb o.from r.from)) l.reports ++ r ∷ []) l.reports (All (ReportInRange Known))
    (λ _. All-append (ReportInRange Known) (filter (λ o. not (eqb o.from r.from)) l.reports) (r ∷ []) (All-filter (λ o. not (eqb o.from r.from)) (ReportInRange Known) l.reports k.reports)
    (All-cons (ReportInRange Known) r [] one (All-nil (ReportInRange Known))))
    (λ _. k.reports))

no_reports : (Known : ℕ → Type 0) (l : Leading) → LeadingInRange Known l → LeadingInRange Known (without_reports l)
no_reports Known l k = reports_now Known l [] k (All-nil (ReportInRange Known))

-- what all have decided is no more than what is decided here
least_low : (reports : List Report) (qs : List ℕ) (x : ℕ) → IfSome (least_reported reports qs x) (λ y. y ≤ x)
least_low reports [] x = omega arith
least_low reports (q ∷ qs) x = by (report_of reports q) (least_reported reports qs x) (least_low reports qs x)
  where
    by : (a b : Option ℕ) → IfSome b (λ y. y ≤ x) → IfSome (lesser a b) (λ y. y ≤ x)
    by None b k = tt
    by (Some y) None k = tt
    by (Some y) (Some z) k = omega (arith, k)

-- ---- the rows

module _ (Known : ℕ → Type 0) (me : ℕ) (p : Part) (k : PartIn Known p) where
  -- ---- the leader
  trims_in : (l : Leading) (x : ℕ) → LeadingInRange Known l → x ≤ p.decided → RowInRange Known p.conf p 1 (trims me p l x)
  trims_in l x in_leading low =
      cond_both (ltb p.trimmed x) (first (change.Trim x [] ∷ []) (to_each p.conf (others me p.members) (body.Trim x)) [] (nothing (role.Leading l))) (nothing (role.Leading l)) (RowInRange Known p.conf p 1)
      (λ h. let above = ltb-true p.trimmed x h in
      row_first Known p.conf p 1 0 (change.Trim x [] ∷ []) (to_each p.conf (others me p.members) (body.Trim x)) [] (nothing (role.Leading l)) ((omega arith, low), tt) (omega arith)
      (send_each Known p.conf (others me p.members) (body.Trim x) k.range.conf (omega arith) (omega arith) (others_all Known me p k) (omega (arith, low, decided_place Known p k)))
      (All-nil (ReplyInRange Known)) (row_nothing Known p.conf _ 0 (role.Leading l) in_leading))
      (λ _. row_nothing Known p.conf p 1 (role.Leading l) in_leading)

  reported_in : (l : Leading) (o : Option ℕ) → LeadingInRange Known l → IfSome o (λ y. y ≤ p.decided) → RowInRange Known p.conf p 1 (trims_reported me p l o)
  reported_in l None in_leading low = row_nothing Known p.conf p 1 (role.Leading l) in_leading
  reported_in l (Some x) in_leading low = trims_in (without_reports l) x (no_reports Known l in_leading) low

  if_all_in : (l : Leading) → LeadingInRange Known l → RowInRange Known p.conf p 1 (trims_if_all me p l)
  if_all_in l in_leading = reported_in l (least_reported l.reports (others me p.members) p.decided) in_leading (least_low l.reports (others me p.members) p.decided)

  pub trim_now_in : (r : Role) → RoleIn Known p.conf r → RowInRange Known p.conf p 1 (trim_now me p r)
  trim_now_in role.Idle in_role = row_answered Known p.conf p 1 outcome.NotLeading (nothing role.Idle) tt (row_nothing Known p.conf p 1 role.Idle tt)
  trim_now_in (role.Preparing r) in_role = row_answered Known p.conf p 1 outcome.NotLeading (nothing (role.Preparing r)) tt (row_nothing Known p.conf p 1 (role.Preparing r) in_role)
  trim_now_in (role.Leading l) in_role =
      row_answered Known p.conf p 1 outcome.Asked (first [] (to_each p.conf (others me p.members) (body.TrimAsk l.ballot)) [] (trims_if_all me p (without_reports l))) tt
      (row_first Known p.conf p 1 1 [] (to_each p.conf (others me p.members) (body.TrimAsk l.ballot)) [] (trims_if_all me p (without_reports l)) tt (omega arith)
      (send_each Known p.conf (others me p.members) (body.TrimAsk l.ballot) k.range.conf (omega arith) (omega arith) (others_all Known me p k) in_role.ballot)
      (All-nil (ReplyInRange Known)) (if_all_in (without_reports l) (no_reports Known l in_role)))

  pub progress_in : (r : Role) (q : ℕ) (n : Ballot) (x : ℕ) → RoleIn Known p.conf r → Known q → IsPlace x → RowInRange Known p.conf p 1 (on_progress me p r q n x)
  progress_in role.Idle q n x in_role from place = row_nothing Known p.conf p 1 role.Idle tt
  progress_in (role.Preparing r) q n x in_role from place = row_nothing Known p.conf p 1 (role.Preparing r) in_role
  progress_in (role.Leading l) q n x in_role from place =
      let told : Report = record { from = q; decided = x } in
      cond_both (is_same_ballot n l.ballot) (trims_if_all me p (with_report l told)) (nothing (role.Leading l)) (RowInRange Known p.conf p 1)
      (λ _. if_all_in (with_report l told) (report_more Known l told in_role (record { from = from; decided = place })))
      (λ _. row_nothing Known p.conf p 1 (role.Leading l) in_role)

  -- ---- a follower
  pub trim_ask_in : (r : Role) (q : ℕ) (n : Ballot) → RoleIn Known p.conf r → Known q → BallotOf Known n → RowInRange Known p.conf p 0 (on_trim_ask p r q n)
  trim_ask_in r q n in_role from of =
      cond_both (is_same_ballot p.promised n) (saying r (message p.conf q (body.Progress n p.decided) ∷ [])) (nothing r) (RowInRange Known p.conf p 0)
      (λ _. row_saying Known p.conf p 0 r (message p.conf q (body.Progress n p.decided) ∷ []) in_role
      (send_one Known p.conf q (body.Progress n p.decided) k.range.conf (omega arith) (omega arith) from (of, decided_place Known p k)))
      (λ _. row_nothing Known p.conf p 0 r in_role)

  -- ---- a member that a leader asks whether its ballot is promised
  pub confirm_in : (r : Role) (q : ℕ) (n : Ballot) (number : ℕ) → RoleIn Known p.conf r → Known q → BallotOf Known n → IsNumber number → RowInRange Known p.conf p 0 (on_confirm p r q n number)
  confirm_in r q n number in_role from of fit =
      cond_both (is_same_ballot p.promised n) (saying r (message p.conf q (body.Confirmed n number) ∷ [])) (nothing r) (RowInRange Known p.conf p 0)
      (λ _. row_saying Known p.conf p 0 r (message p.conf q (body.Confirmed n number) ∷ []) in_role
      (send_one Known p.conf q (body.Confirmed n number) k.range.conf (omega arith) (omega arith) from (of, fit)))
      (λ _. row_nothing Known p.conf p 0 r in_role)

  pub trim_in : (r : Role) (x : ℕ) → RoleIn Known p.conf r → RowInRange Known p.conf p 1 (on_trim p r x)
  trim_in r x in_role =
      cond_both (ltb p.trimmed x && leb x p.decided) (first (change.Trim x [] ∷ []) [] [] (nothing r)) (nothing r) (RowInRange Known p.conf p 1)
      (λ h. let parts = and_parts (ltb p.trimmed x) (leb x p.decided) h in
      let above = ltb-true p.trimmed x parts.0 in
      row_first Known p.conf p 1 0 (change.Trim x [] ∷ []) [] [] (nothing r) ((omega arith, leb-true x p.decided parts.1), tt) (omega arith) (All-nil (SendInRange Known)) (All-nil (ReplyInRange Known))
      (row_nothing Known p.conf _ 0 r in_role))
      (λ _. row_nothing Known p.conf p 1 r in_role)
