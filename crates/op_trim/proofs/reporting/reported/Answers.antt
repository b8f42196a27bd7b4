use Rattle.op_trim.proofs.Rows.{report_row}
use Rattle.op_trim.proofs.reporting.reported.Goals as goal

pub returns-clause-row : goal.returns-clause-row
returns-clause-row c = report_row c.args.member.now.me c.args.member.now.part.now c.args.leading.now c.args.report c.keep_or_trim.result c.keep_or_trim.ensures.plan
