use Rattle.op_replay.proofs.ValidOrBad.{told_valid, report_written, prefix_written, ended_not_refused, cut_not_refused, bad_refused}
use Rattle.op_replay.proofs.command.replay.Goals as goal

pub returns-in-Ok-write_all-clause-output : goal.returns-in-Ok-write_all-clause-output
returns-in-Ok-write_all-clause-output g c =
    report_written _ _ _ _ _ c.in-Ok.ensures.read.all c.in-Ok.ensures.read.few c.in-Ok-replayed.ensures.reports (rw c.deref.ensures.value at c.in-Ok-write_all.ensures.all)

pub returns-in-Ok-replayed-clause-output : goal.returns-in-Ok-replayed-clause-output
returns-in-Ok-replayed-clause-output g c =
    prefix_written _ _ _ _ _ c.in-Ok.ensures.read.all c.in-Ok.ensures.read.few c.in-Ok-replayed.ensures.reports (rw c.deref.ensures.value at c.in-Err-write_all.ensures.prefix)

pub returns-in-Ok-write_all-clause-refused : goal.returns-in-Ok-write_all-clause-refused
returns-in-Ok-write_all-clause-refused g c = ended_not_refused _ _ _ _ _ c.in-Ok.ensures.read.all c.in-Ok.ensures.read.few c.in-Ok-replayed.ensures.reports

pub returns-in-Ok-replayed-clause-refused : goal.returns-in-Ok-replayed-clause-refused
returns-in-Ok-replayed-clause-refused g c = cut_not_refused _ _ _ _ _ c.in-Ok.ensures.read.all c.in-Ok.ensures.read.few c.in-Ok-replayed.ensures.reports

pub returns-in-Err-BadLine-clause-refused : goal.returns-in-Err-BadLine-clause-refused
returns-in-Err-BadLine-clause-refused g c = bad_refused _ _ _ _ _ c.in-Ok.ensures.read.all c.in-Ok.ensures.read.few (rw c.in-Err-BadLine.field-0-is at c.in-Err-BadLine.ensures.bad)

pub returns-in-Err-BadLine-clause-complete : goal.returns-in-Err-BadLine-clause-complete
returns-in-Err-BadLine-clause-complete g c = λ _ _. told_valid _ _ _ c.in-Ok.ensures.read.all (rw c.in-Err-BadLine.field-0-is at c.in-Err-BadLine.ensures.bad)
