use Rattle.std.proofs.Common.{Bool, IfOk, sym, subst}
use Rattle.op_executions.specs.Failing.{IfBadEvent}
use Rattle.op_runs.specs.Schedules.{IsFirstRefused}
use Rattle.op_world.specs.Runs.{IsReportOfRun}
use Rattle.op_world.proofs.world.memory.World+MemDisk.run.Goals as goal

pub returns-then-is_mirrored-clause-report : goal.returns-then-is_mirrored-clause-report
returns-then-is_mirrored-clause-report c =
    let a = c.args in
    subst (λ (b : Bool). IfOk c.run_over.result (IsReportOfRun a.members a.spares a.observers b a.events)) (sym c.if-is_mirrored.true) c.run_over.ensures.report

pub returns-then-is_mirrored-clause-bad : goal.returns-then-is_mirrored-clause-bad
returns-then-is_mirrored-clause-bad c =
    let a = c.args in
    subst (λ (b : Bool). IfBadEvent c.run_over.result (IsFirstRefused a.members a.spares a.observers b a.events)) (sym c.if-is_mirrored.true) c.run_over.ensures.bad

pub returns-clause-report : goal.returns-clause-report
returns-clause-report c =
    let a = c.args in
    subst (λ (b : Bool). IfOk c.run_over-2.result (IsReportOfRun a.members a.spares a.observers b a.events)) (sym c.if-is_mirrored.false) c.run_over-2.ensures.report

pub returns-clause-bad : goal.returns-clause-bad
returns-clause-bad c =
    let a = c.args in
    subst (λ (b : Bool). IfBadEvent c.run_over-2.result (IsFirstRefused a.members a.spares a.observers b a.events)) (sym c.if-is_mirrored.false) c.run_over-2.ensures.bad
