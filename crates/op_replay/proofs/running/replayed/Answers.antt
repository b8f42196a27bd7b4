use Rattle.op_sched.specs.Grammar.{IsSchedule}
use Rattle.op_sched.proofs.UnambiguousSchedules.{has_servers, events_in_range}
use Rattle.op_replay.proofs.running.replayed.Goals as goal

pub returns-clause-reports : goal.returns-clause-reports
returns-clause-reports c =
    let s = c.in_ok-schedule.schedule in
    let found : IsSchedule c.args.bytes.items s = rw c.deref.ensures.value at c.in_ok-schedule.ensures.found in
    (s, found, record { summary = c.in_ok-summary.summary; run = c.in_ok-summary.ensures.report; written = c.in_ok-report.ensures })

pub run-requires-clause-members : goal.run-requires-clause-members
run-requires-clause-members c = (has_servers c.args.bytes.items c.in_ok-schedule.schedule (rw c.deref.ensures.value at c.in_ok-schedule.ensures.found)).members

pub run-requires-clause-spares : goal.run-requires-clause-spares
run-requires-clause-spares c = (has_servers c.args.bytes.items c.in_ok-schedule.schedule (rw c.deref.ensures.value at c.in_ok-schedule.ensures.found)).spares.in_range

pub run-requires-clause-observers : goal.run-requires-clause-observers
run-requires-clause-observers c = (has_servers c.args.bytes.items c.in_ok-schedule.schedule (rw c.deref.ensures.value at c.in_ok-schedule.ensures.found)).observers.in_range

pub run-requires-clause-range : goal.run-requires-clause-range
run-requires-clause-range c = events_in_range c.args.bytes.items c.in_ok-schedule.schedule (rw c.deref.ensures.value at c.in_ok-schedule.ensures.found)
