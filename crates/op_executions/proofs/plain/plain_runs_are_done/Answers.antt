use Rattle.op_executions.proofs.PlainRuns.{plain_runs_are_done, plain_events_can_be_done, plain_runs_are_not_refused, plain_refusals_are_one}
use Rattle.op_executions.proofs.plain.plain_runs_are_done.Goals as goal

pub returns : goal.returns
returns c = record { done = plain_runs_are_done; runs = plain_events_can_be_done; whole = plain_runs_are_not_refused; refusal = plain_refusals_are_one }
