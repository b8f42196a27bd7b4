use Rattle.std.proofs.Common.{sym, ◌∙◌}
use Rattle.op_memory.proofs.Stops.{without_stopped, without_running}
use Rattle.op_memory.proofs.crash.without_stop.Goals as goal

pub returns-then-is_stop-clause-those : goal.returns-then-is_stop-clause-those
returns-then-is_stop-clause-those c =
    without_stopped c.args.calls.now c.in-Some.rest.now c.in-Some.last.now c.in-Some.ensures.cases.0 (sym c.is_stop.ensures ∙ c.if-is_stop.true)

pub returns-else-is_stop-clause-those : goal.returns-else-is_stop-clause-those
returns-else-is_stop-clause-those c =
    without_running c.args.calls.now c.in-Some.rest.now c.in-Some.last.now c.in-Some.ensures.cases.0 (sym c.is_stop.ensures ∙ c.if-is_stop.false)
