use Rattle.std.proofs.Common.{ap, sym, ◌∙◌}
use Rattle.op_types.proofs.Ends.{stop_if_there, last_ends}
use Rattle.op_types.proofs.taking.last_stop.Goals as goal

pub returns-in-Some : goal.returns-in-Some
returns-in-Some c = c.stop.ensures ∙ ap stop_if_there c.in-Some.ensures.value ∙ sym (last_ends c.args.entries.now)
