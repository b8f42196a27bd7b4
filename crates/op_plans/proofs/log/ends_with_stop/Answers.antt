use Rattle.std.proofs.Common.{ap, sym, ◌∙◌}
use Rattle.op_plans.proofs.Ends.{is_stop, ends_with}
use Rattle.op_plans.proofs.log.ends_with_stop.Goals as goal

pub returns-in-Some : goal.returns-in-Some
returns-in-Some c = c.is_stop.ensures ∙ ap is_stop c.in-Some.ensures.value ∙ sym (ends_with c.args.entries.now)
