use Rattle.std.proofs.Common.{is_some, Option, ap, sym, ◌∙◌}
use Rattle.op_types.specs.declared.log.StopSign.{StopSign}
use Rattle.op_choosing.proofs.Stops.{ends_in_rest, ends_in_prefix}
use Rattle.op_choosing.proofs.filling.ends_both.Goals as goal

pub returns-then-is_empty : goal.returns-then-is_empty
returns-then-is_empty c =
    c.ends_with_stop.ensures ∙ ap (λ (o : Option StopSign). is_some o) (sym (ends_in_prefix c.args.prefix.now c.args.rest.now (sym c.is_empty.ensures ∙ c.if-is_empty.true)))

pub returns-else-is_empty : goal.returns-else-is_empty
returns-else-is_empty c =
    c.ends_with_stop-else-is_empty.ensures ∙ ap (λ (o : Option StopSign). is_some o) (sym (ends_in_rest c.args.prefix.now c.args.rest.now (sym c.is_empty.ensures ∙ c.if-is_empty.false)))
