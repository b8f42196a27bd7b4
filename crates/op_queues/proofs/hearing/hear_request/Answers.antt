use Rattle.std.proofs.Common.{rules, ap, sym, refl}
use Rattle.op_types.specs.declared.events.Request.{Request}
use Rattle.op_serving.specs.Reading.{asked_in}
use Rattle.op_serving.specs.Wire.{request_in}
use Rattle.op_queues.proofs.Hears.{request_is, if_bad}
use Rattle.op_queues.proofs.hearing.hear_request.Goals as goal

pub returns-in-Ok-clause-is : goal.returns-in-Ok-clause-is
returns-in-Ok-clause-is g = sym (ap asked_in (request_is g.args.body.now g.in-Ok.request g.in-Ok.ensures.found.0 g.in-Ok.ensures.found.1))

pub returns-in-Err-Bad-clause-is : goal.returns-in-Err-Bad-clause-is
unfolding request_in
returns-in-Err-Bad-clause-is g = rw (if_bad Request _ g.in-Err-Bad.field-0 g.in-Err-Bad.at (search rules) g.in-Err-Bad.ensures.bad).0 refl
