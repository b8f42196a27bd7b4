use Rattle.std.proofs.lemmas.Result.{IfOk-weaker}
use Rattle.op_types.specs.declared.messages.Body.TheVariants as body
use Rattle.op_observer.specs.Plans.{Hears}
use Rattle.op_observer.proofs.Hearing.{saying, heard_as, heard_else}
use Rattle.op_observer.proofs.taking.hear.Goals as goal

pub returns-in-Watch : goal.returns-in-Watch
returns-in-Watch c =
    let m = c.args.member.now in
    let t = c.args.stage.now in
    let s = c.args.service.now.service in
    let message = c.args.message in
    let said = body.Watch c.in-Watch.watch in
    IfOk-weaker c.hear_member.result (Hears m t s (saying message.conf said)) (Hears m t s message)
    (λ p k. heard_as m t s message.conf message.body said p c.in-Watch.is k) c.hear_member.ensures

pub returns : goal.returns
returns c =
    let message = c.args.message in
    heard_else c.args.member.now c.args.stage.now c.args.service.now.service message.conf message.body
    c.doing_nothing.result c.in_default.not-Watch c.doing_nothing.ensures
