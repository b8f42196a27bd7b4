use Rattle.std.proofs.Common.{refl, sym, subst}
use Rattle.std.proofs.lemmas.Result.{IfOk-weaker}
use Rattle.op_types.specs.declared.events.Input.{Input}
use Rattle.op_plans.specs.declared.member.Member.{Member}
use Rattle.op_observer.specs.Plans.{Prepares, Hears}
use Rattle.op_observer.proofs.Prepared.{prepared_heard, prepared_answer}
use Rattle.op_observer.proofs.observer.Observer.prepare_at.Goals as goal

pub returns-in-Deliver : goal.returns-in-Deliver
returns-in-Deliver c =
    let o = c.args.self.now in
    let m : Member = record { alloc = o.alloc; me = o.me; part = c.args.part } in
    let message = c.in-Deliver.message in
    IfOk-weaker c.hear.result (Hears m o.stage o.service.service message) (Prepares o c.args.input)
    (λ p k. subst (λ (x : Input). Prepares o x p) (sym c.in-Deliver.is)
    (prepared_heard o m refl c.requires.part c.in-Deliver.field-0 message p k)) c.hear.ensures

pub returns-in_ok-plan-in_default : goal.returns-in_ok-plan-in_default
returns-in_ok-plan-in_default c =
    let o = c.args.self.now in
    let m : Member = record { alloc = o.alloc; me = o.me; part = c.args.part } in
    prepared_answer o m refl c.requires.part c.args.input c.in_default.not-Deliver
    c.in_ok-plan-in_default.plan
    c.in_ok-plan-in_default.ensures c.alone.result c.alone.ensures
