use Rattle.std.proofs.Common.{List, refl, sym, subst}
use Rattle.std.proofs.lemmas.Result.{IfOk-weaker}
use Rattle.op_types.specs.declared.log.Entry.{Entry}
use Rattle.op_types.specs.declared.plan.Plan.{Plan}
use Rattle.op_deciding.specs.Deciding.{ServesNothing, Continues}
use Rattle.op_deciding.proofs.Decided.{served_is}
use Rattle.op_observer.specs.Plans.{GoesOn, Takes}
use Rattle.op_observer.proofs.Heard.{number_left, takes_served}
use Rattle.op_observer.proofs.taking.take_new.Goals as goal

pub go_on_behind-requires-clause-number : goal.go_on_behind-requires-clause-number
go_on_behind-requires-clause-number c =
    let s = c.args.service.now.service in
    let served = c.serve.new.self in
    let nothing : ServesNothing s c.nothing-served.result =
    subst (ServesNothing s) (sym c.nothing-served.ensures)
    (record { change = refl; replies = refl; stop = refl }) in
    let goes : Continues s c.nothing-served.result served c.args.new =
    subst (λ (es : List Entry). Continues s c.nothing-served.result served es) c.as_slice.ensures
    c.in_ok-serve.ensures in
    number_left c.args.member.now.part.now.conf s c.args.new served c.requires.stops
    (served_is s c.nothing-served.result served c.args.new nothing goes)

pub returns : goal.returns
returns c =
    let m = c.args.member.now in
    let s = c.args.service.now.service in
    let served = c.serve.new.self in
    let nothing : ServesNothing s c.nothing-served.result =
    subst (ServesNothing s) (sym c.nothing-served.ensures)
    (record { change = refl; replies = refl; stop = refl }) in
    let goes : Continues s c.nothing-served.result served c.args.new =
    subst (λ (es : List Entry). Continues s c.nothing-served.result served es) c.as_slice.ensures
    c.in_ok-serve.ensures in
    IfOk-weaker c.go_on_behind.result (GoesOn m.part.now.conf s c.in_ok-plan.plan served)
    (Takes m s c.args.new)
    (λ p k. takes_served m s c.args.new served
    (served_is s c.nothing-served.result served c.args.new nothing goes) p
    (subst (λ (x : Plan). GoesOn m.part.now.conf s x served p) c.in_ok-plan.ensures k)) c.go_on_behind.ensures
