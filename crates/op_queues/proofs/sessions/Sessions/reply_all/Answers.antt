use Rattle.std.proofs.Common.{◌∙◌, ◌≡◌, ◌∷◌, [], List, refl, arith}
use Rattle.std.proofs.lemmas.List.{nil_from_length}
use Rattle.std.specs.Vec.Iter.{into_iter_items}
use Rattle.op_types.specs.declared.answers.Reply.{Reply}
use Rattle.op_serving.specs.Handing.{replied, replied_all}
use Rattle.op_queues.proofs.Settling.{does_then, does_nothing}
use Rattle.op_queues.proofs.Sending.{blind_replied_all}
use Rattle.op_queues.proofs.sessions.Sessions.reply_all.Goals as goal

pub loop-decided-init : goal.loop-decided-init
loop-decided-init c = λ t d. rw (c.into_iter-decided-iterator.ensures.into_iter_gives.0 ∙ c.into_vec-decided-items.ensures) at d

pub loop-decided-preserved : goal.loop-decided-preserved
loop-decided-preserved c = λ t d.
    let left : List Reply = into_iter_items c.next.new.self in
    let next : into_iter_items c.loop-decided.decided-iterator ≡ c.in-Some.decided ∷ left = c.in-Some.ensures.steps.0 in
    c.loop-decided.invariant t
    (rw next (does_then (replied c.args.read c.in-Some.decided) (replied_all c.args.read left) (blind_replied_all c.args.read left) c.reply.ensures d))

pub returns : goal.returns
returns c =
    let none : into_iter_items c.loop-decided.decided-iterator ≡ [] =
    nil_from_length c.loop-decided.decided-iterator.rest.items (omega (arith, c.loop-decided.decided-iterator.rest.ok.0, c.in-None.ensures.steps.0)) in
    c.loop-decided.invariant c.loop-decided.self (rw none (does_nothing (replied_all c.args.read []) c.loop-decided.self refl))
