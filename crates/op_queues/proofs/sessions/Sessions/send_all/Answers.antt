use Rattle.std.proofs.Common.{◌∙◌, ◌≡◌, ◌∷◌, [], ℕ, List, refl, arith}
use Rattle.std.proofs.lemmas.List.{nil_from_length}
use Rattle.std.specs.Vec.Iter.{into_iter_items}
use Rattle.op_types.specs.declared.messages.Msg.{Msg}
use Rattle.op_serving.specs.Handing.{sent, sent_all}
use Rattle.op_queues.proofs.Settling.{does_then, does_nothing}
use Rattle.op_queues.proofs.Sending.{blind_sent_all}
use Rattle.op_queues.proofs.sessions.Sessions.send_all.Goals as goal

pub loop-message-init : goal.loop-message-init
loop-message-init c = λ t d. rw (c.into_iter-message-iterator.ensures.into_iter_gives.0 ∙ c.into_vec-message-items.ensures) at d

pub loop-message-preserved : goal.loop-message-preserved
loop-message-preserved c = λ t d.
    let left : List (ℕ × Msg) = into_iter_items c.next.new.self in
    let next : into_iter_items c.loop-message.message-iterator ≡ c.in-Some.message ∷ left = c.in-Some.ensures.steps.0 in
    c.loop-message.invariant t (rw next (does_then (sent c.in-Some.message) (sent_all left) (blind_sent_all left) c.send.ensures d))

pub returns : goal.returns
returns c =
    let none : into_iter_items c.loop-message.message-iterator ≡ [] =
    nil_from_length c.loop-message.message-iterator.rest.items (omega (arith, c.loop-message.message-iterator.rest.ok.0, c.in-None.ensures.steps.0)) in
    c.loop-message.invariant c.loop-message.self (rw none (does_nothing (sent_all []) c.loop-message.self refl))
