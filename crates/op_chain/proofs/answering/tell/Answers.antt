use Rattle.std.proofs.Common.{◌≡◌, false, sym, ap, ◌∙◌}
use Rattle.op_protocol.specs.State.{Waiting}
use Rattle.op_protocol.specs.Serving.{Dropping, is_of_stop, waits}
use Rattle.op_chain.proofs.Answered.{others_are_all}
use Rattle.op_chain.proofs.answering.tell.Goals as goal

pub returns-else-remove-clause-told : goal.returns-else-remove-clause-told
returns-else-remove-clause-told c =
    let r = c.args.reply in
    let ws = c.args.waiting.now.waiting in
    let open_to : is_of_stop r ≡ false = sym c.is_of_stop.ensures ∙ c.if-is_of_stop.false in
    let none : waits ws r.client r.seq ≡ false = sym c.remove.ensures.waited ∙ c.if-remove.false in
    rw (open_to, none) (ap (λ (v : Waiting). let d : Dropping = record { waiting = v; replies = c.args.told.now.items } in d) (c.remove.ensures.others ∙ others_are_all ws r.client r.seq none))
