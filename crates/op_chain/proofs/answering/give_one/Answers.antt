use Rattle.std.proofs.Common.{◌≡◌, false, sym, ap, ◌∙◌}
use Rattle.op_protocol.specs.State.{Waiting}
use Rattle.op_protocol.specs.Serving.{Dropping, waits}
use Rattle.op_chain.proofs.Answered.{others_are_all}
use Rattle.op_chain.proofs.answering.give_one.Goals as goal

pub returns-else-remove-clause-given : goal.returns-else-remove-clause-given
returns-else-remove-clause-given c =
    let r = c.args.reply in
    let ws = c.args.waiting.now.waiting in
    let none : waits ws r.client r.seq ≡ false = sym c.remove.ensures.waited ∙ c.if-remove.false in
    rw none (ap (λ (v : Waiting). let d : Dropping = record { waiting = v; replies = c.args.given.now.items } in d) (c.remove.ensures.others ∙ others_are_all ws r.client r.seq none))
