use Rattle.std.proofs.Common.{rules, ℕ, refl}
use Rattle.std.proofs.lemmas.Bool.{eq-eqb, ne_eqb}
use Rattle.op_types.specs.declared.messages.Msg.{Msg}
use Rattle.op_serving.specs.Wire.{message_in}
use Rattle.op_queues.proofs.Hears.{message_is, if_bad}
use Rattle.op_queues.proofs.hearing.hear_message.Goals as goal

pub returns-then-from-peer-clause-is : goal.returns-then-from-peer-clause-is
returns-then-from-peer-clause-is g =
    let said = message_is g.args.body.now (g.in-Ok.from, g.in-Ok.to, g.in-Ok.message) g.in-Ok.ensures.found.0 g.in-Ok.ensures.found.1 in
    rw (said, ne_eqb g.in-Ok.from g.args.peer (search rules)) refl

pub returns-then-to-me-clause-is : goal.returns-then-to-me-clause-is
returns-then-to-me-clause-is g =
    let said = message_is g.args.body.now (g.in-Ok.from, g.in-Ok.to, g.in-Ok.message) g.in-Ok.ensures.found.0 g.in-Ok.ensures.found.1 in
    rw (said, eq-eqb g.in-Ok.from g.args.peer (search rules), ne_eqb g.in-Ok.to g.args.me (search rules)) refl

pub returns-else-to-me-clause-is : goal.returns-else-to-me-clause-is
returns-else-to-me-clause-is g =
    let said = message_is g.args.body.now (g.in-Ok.from, g.in-Ok.to, g.in-Ok.message) g.in-Ok.ensures.found.0 g.in-Ok.ensures.found.1 in
    rw (said, eq-eqb g.in-Ok.from g.args.peer (search rules), eq-eqb g.in-Ok.to g.args.me (search rules)) refl

pub returns-in-Err-Bad-clause-is : goal.returns-in-Err-Bad-clause-is
unfolding message_in
returns-in-Err-Bad-clause-is g = rw (if_bad (ℕ × ℕ × Msg) _ g.in-Err-Bad.field-0 g.in-Err-Bad.field-0-0 (search rules) g.in-Err-Bad.ensures.bad).0 refl
