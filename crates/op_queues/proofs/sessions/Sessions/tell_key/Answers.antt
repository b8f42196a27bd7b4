use Rattle.std.proofs.Common.{inr, subst, sym}
use Rattle.op_command.specs.declared.reply.ClientReply.{ClientReply}
use Rattle.op_command.specs.Ranges.{ReplyInRange}
use Rattle.op_queues.proofs.sessions.Sessions.tell_key.Goals as goal

pub answer-requires : goal.answer-requires
answer-requires c = subst (λ (r : ClientReply). ReplyInRange r) (sym c.of_command-what.ensures) (record { asked = inr c.requires.key; said = c.requires.said })

pub returns : goal.returns
returns c = rw c.of_command-what.ensures at c.answer.ensures
