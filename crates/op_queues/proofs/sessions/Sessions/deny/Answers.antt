use Rattle.std.proofs.Common.{Option, Some, None}
use Rattle.op_types.specs.declared.answers.Refusal.{Refusal}
use Rattle.op_command.specs.Ranges.{DenialInRange, SaidInRange}
use Rattle.op_command.specs.Replies.{said_of as denied}
use Rattle.op_queues.proofs.sessions.Sessions.deny.Goals as goal

denied_in_range : (why : Option Refusal) → DenialInRange why → SaidInRange (denied why)
denied_in_range None h = tt
denied_in_range (Some why) h = h

pub tell_key-requires-clause-said : goal.tell_key-requires-clause-said
tell_key-requires-clause-said c = rw c.denied.ensures (denied_in_range c.args.why c.requires.why)

pub returns : goal.returns
returns c = rw c.denied.ensures at c.tell_key.ensures
