use Rattle.std.proofs.Common.{◌≡◌, drop}
use Rattle.op_protocol.specs.Election.{greatest}
use Rattle.op_elect.proofs.election.greatest.Given as goal

abbrev pub invariant-loop-reply : goal.invariant-loop-reply
invariant-loop-reply l = greatest l.ballot (drop l.reply-index l.replies) ≡ greatest l.fn.own l.replies
