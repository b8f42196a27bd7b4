use Rattle.std.proofs.Common.{arith}
use Rattle.std.proofs.lemmas.Grind.{common_steps}
use Rattle.op_protocol.specs.Leader.{length_at}
use Rattle.op_counting.proofs.Backing.{greatest_is_backed}
use Rattle.op_counting.proofs.counting.counted.Goals as goal

pub returns : goal.returns
returns c =
    greatest_is_backed (length_at c.args.member.now.me c.args.len c.args.acknowledged.now) c.args.member.now.part.now.members c.args.len _ c.as_slice.result.now (grind (arith, common_steps)) c.greatest_backed.ensures
