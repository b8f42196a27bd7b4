use Rattle.op_leader.specs.Completing.{staged_of}
use Rattle.op_leader.proofs.Gaps.{first_tells, second_tells}
use Rattle.op_leader.proofs.staged.completes.Goals as goal

pub returns-then-covers : goal.returns-then-covers
returns-then-covers c =
    second_tells (staged_of c.args.stages.now c.args.from) c.staged-items.result.now c.args.part.now c.len.result c.covers.result c.covers-then-covers.result
    c.requires c.staged-items.ensures.items c.len.ensures c.covers.ensures c.covers-then-covers.ensures c.if-covers.true

pub returns-else-covers : goal.returns-else-covers
returns-else-covers c =
    first_tells (staged_of c.args.stages.now c.args.from) c.staged-items.result.now c.args.part.now c.covers.result
    c.requires c.staged-items.ensures.items c.covers.ensures c.if-covers.false
