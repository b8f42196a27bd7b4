use Rattle.op_follower.proofs.Gaps.{first_elsewhere}
use Rattle.op_follower.proofs.fronts.first_at.Goals as goal

pub returns-else-first-place-clause-none : goal.returns-else-first-place-clause-none
returns-else-first-place-clause-none c =
    first_elsewhere c.args.staged.now c.args.place c.first-item.result c.in-len1-up.len_at_least c.first-item.is c.requires.rising c.requires.passed c.if-first-place.false
