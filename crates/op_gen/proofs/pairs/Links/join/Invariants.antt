use Rattle.std.proofs.Common.{◌≡◌, drop}
use Rattle.op_gen.specs.Links.{is_linked}
use Rattle.op_gen.proofs.pairs.Links.join.Given as goal

abbrev pub invariant-loop-pair : goal.invariant-loop-pair
invariant-loop-pair l = is_linked (drop l.pair-index l.self.pairs.now) l.one l.other ≡ is_linked l.self.pairs.now l.one l.other
