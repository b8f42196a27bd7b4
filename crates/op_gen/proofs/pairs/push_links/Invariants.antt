use Rattle.std.proofs.Common.{◌≡◌, ◌++◌, take}
use Rattle.op_gen.specs.Links.{links_from}
use Rattle.op_gen.proofs.pairs.push_links.Given as goal

abbrev pub invariant-loop-other : goal.invariant-loop-other
invariant-loop-other l = l.pairs.items ≡ l.fn.pairs.items ++ links_from l.pid (take l.other-index l.others)
