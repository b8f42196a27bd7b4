use Rattle.std.proofs.Common.{◌≡◌, ◌++◌, drop}
use Rattle.op_gen.specs.Links.{all_links}
use Rattle.op_gen.proofs.pairs.all_links.Given as goal

abbrev pub invariant-loop-place : goal.invariant-loop-place
invariant-loop-place l = l.pairs.items ++ all_links (drop l.place l.pids) ≡ all_links l.pids
