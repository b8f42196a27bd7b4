use Rattle.std.proofs.Common.{◌≡◌, length}
use Rattle.op_chain.specs.Waiting.{without_coming}
use Rattle.op_chain.proofs.waiting_set.take_out.Given as goal

abbrev pub invariant-loop-waiter : goal.invariant-loop-waiter
invariant-loop-waiter l = without_coming l.pairs.keys l.coming.items ≡ without_coming l.initial.pairs.keys l.initial.coming.items

abbrev pub decreases-loop-waiter : goal.decreases-loop-waiter
decreases-loop-waiter l = length l.coming.items
