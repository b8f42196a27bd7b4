use Rattle.std.proofs.Common.{◌∷◌, length, vec_len, vec_capacity}
use Rattle.op_core.proofs.Takings.{Going}
use Rattle.op_core.proofs.groups.take_all.Given as goal

abbrev pub invariant-inputs : goal.invariant-inputs
invariant-inputs g l = Going l.fn.node (l.fn.first ∷ l.fn.inputs.items) l.next l.inputs.items l.fn.results.items l.results.items l.gathered l.node (length l.fn.inputs.items) (vec_len l.results) (vec_capacity l.results) (vec_capacity l.fn.results)

abbrev pub decreases-inputs : goal.decreases-inputs
decreases-inputs g l = length l.inputs.items
