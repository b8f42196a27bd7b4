use Rattle.op_world.proofs.Listing.{Lists}
use Rattle.op_world.proofs.ledger.listed_of.Given as goal

abbrev pub invariant-loop-before : goal.invariant-loop-before
invariant-loop-before l = Lists l.fn.lists.items l.lists.items l.fn.members l.count l.before l.next l.listed
