use Rattle.std.specs.Io.KnownBytes.{Keeps}
use Rattle.op_edge.proofs.input.read_again.Given as goal

abbrev pub invariant-tries : goal.invariant-tries
invariant-tries g l = Keeps (g.R.Read.remaining l.fn.inner) (g.R.Read.remaining l.inner)
