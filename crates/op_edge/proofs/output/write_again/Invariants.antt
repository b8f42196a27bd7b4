use Rattle.std.specs.Io.KnownBytes.{Keeps}
use Rattle.op_edge.proofs.output.write_again.Given as goal

abbrev pub invariant-tries : goal.invariant-tries
invariant-tries g l = Keeps (g.W.Write.contents l.fn.inner) (g.W.Write.contents l.inner)
