use Rattle.std.proofs.Common.{◌≡◌, ◌++◌, length, map}
use Rattle.std.specs.Vec.Iter.{into_iter_items, into_iter_len}
use Rattle.op_protocol.specs.Rows.{based}
use Rattle.op_chain.proofs.trimming.based.Given as goal

abbrev pub invariant-changes : goal.invariant-changes
invariant-changes l =
    record {
      all : l.all ++ map (based l.part) (into_iter_items l.change-iterator) ≡ map (based l.part) l.fn.batch;
      len : into_iter_len l.change-iterator ≡ length (into_iter_items l.change-iterator);
    }
