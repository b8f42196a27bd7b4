use Rattle.std.proofs.Common.{◌≡◌, ◌++◌, length}
use Rattle.std.specs.Vec.Iter.{into_iter_items, into_iter_len}
use Rattle.op_protocol.specs.Rows.{entries_of}
use Rattle.op_instance.proofs.proposing.entries_of.Given as goal

abbrev pub invariant-loop-command : goal.invariant-loop-command
invariant-loop-command l = record {
  all : l.entries ++ entries_of (into_iter_items l.command-iterator) ≡ entries_of l.fn.commands;
  len : into_iter_len l.command-iterator ≡ length (into_iter_items l.command-iterator);
}
