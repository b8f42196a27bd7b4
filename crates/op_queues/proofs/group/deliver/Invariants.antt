use Rattle.std.proofs.Common.{◌≡◌, ◌++◌}
use Rattle.std.specs.Vec.Iter.{into_iter_items}
use Rattle.std.specs.VecDeque.{deque_capacity}
use Rattle.op_queues.proofs.Grouping.{deliveries}
use Rattle.op_queues.proofs.group.deliver.Given as goal

abbrev pub invariant-loop-conn : goal.invariant-loop-conn
invariant-loop-conn l = record {
  items : l.inputs.items ++ deliveries (into_iter_items l._conn-iterator) ≡ l.fn.inputs.items ++ deliveries l.fn.messages.items;
  room : deque_capacity l.inputs ≡ deque_capacity l.fn.inputs;
}
