use Rattle.std.proofs.Common.{rules, ◌≡◌, ◌++◌, ◌∷◌, [], ℕ, ◌+◌, List, length, Some, arith}
use Rattle.std.specs.VecDeque.{deque_len}
use Rattle.op_serving.specs.State.{Table, find}
use Rattle.op_serving.specs.Room.{count_at}
use Rattle.op_queues.proofs.Frames.{count_few}
use Rattle.op_queues.proofs.Counted.{counts_push}
use Rattle.op_queues.proofs.behind.Behind.push.Goals as goal

pub overflow_add-count : goal.overflow_add-count
overflow_add-count c =
    let few = count_few c.args.conn c.reserve.new.self.items in
    let long : length c.reserve.new.self.items ≡ deque_len c.reserve.new.self = search rules in
    omega (arith, few, long, c.in_ok-reserve.ensures.ok, c.capacity-room.ensures, c.capacity-room.type_inv)

pub invariant_of-self-3 : goal.invariant_of-self-3
invariant_of-self-3 c =
    let t : Table (List ℕ) = c.self.inside.messages.items in
    let now : c.push_back_reserved.new.self.items ≡ t ++ (c.args.conn, c.args.message) ∷ [] = search rules in
    let own : find c.args.conn c.insert.new.self.entries ≡ Some (count_at c.args.conn t + 1) = search rules in
    counts_push c.self.inside.counts.entries c.insert.new.self.entries t c.args.conn c.self.invariant c.args.message c.push_back_reserved.new.self.items now
    own c.in_ok-insert.ensures.updates.2
