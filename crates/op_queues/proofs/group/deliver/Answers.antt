use Rattle.std.proofs.Common.{◌≡◌, ◌∙◌, ◌++◌, ◌∷◌, ap, sym, length, ◌<◌, arith, ℕ, List}
use Rattle.std.specs.VecDeque.{deque_capacity}
use Rattle.std.specs.Vec.Iter.{into_iter_items}
use Rattle.op_types.specs.declared.messages.Msg.{Msg}
use Rattle.op_queues.proofs.Grouping.{deliveries, room_left}
use Rattle.op_queues.proofs.group.deliver.Goals as goal

pub push_back_reserved-requires : goal.push_back_reserved-requires
push_back_reserved-requires c =
    let i = c.loop-conn.invariant in
    let m : ℕ × (ℕ × Msg) = (c.in-Some._conn, (c.in-Some.from, c.in-Some.message)) in
    let left : List (ℕ × (ℕ × Msg)) = into_iter_items c.next.new.self in
    let next : into_iter_items c.loop-conn._conn-iterator ≡ m ∷ left = c.in-Some.ensures.steps.0 in
    let lt : length c.loop-conn.inputs.items < deque_capacity c.loop-conn.inputs =
    room_left c.loop-conn.inputs.items c.args.inputs.now.items m left c.args.messages.items (deque_capacity c.loop-conn.inputs)
    (ap (λ ms. c.loop-conn.inputs.items ++ deliveries ms) (sym next) ∙ i.items) (omega (arith, c.requires, i.room)) in
    omega (arith, lt, c.loop-conn.inputs.ok)
