use Rattle.std.proofs.Common.{◌<◌, length, arith}
use Rattle.std.specs.VecDeque.{deque_capacity}
use Rattle.std.specs.Vec.{vec_capacity}
use Rattle.op_queues.proofs.gathered.Gathered.gather.Goals as goal

pub invariant_of-self-2 : goal.invariant_of-self-2
invariant_of-self-2 c =
    let i = c.self.invariant in
    let old = c.self.inside.messages.items in
    let inputs : length old < deque_capacity c.make_room.new.inputs =
    omega (arith, c.in_ok-make_room.ensures.inputs, c.len.ensures, c.self.inside.messages.ok) in
    let results : length old < vec_capacity c.make_room.new.results =
    omega (arith, c.in_ok-make_room.ensures.results, c.len.ensures, c.self.inside.messages.ok) in
    let none = c.make_room.ensures.none in
    (none.0, none.1, omega (arith, inputs), omega (arith, results), λ h. inputs, λ h. results, i.6, c.push.ensures.range i.7 c.requires)
