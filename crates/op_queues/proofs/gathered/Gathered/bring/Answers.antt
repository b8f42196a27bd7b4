use Rattle.std.proofs.Common.{◌≡◌, ◌+◌, ◌<◌, ◌++◌, ◌∷◌, [], sym, ap, subst, length, All, arith}
use Rattle.std.specs.VecDeque.{deque_capacity}
use Rattle.std.specs.Vec.{vec_capacity}
use Rattle.std.proofs.lemmas.List.{length-append}
use Rattle.std.proofs.lemmas.List.Elements.{All-push}
use Rattle.op_queues.specs.Gathering.{BroughtInRange}
use Rattle.op_queues.proofs.gathered.Gathered.bring.Goals as goal

pub invariant_of-self-2 : goal.invariant_of-self-2
invariant_of-self-2 c =
    let i = c.self.invariant in
    let old = c.self.inside.messages.items in
    let is : c.push.new.self.items ≡ old ++ (c.args.conn, c.args.message) ∷ [] = c.in_ok-push.ensures.items in
    let count : length c.push.new.self.items ≡ length old + 1 = omega (arith, ap length is, length-append old ((c.args.conn, c.args.message) ∷ [])) in
    let inputs : length c.push.new.self.items < deque_capacity c.make_room.new.inputs =
    omega (arith, count, c.in_ok-make_room.ensures.inputs, c.len.ensures, c.self.inside.messages.ok) in
    let results : length c.push.new.self.items < vec_capacity c.make_room.new.results =
    omega (arith, count, c.in_ok-make_room.ensures.results, c.len.ensures, c.self.inside.messages.ok) in (
      c.make_room.ensures.none.0,
      c.make_room.ensures.none.1,
      omega (arith, inputs),
      omega (arith, results),
      λ h. inputs,
      λ h. results,
      subst (All BroughtInRange) (sym is) (All-push BroughtInRange old (c.args.conn, c.args.message) i.6 c.requires),
      i.7,
    )
