use Rattle.std.proofs.lemmas.List.{length-append}
use Rattle.std.proofs.Common.{◌≡◌, ◌<◌, ◌≤◌, ◌++◌, ◌∷◌, [], ℕ, List, length, zip, ◌∙◌, sym, ap, subst, arith}
use Rattle.op_types.specs.declared.log.Command.{Command}
use Rattle.op_types.specs.Cutting.{commands_size}
use Rattle.op_serving.specs.Inputs.{most_gathered}
use Rattle.op_queues.specs.Gathering.{RunInRange}
use Rattle.op_queues.proofs.Runs.{commands_in, length_pairs, size_pairs, size_push, zip_more, place_left, run_more}
use Rattle.op_queues.proofs.run.Run.push.Goals as goal

pub overflow_add-size : goal.overflow_add-size
overflow_add-size c =
    let cs : List ℕ = c.self.inside.conns.items in
    let xs : List Command = c.self.inside.commands.items in
    let now = ap (λ (g : List (ℕ × Command)). commands_size (commands_in g)) c.self.view_is in
    let few : commands_size xs ≤ most_gathered =
    omega (arith, (place_left c.args.self.now c.requires).1, now, size_pairs cs xs c.self.invariant.0) in
    omega (arith, few)

pub push-requires-2 : goal.push-requires-2
push-requires-2 c =
    let lt : length c.self.inside.conns.items < 64 =
    omega (arith, (place_left c.args.self.now c.requires).0, ap length c.self.view_is, length_pairs c.self.inside.conns.items c.self.inside.commands.items c.self.invariant.0) in
    (omega arith, lt)

pub invariant_of-self-2 : goal.invariant_of-self-2
invariant_of-self-2 c =
    let cs : List ℕ = c.self.inside.conns.items in
    let xs : List Command = c.self.inside.commands.items in
    let conns = ap length c.push-2.ensures.items in
    let commands = ap length c.in_ok-push.ensures.items in
    let more = length-append cs (c.args.conn ∷ []) in
    let size = ap commands_size c.in_ok-push.ensures.items in (
      omega (arith, conns, commands, more, length-append xs (c.args.command ∷ []), c.self.invariant.0),
      omega (arith, size, size_push xs c.args.command),
    )

is : (c : goal.After-self-1) → zip c.push-2.new.self.items c.push.new.self.items ≡ c.args.self.now ++ (c.args.conn, c.args.command) ∷ []
is c =
    let cs : List ℕ = c.self.inside.conns.items in
    let xs : List Command = c.self.inside.commands.items in
    ap (λ l. zip l c.push.new.self.items) c.push-2.ensures.items ∙ ap (zip (cs ++ c.args.conn ∷ [])) c.in_ok-push.ensures.items
    ∙ zip_more cs xs c.args.conn c.args.command c.self.invariant.0 ∙ ap (λ l. l ++ (c.args.conn, c.args.command) ∷ []) c.self.view_is

pub returns-clause-ok : goal.returns-clause-ok
returns-clause-ok c = is c

pub returns-clause-range : goal.returns-clause-range
returns-clause-range c h k = subst RunInRange (sym (is c)) (run_more c.args.self.now c.args.conn c.args.command c.requires h k)
