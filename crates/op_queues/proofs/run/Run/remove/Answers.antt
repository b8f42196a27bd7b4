use Rattle.std.proofs.Common.{◌<◌, ℕ, List, length, zip, ap, ◌∙◌, arith}
use Rattle.op_types.specs.declared.log.Command.{Command}
use Rattle.op_types.specs.Cutting.{commands_size}
use Rattle.std.specs.List.{remove}
use Rattle.op_queues.proofs.Runs.{length_pairs, place_in, zip_remove, size_taken}
use Rattle.op_queues.proofs.run.Run.remove.Goals as goal

pub remove-requires : goal.remove-requires
remove-requires c =
    let lt : c.args.at < length c.self.inside.conns.items =
    omega (arith, c.requires, ap length c.self.view_is, length_pairs c.self.inside.conns.items c.self.inside.commands.items c.self.invariant.0) in
    (omega arith, lt)

pub overflow_sub-self : goal.overflow_sub-self
overflow_sub-self c =
    let cs : List ℕ = c.self.inside.conns.items in
    let xs : List Command = c.self.inside.commands.items in
    let lt = place_in c.args.at cs xs c.args.self.now c.self.invariant.0 c.self.view_is c.requires in
    omega (arith, size_taken xs c.args.at c.remove-command.result lt c.remove-command.ensures.value, c.self.invariant.1)

pub invariant_of-self : goal.invariant_of-self
invariant_of-self c =
    let cs : List ℕ = c.self.inside.conns.items in
    let xs : List Command = c.self.inside.commands.items in
    let lt = place_in c.args.at cs xs c.args.self.now c.self.invariant.0 c.self.view_is c.requires in
    let left = ap commands_size c.remove-command.ensures.items in
    let parts = size_taken xs c.args.at c.remove-command.result lt c.remove-command.ensures.value in
    (omega (arith, c.self.invariant.0), omega (arith, parts, left, c.self.invariant.1))

pub returns : goal.returns
returns c =
    let cs : List ℕ = c.self.inside.conns.items in
    let xs : List Command = c.self.inside.commands.items in
    ap (λ l. zip l c.remove-command.new.self.items) c.remove.ensures.items ∙ ap (zip (remove cs c.args.at)) c.remove-command.ensures.items
    ∙ zip_remove c.args.at cs xs c.self.invariant.0 ∙ ap (λ l. remove l c.args.at) c.self.view_is
