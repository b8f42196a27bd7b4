use Rattle.std.proofs.Common.{◌<◌, ◌≤◌, ◌∙◌, ℕ, List, zip, sym, ap, arith}
use Rattle.op_types.specs.declared.log.Command.{Command}
use Rattle.op_types.specs.Cutting.{commands_size}
use Rattle.op_serving.specs.Inputs.{most_gathered, places_taken}
use Rattle.op_queues.proofs.Runs.{commands_in, length_pairs, size_pairs, places_few, places_all}
use Rattle.op_queues.proofs.run.Run.places_taken.Goals as goal

pub returns-then-self-le-MOST_GATHERED : goal.returns-then-self-le-MOST_GATHERED
returns-then-self-le-MOST_GATHERED c =
    let cs : List ℕ = c.self.inside.conns.items in
    let xs : List Command = c.self.inside.commands.items in
    let few : commands_size (commands_in (zip cs xs)) ≤ most_gathered =
    omega (arith, size_pairs cs xs c.self.invariant.0, c.self.invariant.1) in
    c.len.ensures.value ∙ sym (length_pairs cs xs c.self.invariant.0) ∙ sym (places_few (zip cs xs) few)
    ∙ ap (λ (g : List (ℕ × Command)). places_taken g) c.self.view_is

pub returns-else-self-le-MOST_GATHERED : goal.returns-else-self-le-MOST_GATHERED
returns-else-self-le-MOST_GATHERED c =
    let cs : List ℕ = c.self.inside.conns.items in
    let xs : List Command = c.self.inside.commands.items in
    let many : most_gathered < commands_size (commands_in (zip cs xs)) =
    omega (arith, size_pairs cs xs c.self.invariant.0, c.self.invariant.1) in
    sym (places_all (zip cs xs) many) ∙ ap (λ (g : List (ℕ × Command)). places_taken g) c.self.view_is
