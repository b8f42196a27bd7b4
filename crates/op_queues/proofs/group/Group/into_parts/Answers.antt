use Rattle.std.proofs.Common.{◌≡◌, ◌∙◌, ◌++◌, ap, sym, subst, map, List, All}
use Rattle.op_types.specs.declared.events.Input.{Input}
use Rattle.op_types.specs.declared.log.Command.{Command}
use Rattle.op_serving.specs.State.{Table}
use Rattle.op_serving.specs.Ranges.{InputInRange}
use Rattle.op_serving.specs.Inputs.{Brought, as_one}
use Rattle.op_queues.specs.Gathering.{AskWithLast, Unread}
use Rattle.op_queues.proofs.Grouping.{asked_with, deliveries, inputs_in_range, one_in_range}
use Rattle.op_queues.proofs.group.Group.into_parts.Goals as goal

pub returns-clause-asked : goal.returns-clause-asked
returns-clause-asked c =
    let u : Unread = c.self.inside.gathered in
    let asked : AskWithLast (as_one u.gathered) c.propose-wanted.result =
    subst (λ (g : Table Command). AskWithLast (as_one g) c.propose-wanted.result) c.into_parts-messages.ensures.commands c.propose-wanted.ensures.asked in
    subst (λ (bs : List Brought). AskWithLast bs c.propose-wanted.result) c.self.view_is
    (asked_with u.brought (as_one u.gathered) c.propose-wanted.result asked)

pub returns-clause-range : goal.returns-clause-range
returns-clause-range c =
    let u : Unread = c.self.inside.gathered in
    let parts = c.into_parts-messages in
    let first : c.deliver.new.inputs.items ≡ deliveries u.brought =
    c.deliver.ensures.items ∙ ap (λ (l : List Input). l ++ deliveries parts.result.0.items) parts.ensures.none.0 ∙ ap deliveries parts.ensures.messages in
    let all : c.propose-wanted.new.inputs.items ≡ deliveries u.brought ++ map (λ b. b.1) (as_one u.gathered) =
    c.propose-wanted.ensures.items ∙ ap (λ (l : List Input). l ++ map (λ b. b.1) (as_one parts.result.1)) first
    ∙ ap (λ (g : Table Command). deliveries u.brought ++ map (λ b. b.1) (as_one g)) parts.ensures.commands in
    subst (All InputInRange) (sym all)
    (inputs_in_range u.brought (map (λ b. b.1) (as_one u.gathered)) parts.ensures.range.0 (one_in_range u.gathered parts.ensures.range.1))
