use Rattle.std.proofs.Common.{Option, ap, ◌∙◌, subst}
use Rattle.std.specs.Prelude.{IfSome}
use Rattle.op_types.specs.declared.durable.Part.{Part}
use Rattle.op_plans.specs.Positions.{FitsPositions}
use Rattle.op_observer.proofs.Heard.{alone}
use Rattle.op_observer.proofs.Prepared.{prepared_none}
use Rattle.op_observer.proofs.observer.Observer.prepare.Goals as goal

pub prepare_at-requires-clause-positions : goal.prepare_at-requires-clause-positions
prepare_at-requires-clause-positions c =
    subst (λ (o : Option Part). IfSome o FitsPositions) c.in-Some.is c.requires.sound.part

pub returns-in-None : goal.returns-in-None
returns-in-None c =
    prepared_none c.args.self.now c.args.input c.alone.result c.in-None.is
    (c.alone.ensures ∙ ap alone c.nothing-plan.ensures)
