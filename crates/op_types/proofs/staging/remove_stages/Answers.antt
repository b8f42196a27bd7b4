use Rattle.std.proofs.Common.{rules, tests, eqb, not}
use Rattle.std.proofs.lemmas.Fn.{filter_same}
use Rattle.op_types.specs.declared.role.Stage.{Stage}
use Rattle.op_types.proofs.staging.remove_stages.Goals as goal

pub returns-clause-items : goal.returns-clause-items
returns-clause-items c = filter_same _ (λ (x : Stage). not (eqb x.from c.args.from)) _ (λ x b q r. search (rules, tests)) _ _ c.retain.ensures.filtered
