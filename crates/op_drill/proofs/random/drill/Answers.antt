use Rattle.std.proofs.Common.{List, ℕ, ◌∙◌, refl, sym, subst}
use Rattle.op_drill.specs.Drills.{IsSummaryTextOf, has_no_memory}
use Rattle.op_drill.proofs.DrillTexts.{ends_as}
use Rattle.op_drill.proofs.random.drill.Goals as goal

pub returns-in-Ok : goal.returns-in-Ok
returns-in-Ok g c =
    ends_as _ _ _ (λ t is. subst (λ (text : List ℕ). IsSummaryTextOf c.args.seed c.args.events text) (sym (is ∙ c.deref.ensures.value)) c.in-Ok.ensures) c.tell.ensures

pub returns-in-Err : goal.returns-in-Err
returns-in-Err g c = has_no_memory refl
