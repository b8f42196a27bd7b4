use Rattle.std.proofs.Common.{sym, ◌∙◌}
use Rattle.op_types.proofs.Rings.{passing_next, passed_all}
use Rattle.op_types.proofs.filling.pass_below.Goals as goal

pub passing-preserved : goal.passing-preserved
passing-preserved c = record {
  passing = passing_next _ _ _ _ _ c.passing.invariant.passing c.passing-test.true (sym c.if-stands_below.ensures) c.rotate_left.ensures.items;
  len = c.rotate_left.ensures.len ∙ c.passing.invariant.len;
  capacity = c.rotate_left.ensures.capacity ∙ c.passing.invariant.capacity;
}

pub returns-else-stands_below-clause-passed : goal.returns-else-stands_below-clause-passed
returns-else-stands_below-clause-passed c = passed_all _ _ _ _ c.requires c.passing.invariant.passing (λ _. sym c.if-stands_below.ensures)
