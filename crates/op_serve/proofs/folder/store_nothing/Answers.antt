use Rattle.op_serve.specs.Folders.{asks_both, asks_one}
use Rattle.op_serve.proofs.folder.store_nothing.Goals as goal

pub returns-then-not-is_nothing : goal.returns-then-not-is_nothing
returns-then-not-is_nothing g c = asks_one _ _ (λ e. absurd cc) (rw c.if-not-is_nothing.true at c.in-Ok.ensures)

pub returns-else-not-is_nothing : goal.returns-else-not-is_nothing
returns-else-not-is_nothing g c = asks_both _ _ _ _ (rw c.if-not-is_nothing.false at c.in-Ok.ensures) c.stores_nothing-in-Ok.ensures

pub returns-in-Err : goal.returns-in-Err
returns-in-Err g c = asks_one _ _ (λ e. absurd cc) c.in-Err.ensures
