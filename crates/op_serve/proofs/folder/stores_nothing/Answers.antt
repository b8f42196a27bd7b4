use Rattle.op_serve.specs.Folders.{asks_copy, asks_first}
use Rattle.op_serve.proofs.folder.stores_nothing.Goals as goal

pub returns-then-not-is_mirrored : goal.returns-then-not-is_mirrored
returns-then-not-is_mirrored g c = asks_first _ c.is_empty.ensures (λ e is. c.if-not-is_mirrored.true)

pub returns-in-Ok : goal.returns-in-Ok
returns-in-Ok g c = asks_first _ c.in-Ok.ensures (λ e is. absurd cc)

pub returns-in-Err : goal.returns-in-Err
returns-in-Err g c = asks_copy _ _ c.if-not-is_mirrored.false c.in-Err.ensures c.is_empty-in-Err.ensures
