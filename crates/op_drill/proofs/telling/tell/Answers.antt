use Rattle.std.proofs.Common.{refl}
use Rattle.op_drill.specs.Drills.{is_told, is_cut}
use Rattle.op_drill.proofs.telling.tell.Goals as goal

pub returns-in-Ok : goal.returns-in-Ok
returns-in-Ok g c = is_told refl c.in-Ok.ensures.all c.in-Ok.ensures.cause.ok

pub returns-in-Err : goal.returns-in-Err
returns-in-Err g c = is_cut refl c.in-Err.ensures.prefix (c.in-Err.ensures.cause.err refl)
