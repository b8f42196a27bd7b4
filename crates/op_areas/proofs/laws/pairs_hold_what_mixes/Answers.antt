use Rattle.op_outside.proofs.Mixing.{mixed_image}
use Rattle.op_areas.proofs.Pairs.{killed_pair}
use Rattle.op_areas.proofs.laws.pairs_hold_what_mixes.Goals as goal

pub returns-clause-left : goal.returns-clause-left
returns-clause-left c p x left s all = all x left

pub returns-clause-mixes : goal.returns-clause-mixes
returns-clause-mixes c p x y w z hx hy hw mix s all = mixed_image s x y w z (hx s all) (hy s all) (hw s all) mix

pub returns-clause-none : goal.returns-clause-none
returns-clause-none c p first second x held = killed_pair p first second x held
