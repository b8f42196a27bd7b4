use Rattle.op_read_laws.proofs.reads_are_fresh.Goals as goal
use Rattle.op_read_laws.proofs.ReadsFresh.{every_read_is_fresh}
use Rattle.op_read_laws.proofs.ReadsOnce.{every_read_comes_once}
use Rattle.op_read_laws.proofs.ReadsTold.{every_line_is_fresh}

pub returns : goal.returns
returns c = record { fresh = every_read_is_fresh; once = every_read_comes_once; told = every_line_is_fresh }
