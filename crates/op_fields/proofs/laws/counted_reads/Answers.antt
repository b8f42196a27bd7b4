use Rattle.op_fields.specs.Reads.{limit_of}
use Rattle.op_fields.proofs.Formats.{wide, counted-reads}
use Rattle.op_fields.proofs.laws.counted_reads.Goals as goal

pub returns : goal.returns
returns c w low high here top = counted-reads w (limit_of w) (wide w here) low high top
