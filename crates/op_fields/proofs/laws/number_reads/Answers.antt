use Rattle.op_fields.specs.Reads.{limit_of}
use Rattle.op_fields.proofs.Formats.{wide, number-reads}
use Rattle.op_fields.proofs.laws.number_reads.Goals as goal

pub returns : goal.returns
returns c w low high here top = number-reads w (limit_of w) (wide w here) low high top
