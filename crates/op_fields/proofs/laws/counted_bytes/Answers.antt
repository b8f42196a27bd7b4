use Rattle.op_fields.proofs.Formats.{counted_there}
use Rattle.op_fields.proofs.laws.counted_bytes.Goals as goal

pub returns : goal.returns
returns c w prefix text rest here fit = counted_there w here prefix text rest fit
