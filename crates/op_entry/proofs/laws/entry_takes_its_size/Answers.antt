use Rattle.op_entry.proofs.Sizes.{entry_len}
use Rattle.op_entry.proofs.laws.entry_takes_its_size.Goals as goal

pub returns : goal.returns
returns c = entry_len
