use Rattle.op_entry.proofs.Sizes.{entries_len}
use Rattle.op_entry.proofs.laws.entries_take_their_size.Goals as goal

pub returns : goal.returns
returns c = entries_len
