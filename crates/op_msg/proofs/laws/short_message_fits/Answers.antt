use Rattle.op_msg.proofs.Short.{short_fits}
use Rattle.op_msg.proofs.laws.short_message_fits.Goals as goal

pub returns : goal.returns
returns c = short_fits
