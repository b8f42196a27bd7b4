use Rattle.op_msg.proofs.Frames.{frame_fits}
use Rattle.op_msg.proofs.laws.parts_fit_frames.Goals as goal

pub returns : goal.returns
returns c = frame_fits
