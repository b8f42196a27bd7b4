use Rattle.op_outside.proofs.Mixing.{mixed_image}
use Rattle.op_outside.proofs.laws.mixed_images_are_images.Goals as goal

pub returns : goal.returns
returns c = mixed_image
