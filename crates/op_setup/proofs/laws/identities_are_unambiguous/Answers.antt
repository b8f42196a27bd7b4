use Rattle.op_setup.proofs.Identities.{one_identity}
use Rattle.op_setup.proofs.laws.identities_are_unambiguous.Goals as goal

pub returns : goal.returns
returns c text i j m n a b = one_identity text i j m n a b
