use Rattle.std.proofs.Common.{◌∙◌, sym}
use Rattle.op_setup.proofs.PeerIds.{has_key, any_key}
use Rattle.op_setup.proofs.toml_keys.peers.has_id.Goals as goal

pub returns : goal.returns
returns c = (λ h. has_key _ _ (sym c.any_is.ensures ∙ h), λ h. c.any_is.ensures ∙ any_key _ _ h)
