use Rattle.op_store.proofs.UniquePairs as pairs
use Rattle.op_store.proofs.laws.refusal_is_unambiguous.Goals as goal

pub returns : goal.returns
returns c = record { place = pairs.one_damage; newer = pairs.one_newer_at; newer_or_damage = pairs.newer_or_damage }
