-- Two batches, one after the other.
use Rattle.std.proofs.Common.{◌≡◌, List, [], ◌∷◌, ◌++◌, refl}
use Rattle.op_types.specs.Changes.{part_with}
use Rattle.op_types.specs.declared.changes.Change.{Change}
use Rattle.op_types.specs.declared.durable.Part.{Part}
use Rattle.op_protocol.specs.Parts.{part_after}

pub after_both : (p : Part) (a b : List Change) → part_after p (a ++ b) ≡ part_after (part_after p a) b
after_both p [] b = refl
after_both p (c ∷ a) b = after_both (part_with p c) a b
