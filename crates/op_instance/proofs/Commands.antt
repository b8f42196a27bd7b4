-- The entries of commands.
use Rattle.std.proofs.Common.{◌≡◌, suc, false, List, [], ◌∷◌, length, refl, ap}
use Rattle.op_types.specs.declared.log.Command.{Command}
use Rattle.op_protocol.specs.Parts.{has_stop}
use Rattle.op_protocol.specs.Rows.{entries_of}

pub as_many : (cs : List Command) → length (entries_of cs) ≡ length cs
as_many [] = refl
as_many (c ∷ cs) = ap suc (as_many cs)

-- none of them is a stop-sign
pub no_stop : (cs : List Command) → has_stop (entries_of cs) ≡ false
no_stop [] = refl
no_stop (c ∷ cs) = no_stop cs
