-- What of a batch trims.
use Rattle.std.specs.Prelude.{◌||◌, Bool, true, false, List, [], ◌∷◌}
use Rattle.op_types.specs.declared.changes.Change.{Change}
use Rattle.op_types.specs.declared.changes.Change.TheVariants as change

-- whether a change trims something
abbrev pub is_trim : Change → Bool
is_trim (change.Trim at base) = true
is_trim c = false

-- whether one of these does
abbrev pub trims : List Change → Bool
trims [] = false
trims (c ∷ cs) = is_trim c || trims cs
