-- What an object outside tells of the calls that were made of it.
use Rattle.std.specs.Prelude.{◌≡◌, ◌++◌, ◌⊎◌, List, Option, None, option_map}

-- what is told grew by these, or nothing is told from now on
abbrev pub Grows : {A : Type 0} → Option (List A) → List A → Option (List A) → Type 0
Grows old more new = (new ≡ None) ⊎ (new ≡ option_map (λ told. told ++ more) old)
