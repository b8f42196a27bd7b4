-- Where an id stands among others. Only what is inside the crate speaks of this.
use Rattle.std.specs.Prelude.{◌+◌, ℕ, List, [], ◌∷◌, nat_lt, if◌then◌else◌}

-- how many ids, before any other, are below this one
abbrev pub count_below : List ℕ → ℕ → ℕ
count_below [] pid = 0
count_below (id ∷ ids) pid = if nat_lt id pid then 1 + count_below ids pid else 0
