-- The three scenarios of partial links.
use Rattle.std.specs.Prelude.{ℕ, List, [], ◌∷◌, codes}
use Rattle.op_gen.specs.Links.{Links}
use Rattle.op_gen.specs.declared.scenario.Scenario.{Scenario}
use Rattle.op_gen.specs.declared.scenario.Scenario.TheVariants.{Quorum, Constrained, Chained}

-- its name
abbrev pub name_of : Scenario → List ℕ
name_of Quorum = codes "quorum"
name_of Constrained = codes "constrained"
name_of Chained = codes "chained"

-- its members
abbrev pub members_of : Scenario → List ℕ
members_of Quorum = 1 ∷ 2 ∷ 3 ∷ 4 ∷ 5 ∷ []
members_of Constrained = 1 ∷ 2 ∷ 3 ∷ 4 ∷ 5 ∷ []
members_of Chained = 1 ∷ 2 ∷ 3 ∷ []

-- the links that are left
abbrev pub links_of : Scenario → Links
links_of Quorum = (1, 2) ∷ (1, 3) ∷ (1, 4) ∷ (1, 5) ∷ []
links_of Constrained = (1, 2) ∷ (1, 3) ∷ (1, 4) ∷ []
links_of Chained = (1, 2) ∷ (2, 3) ∷ []
