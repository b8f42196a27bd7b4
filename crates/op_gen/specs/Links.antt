-- Two-way links between servers.
use Rattle.std.specs.Prelude.{◌==◌, ◌&&◌, ◌||◌, ℕ, Bool, false, List, [], ◌∷◌, ◌++◌, map}

-- links, each between the two servers of a pair
abbrev pub Links : Type 0
Links = List (ℕ × ℕ)

-- whether a link goes between p and q, either way
abbrev pub joins : ℕ × ℕ → ℕ → ℕ → Bool
joins l p q = (l.0 == p && l.1 == q) || (l.0 == q && l.1 == p)

-- whether one of these links does
abbrev pub is_linked : Links → ℕ → ℕ → Bool
is_linked [] p q = false
is_linked (l ∷ links) p q = joins l p q || is_linked links p q

-- a link from a server to each of these
abbrev pub links_from : ℕ → List ℕ → Links
links_from p pids = map (λ q. (p, q)) pids

-- all links among these servers
abbrev pub all_links : List ℕ → Links
all_links [] = []
all_links (p ∷ pids) = links_from p pids ++ all_links pids
