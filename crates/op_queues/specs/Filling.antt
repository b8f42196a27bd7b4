-- Which connections have more bytes waiting than may.
use Rattle.std.specs.Prelude.{◌≤◌, ◌++◌, ℕ, List, length, flat_map, Option}
use Rattle.std.specs.List.{find as first}
use Rattle.std.specs.Map.{keys_of}
use Rattle.op_serving.specs.declared.session.Session.{Session}
use Rattle.op_serving.specs.State.{Loop, Table, find, most_waiting, is_overfull, conn_of}

-- no more bytes wait for a session than may
abbrev pub IsThin : Session → Type 0
IsThin x = length x.queue ≤ most_waiting

-- the first of these connections for which more wait
abbrev pub first_over : Table Session → List ℕ → Option ℕ
first_over t cs = first (λ c. is_overfull (find c t)) cs

-- of all that are open, those of peers first
abbrev pub over_of : Loop → Option ℕ
over_of s = first_over s.sessions (flat_map conn_of s.peers ++ keys_of s.sessions)
