-- The bytes that wait for each connection.
use Rattle.std.specs.Prelude.{◌++◌, ℕ, List, [], length, drop, nat_le, nat_lt, ◌&&◌, Option, Some, None}
use Rattle.std.specs.List.{find}
use Rattle.std.specs.Map.{lookup, keys_of, remove_entry, set_value}
use Rattle.std.specs.BTreeMap.{insert_entry, is_at}
use Rattle.std.specs.Ordering.{nat_cmp}

-- the connections of a table, rising, each with its bytes in order
abbrev pub Queues : Type 0
Queues = List (ℕ × List ℕ)

-- with this connection, for which these bytes wait
abbrev pub added : ℕ → List ℕ → Queues → Queues
added c bytes t = insert_entry nat_cmp t c bytes

-- without this connection
abbrev pub removed : ℕ → Queues → Queues
removed c t = remove_entry (is_at (nat_cmp c)) t

-- no bytes wait for a connection that is not in the table
abbrev pub bytes_of : Option (List ℕ) → List ℕ
bytes_of None = []
bytes_of (Some bytes) = bytes

-- the bytes that wait for a connection
abbrev pub queue_of : ℕ → Queues → List ℕ
queue_of c t = bytes_of (lookup (is_at (nat_cmp c)) t)

-- with the queue of a connection changed, if it is in the table
abbrev pub changed : (List ℕ → List ℕ) → ℕ → Option (List ℕ) → Queues → Queues
changed f c None t = t
changed f c (Some bytes) t = set_value (is_at (nat_cmp c)) t (f bytes)

-- with these bytes after those of a connection
abbrev pub appended : ℕ → List ℕ → Queues → Queues
appended c bytes t = changed (λ queue. queue ++ bytes) c (lookup (is_at (nat_cmp c)) t) t

-- without the first n bytes of a connection
abbrev pub taken : ℕ → ℕ → Queues → Queues
taken c n t = changed (drop n) c (lookup (is_at (nat_cmp c)) t) t

-- the least connection from this one on for which bytes wait
abbrev pub next_waiting : ℕ → Queues → Option ℕ
next_waiting low t = find (λ c. nat_le low c && nat_lt 0 (length (queue_of c t))) (keys_of t)
