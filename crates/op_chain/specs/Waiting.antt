-- Who waits at a node, and who may wait without taking memory.
use Rattle.std.specs.Prelude.{ℕ, List, [], ◌∷◌}
use Rattle.std.specs.Set.{remove_key}
use Rattle.std.specs.BTreeMap.{is_at}
use Rattle.std.specs.BTreeSet.{insert_key}
use Rattle.op_protocol.specs.State.{Waiting}
use Rattle.op_protocol.specs.Serving.{waiting_cmp}

-- Those that wait, and those that wait from the next call of `let_wait` on:
-- there is room for those of them that don't wait yet.
pub record WaitingSet : Type 0 where
  pub waiting : Waiting
  pub next : Waiting

-- nobody waits, nor is to wait
abbrev pub nobody : WaitingSet
nobody = record { waiting = []; next = [] }

-- those that wait, with these, each once
abbrev pub with_waiters : Waiting → List (ℕ × ℕ) → Waiting
with_waiters waiting [] = waiting
with_waiters waiting (w ∷ ws) = with_waiters (insert_key waiting_cmp waiting w) ws

-- those that wait, without these that don't wait yet
abbrev pub without_coming : Waiting → List (ℕ × ℕ) → Waiting
without_coming pairs [] = pairs
without_coming pairs (w ∷ ws) = remove_key (is_at (waiting_cmp w)) (without_coming pairs ws)
