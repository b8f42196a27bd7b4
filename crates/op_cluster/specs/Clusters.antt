-- What a cluster calls and writes: a start of each id, then an end of each with its line.
use Rattle.std.specs.Prelude.{◌≡◌, ◌⊎◌, ℕ, List, [], ◌∷◌, ◌++◌, map, codes, decimal, Option, Some, None}
use Rattle.std.specs.List.{flat_map}
use Rattle.std.specs.Map.{keys_of}
use Rattle.std.specs.Io.KnownBytes.{Appends}
use Rattle.op_outside.specs.Spawners.{ChildCall, Started, EndedWith}
use Rattle.op_outside.specs.Telling.{Grows}

-- a child that has ended: its id and its exit status
abbrev pub Ended : Type 0
Ended = ℕ × ℕ

-- a start of each id, with this input
abbrev pub starts_of : List ℕ → List ℕ → List ChildCall
starts_of input ids = map (λ id. Started id input (Some tt)) ids

-- an end of each child, with its status
abbrev pub ends_of : List Ended → List ChildCall
ends_of children = map (λ child. EndedWith child.0 (Some child.1)) children

-- the line of a child
abbrev pub child_line : Ended → List ℕ
child_line child = codes "child " ++ decimal child.0 ++ codes " status " ++ decimal child.1 ++ codes "\n"

-- the lines of children, in their order
abbrev pub lines_of : List Ended → List ℕ
lines_of children = flat_map child_line children

-- calls of a spawner, and the bytes of a sink, where these tell them
pub record Told : Type 0 where
  pub calls : Option (List ChildCall)
  pub bytes : Option (List ℕ)

-- what a spawner and a sink tell
abbrev pub tells : Option (List ChildCall) → Option (List ℕ) → Told
tells calls bytes = record { calls = calls; bytes = bytes }

-- after these starts each child has ended, and the lines of all are written
pub record AllEnd (starts : List ChildCall) (ids : List ℕ) (old new : Told) : Type 0 where
  pub children : List Ended
  pub each : keys_of children ≡ ids
  pub calls : Grows old.calls (starts ++ ends_of children) new.calls
  pub lines : Appends old.bytes new.bytes (lines_of children)

-- the start of an id failed after those of the ids before it
pub record StartFails (input ids : List ℕ) (old new : Option (List ChildCall)) : Type 0 where
  pub before : List ℕ
  pub id : ℕ
  pub after : List ℕ
  pub among : before ++ id ∷ after ≡ ids
  pub calls : Grows old (starts_of input before ++ Started id input None ∷ []) new

-- after these starts the end of an id failed, after those of the children before it, whose lines are written
pub record EndFails (starts : List ChildCall) (ids : List ℕ) (old new : Told) : Type 0 where
  pub children : List Ended
  pub id : ℕ
  pub after : List ℕ
  pub among : keys_of children ++ id ∷ after ≡ ids
  pub calls : Grows old.calls (starts ++ ends_of children ++ EndedWith id None ∷ []) new.calls
  pub lines : Appends old.bytes new.bytes (lines_of children)

-- a start failed, and nothing is written; or all were started, and an end failed
abbrev pub StartOrEndFails : List ℕ → List ℕ → Told → Told → Type 0
StartOrEndFails input ids old new =
    (StartFails input ids old.calls new.calls × (new.bytes ≡ old.bytes))
    ⊎ EndFails (starts_of input ids) ids old new

-- after these starts a write failed in the line of the last child that had ended:
-- a part of it is written, after all lines before it
pub record WriteFails (starts : List ChildCall) (ids : List ℕ) (old new : Told) : Type 0 where
  pub children : List Ended
  pub last : Ended
  pub after : List ℕ
  pub among : keys_of children ++ last.0 ∷ after ≡ ids
  pub calls : Grows old.calls (starts ++ ends_of children ++ EndedWith last.0 (Some last.1) ∷ []) new.calls
  pub part : List ℕ
  pub rest : List ℕ
  pub line : part ++ rest ≡ child_line last
  pub lines : Appends old.bytes new.bytes (lines_of children ++ part)
