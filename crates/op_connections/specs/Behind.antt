-- How much waits behind for connections for which there was no room.
use Rattle.std.specs.Prelude.{◌≤◌, ℕ, length}
use Rattle.op_serving.specs.State.{Loop}
use Rattle.op_serving.specs.Promise.{at_conn}

-- so many frames wait behind for a connection at most
abbrev pub most_frames_behind : ℕ
most_frames_behind = 65536

-- so it is of each connection
abbrev pub FewWaitBehind : Loop → Type 0
FewWaitBehind s = (c : ℕ) → length (at_conn c s.behind) ≤ most_frames_behind
