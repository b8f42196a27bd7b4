-- How much waits for connections, and how long the frames are that were said for them.
use Rattle.std.specs.Prelude.{◌≡◌, ◌≤◌, ◌++◌, ◌∷◌, [], ℕ, List, length, fold, true, ◌==◌, if◌then◌else◌, Some, All}
use Rattle.op_serving.specs.declared.session.Session.{Session}
use Rattle.op_serving.specs.State.{Loop, find, is_open, most_waiting}
use Rattle.op_serving.specs.Inputs.{Deed, begins, says, State}

-- for no open connection more bytes wait than may
abbrev pub QueuesAreShort : Loop → Type 0
QueuesAreShort s = (c : ℕ) (y : Session) → find c s.sessions ≡ Some y → length y.queue ≤ most_waiting

-- the frames that were said for a connection since its last session began
abbrev pub framed_then : ℕ → List (List ℕ) → Deed → List (List ℕ)
framed_then c frames (begins d greeting) = if d == c then [] else frames
framed_then c frames (says f) = frames ++ (if f.0 == c then f.1 ∷ [] else [])
framed_then c frames _ = frames

abbrev pub frames_for : ℕ → List Deed → List (List ℕ)
frames_for c ds = fold (framed_then c) [] ds

-- a frame has no more bytes than may wait
abbrev pub MayWait : List ℕ → Type 0
MayWait frame = length frame ≤ most_waiting

-- so it is of each frame that was said for an open connection
abbrev pub FramesAreShort : State → Type 0
FramesAreShort s = (c : ℕ) → is_open c s.loop ≡ true → All MayWait (frames_for c s.deeds)
