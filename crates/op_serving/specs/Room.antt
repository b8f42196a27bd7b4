-- Frames for which there is no room wait behind what waits for a connection, so that no more bytes wait there
-- than are soon taken. What is urgent goes ahead of them, and what begins a new ballot takes their place.
use Rattle.std.specs.Prelude.{◌++◌, ◌∷◌, ◌*◌, [], ℕ, zero, suc, Bool, true, false, not, List, length, ◌==◌, ◌&&◌, ◌||◌, nat_lt, nat_le, if◌then◌else◌, Option, Some, None}
use Rattle.std.specs.BTreeMap.{is_at}
use Rattle.std.specs.Ordering.{nat_cmp}
use Rattle.op_types.specs.Ballots.{is_same_ballot}
use Rattle.op_types.specs.declared.messages.Body.{Body}
use Rattle.op_types.specs.declared.messages.Body.TheVariants as body
use Rattle.op_types.specs.declared.messages.Msg.{Msg}
use Rattle.op_types.specs.declared.messages.Watch.TheVariants as watch
use Rattle.op_types.specs.Limits.{most_part_bytes}
use Rattle.op_serving.specs.declared.session.Session.{Session}
use Rattle.op_serving.specs.State.{Table, Loop, find, without, is_open, waits_for}

-- a frame for a connection
abbrev pub Frame : Type 0
Frame = ℕ × List ℕ

-- where so many bytes wait for a connection, further frames wait behind them
abbrev pub most_ahead : ℕ
most_ahead = 2097152

-- where so many frames wait behind, further ones go ahead of them: then more bytes wait than may
abbrev pub most_behind : ℕ
most_behind = 65536

-- ---- what goes ahead

-- there is room for a frame more; without a session nothing waits
abbrev pub has_room : Option Session → Bool
has_room None = true
has_room (Some x) = nat_lt (length x.queue) most_ahead

-- how many frames wait behind for a connection
abbrev pub count_at : ℕ → Table (List ℕ) → ℕ
count_at c [] = 0
count_at c (f ∷ fs) = if is_at (nat_cmp c) f.0 then suc (count_at c fs) else count_at c fs

-- Heartbeats tell who is there, and confirmations that a leader still leads: they are of no use late. A wish
-- to be prepared and news of a configuration may not be dropped, since nobody would ask for them again.
abbrev pub is_urgent : Body → Bool
is_urgent (body.HeartbeatRequest round) = true
is_urgent (body.HeartbeatReply round b flag) = true
is_urgent (body.Confirm n round) = true
is_urgent (body.Confirmed n round) = true
is_urgent body.PrepareReq = true
is_urgent (body.NextConf members olds len trimmed) = true
is_urgent _ = false

-- A message goes ahead, where so many frames wait behind at a session: it is urgent, or there is room and it
-- is the first, or too many wait.
abbrev pub goes_ahead : Msg → Option Session → ℕ → Bool
goes_ahead m o n = is_urgent m.body || ((has_room o && n == 0) || nat_le most_behind n)

-- ---- what waits, and where

-- a frame waits behind, if its connection is open
abbrev pub kept : Bool → Frame → Loop → Loop
kept true f s = record s { behind = s.behind ++ f ∷ [] }
kept false f s = s

-- a frame waits for its connection, or behind what does
abbrev pub placed : Bool → Frame → Loop → Loop
placed true f s = waits_for f.0 f.1 s
placed false f s = kept (is_open f.0 s) f s

-- the frame, where it waits for its connection
abbrev pub frames_placed : Bool → Frame → List Frame
frames_placed true f = f ∷ []
frames_placed false f = []

-- ---- what begins anew

-- A ballot is prepared in which its leader has adopted no log yet: what was sent in ballots before is of no
-- use any more, and all else that may wait behind is asked for again. An observer is shown entries: it has
-- asked from where it is, and all else that waits behind for it answers what it asked before.
abbrev pub begins_anew : Body → Bool
begins_anew (body.Prepare n accepted len decided) = not (is_same_ballot accepted n)
begins_anew (body.Watch (watch.Shown at es)) = true
begins_anew _ = false

-- what waits behind for a connection is dropped, if it is to be
abbrev pub cleared : Bool → ℕ → Loop → Loop
cleared true c s = record s { behind = without c s.behind }
cleared false c s = s

-- A piece of an observer's base is dropped where more frames wait behind than pieces of that base come before
-- it: those are pieces of a base already, or are soon taken, and the observer asks again. So one base waits
-- behind at most, and its pieces go in order, however often it is asked for.
abbrev pub is_excess : Body → ℕ → Bool
is_excess (body.Watch (watch.Base members p)) n = nat_lt p.from (n * most_part_bytes)
is_excess _ n = false

-- ---- what moves up

-- a frame for a connection, if there is one
abbrev pub frame_of : ℕ → Option (List ℕ) → List Frame
frame_of c None = []
frame_of c (Some bytes) = (c, bytes) ∷ []

-- without the first frame of a connection
abbrev pub without_first : ℕ → Table (List ℕ) → Table (List ℕ)
without_first c [] = []
without_first c (f ∷ fs) = if is_at (nat_cmp c) f.0 then fs else f ∷ without_first c fs

-- the first of those that wait behind for a connection, if there is one, waits for it
abbrev pub first_moved : ℕ → Option (List ℕ) → Loop → Loop
first_moved c None s = s
first_moved c (Some bytes) s = waits_for c bytes (record s { behind = without_first c s.behind })

-- they move up one after the other, so many at most, while there is room
abbrev pub moved_in : ℕ → ℕ → Loop → Loop
moved_in zero c s = s
moved_in (suc k) c s =
    if has_room (find c s.sessions) then moved_in k c (first_moved c (find c s.behind) s) else s

unfoldable pub moved : ℕ → Loop → Loop
moved c s = moved_in (count_at c s.behind) c s

-- the frames of that
abbrev pub frames_moved_in : ℕ → ℕ → Loop → List Frame
frames_moved_in zero c s = []
frames_moved_in (suc k) c s =
    if has_room (find c s.sessions)
    then frame_of c (find c s.behind) ++ frames_moved_in k c (first_moved c (find c s.behind) s)
    else []

unfoldable pub frames_moved : ℕ → Loop → List Frame
frames_moved c s = frames_moved_in (count_at c s.behind) c s
