-- Want of memory. The marks of a run say where an input or a session was lost for it; all else is as in
-- ample memory.
use Rattle.std.specs.Prelude.{◌≡◌, ◌≤◌, ◌<◌, ◌+◌, ◌++◌, ◌∷◌, ◌⊎◌, [], ℕ, List, length, drop, Bool, true, false, ◌==◌, ◌&&◌, ◌||◌, not, is_some, nat_lt, if◌then◌else◌, Option, Some, None, All}
use Rattle.std.specs.FinMap as map
use Rattle.op_serving.specs.declared.mark.Mark.{Mark}
use Rattle.op_serving.specs.declared.mark.Place.{Place}
use Rattle.op_serving.specs.State.{Loop, kind_at, is_open, left_by}
use Rattle.op_serving.specs.Counts.{most_inputs}

-- at so many marks serving stops
abbrev pub most_marks : ℕ
most_marks = 64

-- the mark of a loss here, and the connection that is closed for it
abbrev pub mark_at : Place → Option ℕ → Mark
mark_at p conn = record { turn = p.turn; at = p.at; inputs = p.inputs; frames = p.frames; conn = conn }

-- with the last mark nothing more is done: no session is left, and nothing is to be given
abbrev pub stopped_if : Bool → Loop → Loop
stopped_if true s = s
stopped_if false s =
    record s { sessions = []; askers = map.empty; gathered = []; brought = []; behind = []; downs = [] }

-- a loss is marked
abbrev pub noted : Mark → Loop → Loop
noted m s = record s { lost = s.lost ++ m ∷ [] }

abbrev pub marked : Option ℕ → Loop → Loop
marked conn s = stopped_if (nat_lt (length s.lost + 1) most_marks) (noted (mark_at s.place conn) s)

-- a session is lost
abbrev pub lost_by : ℕ → Loop → Loop
lost_by c s = left_by c (marked (Some c) s)

-- the same, if it is there
abbrev pub lost_if_open : ℕ → Loop → Loop
lost_if_open c s = if is_open c s then lost_by c s else s

-- ---- marks as what is known beforehand

-- a mark is of this place
abbrev pub is_here : Place → Mark → Bool
is_here p m = (m.turn == p.turn) && ((m.at == p.at) && ((m.inputs == p.inputs) && (m.frames == p.frames)))

abbrev pub is_open_one : Option ℕ → Loop → Bool
is_open_one None s = false
is_open_one (Some c) s = is_open c s

-- the next mark names this place and an open connection
abbrev pub is_due : Mark → Loop → Bool
is_due m s = nat_lt (length s.lost) most_marks && (is_here s.place m && is_open_one m.conn s)

abbrev pub lost_one : Option ℕ → Loop → Loop
lost_one None s = s
lost_one (Some c) s = lost_by c s

-- the sessions that these marks name here are lost
abbrev pub settle : List Mark → Loop → Loop
settle [] s = s
settle (m ∷ ms) s = if is_due m s then settle ms (lost_one m.conn s) else s

-- the same, by the marks of a whole run: those that are not in the list of losses are to come
abbrev pub settled : List Mark → Loop → Loop
settled marks s = settle (drop (length s.lost) marks) s

-- The next mark may be of a session that is lost here: it is of this place and names a connection,
-- among the dials one that is open.
abbrev pub is_threat : Mark → Loop → Bool
is_threat m s = nat_lt (length s.lost) most_marks &&
    (is_here s.place m && (is_some m.conn && (is_open_one m.conn s || not (s.place.at == 0))))

abbrev pub has_threat : List Mark → Loop → Bool
has_threat [] s = false
has_threat (m ∷ ms) s = is_threat m s

-- no session is lost here any more
abbrev pub IsCalm : List Mark → Loop → Type 0
IsCalm marks s = has_threat (drop (length s.lost) marks) s ≡ false

-- a mark is of this place or a later one
abbrev pub IsFrom : Place → Mark → Type 0
IsFrom p m = (p.turn < m.turn) ⊎ ((p.turn ≡ m.turn) × ((p.at < m.at) ⊎
    ((p.at ≡ m.at) × (p.inputs ≤ m.inputs) × (p.frames ≤ m.frames))))

abbrev pub last_count : ℕ
last_count = 18446744073709551615

-- the marks of a run, as far as it has come: those to come are of this place or later ones
pub record Foretells (marks : List Mark) (s : Loop) : Type 0 where
  pub rest : List Mark
  pub split : marks ≡ s.lost ++ rest
  pub later : All (IsFrom s.place) rest
  pub short : s.place.inputs < last_count  -- no count in a mark has come to its last value

-- losses were added, each marked from the place on where it began
pub record Grew (s t : Loop) : Type 0 where
  pub added : List Mark
  pub lost : t.lost ≡ s.lost ++ added
  pub from : All (IsFrom s.place) added
  pub place : (m : Mark) → IsFrom t.place m → IsFrom s.place m
  pub counts : s.place.inputs ≤ t.place.inputs

-- how many sessions may end yet, and how many Downs are to be given
abbrev pub size : Loop → ℕ
size s = length s.downs + length s.sessions

-- it is the same turn, happening and frame
pub record Stays (s t : Loop) : Type 0 where
  pub turn : t.place.turn ≡ s.place.turn
  pub at : t.place.at ≡ s.place.at
  pub frames : t.place.frames ≡ s.place.frames

-- each session stays whose it is, or ends
abbrev pub KeepsKinds : Loop → Loop → Type 0
KeepsKinds s t = (c : ℕ) → (kind_at c t ≡ kind_at c s) ⊎ (kind_at c t ≡ None)

-- What was done is this, whatever marks come behind those that were made:
-- these are all that want of memory changed.
pub record Does (f : List Mark → Loop → Loop) (s t : Loop) : Type 0 where
  pub grew : Grew s t
  pub ends : size t ≤ size s  -- a session ends once, and has one Down at most
  pub most : most_inputs t ≤ most_inputs s  -- no input more may come
  pub kinds : KeepsKinds s t
  pub stays : Stays s t
  pub is : (marks : List Mark) → Foretells marks t → f marks s ≡ settled marks t
