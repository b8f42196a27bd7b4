-- The schedule grammar: a header line, perhaps one of spares, perhaps one of observers, perhaps one that
-- mirrors the disks, and then a line for each event.
-- Empty lines and comments may stand anywhere.
use Rattle.std.specs.Prelude.{◌≡◌, ◌==◌, ◌≤◌, ◌⊎◌, ℕ, ◌+◌, ◌*◌, Bool, true, false, if◌then◌else◌}
use Rattle.std.specs.Prelude.{List, [], ◌∷◌, length, map, All, codes, decimal}
use Rattle.std.specs.List.{slice_split}
use Rattle.op_types.specs.Ranges.{MembersInRange}
use Rattle.op_runs.specs.Possible.{WhatInRange, SparesInRange, ObserversInRange, most_disks, calls_of_disk}
use Rattle.op_types.specs.declared.log.Op.{Op}
use Rattle.op_types.specs.declared.log.Command.{Command}
use Rattle.op_runs.specs.declared.events.What.{What}
use Rattle.op_runs.specs.declared.events.What.TheVariants as what
use Rattle.op_runs.specs.declared.events.Event.{Event}
use Rattle.op_sched.specs.declared.schedule.Schedule.{Schedule}
use Rattle.op_text.specs.Operations.{OpIsOfBytes, op_name, operands, read_words}
use Rattle.op_text.specs.Percent.{AreBytes}

-- ---- lines and words

-- the byte LF, which ends a line
abbrev pub line_feed : ℕ
line_feed = 10

-- the byte `#`, which begins a comment
abbrev pub comment_mark : ℕ
comment_mark = 35

-- the space, which parts words
abbrev pub space : ℕ
space = 32

-- parts, without an empty one at the end
abbrev pub without_empty_end : List (List ℕ) → List (List ℕ)
without_empty_end [] = []
without_empty_end (x ∷ []) = if length x == 0 then [] else x ∷ []
without_empty_end (x ∷ y ∷ more) = x ∷ without_empty_end (y ∷ more)

-- the lines of a text: each ends with LF, which the last one may lack
abbrev pub lines_of : List ℕ → List (List ℕ)
lines_of text = without_empty_end (slice_split (λ b. b == line_feed) text)

-- a line is skipped if it is empty or a comment
abbrev pub is_skipped : List ℕ → Bool
is_skipped [] = true
is_skipped (b ∷ line) = b == comment_mark

-- of lines from the number n on, those that aren't skipped, each with its number
abbrev pub numbered : ℕ → List (List ℕ) → List (ℕ × List ℕ)
numbered n [] = []
numbered n (line ∷ lines) =
    if is_skipped line then numbered (n + 1) lines else (n, line) ∷ numbered (n + 1) lines

-- the lines of a text whose first one has this number, without those that are skipped
abbrev pub numbered_lines : ℕ → List ℕ → List (ℕ × List ℕ)
numbered_lines n text = numbered n (lines_of text)

-- the words of a line, with one space between two
abbrev pub words_of : List ℕ → List (List ℕ)
words_of line = slice_split (λ b. b == space) line

-- ---- the headers

-- the words name the members
pub record AreHeaderWords (words : List (List ℕ)) (members : List ℕ) : Type 0 where
  pub in_range : MembersInRange members
  pub written : words ≡ codes "members" ∷ map decimal members

-- the line names the members
abbrev pub IsHeader : List ℕ → List ℕ → Type 0
IsHeader line members = AreHeaderWords (words_of line) members

-- how many spares a schedule has at most
abbrev pub most_spares : ℕ
most_spares = 31

-- these may be a schedule's spares beside these members
pub record AreSpares (members spares : List ℕ) : Type 0 where
  pub few : length spares ≤ most_spares
  pub in_range : SparesInRange members spares

-- the words name spares beside these members
pub record AreSpareWords (members : List ℕ) (words : List (List ℕ)) (spares : List ℕ) : Type 0 where
  pub some : 1 ≤ length spares
  pub in_range : AreSpares members spares
  pub written : words ≡ codes "spares" ∷ map decimal spares

-- the line names spares beside these members
abbrev pub IsSpareLine : List ℕ → List ℕ → List ℕ → Type 0
IsSpareLine members line spares = AreSpareWords members (words_of line) spares

-- how many observers a schedule has at most
abbrev pub most_observers : ℕ
most_observers = 22

-- these may be a schedule's observers beside these members and spares
pub record AreObservers (members spares observers : List ℕ) : Type 0 where
  pub few : length observers ≤ most_observers
  pub in_range : ObserversInRange members spares observers

-- the words name observers beside these members and spares
pub record AreObserverWords (members spares : List ℕ) (words : List (List ℕ)) (observers : List ℕ)
    : Type 0 where
  pub some : 1 ≤ length observers
  pub in_range : AreObservers members spares observers
  pub written : words ≡ codes "observers" ∷ map decimal observers

-- the line names observers beside these members and spares
abbrev pub IsObserverLine : List ℕ → List ℕ → List ℕ → List ℕ → Type 0
IsObserverLine members spares line observers = AreObserverWords members spares (words_of line) observers

-- the line mirrors the disks
abbrev pub IsMirrorLine : List ℕ → Type 0
IsMirrorLine line = line ≡ codes "mirror"

-- ---- events

-- the words of a client's operation at a server
abbrev pub op_words : ℕ → ℕ → ℕ → Op → List (List ℕ)
op_words p client seq op = op_name op ∷ decimal p ∷ decimal client ∷ decimal seq ∷ operands op

-- the words of a command that is proposed alone
abbrev pub commands_words : ℕ → List Command → List (List ℕ)
commands_words p (c ∷ []) = op_words p c.client c.seq c.op
commands_words p cs = []

-- the words of what happens: its name, and what it needs
abbrev pub what_words : What → List (List ℕ)
what_words (what.Tick p) = codes "tick" ∷ decimal p ∷ []
what_words (what.Commands p cs) = commands_words p cs
what_words (what.Stop p members) = codes "stop" ∷ decimal p ∷ map decimal members
what_words (what.Trim p) = codes "trim" ∷ decimal p ∷ []
what_words (what.Read p r) = codes "read" ∷ decimal p ∷ read_words r
what_words (what.Deliver i) = codes "deliver" ∷ decimal i ∷ []
what_words (what.Up p q) = codes "up" ∷ decimal p ∷ decimal q ∷ []
what_words (what.Down p q) = codes "drop" ∷ decimal p ∷ decimal q ∷ []
what_words (what.Crash p) = codes "crash" ∷ decimal p ∷ []
what_words (what.CrashAt p call image) = codes "crash" ∷ decimal p ∷ decimal call ∷ decimal image ∷ []
what_words (what.Fail p call) = codes "fail" ∷ decimal p ∷ decimal call ∷ []
what_words (what.Kill p disk) = codes "kill" ∷ decimal p ∷ decimal disk ∷ []
what_words (what.Start p) = codes "start" ∷ decimal p ∷ []
what_words (what.Show p) = codes "show" ∷ decimal p ∷ []
what_words (what.Ballots p) = codes "ballots" ∷ decimal p ∷ []

-- the keys and values of what happens are bytes
abbrev pub IsOfBytes : What → Type 0
IsOfBytes (what.Commands p cs) = All (λ c. OpIsOfBytes c.op) cs
IsOfBytes (what.Read p r) = AreBytes r.key
IsOfBytes w = Unit {0}

-- a session is one between two different servers
abbrev pub IsBetweenTwo : What → Type 0
IsBetweenTwo (what.Up p q) = p ≡ q → ⊥
IsBetweenTwo (what.Down p q) = p ≡ q → ⊥
IsBetweenTwo w = Unit {0}

-- a line proposes one command
abbrev pub ProposesOne : What → Type 0
ProposesOne (what.Commands p cs) = length cs ≡ 1
ProposesOne w = Unit {0}

-- the words say what happens
pub record AreWordsOf (words : List (List ℕ)) (w : What) : Type 0 where
  pub in_range : WhatInRange w
  pub of_bytes : IsOfBytes w
  pub between : IsBetweenTwo w
  pub one : ProposesOne w
  pub written : words ≡ what_words w

-- how many disks a node has: that of each area and, where they are mirrored, the second copies
abbrev pub disks_of : Bool → ℕ
disks_of false = 2
disks_of true = most_disks

-- how many calls of them can be named
abbrev pub calls_of : Bool → ℕ
calls_of mirrored = disks_of mirrored * calls_of_disk

-- It suits the nodes' disks: a call is one of theirs. One fails only where they are not mirrored, and a disk
-- is killed only where they are.
abbrev pub SuitsDisks : Bool → What → Type 0
SuitsDisks mirrored (what.CrashAt p call image) = call ≤ calls_of mirrored
SuitsDisks mirrored (what.Fail p call) = (mirrored ≡ false) × (call ≤ calls_of mirrored)
SuitsDisks mirrored (what.Kill p disk) = mirrored ≡ true
SuitsDisks mirrored w = Unit {0}

-- the line says what happens, and it suits the nodes' disks, which are mirrored or not
abbrev pub IsEventLine : Bool → List ℕ → What → Type 0
IsEventLine mirrored line w = AreWordsOf (words_of line) w × SuitsDisks mirrored w

-- each event is in range
abbrev pub AreInRange : List Event → Type 0
AreInRange events = All (λ e. WhatInRange e.what) events

-- the keys and values of each event are bytes
abbrev pub AreOfBytes : List Event → Type 0
AreOfBytes events = All (λ e. IsOfBytes e.what) events

-- each session is one between two different servers
abbrev pub AreBetweenTwo : List Event → Type 0
AreBetweenTwo events = All (λ e. IsBetweenTwo e.what) events

-- each event suits the nodes' disks
abbrev pub EachSuitsDisks : Bool → List Event → Type 0
EachSuitsDisks mirrored events = All (λ e. SuitsDisks mirrored e.what) events

-- ---- the text of a schedule

-- the numbered lines are these events', one each, at nodes whose disks are mirrored or not
abbrev pub AreEvents : Bool → List (ℕ × List ℕ) → List Event → Type 0
AreEvents mirrored [] [] = Unit {0}
AreEvents mirrored [] (e ∷ events) = ⊥
AreEvents mirrored (line ∷ lines) [] = ⊥
AreEvents mirrored (line ∷ lines) (e ∷ events) =
    (e.line ≡ line.0) × IsEventLine mirrored line.1 e.what × AreEvents mirrored lines events

-- the numbered lines are these events' and, where the disks are mirrored, a line before them says so
abbrev pub AreAfterObservers : List (ℕ × List ℕ) → Bool → List Event → Type 0
AreAfterObservers lines false events = AreEvents false lines events
AreAfterObservers [] true events = ⊥
AreAfterObservers (line ∷ lines) true events = IsMirrorLine line.1 × AreEvents true lines events

-- what a schedule says after its members and its spares
pub record Course : Type 0 where
  pub observers : List ℕ
  pub mirrored : Bool
  pub events : List Event

-- the first of the numbered lines names the observers beside these members and spares, and the others come
-- after it
abbrev pub AreObserversAndMore : List ℕ → List ℕ → List (ℕ × List ℕ) → Course → Type 0
AreObserversAndMore members spares [] c = ⊥
AreObserversAndMore members spares (line ∷ lines) c =
    IsObserverLine members spares line.1 c.observers × AreAfterObservers lines c.mirrored c.events

-- the numbered lines after these members and spares are of the observers, if there are any, of mirrored disks
-- or not, and of events
abbrev pub AreAfterSpares : List ℕ → List ℕ → List (ℕ × List ℕ) → Course → Type 0
AreAfterSpares members spares lines c =
    AreObserversAndMore members spares lines c
    ⊎ ((c.observers ≡ []) × AreAfterObservers lines c.mirrored c.events)

-- the first of the numbered lines names these spares beside these members, and the others come after it
abbrev pub AreSparesAndMore : List ℕ → List (ℕ × List ℕ) → List ℕ → Course → Type 0
AreSparesAndMore members [] spares c = ⊥
AreSparesAndMore members (line ∷ lines) spares c =
    IsSpareLine members line.1 spares × AreAfterSpares members spares lines c

-- the numbered lines after the header are of these spares, if there are any, and of what comes after them
abbrev pub AreAfterHeader : List ℕ → List (ℕ × List ℕ) → List ℕ → Course → Type 0
AreAfterHeader members lines spares c =
    AreSparesAndMore members lines spares c ⊎ ((spares ≡ []) × AreAfterSpares members [] lines c)

-- what this schedule says after its members and its spares
abbrev pub course_of : Schedule → Course
course_of s = record { observers = s.observers; mirrored = s.is_mirrored; events = s.events }

-- the numbered lines are this schedule's
abbrev pub AreLines : List (ℕ × List ℕ) → Schedule → Type 0
AreLines [] s = ⊥
AreLines (header ∷ lines) s =
    IsHeader header.1 s.members × AreAfterHeader s.members lines s.spares (course_of s)

-- the text is this schedule's
abbrev pub IsSchedule : List ℕ → Schedule → Type 0
IsSchedule text s = AreLines (numbered_lines 1 text) s

-- its members, spares and observers are so many at most, and in range
pub record HasServers (s : Schedule) : Type 0 where
  pub members : MembersInRange s.members
  pub spares : AreSpares s.members s.spares
  pub observers : AreObservers s.members s.spares s.observers

-- ---- the first line that isn't in the grammar

-- the line is some event's
abbrev pub IsAnEvent : Bool → List ℕ → Type 0
IsAnEvent mirrored line = (w : What) × IsEventLine mirrored line w

-- the line is some header
abbrev pub IsAHeader : List ℕ → Type 0
IsAHeader line = (members : List ℕ) × IsHeader line members

-- of numbered lines, n is the number of the first that is no event's
abbrev pub IsFirstBadEvent : Bool → List (ℕ × List ℕ) → ℕ → Type 0
IsFirstBadEvent mirrored [] n = ⊥
IsFirstBadEvent mirrored (line ∷ lines) n =
    ((n ≡ line.0) × (IsAnEvent mirrored line.1 → ⊥))
    ⊎ (IsAnEvent mirrored line.1 × IsFirstBadEvent mirrored lines n)

-- of numbered lines after members, spares and observers, n is the number of the first that isn't in the
-- grammar
abbrev pub IsFirstBadAfterObservers : List (ℕ × List ℕ) → ℕ → Type 0
IsFirstBadAfterObservers [] n = ⊥
IsFirstBadAfterObservers (line ∷ lines) n =
    (IsMirrorLine line.1 × IsFirstBadEvent true lines n)
    ⊎ ((IsMirrorLine line.1 → ⊥) × IsFirstBadEvent false (line ∷ lines) n)

-- the line names some observers beside these members and spares
abbrev pub NamesObservers : List ℕ → List ℕ → List ℕ → Type 0
NamesObservers members spares line = (observers : List ℕ) × IsObserverLine members spares line observers

-- of numbered lines after these members and spares, n is the number of the first that isn't in the grammar
abbrev pub IsFirstBadAfterSpares : List ℕ → List ℕ → List (ℕ × List ℕ) → ℕ → Type 0
IsFirstBadAfterSpares members spares [] n = ⊥
IsFirstBadAfterSpares members spares (line ∷ lines) n =
    (NamesObservers members spares line.1 × IsFirstBadAfterObservers lines n)
    ⊎ ((NamesObservers members spares line.1 → ⊥) × IsFirstBadAfterObservers (line ∷ lines) n)

-- the line names some spares beside these members
abbrev pub NamesSpares : List ℕ → List ℕ → Type 0
NamesSpares members line = (spares : List ℕ) × IsSpareLine members line spares

-- of numbered lines after a header with these members, n is the number of the first that isn't in the grammar
abbrev pub IsFirstBadAfter : List ℕ → List (ℕ × List ℕ) → ℕ → Type 0
IsFirstBadAfter members [] n = ⊥
IsFirstBadAfter members (line ∷ lines) n =
    ((spares : List ℕ) × IsSpareLine members line.1 spares × IsFirstBadAfterSpares members spares lines n)
    ⊎ ((NamesSpares members line.1 → ⊥) × IsFirstBadAfterSpares members [] (line ∷ lines) n)

-- n is the number of the first that isn't in the grammar,
-- and where there are no lines the number after the last
abbrev pub IsFirstBadOf : ℕ → List (ℕ × List ℕ) → ℕ → Type 0
IsFirstBadOf end [] n = n ≡ end
IsFirstBadOf end (header ∷ lines) n =
    ((n ≡ header.0) × (IsAHeader header.1 → ⊥))
    ⊎ ((members : List ℕ) × IsHeader header.1 members × IsFirstBadAfter members lines n)

-- n is the first line of the text that isn't in the grammar, or after its last line where it has no header
abbrev pub IsFirstBadLine : List ℕ → ℕ → Type 0
IsFirstBadLine text n = IsFirstBadOf (length (lines_of text) + 1) (numbered_lines 1 text) n
