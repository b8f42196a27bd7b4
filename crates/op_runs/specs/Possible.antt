-- Which events can come: those that name nodes of the world, and messages that were sent.
-- And which worlds and happenings the laws are about.
use Rattle.std.specs.Prelude.{◌≡◌, ◌≤◌, ◌<◌, ◌+◌, ◌*◌, ◌^◌, ◌&&◌, ℕ, nat_eq, nat_lt, Bool, true, false, List, [], ◌∷◌, length, All}
use Rattle.std.specs.Set.{is_member}
use Rattle.op_runs.specs.declared.events.Event.{Event}
use Rattle.op_runs.specs.declared.events.What.{What}
use Rattle.op_runs.specs.declared.events.What.TheVariants as what
use Rattle.op_types.specs.Ranges.{AreRising, IsMember, IsPid, AreCommands, ReadInRange, MembersInRange}
use Rattle.op_runs.specs.World.{Kind, Votes, Observes, World, Happening, node_ids, world_after, done_event}

-- ---- ids

-- whether a server votes, by whether it is to observe
abbrev pub kind_if : Bool → Kind
kind_if true = Observes
kind_if false = Votes

-- the same, where these observe
abbrev pub kind_in : List ℕ → ℕ → Kind
kind_in observers pid = kind_if (is_member nat_eq observers pid)

-- the ids that events may name: those of all servers, and those that stop-signs may name
pub record Named : Type 0 where
  pub servers : List ℕ
  pub voters : List ℕ

-- the ids of all servers, rising: those of members, spares and observers
abbrev pub server_ids : List ℕ → List ℕ → List ℕ → List ℕ
server_ids members spares observers = node_ids (node_ids members spares) observers

-- any of them may be named, but stop-signs name members and spares alone
abbrev pub named_ids : List ℕ → List ℕ → List ℕ → Named
named_ids members spares observers =
    record { servers = server_ids members spares observers; voters = node_ids members spares }

-- all of these are among the nodes
abbrev pub are_nodes : List ℕ → List ℕ → Bool
are_nodes nodes [] = true
are_nodes nodes (q ∷ qs) = is_member nat_eq nodes q && are_nodes nodes qs

-- ---- events

-- whether the servers that an event names may be named,
-- and the message that it names is one of so many that were sent
abbrev pub is_possible : Named → ℕ → What → Bool
is_possible ids sent (what.Tick p) = is_member nat_eq ids.servers p
is_possible ids sent (what.Commands p cs) = is_member nat_eq ids.servers p
is_possible ids sent (what.Stop p members) = is_member nat_eq ids.servers p && are_nodes ids.voters members
is_possible ids sent (what.Trim p) = is_member nat_eq ids.servers p
is_possible ids sent (what.Read p r) = is_member nat_eq ids.servers p
is_possible ids sent (what.Deliver i) = nat_lt i sent
is_possible ids sent (what.Up p q) = is_member nat_eq ids.servers p && is_member nat_eq ids.servers q
is_possible ids sent (what.Down p q) = is_member nat_eq ids.servers p && is_member nat_eq ids.servers q
is_possible ids sent (what.Crash p) = is_member nat_eq ids.servers p
is_possible ids sent (what.CrashAt p call image) = is_member nat_eq ids.servers p
is_possible ids sent (what.Fail p call) = is_member nat_eq ids.servers p
is_possible ids sent (what.Kill p disk) = is_member nat_eq ids.servers p
is_possible ids sent (what.Start p) = is_member nat_eq ids.servers p
is_possible ids sent (what.Show p) = is_member nat_eq ids.servers p
is_possible ids sent (what.Ballots p) = is_member nat_eq ids.servers p

-- whether an event can come in this world
abbrev pub is_possible_in : Named → World → Event → Bool
is_possible_in ids w e = is_possible ids (length w.messages) e.what

-- from this world on, each event can come where it stands, and is done
abbrev pub ArePossibleFrom : Named → World → List Event → Type 0
ArePossibleFrom ids w [] = Unit {0}
ArePossibleFrom ids w (e ∷ es) =
    (is_possible_in ids w e ≡ true) × ArePossibleFrom ids (world_after w (done_event e)) es

-- ---- ranges

-- how many disks of a node can be named: that of each area, and then the second copies
abbrev pub most_disks : ℕ
most_disks = 4

-- the number of a disk
abbrev pub IsDisk : ℕ → Type 0
IsDisk disk = (1 ≤ disk) × (disk ≤ most_disks)

-- how many calls of each disk can be named
abbrev pub calls_of_disk : ℕ
calls_of_disk = 50

-- the number of a call: those of the first disk, then those of the second, and so on
abbrev pub IsCall : ℕ → Type 0
IsCall call = (1 ≤ call) × (call ≤ most_disks * calls_of_disk)

-- how many images of a disk a stop in a call may leave, numbered from 0
abbrev pub images : ℕ
images = 256

-- what happens, at a node in range, with its parts in range
abbrev pub WhatInRange : What → Type 0
WhatInRange (what.Tick p) = IsPid p
WhatInRange (what.Commands p cs) = IsPid p × AreCommands cs
WhatInRange (what.Stop p members) = IsPid p × MembersInRange members
WhatInRange (what.Trim p) = IsPid p
WhatInRange (what.Read p r) = IsPid p × ReadInRange r
WhatInRange (what.Deliver i) = i < 2 ^ 64
WhatInRange (what.Up p q) = IsPid p × IsPid q
WhatInRange (what.Down p q) = IsPid p × IsPid q
WhatInRange (what.Crash p) = IsPid p
WhatInRange (what.CrashAt p call image) = IsPid p × IsCall call × (image < images)
WhatInRange (what.Fail p call) = IsPid p × IsCall call
WhatInRange (what.Kill p disk) = IsPid p × IsDisk disk
WhatInRange (what.Start p) = IsPid p
WhatInRange (what.Show p) = IsPid p
WhatInRange (what.Ballots p) = IsPid p

-- spares are rising, and none of them is a member
pub record SparesInRange (members spares : List ℕ) : Type 0 where
  pub rising : AreRising 0 spares
  pub apart : (q : ℕ) → IsMember spares q → IsMember members q → ⊥

-- observers are rising, and none of them is a member or a spare
pub record ObserversInRange (members spares observers : List ℕ) : Type 0 where
  pub rising : AreRising 0 observers
  pub no_member : (q : ℕ) → IsMember observers q → IsMember members q → ⊥
  pub no_spare : (q : ℕ) → IsMember observers q → IsMember spares q → ⊥

-- how many entries an event proposes
abbrev pub proposals_of : What → ℕ
proposals_of (what.Commands p cs) = length cs
proposals_of (what.Stop p members) = 1
proposals_of _ = 0

-- how many entries happenings propose
abbrev pub proposals_in : List Happening → ℕ
proposals_in [] = 0
proposals_in (h ∷ hs) = proposals_of h.event.what + proposals_in hs

-- fewer entries than this are proposed
abbrev pub most_proposals : ℕ
most_proposals = 2 ^ 60

-- Happenings in range. They propose so few entries, of which each puts sixteen keys at most, that eight bytes
-- count the keys and the clients of every service that they leave: so each base stands for its service.
pub record HappeningsInRange (hs : List Happening) : Type 0 where
  pub few : proposals_in hs < most_proposals
  pub each : All (λ h. WhatInRange h.event.what) hs
