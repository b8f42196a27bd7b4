-- What every run over all configurations keeps.
use Rattle.std.specs.Prelude.{◌≡◌, ℕ, suc, ◌+◌, ◌-◌, ◌<◌, ◌≤◌, ◌⊎◌, Some, List, [], ◌∷◌, ◌++◌, length, take, drop, slice_get, true, is_some}
use Rattle.op_types.specs.declared.log.Entry.{Entry}
use Rattle.op_spec.specs.Machine.{Machine, stop_at_end, members_of, Leads}
use Rattle.op_spec.specs.Laws.{IsSafe, OnlyGrows}
use Rattle.op_spec.specs.Machine.{IsAmong}
use Rattle.op_paxos.specs.Messages.{Msg, Decide, Progress, Trim}
use Rattle.op_paxos.specs.Agreement.{IsPrefix}
use Rattle.op_configurations.specs.Servers.{Part, Closed, Base, Joining, State, Letter, Body, NextConf, BasePart, BasePiece, Segment, decided_list, latest, Inner}
use Rattle.op_configurations.specs.Worlds.{Happening, run, state_of, start, entries_in, decided_in, machine_of}

-- what two servers show of a configuration, one early, the other at the same time or later, are fronts of one
-- another
abbrev pub OneList : Type 0
OneList = (first : List ℕ) (early late : List Happening) (p q c : ℕ)
    → IsPrefix (entries_in (state_of first early p) c) (entries_in (state_of first (early ++ late) q) c)
    ⊎ IsPrefix (entries_in (state_of first (early ++ late) q) c) (entries_in (state_of first early p) c)

-- whatever happens is finitely many allowed steps of the list machine
abbrev pub MeetsMachine : Type 0
MeetsMachine =
    (first : List ℕ) (early : List Happening) (h : Happening)
    → Leads (machine_of first early) (machine_of first (early ++ h ∷ []))

-- the machine of every run is safe: each entry of a list was proposed for it, none stands behind a stop-sign,
-- and only members have a configuration open
abbrev pub Safe : Type 0
Safe = (first : List ℕ) (hs : List Happening) → IsSafe first (machine_of first hs)

-- and it only grows
abbrev pub Grows : Type 0
Grows =
    (first : List ℕ) (early late : List Happening)
    → OnlyGrows (machine_of first early) (machine_of first (early ++ late))

-- ---- what a server keeps stands

-- the part's decided front is that of the list, and its members are those of the configuration
pub record PartStands (first : List ℕ) (lists : ℕ → List Entry) (pt : Part) : Type 0 where
  pub trimmed : (pt.node).trimmed ≤ (pt.node).decided
  pub decided : (pt.node).decided ≤ length (lists pt.conf)
  pub entries : decided_list pt.node ≡ take (pt.node).decided (lists pt.conf)
  pub members : pt.members ≡ members_of first lists pt.conf

-- the closed list is the whole list
pub record ClosedStands (first : List ℕ) (lists : ℕ → List Entry) (k : Closed) : Type 0 where
  pub trimmed : k.trimmed ≤ length k.list
  pub entries : k.list ≡ lists k.conf
  pub olds : k.olds ≡ members_of first lists k.conf
  pub next : k.next ≡ members_of first lists (suc k.conf)

-- a base is the front of this list that it stands for
pub record BaseStands (list : List Entry) (b : Base) : Type 0 where
  pub within : b.at ≤ length list
  pub front : b.front ≡ take b.at list

-- what is held while joining is of the list before, at its position
pub record JoiningStands (first : List ℕ) (lists : ℕ → List Entry) (j : Joining) : Type 0 where
  pub above : 1 < j.conf
  pub members : j.members ≡ members_of first lists j.conf
  pub olds : j.olds ≡ members_of first lists (j.conf - 1)
  pub len : j.len ≡ length (lists (j.conf - 1))
  pub base : (b : Base) → j.base ≡ Some b → BaseStands (lists (j.conf - 1)) b
  pub held : (n : ℕ) (e : Entry) → j.held n ≡ Some e → slice_get (lists (j.conf - 1)) n ≡ Some e

pub record StateStands (first : List ℕ) (lists : ℕ → List Entry) (st : State) : Type 0 where
  pub part : (pt : Part) → st.part ≡ Some pt → PartStands first lists pt
  pub closed : (k : Closed) → st.closed ≡ Some k → ClosedStands first lists k
  pub joining : (j : Joining) → st.joining ≡ Some j → JoiningStands first lists j

abbrev pub Stands : Type 0
Stands =
    (first : List ℕ) (hs : List Happening) (p : ℕ)
    → StateStands first (machine_of first hs).lists (state_of first hs p)

-- ---- what was sent is true of the lists

-- the news of configuration c
pub record NextStands (first : List ℕ) (lists : ℕ → List Entry) (c : ℕ) (members olds : List ℕ)
    (len trimmed : ℕ) : Type 0 where
  pub above : 1 < c
  pub members_are : members ≡ members_of first lists c
  pub olds_are : olds ≡ members_of first lists (c - 1)
  pub len_is : len ≡ length (lists (c - 1))
  pub within : trimmed ≤ len

-- these entries stand in the list from this position on
pub record SegmentStands (list : List Entry) (a : ℕ) (es : List Entry) : Type 0 where
  pub within : a + length es ≤ length list
  pub entries : es ≡ take (length es) (drop a list)

abbrev pub BodyStands : List ℕ → (ℕ → List Entry) → ℕ → Body → Type 0
BodyStands first lists c (NextConf members olds len t) = NextStands first lists c members olds len t
BodyStands first lists c (BasePart at front) = BaseStands (lists (c - 1)) (record { at = at; front = front })
BodyStands first lists c (BasePiece at total from_at count front) =
    BaseStands (lists (c - 1)) (record { at = at; front = front })
BodyStands first lists c (Segment a es) = SegmentStands (lists (c - 1)) a es
BodyStands first lists c _ = Unit {0}

abbrev pub LettersStand : Type 0
LettersStand =
    (first : List ℕ) (hs : List Happening) (m : Letter) → IsAmong (run hs (start first)).soup m
    → BodyStands first (machine_of first hs).lists m.conf m.body

-- a decided index never falls until the server has closed a later configuration
abbrev pub NeverFalls : Type 0
NeverFalls = (first : List ℕ) (early late : List Happening) (p c : ℕ)
    → (decided_in (state_of first early p) c ≤ decided_in (state_of first (early ++ late) p) c)
    ⊎ (suc c < latest (state_of first (early ++ late) p))

-- the latest configuration that a server knows never falls
abbrev pub LatestRises : Type 0
LatestRises =
    (first : List ℕ) (early late : List Happening) (p : ℕ)
    → latest (state_of first early p) ≤ latest (state_of first (early ++ late) p)

-- a server joins only what is above all that it knows
abbrev pub JoinsAbove : Type 0
JoinsAbove =
    (first : List ℕ) (hs : List Happening) (p : ℕ) (j : Joining)
    → (state_of first hs p).joining ≡ Some j → latest (state_of first hs p) < j.conf

-- each list before a server's latest configuration is ended by a stop-sign
abbrev pub EndedBelow : Type 0
EndedBelow =
    (first : List ℕ) (hs : List Happening) (p c : ℕ)
    → 0 < c → c < latest (state_of first hs p)
    → is_some (stop_at_end ((machine_of first hs).lists c)) ≡ true

-- every member of this configuration has known this far
abbrev pub AllKnow : Machine → List ℕ → ℕ → ℕ → Type 0
AllKnow m members c x = (q : ℕ) → IsAmong members q → x ≤ m.known q c

-- nothing is trimmed that some member of its configuration never knew: neither in a part nor in a closed list
-- nor in a base
pub record TrimsLow (m : Machine) (st : State) : Type 0 where
  pub part : (pt : Part) → st.part ≡ Some pt → AllKnow m pt.members pt.conf (pt.node).trimmed
  pub closed : (k : Closed) → st.closed ≡ Some k → AllKnow m k.olds k.conf k.trimmed
  pub base : (j : Joining) (b : Base) → st.joining ≡ Some j → j.base ≡ Some b
      → AllKnow m j.olds (j.conf - 1) b.at

abbrev pub TrimsKnown : Type 0
TrimsKnown =
    (first : List ℕ) (hs : List Happening) (p : ℕ) → TrimsLow (machine_of first hs) (state_of first hs p)

-- the same member with the same promise, log and decided index: its role, its stage and what is trimmed may
-- differ
pub record IsKept (pt pt' : Part) : Type 0 where
  pub conf : pt'.conf ≡ pt.conf
  pub members : pt'.members ≡ pt.members
  pub promised : (pt'.node).promised ≡ (pt.node).promised
  pub accepted : (pt'.node).accepted ≡ (pt.node).accepted
  pub log : (pt'.node).log ≡ (pt.node).log
  pub decided : (pt'.node).decided ≡ (pt.node).decided

-- until it goes on to a later configuration, a joining server keeps its part
abbrev pub Keeps : State → State → Type 0
Keeps st st' =
    is_some st.joining ≡ true → (pt : Part) → st.part ≡ Some pt
    → ((pt' : Part) × (st'.part ≡ Some pt') × IsKept pt pt') ⊎ (latest st < latest st')

abbrev pub JoiningKeeps : Type 0
JoiningKeeps =
    (first : List ℕ) (early : List Happening) (h : Happening) (p : ℕ)
    → Keeps (state_of first early p) (state_of first (early ++ h ∷ []) p)

-- ---- messages inside a configuration are true of the machine

-- a decided index that its sender tells, that sender has known; a place at which it tells to trim, every
-- member has known
abbrev pub MsgStands : Machine → List ℕ → ℕ → ℕ → Msg → Type 0
MsgStands m members c p (Decide n x) = x ≤ m.known p c
MsgStands m members c p (Progress n x) = x ≤ m.known p c
MsgStands m members c p (Trim x) = AllKnow m members c x
MsgStands m members c p _ = Unit {0}

abbrev pub MessagesStand : Type 0
MessagesStand =
    (first : List ℕ) (hs : List Happening) (l : Letter) (m : Msg) → IsAmong (run hs (start first)).soup l
    → l.body ≡ Inner m
    → MsgStands (machine_of first hs) (members_of first (machine_of first hs).lists l.conf) l.conf l.from m
