-- A run seen from one configuration is a run of that configuration's own world.
use Rattle.std.specs.Prelude.{◌≡◌, ℕ, ◌+◌, ◌<◌, ◌≤◌, ◌⊎◌, List, [], ◌∷◌, ◌++◌, length, drop, slice_get, Some, ◌==◌, true}
use Rattle.op_types.specs.declared.log.Entry.{Entry}
use Rattle.op_spec.specs.Machine.{members_of}
use Rattle.op_paxos.specs.Worlds as paxos
use Rattle.op_paxos.specs.Nodes.{LeadingState, Leading, majority_passes}
use Rattle.op_paxos.specs.Agreement.{IsPrefix, decided_log}
use Rattle.op_paxos.specs.Exchange.{Exchange, IsPlaced, Dropped}
use Rattle.op_configurations.specs.Servers.{Part, Done, Proposes, may_propose}
use Rattle.op_configurations.specs.Worlds.{Running, World, Happening, At, run, state_of, start, inner_of, machine_of}

-- the world of a configuration: what happened inside it, among its members
abbrev pub view : List ℕ → (ℕ → List Entry) → World → ℕ → paxos.World
view first lists w c = paxos.run (members_of first lists c) (w.inner c) paxos.start

-- its messages are those of the run, its members are as the servers have them, and what they have decided is
-- a front of the list, and known
pub record IsSeen (first : List ℕ) (lists : ℕ → List Entry) (knows : ℕ → ℕ → ℕ) (w : World)
    (c : ℕ) : Type 0 where
  pub packets : (view first lists w c).packets ≡ inner_of c w.soup
  pub nodes : (p : ℕ) (pt : Part) → ((w.servers p).state).part ≡ Some pt → pt.conf ≡ c
      → (view first lists w c).nodes p ≡ pt.node
  pub decided : (p : ℕ) → IsPrefix (decided_log (view first lists w c) p) (lists c)
  pub known : (p : ℕ) → ((view first lists w c).nodes p).decided ≤ knows p c

abbrev pub EachIsARun : Type 0
EachIsARun =
    (first : List ℕ) (hs : List Happening) (c : ℕ)
    → IsSeen first (machine_of first hs).lists (machine_of first hs).known (run hs (start first)) c

-- what happens inside c from w on
abbrev pub events_from : World → List Happening → ℕ → List paxos.Event
events_from w hs c = drop (length (w.inner c)) ((run hs w).inner c)

-- what happened inside a configuration only grows
abbrev pub InnerGrows : Type 0
InnerGrows =
    (first : List ℕ) (early late : List Happening) (c : ℕ)
    → (run early (start first)).inner c ++ events_from (run early (start first)) late c
    ≡ (run (early ++ late) (start first)).inner c

-- e stands in the list of c at a place that p knows
abbrev pub IsDecided : List ℕ → List Happening → ℕ → ℕ → Entry → ℕ → Type 0
IsDecided first hs c p e place =
    (place < (machine_of first hs).known p c) × (slice_get ((machine_of first hs).lists c) place ≡ Some e)

-- the members and the world of c after these happenings, and what then happens inside it
abbrev pub members_at : List ℕ → List Happening → ℕ → List ℕ
members_at first hs c = members_of first (machine_of first hs).lists c

abbrev pub world_at : List ℕ → List Happening → ℕ → paxos.World
world_at first hs c = view first (machine_of first hs).lists (run hs (start first)) c

abbrev pub events_after : List ℕ → List Happening → List Happening → ℕ → List paxos.Event
events_after first early late c = events_from (run early (start first)) late c

-- From every world that a run reaches, one exchange inside a configuration decides what was proposed in it,
-- at its place, unless it was dropped behind a stop-sign or at the end of positions.
abbrev pub ExchangeDecides : Type 0
ExchangeDecides =
    (first : List ℕ) (early late : List Happening) (c p b : ℕ) (others : List ℕ) (e : Entry)
    → let ms : List ℕ = members_at first early c in
    let w : paxos.World = world_at first early c in
    let events : List paxos.Event = events_after first early late c in
    (x : Exchange ms w p b others events e)
    → ((place : ℕ) × IsPlaced ms w p events x.proposed_at place × IsDecided first (early ++ late) c p e place)
    ⊎ Dropped ms w p events x.proposed_at e

-- a leader that is a majority alone decides each of what is proposed to it together, unless it refuses, by
-- the event itself
abbrev pub AloneDecides : Type 0
AloneDecides =
    (first : List ℕ) (early : List Happening) (p : ℕ) (es : List Entry) (pt : Part) (l : LeadingState)
    (i : ℕ) (e : Entry)
    → ((run early (start first)).servers p).life ≡ Running
    → (state_of first early p).part ≡ Some pt
    → may_propose p (state_of first early p) (Some pt) es ≡ true
    → (pt.node).role ≡ Leading l
    → majority_passes pt.members (λ q. q == p) ≡ true
    → slice_get es i ≡ Some e
    → IsDecided first (early ++ At Done p (Proposes es) ∷ []) pt.conf p e (length (pt.node).log + i)
