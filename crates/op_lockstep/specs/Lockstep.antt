-- Lockstep rounds over fixed links, as the events of a schedule.
use Rattle.std.specs.Prelude.{◌==◌, ◌&&◌, ◌||◌, ℕ, zero, suc, ◌+◌, Bool, true, false, List, [], ◌∷◌, ◌++◌, length, map, drop, if◌then◌else◌}
use Rattle.op_quorum.specs.Quorums.{is_majority, passing}
use Rattle.op_runs.specs.declared.events.What.{What}
use Rattle.op_runs.specs.declared.events.What.TheVariants as what
use Rattle.op_runs.specs.declared.events.Event.{Event}
use Rattle.op_types.specs.declared.messages.Body.{Body}
use Rattle.op_types.specs.declared.messages.Body.TheVariants as body
use Rattle.op_gen.specs.Links.{Links, is_linked, all_links}
use Rattle.op_runs.specs.World.{World, Sent, first_world, run_of, all_done}

-- a member and those that are linked to it are a majority
abbrev pub hears_majority_over : List ℕ → Links → ℕ → Bool
hears_majority_over members links p =
    is_majority (passing (λ q. q == p || is_linked links p q) members) (length members)

-- ---- events

-- the event that this happens, which stands in no line of a schedule
abbrev pub event_of : What → Event
event_of w = record { line = 0; what = w }

-- the world after these events, each done
abbrev pub after_events : World → List Event → World
after_events w es = run_of w (all_done es)

-- each of these servers ticks
abbrev pub ticks : List ℕ → List Event
ticks pids = map (λ p. event_of (what.Tick p)) pids

-- the numbers of the messages that pass a test, where the first has number n
abbrev pub numbers_of : (Sent → Bool) → ℕ → List Sent → List ℕ
numbers_of test n [] = []
numbers_of test n (m ∷ ms) =
    if test m then n ∷ numbers_of test (n + 1) ms else numbers_of test (n + 1) ms

-- of these messages, those from this number on that pass a test are delivered, in order of sending
abbrev pub deliveries : (Sent → Bool) → ℕ → List Sent → List Event
deliveries test since messages =
    map (λ i. event_of (what.Deliver i)) (numbers_of test since (drop since messages))

-- whether a message asks for a heartbeat reply
abbrev pub is_request : Body → Bool
is_request (body.HeartbeatRequest round) = true
is_request _ = false

-- whether it is one
abbrev pub is_reply : Body → Bool
is_reply (body.HeartbeatReply round b flag) = true
is_reply _ = false

-- the same of one that was sent
abbrev pub is_sent_reply : Sent → Bool
is_sent_reply m = is_reply m.message.body

-- a request between two that are linked
abbrev pub is_linked_request : Links → Sent → Bool
is_linked_request links m = is_request m.message.body && is_linked links m.from m.to

-- ---- a round

-- the world when each member has ticked
abbrev pub ticked : List ℕ → World → World
ticked members w = after_events w (ticks members)

-- then each request of these ticks between two linked members is delivered
abbrev pub asking : List ℕ → Links → World → List Event
asking members links w =
    deliveries (is_linked_request links) (length w.messages) (ticked members w).messages

-- the world then
abbrev pub asked : List ℕ → Links → World → World
asked members links w = after_events (ticked members w) (asking members links w)

-- then each reply so sent is
abbrev pub answering : List ℕ → Links → World → List Event
answering members links w =
    deliveries is_sent_reply (length (ticked members w).messages) (asked members links w).messages

-- a lockstep round of these members over these links
abbrev pub round : List ℕ → Links → World → List Event
round members links w = ticks members ++ asking members links w ++ answering members links w

-- the world after it
abbrev pub after_round : List ℕ → Links → World → World
after_round members links w = after_events w (round members links w)

-- so many rounds, one after the other
unfoldable pub lockstep : List ℕ → Links → ℕ → World → List Event
lockstep members links zero w = []
lockstep members links (suc k) w =
    round members links w ++ lockstep members links k (after_round members links w)

-- ---- a drill of links

-- three rounds over all links, from the members' start on; there are no spares
abbrev pub first_rounds : List ℕ → List Event
first_rounds members = lockstep members (all_links members) 3 (first_world members [])

-- the world after them
abbrev pub linked_world : List ℕ → World
linked_world members = after_events (first_world members []) (first_rounds members)

-- each of these servers tells its ballots
abbrev pub ballots : List ℕ → List Event
ballots pids = map (λ p. event_of (what.Ballots p)) pids

-- Three rounds over all links, then so many over these; then each member ticks, which ends the last round,
-- and tells its ballots.
unfoldable pub links_drill : List ℕ → Links → ℕ → List Event
links_drill members links rounds =
    first_rounds members ++ lockstep members links rounds (linked_world members)
    ++ ticks members ++ ballots members
