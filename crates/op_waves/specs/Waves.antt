-- Full rounds over fixed links: heartbeats, sessions that begin anew, and all that is then sent, wave by
-- wave.
use Rattle.std.specs.Prelude.{◌&&◌, ℕ, zero, suc, Bool, not, List, [], ◌∷◌, ◌++◌, length, map, flat_map}
use Rattle.op_protocol.specs.Parts.{others}
use Rattle.op_runs.specs.declared.events.What.TheVariants as what
use Rattle.op_runs.specs.declared.events.Event.{Event}
use Rattle.op_runs.specs.World.{World, Sent}
use Rattle.op_gen.specs.Links.{Links, is_linked}
use Rattle.op_lockstep.specs.Lockstep.{event_of, after_events, deliveries, round}
use Rattle.op_progress.specs.Progress.{is_heartbeat}

-- whether a message goes over a link, and is of no heartbeat round
abbrev pub goes_over : Links → Sent → Bool
goes_over links m = is_linked links m.from m.to && not (is_heartbeat m.message.body)

-- So many waves: in each, all that was sent from a number on and goes over links is delivered, in order of
-- sending, and in the next one what this has sent.
abbrev pub waves : Links → ℕ → ℕ → World → List Event
waves links since zero w = []
waves links since (suc k) w =
    let es : List Event = deliveries (goes_over links) since w.messages in
    es ++ waves links (length w.messages) k (after_events w es)

-- a session begins at the first of two with the second one, and so many waves follow of what comes of it
abbrev pub session : Links → ℕ → ℕ × ℕ → World → List Event
session links k l w =
    let es : List Event = event_of (what.Up l.0 l.1) ∷ [] in
    es ++ waves links (length w.messages) k (after_events w es)

-- these sessions begin, one after the other
abbrev pub sessions : Links → ℕ → List (ℕ × ℕ) → World → List Event
sessions links k [] w = []
sessions links k (l ∷ ls) w =
    let es : List Event = session links k l w in es ++ sessions links k ls (after_events w es)

-- each of these with each other one
abbrev pub pairs : List ℕ → List (ℕ × ℕ)
pairs group = flat_map (λ p. map (λ q. (p, q)) (others p group)) group

-- A full round of these members: their heartbeats; then each begins its session with each other one anew, and
-- so many waves follow before the next one begins.
abbrev pub full_round : List ℕ → Links → ℕ → World → List Event
full_round group links k w =
    let es : List Event = round group links w in es ++ sessions links k (pairs group) (after_events w es)
