-- What happenings of the pure machine propose.
use Rattle.std.proofs.Common.{List, [], ◌∷◌, ◌++◌, length, ◌≡◌, ◌+◌, arith, length-append}
use Rattle.op_types.specs.declared.log.Entry.{Entry}
use Rattle.op_configurations.specs.Servers as server
use Rattle.op_configurations.specs.Servers.{Event}
use Rattle.op_configurations.specs.Worlds as worlds
use Rattle.op_configurations.specs.Worlds.{Happening}

-- what an event proposes
abbrev pub event_proposal : Event → List Entry
event_proposal (server.Proposes es) = es
event_proposal (server.Ticks o) = []
event_proposal (server.TicksAlone heard) = []
event_proposal server.Trims = []
event_proposal (server.Links q) = []
event_proposal (server.Unlinks q) = []
event_proposal (server.Notes xs) = []
event_proposal (server.Reads n m) = []
event_proposal (server.ReadsLong n total m) = []

-- what a happening proposes
abbrev pub proposal : Happening → List Entry
proposal (worlds.At f p e) = event_proposal e
proposal (worlds.Delivers f n) = []
proposal (worlds.DeliversLong f n total) = []
proposal (worlds.Stops p) = []
proposal (worlds.Opens p after) = []

-- what happenings propose
abbrev pub proposals : List Happening → List Entry
proposals [] = []
proposals (h ∷ ks) = proposal h ++ proposals ks

-- two lists of happenings propose as many entries as both together
pub proposals-length : (ks hs : List Happening) → length (proposals (ks ++ hs)) ≡ length (proposals ks) + length (proposals hs)
proposals-length [] hs = omega arith
proposals-length (k ∷ ks) hs =
    let more = proposals-length ks hs in
    let one = length-append (proposal k) (proposals (ks ++ hs)) in
    let two = length-append (proposal k) (proposals ks) in
    omega (arith, more, one, two)
