-- The events that a drill draws, by the words of a generator.
use Rattle.std.specs.Prelude.{◌≡◌, ◌==◌, ◌+◌, ◌-◌, ◌%◌, ℕ, min, nat_lt, if◌then◌else◌, Bool, false, List, [], ◌∷◌, ◌++◌, length, codes, decimal}
use Rattle.rand_pcg.specs.Lcg.{Lcg, started, increment_of}
use Rattle.rand_pcg.specs.Pcg.{multiplier_64, pcg32}
use Rattle.op_types.specs.declared.log.Command.{Command}
use Rattle.op_types.specs.declared.log.Op.TheVariants.{Put}
use Rattle.op_runs.specs.declared.events.What.{What}
use Rattle.op_runs.specs.declared.events.What.TheVariants as what
use Rattle.op_runs.specs.declared.events.Event.{Event}
use Rattle.op_runs.specs.World.{World, Happening, first_world, run_of}
use Rattle.op_runs.specs.Possible.{Named, images}
use Rattle.op_runs.specs.Schedules.{DiskPlans, no_plans, Becomes, plans_after}
use Rattle.op_gen.specs.declared.generator.Gen.{Gen}
use Rattle.op_gen.specs.declared.kind.Kind.{Kind}
use Rattle.op_gen.specs.declared.kind.Kind.TheVariants as kind

-- ---- how many there are

-- the chances, of which each kind of event has some
abbrev pub chances : ℕ
chances = 100

-- the servers, and the clients, from 1 on
abbrev pub servers : ℕ
servers = 5

abbrev pub clients : ℕ
clients = 4

-- the keys that clients put
abbrev pub keys : ℕ
keys = 16

-- of the messages that were sent last, so many may be delivered
abbrev pub recent : ℕ
recent = 64

-- the first calls of a disk, which a stop or a failure is drawn from
abbrev pub calls : ℕ
calls = 4

-- ---- words

-- the stream of the generator that drills take their words from
abbrev pub stream : ℕ
stream = 54

-- the generator of a seed's words
abbrev pub words_of : ℕ → Lcg
words_of seed = started 64 multiplier_64 seed (increment_of 64 stream)

-- the next word, and the generator after it
unfoldable pub word_of : Lcg → ℕ × Lcg
word_of g = pcg32 g

-- goes on with the next word modulo `k`, and with the generator after it
abbrev pub draw : {T : Type 0} → ℕ → Lcg → (ℕ → Lcg → T) → T
draw k g f = f ((word_of g).0 % k) (word_of g).1

-- ---- what happens, and the generator after its draws

-- something at a server
abbrev pub at_server : Lcg → (ℕ → What) → What × Lcg
at_server g f = draw servers g (λ p h. (f (1 + p), h))

-- one of the last messages; a tick where none was sent
abbrev pub delivery_drawn : ℕ → Lcg → What × Lcg
delivery_drawn sent g =
    if sent == 0 then (what.Tick 1, g)
    else draw (min sent recent) g (λ back h. (what.Deliver (sent - 1 - back), h))

-- a client's command whose number is the event's: it puts `v` and that number at `k` and a number
abbrev pub put_of : ℕ → ℕ → ℕ → Command
put_of client number k =
    record {
      client = client;
      seq = number;
      op = Put (codes "k" ++ decimal k) (codes "v" ++ decimal number);
    }

-- a client's put at a server
abbrev pub put_drawn : ℕ → Lcg → What × Lcg
put_drawn number g =
    draw servers g (λ p h. draw clients h (λ c i. draw keys i (λ k j.
    (what.Commands (1 + p) (put_of (1 + c) number k ∷ []), j))))

-- a server stops in a call of its first disk, and an image is left of each
abbrev pub crash_drawn : Lcg → What × Lcg
crash_drawn g =
    draw servers g (λ p h. draw calls h (λ call i. draw images i (λ image j.
    (what.CrashAt (1 + p) (1 + call) image, j))))

-- a call of a server's first disk fails
abbrev pub failure_drawn : Lcg → What × Lcg
failure_drawn g = draw servers g (λ p h. draw calls h (λ call i. (what.Fail (1 + p) (1 + call), i)))

-- a session of a server with another, or a tick where they are the same
abbrev pub session_of : ℕ → ℕ → What
session_of p q = if p == q then what.Tick (1 + p) else what.Up (1 + p) (1 + q)

abbrev pub session_drawn : Lcg → What × Lcg
session_drawn g = draw servers g (λ p h. draw servers h (λ q i. (session_of p q, i)))

-- three of five servers in a ring from this place on, rising
abbrev pub three_from : ℕ → List ℕ
three_from a =
    if a == 0 then 1 ∷ 2 ∷ 3 ∷ []
    else if a == 1 then 2 ∷ 3 ∷ 4 ∷ []
    else if a == 2 then 3 ∷ 4 ∷ 5 ∷ []
    else if a == 3 then 1 ∷ 4 ∷ 5 ∷ []
    else 1 ∷ 2 ∷ 5 ∷ []

-- a stop-sign at a server, which names three
abbrev pub stop_drawn : Lcg → What × Lcg
stop_drawn g = draw servers g (λ p h. draw servers h (λ a i. (what.Stop (1 + p) (three_from a), i)))

-- ---- an event

-- what a number below 100 stands for
abbrev pub kind_of : ℕ → Kind
kind_of d =
    if nat_lt d 30 then kind.Tick
    else if nat_lt d 85 then kind.Delivery
    else if nat_lt d 94 then kind.Put
    else if d == 94 then kind.Crash
    else if d == 95 then kind.Start
    else if d == 96 then kind.Failure
    else if d == 97 then kind.Trim
    else if d == 98 then kind.Session
    else kind.Stop

-- an event of this kind and number, where so many messages were sent
abbrev pub drawn_as : Kind → ℕ → ℕ → Lcg → What × Lcg
drawn_as kind.Tick number sent g = at_server g what.Tick
drawn_as kind.Delivery number sent g = delivery_drawn sent g
drawn_as kind.Put number sent g = put_drawn number g
drawn_as kind.Crash number sent g = crash_drawn g
drawn_as kind.Start number sent g = at_server g what.Start
drawn_as kind.Failure number sent g = failure_drawn g
drawn_as kind.Trim number sent g = at_server g what.Trim
drawn_as kind.Session number sent g = session_drawn g
drawn_as kind.Stop number sent g = stop_drawn g

-- what happens in the event of this number, where so many messages were sent
abbrev pub what_drawn : ℕ → ℕ → Lcg → What × Lcg
what_drawn number sent g = draw chances g (λ d h. drawn_as (kind_of d) number sent h)

-- the next event, where so many messages were sent, and the generator after it
abbrev pub event_drawn : ℕ → Gen → Event × Gen
event_drawn sent g =
    let drawn = what_drawn g.number sent g.words in
    (record { line = g.number; what = drawn.0 }, record { words = drawn.1; number = g.number + 1 })

-- ---- a drill's events

-- the members of its first configuration, its spares, and all its servers
abbrev pub drill_members : List ℕ
drill_members = 1 ∷ 2 ∷ 3 ∷ []

abbrev pub drill_spares : List ℕ
drill_spares = 4 ∷ 5 ∷ []

abbrev pub drill_nodes : List ℕ
drill_nodes = 1 ∷ 2 ∷ 3 ∷ 4 ∷ 5 ∷ []

-- none of which observes: any of them may be named
abbrev pub drill_ids : Named
drill_ids = record { servers = drill_nodes; voters = drill_nodes }

-- the generator of a seed, whose first event has the number 1
abbrev pub gen_of : ℕ → Gen
gen_of seed = record { words = words_of seed; number = 1 }

-- a drill's disks are not mirrored
abbrev pub drill_mirrored : Bool
drill_mirrored = false

-- from this world on, where this is planned for the nodes' disks, each event is the next one that is drawn
-- where those before it happened, and they become these happenings
abbrev pub DrawnFrom : World → DiskPlans → Gen → List Event → List Happening → Type 0
DrawnFrom w plans g [] hs = hs ≡ []
DrawnFrom w plans g (e ∷ es) hs =
    (now : List Happening) × (later : List Happening) × (hs ≡ now ++ later)
    × (e ≡ (event_drawn (length w.messages) g).0) × Becomes drill_mirrored w plans e now
    × DrawnFrom (run_of w now) (plans_after w plans e.what) (event_drawn (length w.messages) g).1 es later

-- a drill's events are these, so many, as its seed draws them where they become these happenings
abbrev pub AreDrawn : ℕ → ℕ → List Event → List Happening → Type 0
AreDrawn seed count events hs =
    (length events ≡ count)
    × DrawnFrom (first_world drill_members drill_spares) no_plans (gen_of seed) events hs
