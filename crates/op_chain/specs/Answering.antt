-- Answering those that wait.
use Rattle.std.specs.Prelude.{◌≡◌, ◌≤◌, ◌++◌, ℕ, List, [], ◌∷◌, if◌then◌else◌, fold}
use Rattle.op_types.specs.Roomed.{Roomed}
use Rattle.op_types.specs.declared.answers.Reply.{Reply}
use Rattle.op_protocol.specs.State.{Waiting}
use Rattle.op_protocol.specs.Serving.{Dropping, waits, without_waiting}
use Rattle.op_chain.specs.Waiting.{WaitingSet}
use Rattle.op_chain.specs.declared.room.Room.{Room}

-- no room
abbrev pub no_room : Room
no_room = record { replies = record { items = []; room = 0 }; told = record { items = []; room = 0 } }

-- room for so many replies, of which so many are to proposals that a row gives up
pub record HasRoomFor (all given_up : ℕ) (room : Room) : Type 0 where
  pub no_replies : room.replies.items ≡ []
  pub nobody_told : room.told.items ≡ []
  pub replies : all ≤ room.replies.room
  pub told : given_up ≤ room.told.room

-- those that wait, and what the others were told
abbrev pub dropped_of : WaitingSet → Roomed Reply → Dropping
dropped_of w told = record { waiting = w.waiting; replies = told.items }

-- after one more reply is ready: whoever waits for it gets it, and waits no longer
abbrev pub giving_reply : Dropping → Reply → Dropping
giving_reply t r =
    if waits t.waiting r.client r.seq
    then record { waiting = without_waiting t.waiting r.client r.seq; replies = t.replies ++ r ∷ [] }
    else t

-- after these are ready, in order
abbrev pub giving : Waiting → List Reply → Dropping
giving waiting replies = fold giving_reply (record { waiting = waiting; replies = [] }) replies
