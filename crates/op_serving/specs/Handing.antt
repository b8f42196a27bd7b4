-- What is handed out of a step, in ample memory: what each connection is told, and what then waits for it.
use Rattle.std.specs.Prelude.{◌++◌, ◌∷◌, [], ℕ, Bool, true, false, List, map as each, Option, Some, None, if◌then◌else◌}
use Rattle.std.specs.FinMap as map
use Rattle.op_types.specs.declared.answers.Outcome.{Outcome}
use Rattle.op_types.specs.declared.answers.Outcome.TheVariants.{Refused, Asked}
use Rattle.op_types.specs.declared.answers.Refusal.{Refusal}
use Rattle.op_types.specs.declared.answers.Refusal.TheVariants.{StorageFailed}
use Rattle.op_types.specs.declared.answers.Reply.{Reply}
use Rattle.op_types.specs.declared.messages.Msg.{Msg}
use Rattle.op_command.specs.declared.reply.ClientReply.{ClientReply}
use Rattle.op_command.specs.declared.said.Said.{Said}
use Rattle.op_command.specs.declared.said.Said.TheVariants as said
use Rattle.op_command.specs.Replies.{said_of as denied}
use Rattle.op_serving.specs.declared.wanted.Wanted.{Wanted}
use Rattle.op_serving.specs.declared.wanted.Wanted.TheVariants.{Commands, Stop, Trim, Read}
use Rattle.op_types.specs.declared.given.Given.{Given}
use Rattle.op_serving.specs.Wire.{fits_peer, peer_frame, client_frame}
use Rattle.op_serving.specs.State.{Key, Awaited, Askers, Loop, find, is_open, session_of, waits_for}
use Rattle.op_serving.specs.Room.{Frame, count_at, goes_ahead, placed, frames_placed, begins_anew, cleared, is_excess, moved, frames_moved}

abbrev pub frame_at : Option ℕ → List ℕ → List Frame
frame_at None bytes = []
frame_at (Some c) bytes = (c, bytes) ∷ []

-- bytes wait for a connection, if there is one
abbrev pub said_at : Option ℕ → List ℕ → Loop → Loop
said_at None bytes s = s
said_at (Some c) bytes s = waits_for c bytes s

-- where a message goes: to its peer's session, if there is one, and the peer takes the frame
abbrev pub goes_to : ℕ × Msg → Loop → Option ℕ
goes_to m s = if fits_peer s.me m.0 m.1 then session_of m.0 s else None

-- what begins anew takes the place of all that waits behind at its session
abbrev pub made_way : ℕ → Msg → Loop → Loop
made_way c m s = cleared (begins_anew m.body) c s

-- Before a message waits at a session, what waits behind there moves up, as far as there is room. A message
-- that goes nowhere is lost.
abbrev pub sent_behind : ℕ → ℕ × Msg → Loop → Loop
sent_behind c m s =
    placed (goes_ahead m.1 (find c s.sessions) (count_at c s.behind)) (c, peer_frame s.me m.0 m.1) s

-- one that is dropped changes nothing
abbrev pub sent_if : Bool → ℕ → ℕ × Msg → Loop → Loop
sent_if true c m s = s
sent_if false c m s = sent_behind c m (moved c (made_way c m.1 s))

abbrev pub sent_at : Option ℕ → ℕ × Msg → Loop → Loop
sent_at None m s = s
sent_at (Some c) m s = sent_if (is_excess m.1.body (count_at c s.behind)) c m s

abbrev pub sent : ℕ × Msg → Loop → Loop
sent m s = sent_at (goes_to m s) m s

abbrev pub sent_all : List (ℕ × Msg) → Loop → Loop
sent_all [] s = s
sent_all (m ∷ ms) s = sent_all ms (sent m s)

-- the frames of that
abbrev pub frames_behind : ℕ → ℕ × Msg → Loop → List Frame
frames_behind c m s =
    frames_placed (goes_ahead m.1 (find c s.sessions) (count_at c s.behind)) (c, peer_frame s.me m.0 m.1)

abbrev pub frames_sent_if : Bool → ℕ → ℕ × Msg → Loop → List Frame
frames_sent_if true c m s = []
frames_sent_if false c m s =
    frames_moved c (made_way c m.1 s) ++ frames_behind c m (moved c (made_way c m.1 s))

abbrev pub frames_sent_at : Option ℕ → ℕ × Msg → Loop → List Frame
frames_sent_at None m s = []
frames_sent_at (Some c) m s = frames_sent_if (is_excess m.1.body (count_at c s.behind)) c m s

abbrev pub frames_sent : List (ℕ × Msg) → Loop → List Frame
frames_sent [] s = []
frames_sent (m ∷ ms) s = frames_sent_at (goes_to m s) m s ++ frames_sent ms (sent m s)

-- a client is told something at a connection
abbrev pub told : ℕ → ClientReply → Loop → Loop
told c x s = waits_for c (client_frame x) s

-- the answer to a command, or to a read, goes to the session that asked last; then nobody waits
abbrev pub forgotten : Awaited → Loop → Loop
forgotten key s = record s { askers = map.remove s.askers key }

abbrev pub answered : Reply → ClientReply
answered r = record { client = r.client; seq = r.seq; said = said.Answer r.answer }

abbrev pub replied : Bool → Reply → Loop → Loop
replied read r s =
    let key : Awaited = (read, (r.client, r.seq)) in
    said_at (map.get s.askers key) (client_frame (answered r)) (forgotten key s)

abbrev pub replied_all : Bool → List Reply → Loop → Loop
replied_all read [] s = s
replied_all read (r ∷ rs) s = replied_all read rs (replied read r s)

abbrev pub frames_replied : Bool → List Reply → Loop → List Frame
frames_replied read [] s = []
frames_replied read (r ∷ rs) s =
    frame_at (map.get s.askers (read, (r.client, r.seq))) (client_frame (answered r))
    ++ frames_replied read rs (replied read r s)

-- messages go first, then the answers to commands, and then those to reads
abbrev pub handed_out : Given → Loop → Loop
handed_out g s = replied_all true g.read_replies (replied_all false g.replies (sent_all g.sends s))

abbrev pub frames_handed : Given → Loop → List Frame
frames_handed g s =
    frames_sent g.sends s ++ frames_replied false g.replies (sent_all g.sends s)
    ++ frames_replied true g.read_replies (replied_all false g.replies (sent_all g.sends s))

-- ---- what clients ask for

-- a reply to a client at a connection
abbrev pub Told : Type 0
Told = ℕ × ClientReply

-- what is said of a command or a read
abbrev pub of_command : Key → Said → ClientReply
of_command key what = record { client = key.0; seq = key.1; said = what }

-- what is said of no command
abbrev pub no_command : Said → ClientReply
no_command what = record { client = 0; seq = 0; said = what }

-- this is said of each of these commands, where it was asked for
abbrev pub said_each : List (ℕ × Key) → Said → List Told
said_each keys what = each (λ p. (p.0, of_command p.1 what)) keys

-- why a proposal is refused, if it is
abbrev pub refusal_of : Option Outcome → Option Refusal
refusal_of (Some (Refused why)) = Some why
refusal_of _ = None

-- of what becomes of commands only a refusal is told at once
abbrev pub said_of_refusal : List (ℕ × Key) → Option Refusal → List Told
said_of_refusal keys None = []
said_of_refusal keys (Some why) = said_each keys (said.Outcome (Refused why))

-- of a stop-sign or a trim all of it
abbrev pub said_of_outcome : ℕ → Option Outcome → List Told
said_of_outcome c None = []
said_of_outcome c (Some o) = (c, no_command (said.Outcome o)) ∷ []

-- of a read all but that its members are asked
abbrev pub said_of_read : ℕ → Key → Option Outcome → List Told
said_of_read c key None = []
said_of_read c key (Some Asked) = []
said_of_read c key (Some o) = (c, of_command key (said.Outcome o)) ∷ []

-- what is told at once of what becomes of what was asked for
abbrev pub said_at_once : Wanted → Option Outcome → List Told
said_at_once (Commands keys) o = said_of_refusal keys (refusal_of o)
said_at_once (Stop c) o = said_of_outcome c o
said_at_once (Trim c) o = said_of_outcome c o
said_at_once (Read c key) o = said_of_read c key o

-- what is said where an input was not done, for this cause or for want of memory;
-- a trim that is lost is told nothing
abbrev pub said_of_denial : Wanted → Option Refusal → List Told
said_of_denial (Commands keys) why = said_each keys (denied why)
said_of_denial (Stop c) why = (c, no_command (denied why)) ∷ []
said_of_denial (Trim c) None = []
said_of_denial (Trim c) (Some why) = (c, no_command (denied (Some why))) ∷ []
said_of_denial (Read c key) why = (c, of_command key (denied why)) ∷ []

-- clients are told all this
abbrev pub told_all : List Told → Loop → Loop
told_all [] s = s
told_all (r ∷ rs) s = told_all rs (told r.0 r.1 s)

-- the same as frames
abbrev pub frames_told : List Told → List Frame
frames_told rs = each (λ r. (r.0, client_frame r.1)) rs

-- A command or a read is asked for: who asked for it before waits no more, and a connection with a session
-- does.
abbrev pub asked_by_one : Bool → ℕ × Key → Loop → Loop
asked_by_one read p s = record s {
  askers = if is_open p.0 s
      then map.insert s.askers (read, p.1) p.0
      else map.remove s.askers (read, p.1);
}

-- so is each of these
abbrev pub asked : Bool → List (ℕ × Key) → Loop → Loop
asked read [] s = s
asked read (p ∷ ps) s = asked read ps (asked_by_one read p s)

-- commands that are not refused wait for their answers
abbrev pub waits_unless : Option Refusal → List (ℕ × Key) → List (ℕ × Key)
waits_unless None keys = keys
waits_unless (Some why) keys = []

-- a read waits for its answer where the members are asked
abbrev pub waits_if_asked : ℕ → Key → Option Outcome → List (ℕ × Key)
waits_if_asked c key (Some Asked) = (c, key) ∷ []
waits_if_asked c key o = []

-- what waits for its answer
abbrev pub keys_that_wait : Wanted → Option Outcome → List (ℕ × Key)
keys_that_wait (Commands keys) o = waits_unless (refusal_of o) keys
keys_that_wait (Stop c) o = []
keys_that_wait (Trim c) o = []
keys_that_wait (Read c key) o = waits_if_asked c key o

abbrev pub is_read : Wanted → Bool
is_read (Read c key) = true
is_read w = false

-- what becomes of what was asked for
abbrev pub proposed : Option Wanted → Option Outcome → Loop → Loop
proposed None o s = s
proposed (Some w) o s = told_all (said_at_once w o) (asked (is_read w) (keys_that_wait w o) s)

-- the frames of that
abbrev pub frames_proposed : Option Wanted → Option Outcome → List Frame
frames_proposed None o = []
frames_proposed (Some w) o = frames_told (said_at_once w o)

-- clients whose input was not done are told why
abbrev pub excused : Option Wanted → Option Refusal → Loop → Loop
excused None why s = s
excused (Some w) why s = told_all (said_of_denial w why) s

-- the frames of that
abbrev pub frames_excused : Option Wanted → Option Refusal → List Frame
frames_excused None why = []
frames_excused (Some w) why = frames_told (said_of_denial w why)

-- ---- a disk failed

-- what all that wait are told then, by what they wait for
abbrev pub said_of_failure : ℕ → Askers → List Told
said_of_failure k askers =
    each (λ e. (e.1, of_command e.0.1 (said.Outcome (Refused (StorageFailed k))))) (map.entries askers)

-- nobody waits any more
abbrev pub given_up : ℕ → Loop → Loop
given_up k s = told_all (said_of_failure k s.askers) (record s { askers = map.empty })

-- the frames of that
abbrev pub frames_given_up : ℕ → Loop → List Frame
frames_given_up k s = frames_told (said_of_failure k s.askers)
