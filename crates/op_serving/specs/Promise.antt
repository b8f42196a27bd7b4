-- What serving promises of each connection and of the node, as the deeds of a run tell it: the inputs of
-- a connection are those of the frames of the bytes that it read, in order; the bytes that it took are
-- the first of its hello and of the frames for it, and while it is open the others wait; the node is the
-- fold of its step over all inputs.
use Rattle.std.specs.Prelude.{◌≡◌, ◌++◌, ◌∷◌, ◌⊎◌, [], ℕ, List, map, fold, zip, flat_map, ◌==◌, if◌then◌else◌, true, All, Option, Some, None}
use Rattle.op_types.specs.declared.events.Input.{Input}
use Rattle.op_types.specs.declared.events.Input.TheVariants as input
use Rattle.op_types.specs.declared.events.Request.TheVariants as request
use Rattle.op_types.specs.declared.log.Command.{Command}
use Rattle.op_frame.specs.Calls.{IsFrames}
use Rattle.op_serving.specs.declared.hearing.Heard.{Heard}
use Rattle.op_serving.specs.declared.hearing.Heard.TheVariants.{Message, Asks}
use Rattle.op_serving.specs.declared.kind.Kind.{Kind}
use Rattle.op_serving.specs.declared.kind.Kind.TheVariants.{Unknown, Peer, Client}
use Rattle.op_serving.specs.declared.session.Session.{Session}
use Rattle.op_serving.specs.Cores.{Standing}
use Rattle.op_serving.specs.Wire.{peer_head, client_head}
use Rattle.op_serving.specs.State.{Table, Loop, Roster, find, roster_of, stranger_in}
use Rattle.op_serving.specs.Fates.{after_fate}
use Rattle.op_serving.specs.Inputs.{Deed, begins, hears, enters, says, takes, State}
use Rattle.op_serving.specs.Reading.{client_byte, client_limit, peer_limit, heard_in, joins_others}
use Rattle.op_serving.specs.Turns.{hello}

-- ---- the node

-- the node is the fold of its step over the inputs
abbrev pub folded : Standing → List Deed → Standing
folded n [] = n
folded n (enters who i fate ∷ ds) = folded (after_fate n i fate) ds
folded n (_ ∷ ds) = folded n ds

-- ---- the last life of a connection

-- what it read, the inputs that it read, its greeting and the frames for it, and what it took
pub record Life : Type 0 where
  pub heard : List ℕ
  pub inputs : List Input
  pub said : List ℕ
  pub taken : List ℕ

abbrev pub newborn : List ℕ → Life
newborn greeting = record { heard = []; inputs = []; said = greeting; taken = [] }

-- what stands in a table for a connection
abbrev pub at_conn : {X : Type 0} → ℕ → Table X → List X
at_conn c [] = []
at_conn c (e ∷ es) = (if e.0 == c then e.1 ∷ [] else []) ++ at_conn c es

-- a command alone
abbrev pub alone : Command → Input
alone x = input.Commands (x ∷ [])

-- what an input is of the frames of a connection: of several commands its own, each alone
abbrev pub inputs_at : ℕ → List ℕ → Input → List Input
inputs_at c who (input.Commands xs) = map alone (at_conn c (zip who xs))
inputs_at c who i = at_conn c (zip who (i ∷ []))

-- after one deed more
abbrev pub and_then : ℕ → Life → Deed → Life
and_then c x (begins d greeting) = if d == c then newborn greeting else x
and_then c x (hears d bytes) = record x { heard = x.heard ++ (if d == c then bytes else []) }
and_then c x (enters who i f) = record x { inputs = x.inputs ++ inputs_at c who i }
and_then c x (says f) = record x { said = x.said ++ (if f.0 == c then f.1 else []) }
and_then c x (takes d bytes) = record x { taken = x.taken ++ (if d == c then bytes else []) }

abbrev pub life : ℕ → List Deed → Life
life c ds = fold (and_then c) (newborn []) ds

-- ---- the inputs that the bytes of a connection are

-- a stop-sign is one, but where it names a server that the node doesn't know
abbrev pub stop_of : List ℕ → Option ℕ → List Input
stop_of members None = input.Stop members ∷ []
stop_of members (Some q) = []

-- the inputs that a frame is, at a node that knows these servers
abbrev pub inputs_of : List ℕ → Heard → List Input
inputs_of ids (Message q m) = input.Deliver q m ∷ []
inputs_of ids (Asks (request.Command x)) = alone x ∷ []
inputs_of ids (Asks (request.Stop members)) = stop_of members (stranger_in ids members)
inputs_of ids (Asks request.Trim) = input.TrimNow ∷ []
inputs_of ids (Asks (request.Read r)) = input.Read r ∷ []
inputs_of ids _ = []

-- bytes are whole frames, of which these are the inputs
pub record Frames (roster : Roster) (kind : Kind) (head limit : ℕ) (text : List ℕ) (inputs : List Input)
    : Type 0 where
  pub bodies : List (List ℕ)
  pub frames : IsFrames head limit text bodies []
  pub are : inputs ≡ flat_map (λ body. inputs_of roster.ids (heard_in roster.me kind body)) bodies

-- bytes are whole frames that join others, of which these are the inputs
pub record JoiningFrames (roster : Roster) (kind : Kind) (head limit : ℕ) (text : List ℕ)
    (inputs : List Input) : Type 0 where
  pub bodies : List (List ℕ)
  pub frames : IsFrames head limit text bodies []
  pub join : All (λ body. joins_others (heard_in roster.me kind body) ≡ true) bodies
  pub are : inputs ≡ flat_map (λ body. inputs_of roster.ids (heard_in roster.me kind body)) bodies

-- So are these bytes of a session: none of one that hasn't said who it is.
abbrev pub Gathers : Roster → Kind → List ℕ → List Input → Type 0
Gathers roster Unknown bytes inputs = (bytes ≡ []) × (inputs ≡ [])
Gathers roster (Peer q h) bytes inputs = JoiningFrames roster (Peer q 0) peer_head peer_limit bytes inputs
Gathers roster Client bytes inputs = JoiningFrames roster Client client_head client_limit bytes inputs

-- what a connection brought that is not given yet, as inputs
abbrev pub pending_at : ℕ → Loop → List Input
pending_at c s =
    map (λ m. input.Deliver m.0 m.1) (at_conn c s.brought) ++ map alone (at_conn c s.gathered)

-- a peer says who it is, unless it was dialled
abbrev pub OfPeer : ℕ → List ℕ → List ℕ → Type 0
OfPeer q bytes rest = (bytes ≡ hello q ++ rest) ⊎ (bytes ≡ rest)

-- These bytes of a session are dealt with, and these are their inputs: none of one that hasn't said who
-- it is; a client's are `C` and frames, a peer's its hello and frames.
abbrev pub Hears : Roster → Kind → List ℕ → List Input → Type 0
Hears roster Unknown bytes inputs = (bytes ≡ []) × (inputs ≡ [])
Hears roster (Peer q h) bytes inputs =
    (rest : List ℕ) × OfPeer q bytes rest × Frames roster (Peer q 0) peer_head peer_limit rest inputs
Hears roster Client bytes inputs = (rest : List ℕ) × (bytes ≡ client_byte ∷ rest)
    × Frames roster Client client_head client_limit rest inputs

-- ---- what each connection is promised

-- What an open connection read is dealt with, but for the frames that are to be given together with others,
-- and for what is held. What was said for it was taken, but for what waits.
pub record KeepsOpen (roster : Roster) (x : Life) (waiting : List Input) (y : Session) : Type 0 where
  pub dealt : List ℕ
  pub pending : List ℕ
  pub split : x.heard ≡ dealt ++ (pending ++ y.frames.held)
  pub hears : Hears roster y.kind dealt x.inputs
  pub gathered : Gathers roster y.kind pending waiting
  pub said : x.said ≡ x.taken ++ y.queue

-- Of a closed one the first part of what it read was dealt with, and it took the first part of what was said.
pub record KeepsClosed (roster : Roster) (x : Life) (waiting : List Input) : Type 0 where
  pub kind : Kind
  pub dealt : List ℕ
  pub rest : List ℕ
  pub split : x.heard ≡ dealt ++ rest
  pub hears : Hears roster kind dealt x.inputs
  pub none : waiting ≡ []
  pub waits : List ℕ
  pub said : x.said ≡ x.taken ++ waits

abbrev pub KeepsAt : Roster → Life → List Input → Option Session → Type 0
KeepsAt roster x waiting None = KeepsClosed roster x waiting
KeepsAt roster x waiting (Some y) = KeepsOpen roster x waiting y

abbrev pub Keeps : State → Type 0
Keeps s = (c : ℕ) →
    KeepsAt (roster_of s.loop) (life c s.deeds) (pending_at c s.loop) (find c s.loop.sessions)
