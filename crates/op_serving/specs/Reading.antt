-- What a connection reads: its first bytes, its frames, and the inputs that they are.
use Rattle.std.specs.Prelude.{◌+◌, ◌∷◌, [], ℕ, zero, suc, List, length, take, drop, true, false, ◌==◌, ◌&&◌, ◌||◌, not, nat_lt, is_some, Bool, if◌then◌else◌, Option, Some, None, Result, Ok, Err}
use Rattle.std.specs.Int.{w32, from_be_bytes}
use Rattle.std.specs.Map.{keys_of}
use Rattle.op_types.specs.Limits.{most_peer_body}
use Rattle.op_types.specs.declared.events.Input.TheVariants as input
use Rattle.op_types.specs.declared.events.Request.{Request}
use Rattle.op_types.specs.declared.events.Request.TheVariants as request
use Rattle.op_types.specs.declared.messages.Msg.{Msg}
use Rattle.op_command.specs.declared.said.Said.{Said}
use Rattle.op_command.specs.declared.said.Said.TheVariants as said
use Rattle.op_frame.specs.Framing.{Stream, stream_of, width_of, fed, left}
use Rattle.op_serving.specs.declared.greeting.Greeting.{Greeting}
use Rattle.op_serving.specs.declared.greeting.Greeting.TheVariants as greets
use Rattle.op_serving.specs.declared.hearing.Heard.{Heard}
use Rattle.op_serving.specs.declared.hearing.Heard.TheVariants.{Message, Foreign, Noise, Asks, Mistake}
use Rattle.op_serving.specs.declared.kind.Kind.{Kind}
use Rattle.op_serving.specs.declared.kind.Kind.TheVariants.{Unknown, Peer, Client}
use Rattle.op_serving.specs.declared.session.Session.{Session}
use Rattle.op_serving.specs.Cores.{Standing}
use Rattle.op_serving.specs.Wire.{peer_head, client_head, message_in, request_in, client_frame}
use Rattle.op_serving.specs.State.{Loop, find, changed, is_open, session_of, stranger_in}
use Rattle.op_serving.specs.Handing.{told, no_command}
use Rattle.op_serving.specs.Inputs.{hears, says, State, Luck, noting, give, has_brought, proposes, delivers, behind, over, rest}

-- how many bytes the body of a client's frame has at most, and of a peer's
abbrev pub client_limit : ℕ
client_limit = 131072

abbrev pub peer_limit : ℕ
peer_limit = most_peer_body

-- the first byte of a client's connection, `C`, and of a peer's, `Q`, behind which its id stands
abbrev pub client_byte : ℕ
client_byte = 67

abbrev pub peer_byte : ℕ
peer_byte = 81

abbrev pub hello_len : ℕ
hello_len = 5

-- ---- what stands at the front of what a session has read

-- what the first bytes of a connection say
unfoldable pub greeting : List ℕ → Greeting
greeting [] = greets.Silent
greeting (b ∷ bytes) =
    if b == client_byte then greets.Client else
    if b == peer_byte
    then (if nat_lt (length bytes) 4
    then greets.Silent
    else greets.Peer (from_be_bytes w32 (take 4 bytes))) else
    greets.Strange

-- the frames of a client, and of a peer, behind their first bytes
abbrev pub client_stream : List ℕ → Stream
client_stream held = stream_of client_head client_limit (drop 1 held)

abbrev pub peer_stream : List ℕ → Stream
peer_stream held = stream_of peer_head peer_limit (drop hello_len held)

pub data Front : Type 0 where
  partial : Kind → Stream → Front  -- no whole frame yet
  refused : Kind → Stream → Front  -- no hello, or a frame that is too long
  hello : ℕ → Stream → Front  -- a peer has said who it is
  frame : Kind → List ℕ → Stream → Front  -- a frame's body, and what is behind it

-- a head tells a body of this many bytes
abbrev pub framed : Kind → Stream → ℕ → Front
framed kind x n =
    if nat_lt x.limit n then refused kind x else
    if nat_lt (length x.held) (x.head + n) then partial kind x else
    frame kind (take n (drop x.head x.held)) (left x (drop (x.head + n) x.held))

unfoldable pub first_frame : Kind → Stream → Front
first_frame kind x = if nat_lt (length x.held) x.head
    then partial kind x
    else framed kind x (from_be_bytes (width_of x.head) (take x.head x.held))

abbrev pub greeted : Greeting → Stream → Front
greeted greets.Silent x = partial Unknown x
greeted greets.Client x = first_frame Client (client_stream x.held)
greeted (greets.Peer q) x = hello q (peer_stream x.held)
greeted greets.Strange x = refused Unknown x

abbrev pub front_of : Kind → Stream → Front
front_of Unknown x = greeted (greeting x.held) x
front_of (Peer q h) x = first_frame (Peer q h) x
front_of Client x = first_frame Client x

-- ---- what a frame says

-- a peer's message, if it is from this peer and to this node
abbrev pub heard_from : ℕ → ℕ → Result (ℕ × ℕ × Msg) ℕ → Heard
heard_from me q (Err bad) = Noise
heard_from me q (Ok m) = if (m.0 == q) && (m.1 == me) then Message m.0 m.2 else Foreign

abbrev pub asked_in : Result Request ℕ → Heard
asked_in (Err at) = Mistake at
asked_in (Ok r) = Asks r

abbrev pub heard_in : ℕ → Kind → List ℕ → Heard
heard_in me Unknown body = Foreign
heard_in me (Peer q h) body = heard_from me q (message_in body)
heard_in me Client body = asked_in (request_in body)

-- a client is told something that is of no command
abbrev pub tells : ℕ → Said → State → State
tells c what s =
    noting (says (c, client_frame (no_command what))) (record s { loop = told c (no_command what) s.loop })

-- an end request was read
abbrev pub ending : State → State
ending s = record s { loop = record s.loop { ending = true } }

-- A client asks to end the configuration. Where it names a server that the node doesn't know, it is told the
-- first such one, and nothing is proposed.
abbrev pub stops : Luck → ℕ → List ℕ → Option ℕ → State → State
stops l c members None s = give l (c ∷ []) (input.Stop members) s
stops l c members (Some q) s = tells c (said.Stranger q) s

-- what a client asks; `line` is where a node stands, as its client is told
abbrev pub on_request : Luck → (Standing → List ℕ) → ℕ → Request → State → State
on_request l line c (request.Command x) s = proposes l c x s
on_request l line c (request.Stop members) s =
    stops l c members (stranger_in (keys_of s.loop.peers) members) s
on_request l line c request.Trim s = give l (c ∷ []) input.TrimNow s
on_request l line c request.Status s = tells c (said.Status (line s.node)) s
on_request l line c (request.Read r) s = give l (c ∷ []) (input.Read r) s
on_request l line c request.End s = ending (tells c said.Ended s)

-- what a frame leads to by itself
abbrev pub on_frame : Luck → (Standing → List ℕ) → ℕ → Heard → State → State
on_frame l line c (Message q m) s = delivers l c (q, m) s
on_frame l line c Foreign s = s
on_frame l line c Noise s = over l c s
on_frame l line c (Asks r) s = on_request l line c r s
on_frame l line c (Mistake at) s = tells c (said.BadRequest at) s

-- messages and commands join those before them, and what says nothing to this node is passed by
abbrev pub joins_others : Heard → Bool
joins_others (Message q m) = true
joins_others (Asks (request.Command x)) = true
joins_others Foreign = true
joins_others _ = false

-- a read stores nothing
abbrev pub is_read : Heard → Bool
is_read (Asks (request.Read r)) = true
is_read _ = false

-- Nothing has to be given before what a frame says: it joins what was gathered, or it is a read, and nothing
-- that its connection brought waits to be given.
abbrev pub goes_first : ℕ → Heard → Loop → Bool
goes_first c h s = joins_others h || (is_read h && not (has_brought c s))

-- what a frame leads to: all else comes behind what was gathered
abbrev pub on_heard : Luck → (Standing → List ℕ) → ℕ → Heard → State → State
on_heard l line c h s = if goes_first c h s.loop
    then on_frame l line c h s
    else behind l c (on_frame l line c h) s

-- ---- greetings

-- a session is of this kind, and this stream is left of what it has read
abbrev pub of_kind : Kind → Stream → Session → Session
of_kind kind x y = record y { kind = kind; frames = x }

abbrev pub holds : ℕ → Kind → Stream → Loop → Loop
holds c kind x s = record s { sessions = changed (of_kind kind x) c s.sessions }

abbrev pub holding : ℕ → Kind → Stream → State → State
holding c kind x s = record s { loop = holds c kind x s.loop }

-- a connection is from now on this peer's session
abbrev pub links : ℕ → ℕ → Loop → Loop
links q c s = record s {
  peers = changed (λ _. Some c) q s.peers;
  sessions = changed (λ x. record x { kind = Peer q 0 }) c s.sessions;
}

abbrev pub linked : ℕ → ℕ → State → State
linked q c s = record s { loop = links q c s.loop }

-- the earlier session of a peer ends
abbrev pub replaced : Luck → Option ℕ → State → State
replaced l None s = s
replaced l (Some d) s = over l d s

-- an id is that of a known peer, and not the own one
abbrev pub is_peer : ℕ → Loop → Bool
is_peer q s = is_some (find q s.peers) && not (q == s.me)

-- ---- a read

-- so many frames of this read were dealt with
abbrev pub frames_at : ℕ → Loop → Loop
frames_at n s = record s { place = record s.place { frames = n } }

abbrev pub at_frame : ℕ → State → State
at_frame n s = record s { loop = frames_at n s.loop }

-- how many bytes a session holds
abbrev pub held_in : Option Session → ℕ
held_in None = 0
held_in (Some x) = length x.frames.held

abbrev pub feeding : List ℕ → Session → Session
feeding bytes x = record x { frames = fed x.frames bytes }

abbrev pub feeds : ℕ → List ℕ → Loop → Loop
feeds c bytes s = record s { sessions = changed (feeding bytes) c s.sessions }

module _ (l : Luck) (line : Standing → List ℕ) (c : ℕ) where
  -- a frame was dealt with, unless it ended the session
  abbrev pub counted_if : (ℕ → State → State) → ℕ → State → State
  counted_if more n s = if is_open c s.loop then more (n + 1) (rest l (at_frame (n + 1) s)) else s

  -- a connection is from now on this peer's session, and the peer goes up
  abbrev pub up_if_open : (ℕ → State → State) → ℕ → ℕ → State → State
  up_if_open more n q s = if is_open c s.loop then more n (give l [] (input.Up q) (linked q c s)) else s

  -- a peer has said who it is: what was gathered is given, its earlier session ends, and it goes up
  abbrev pub met : (ℕ → State → State) → ℕ → ℕ → State → State
  met more n q s = up_if_open more n q (behind l c (λ t. replaced l (session_of q t.loop) t) s)

  -- what stands at the front is dealt with, and then more; n frames were before it
  abbrev pub dealt_front : (ℕ → State → State) → ℕ → Front → State → State
  dealt_front more n (partial kind x) s = holding c kind x s
  dealt_front more n (refused kind x) s = over l c (holding c kind x s)
  dealt_front more n (hello q x) s = let t : State = holding c Unknown x s in
      if is_peer q t.loop then met more n q t else over l c t
  dealt_front more n (frame kind body x) s =
      counted_if more n (on_heard l line c (heard_in s.loop.me kind body) (holding c kind x s))

  abbrev pub dealt_at : (ℕ → State → State) → ℕ → Option Session → State → State
  dealt_at more n None s = s
  dealt_at more n (Some x) s = dealt_front more n (front_of x.kind x.frames) s

  -- so many times, or up to what ends the session; no more stands there than bytes are held
  abbrev pub dealt : ℕ → ℕ → State → State
  dealt zero n s = s
  dealt (suc k) n s = dealt_at (dealt k) n (find c s.loop.sessions) s

  -- bytes that a connection read
  abbrev pub read : List ℕ → State → State
  read bytes s = let t : State = noting (hears c bytes) (record s { loop = feeds c bytes s.loop }) in
      dealt (held_in (find c t.loop.sessions)) 0 (rest l t)
