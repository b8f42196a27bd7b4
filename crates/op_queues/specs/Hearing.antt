-- What the code finds at the front of a session, and what is then left of it.
use Rattle.std.specs.Prelude.{◌≡◌, ◌≤◌, ℕ, List, Option, Some, None, Result, Ok, Err}
use Rattle.std.specs.declared.alloc.AllocError.{AllocError}
use Rattle.op_types.specs.Ranges.{IsPid}
use Rattle.op_msg.specs.Ranges.{MsgInRange}
use Rattle.op_command.specs.Ranges.{RequestInRange, greatest_offset}
use Rattle.op_frame.specs.Framing.{Stream}
use Rattle.op_queues.specs.declared.front.Front.{Front}
use Rattle.op_queues.specs.declared.front.Front.TheVariants as found
use Rattle.op_serving.specs.declared.hearing.Heard.{Heard}
use Rattle.op_serving.specs.declared.hearing.Heard.TheVariants.{Message, Foreign, Noise, Asks, Mistake}
use Rattle.op_serving.specs.declared.kind.Kind.{Kind}
use Rattle.op_serving.specs.declared.kind.Kind.TheVariants.{Unknown}
use Rattle.op_serving.specs.declared.session.Session.{Session}
use Rattle.op_serving.specs.State.{Table, Loop, find, set, down_of}
use Rattle.op_serving.specs.Reading as reads
use Rattle.op_serving.specs.Reading.{first_frame, front_of, of_kind, heard_in}

-- what a frame says is in range
abbrev pub HeardInRange : Heard → Type 0
HeardInRange (Message from m) = IsPid from × MsgInRange m
HeardInRange Foreign = Unit {0}
HeardInRange Noise = Unit {0}
HeardInRange (Asks r) = RequestInRange r
HeardInRange (Mistake at) = at ≤ greatest_offset

abbrev pub FoundInRange : Front → Type 0
FoundInRange (found.Frame heard) = HeardInRange heard
FoundInRange _ = Unit {0}

-- a hello or a frame takes a byte at least
abbrev pub least_taken : Result Front AllocError → ℕ
least_taken (Ok (found.Hello q)) = 1
least_taken (Ok (found.Frame heard)) = 1
least_taken _ = 0

-- an end of the one is as good as an end of the other
pub record Alike (x y : Session) : Type 0 where
  pub queue : y.queue ≡ x.queue
  pub down : down_of y.kind ≡ down_of x.kind

-- this stood at the front of a session, and the session is then so
abbrev pub TakesOf : ℕ → reads.Front → Session → Result Front AllocError → Session → Type 0
TakesOf me front x (Ok found.Waits) y =
    (kind : Kind) × (z : Stream) × (front ≡ reads.partial kind z) × (y ≡ of_kind kind z x)
TakesOf me front x (Ok found.Refused) y =
    (kind : Kind) × (z : Stream) × (front ≡ reads.refused kind z) × (y ≡ of_kind kind z x)
TakesOf me front x (Ok (found.Hello q)) y =
    (z : Stream) × (front ≡ reads.hello q z) × (y ≡ of_kind Unknown z x)
TakesOf me front x (Ok (found.Frame heard)) y = (kind : Kind) × (body : List ℕ) × (z : Stream) ×
    (front ≡ reads.frame kind body z) × (y ≡ of_kind kind z x) × (heard ≡ heard_in me kind body)
TakesOf me front x (Err e) y =
    (kind : Kind) × (body : List ℕ) × (z : Stream) × (front ≡ reads.frame kind body z)

abbrev pub Takes : ℕ → Session → Result Front AllocError → Session → Type 0
Takes me x r y = TakesOf me (front_of x.kind x.frames) x r y

abbrev pub TakesFrame : ℕ → Session → Result Front AllocError → Session → Type 0
TakesFrame me x r y = TakesOf me (first_frame x.kind x.frames) x r y

-- the same of a connection's session, if it has one
abbrev pub TakesOut : ℕ → ℕ → Option Session → Table Session → Result Front AllocError → Table Session
    → Type 0
TakesOut c me None s r t = (r ≡ Ok found.Waits) × (t ≡ s)
TakesOut c me (Some x) s r t = (y : Session) × Takes me x r y × Alike x y × (t ≡ set c y s)

pub record TakesAt (c : ℕ) (s : Loop) (r : Result Front AllocError) (t : Loop) : Type 0 where
  pub takes : TakesOut c s.me (find c s.sessions) s.sessions r t.sessions
  pub rest : t ≡ record s { sessions = t.sessions }
