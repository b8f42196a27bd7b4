-- What is in range, so that it can be encoded.
use Rattle.std.specs.Prelude.{ℕ, All, IfSome}
use Rattle.op_types.specs.Ranges.{IsPid, IsNumber, MembersInRange, CommandInRange, ReadInRange, AreCommands}
use Rattle.op_types.specs.declared.answers.Reply.{Reply}
use Rattle.op_types.specs.declared.events.Input.{Input}
use Rattle.op_types.specs.declared.events.Input.TheVariants as input
use Rattle.op_types.specs.declared.log.Command.{Command}
use Rattle.op_types.specs.declared.messages.Msg.{Msg}
use Rattle.op_msg.specs.Ranges.{MsgInRange}
use Rattle.op_command.specs.Ranges.{IsAsked, AnswerInRange, OutcomeInRange}
use Rattle.op_serving.specs.declared.kind.Kind.{Kind}
use Rattle.op_serving.specs.declared.kind.Kind.TheVariants.{Unknown, Peer, Client}
use Rattle.op_types.specs.declared.given.Given.{Given}
use Rattle.op_serving.specs.declared.session.Session.{Session}
use Rattle.op_serving.specs.declared.wanted.Wanted.{Wanted}
use Rattle.op_serving.specs.declared.wanted.Wanted.TheVariants.{Commands, Stop, Trim, Read}
use Rattle.op_serving.specs.State.{Key}

-- ---- what a node is given, and what it gives out

-- an input; a message comes from bytes
abbrev pub InputInRange : Input → Type 0
InputInRange input.Tick = Unit {0}
InputInRange (input.Deliver q m) = IsPid q × MsgInRange m
InputInRange (input.Commands cs) = AreCommands cs
InputInRange (input.Stop members) = MembersInRange members
InputInRange input.TrimNow = Unit {0}
InputInRange (input.Read r) = ReadInRange r
InputInRange (input.Up q) = IsPid q
InputInRange (input.Down q) = IsPid q

-- a message to a server
abbrev pub SendInRange : ℕ × Msg → Type 0
SendInRange s = IsPid s.0 × MsgInRange s.1

-- an answer to a command or a read; client and number are 0 where a buffered stop-sign is given up
pub record ReplyInRange (r : Reply) : Type 0 where
  pub asked : IsAsked r.client r.seq
  pub answer : AnswerInRange r.answer

-- what a node gives out, so that it can be encoded
pub record GivenInRange (g : Given) : Type 0 where
  pub sends : All SendInRange g.sends
  pub replies : All ReplyInRange g.replies
  pub read_replies : All ReplyInRange g.read_replies
  pub outcome : IfSome g.outcome OutcomeInRange

-- ---- sessions, and what clients ask for

-- whose a session is
abbrev pub KindInRange : Kind → Type 0
KindInRange Unknown = Unit {0}
KindInRange (Peer q h) = IsPid q
KindInRange Client = Unit {0}

abbrev pub SessionInRange : Session → Type 0
SessionInRange x = KindInRange x.kind

-- the client and the number of a command or a read are in range
abbrev pub KeyInRange : Key → Type 0
KeyInRange key = IsNumber key.0 × IsNumber key.1

-- so are those of each command that is asked for at a connection
abbrev pub KeyAtInRange : ℕ × Key → Type 0
KeyAtInRange p = KeyInRange p.1

abbrev pub WantedInRange : Wanted → Type 0
WantedInRange (Commands keys) = All KeyAtInRange keys
WantedInRange (Stop c) = Unit {0}
WantedInRange (Trim c) = Unit {0}
WantedInRange (Read c key) = KeyInRange key

-- and the commands that were gathered
abbrev pub GatheredInRange : ℕ × Command → Type 0
GatheredInRange p = CommandInRange p.1
