-- A net in memory.
use Rattle.std.specs.Prelude.{◌≡◌, ◌==◌, min, ℕ, List, [], ◌∷◌, take, length, Option, Some, None, Result, Ok, Err, if◌then◌else◌}
use Rattle.std.specs.Global.{Vec}
use Rattle.op_outside.specs.Nets.{most_happenings, Call, Seen, SawBytes, SawNotYet, SawEnd, SawFault, Listened, Dialled, Waited, Readied, WasRead, Wrote, Closed}
use Rattle.op_outside.specs.declared.net.Happening.{Happening}
use Rattle.op_outside.specs.declared.net.Took.{Took}
use Rattle.op_outside.specs.declared.net.Took.TheVariants as took
use Rattle.op_outside.specs.declared.net.NetFail.{NetFail}
use Rattle.op_memory.specs.Fakes.{first_or, one_more, fails_next, faults_after, left_after}
use Rattle.op_memory.specs.declared.script_net.Incoming.{Incoming}
use Rattle.op_memory.specs.declared.script_net.Incoming.TheVariants as incoming
use Rattle.op_memory.specs.declared.script_net.KeptCall.{KeptCall}
use Rattle.op_memory.specs.declared.script_net.KeptCall.TheVariants as kept

-- what a read gives of what comes: no more than there is room for
abbrev pub seen_of : ℕ → Incoming → Seen
seen_of room (incoming.Bytes v) = if length v.items == 0 then SawNotYet else SawBytes (take room v.items)
seen_of room incoming.NotYet = SawNotYet
seen_of room incoming.Ended = SawEnd

-- what a read that was kept gave
abbrev pub seen_kept : Option Incoming → Seen
seen_kept (Some (incoming.Bytes v)) = SawBytes v.items
seen_kept (Some incoming.NotYet) = SawNotYet
seen_kept (Some incoming.Ended) = SawEnd
seen_kept None = SawFault

-- a call that was kept, as the trait tells it
abbrev pub net_call : KeptCall → Call
net_call (kept.Listened addr done) = Listened addr done
net_call (kept.Dialled addr conn) = Dialled addr conn
net_call (kept.Waited ms n) = Waited ms n
net_call (kept.Readied i h) = Readied i h
net_call (kept.WasRead c room got) = WasRead c room (seen_kept got)
net_call (kept.Wrote c piece took) = Wrote c piece.items took
net_call (kept.Closed c) = Closed c

-- what dials, waits, reads and writes are answered next, the numbers of the calls that fail, how many calls
-- were made and how many failed, the happenings of the last wait, and the calls that are told
pub record NetState : Type 0 where
  pub dials : List (Option ℕ)
  pub waits : List (Vec Happening)
  pub reads : List Incoming
  pub writes : List Took
  pub fails : List ℕ
  pub calls : ℕ
  pub faults : ℕ
  pub ready : List Happening
  pub told : Option (List Call)

-- the next call fails where the script says so, and is else answered so
abbrev pub answer_of : {A : Type 0} → NetState → A → Result A NetFail
answer_of n x = if fails_next n.calls n.fails then Err record {} else Ok x

-- the same of a read into a buffer of so many bytes
abbrev pub seen_next : ℕ → NetState → Seen
seen_next room n =
    if fails_next n.calls n.fails then SawFault else seen_of room (first_or incoming.NotYet n.reads)

-- the happenings of the next wait
abbrev pub happenings_next : List (Vec Happening) → List Happening
happenings_next [] = []
happenings_next (v ∷ vs) = take most_happenings v.items

-- what a write takes of a piece of this length; past the script it takes all
abbrev pub took_of : ℕ → Took → Took
took_of len (took.Bytes n) = if n == 0 then took.NotYet else took.Bytes (min n len)
took_of len took.NotYet = took.NotYet
took_of len took.Ended = took.Ended

-- the happenings of the last wait after a wait
abbrev pub ready_after : {T E : Type 0} → NetState → Result T E → List Happening
ready_after n (Ok x) = happenings_next n.waits
ready_after n (Err e) = n.ready

-- the new state is the expected one but for what is told, which memory may cut off
abbrev pub IsButFor : NetState → NetState → Type 0
IsButFor expected new = new ≡ record expected { told = new.told }

-- after a call that takes nothing of the script
abbrev pub called : {T : Type 0} → NetState → Result T NetFail → NetState
called n result = record n { calls = one_more n.calls; faults = faults_after n.faults result }

-- after a dial, a wait, a read and a write, each by its answer
abbrev pub after_dial : {T : Type 0} → NetState → Result T NetFail → NetState
after_dial n result = record (called n result) { dials = left_after n.dials result }

abbrev pub after_wait : {T : Type 0} → NetState → Result T NetFail → NetState
after_wait n result =
    record (called n result) { waits = left_after n.waits result; ready = ready_after n result }

abbrev pub after_read : {T : Type 0} → NetState → Result T NetFail → NetState
after_read n result = record (called n result) { reads = left_after n.reads result }

abbrev pub after_write : {T : Type 0} → NetState → Result T NetFail → NetState
after_write n result = record (called n result) { writes = left_after n.writes result }
