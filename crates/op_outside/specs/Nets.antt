-- What a net is asked, and what it answers.
use Rattle.std.specs.Prelude.{◌≤◌, ℕ, Bool, true, false, List, take, Option, None, Result, Ok, Err}
use Rattle.std.specs.List.{list_any}
use Rattle.op_outside.specs.declared.net.Addr.{Addr}
use Rattle.op_outside.specs.declared.net.Happening.{Happening}
use Rattle.op_outside.specs.declared.net.Got.{Got}
use Rattle.op_outside.specs.declared.net.Got.TheVariants as got
use Rattle.op_outside.specs.declared.net.Took.{Took}
use Rattle.op_outside.specs.declared.net.Took.TheVariants as took
use Rattle.op_outside.specs.declared.net.NetFail.{NetFail}

-- a wait gives no more happenings
abbrev pub most_happenings : ℕ
most_happenings = 64

-- what a read gave
pub data Seen : Type 0 where
  SawBytes : List ℕ → Seen
  SawNotYet : Seen
  SawEnd : Seen
  SawFault : Seen

-- one call of a net, by what it was given, with its answer, which is None where it failed
pub data Call : Type 0 where
  Listened : Addr → Option (Unit {0}) → Call
  Dialled : Addr → Option (Option ℕ) → Call
  Waited : ℕ → Option ℕ → Call
  Readied : ℕ → Happening → Call
  WasRead : ℕ → ℕ → Seen → Call
  Wrote : ℕ → List ℕ → Option Took → Call
  Closed : ℕ → Call

-- whether a call failed
abbrev pub call_fails : Call → Bool
call_fails (Listened addr None) = true
call_fails (Dialled addr None) = true
call_fails (Waited ms None) = true
call_fails (WasRead conn room SawFault) = true
call_fails (Wrote conn piece None) = true
call_fails _ = false

-- whether one of them failed
abbrev pub has_failed : List Call → Bool
has_failed calls = list_any call_fails calls

-- what a read gave, by its answer and what the buffer holds after it
abbrev pub seen_in : List ℕ → Result Got NetFail → Seen
seen_in buf (Ok (got.Bytes n)) = SawBytes (take n buf)
seen_in buf (Ok got.NotYet) = SawNotYet
seen_in buf (Ok got.Ended) = SawEnd
seen_in buf (Err e) = SawFault

-- the bytes that a read gave are some, and no more than there is room for
abbrev pub GotWithin : ℕ → Result Got NetFail → Type 0
GotWithin room (Ok (got.Bytes n)) = (1 ≤ n) × (n ≤ room)
GotWithin room _ = Unit {0}

-- the bytes that a write took are some, and no more than the piece has
abbrev pub TookWithin : ℕ → Result Took NetFail → Type 0
TookWithin len (Ok (took.Bytes n)) = (1 ≤ n) × (n ≤ len)
TookWithin len _ = Unit {0}
