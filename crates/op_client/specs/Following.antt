-- What the outside decides of each event: all else follows from the rules.
use Rattle.std.specs.Prelude.{ℕ, Option}
use Rattle.op_outside.specs.Nets.{Call, Listened, Dialled, Waited, Readied, WasRead, Wrote, Closed, Seen}
use Rattle.op_outside.specs.declared.net.Happening.{Happening}
use Rattle.op_outside.specs.declared.net.Took.{Took}
use Rattle.op_client.specs.Rules.{Event, net, starved, quiet}

-- an answer of the net, or that there was no memory
pub data Answer : Type 0 where
  was_dialled : Option (Option ℕ) → Answer
  was_waited : Option ℕ → Answer
  was_readied : Happening → Answer
  was_seen : Seen → Answer
  was_written : Option Took → Answer
  no_memory : Answer
  nothing : Answer

-- the answer of a call
abbrev pub answer_in : Call → Answer
answer_in (Listened addr answer) = nothing
answer_in (Dialled addr answer) = was_dialled answer
answer_in (Waited ms answer) = was_waited answer
answer_in (Readied i happening) = was_readied happening
answer_in (WasRead conn room seen) = was_seen seen
answer_in (Wrote conn piece answer) = was_written answer
answer_in (Closed conn) = nothing

-- the answer in an event
abbrev pub answer_of : Event → Answer
answer_of (net call) = answer_in call
answer_of starved = no_memory
answer_of quiet = nothing
