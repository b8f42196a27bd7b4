-- What the driver makes of what steps answer: each input is counted, and then each answer is handed out.
use Rattle.std.specs.Prelude.{◌∷◌, [], ℕ, List, Bool, true, false, ◌||◌, if◌then◌else◌, Option, Some, None, Result, Ok, Err}
use Rattle.op_types.specs.declared.answers.Refusal.TheVariants.{StorageFailed}
use Rattle.op_types.specs.declared.given.Given.{Given}
use Rattle.op_serving.specs.declared.node.StepFail.{StepFail}
use Rattle.op_serving.specs.declared.node.StepFail.TheVariants.{DiskFail, Damaged, NoMemory}
use Rattle.op_serving.specs.declared.wanted.Wanted.{Wanted}
use Rattle.op_serving.specs.Handing.{handed_out, proposed, excused, given_up}
use Rattle.op_serving.specs.Losses.{marked}
use Rattle.op_serving.specs.State.{Loop, counted}

-- what a step answers
abbrev pub Answer : Type 0
Answer = Result Given StepFail

-- the input found no memory
abbrev pub is_lost : Answer → Bool
is_lost (Err NoMemory) = true
is_lost r = false

-- an input is counted, and marked where it found no memory
abbrev pub counting : Answer → Loop → Loop
counting r s = if is_lost r then counted (marked None s) else counted s

-- so is each of several, up to one that found none
abbrev pub counting_all : List Answer → Loop → Loop
counting_all [] s = s
counting_all (r ∷ rs) s = if is_lost r then counting r s else counting_all rs (counting r s)

-- a disk failed
abbrev pub is_fault : Answer → Bool
is_fault (Err (DiskFail k)) = true
is_fault r = false

-- nobody waits any more, unless a disk had failed before
abbrev pub given_up_unless : Bool → ℕ → Loop → Loop
given_up_unless failed k s = if failed then s else given_up k s

-- an answer is handed out
abbrev pub answered : Option Wanted → Bool → Answer → Loop → Loop
answered w failed (Ok given) s = handed_out given (proposed w given.outcome s)
answered w failed (Err (DiskFail k)) s = excused w (Some (StorageFailed k)) (given_up_unless failed k s)
answered w failed (Err Damaged) s = s
answered w failed (Err NoMemory) s = excused w None s

-- what clients asked for belongs to the last
abbrev pub if_last : List Answer → Option Wanted → Option Wanted
if_last [] w = w
if_last (r ∷ rs) w = None

-- several answers are handed out, in their order
abbrev pub answered_all : Option Wanted → Bool → List Answer → Loop → Loop
answered_all w failed [] s = s
answered_all w failed (r ∷ rs) s =
    answered_all w (failed || is_fault r) rs (answered (if_last rs w) failed r s)
