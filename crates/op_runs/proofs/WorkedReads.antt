-- Reads that are computed by the definitions: what they give to be reported, and that they add nothing to the log.
use Rattle.std.proofs.Common.{ℕ, List, [], ◌∷◌, ◌++◌, refl, false}
use Rattle.op_types.specs.declared.ballot.Ballot.{Ballot}
use Rattle.op_types.specs.declared.read.Read.{Read}
use Rattle.op_types.specs.declared.log.Entry.{Entry}
use Rattle.op_types.specs.declared.log.Entry.TheVariants as entry
use Rattle.op_types.specs.declared.answers.Answer.TheVariants as answer
use Rattle.op_types.specs.declared.answers.Cause.TheVariants as cause
use Rattle.op_types.specs.declared.answers.Outcome.TheVariants as outcome
use Rattle.op_types.specs.declared.answers.Refusal.TheVariants as refusal
use Rattle.op_kv.specs.Rising.{rising_read}
use Rattle.op_runs.specs.declared.events.What.{What}
use Rattle.op_runs.specs.declared.events.What.TheVariants as what
use Rattle.op_runs.specs.declared.summary.Line.{Line}
use Rattle.op_runs.specs.declared.summary.Line.TheVariants as line
use Rattle.op_runs.specs.World.{Faulted}
use Rattle.op_runs.proofs.WorkedRuns.{put, Gives, done, happens, three, run, elected}

abbrev read : ℕ → ℕ → ℕ → Read
read client seq key = record { client = client; seq = seq; key = key ∷ [] }

-- server 1 leads, and has decided a key's value with server 2
abbrev put_once : List What
put_once = elected ++ what.Commands 1 (put 7 1 97 120 ∷ []) ∷ what.Deliver 8 ∷ what.Deliver 9 ∷ what.Deliver 11 ∷ []

abbrev put_lines : List Line
put_lines = line.Answer 8 (outcome.Appended 1 0) ∷ line.Reply 1 7 1 answer.Done ∷ []

abbrev put_entries : List Entry
put_entries = entry.Command (put 7 1 97 120) ∷ []

-- server 3 is promised a greater ballot by server 2
abbrev stood_against : List What
stood_against = what.Tick 3 ∷ what.Deliver 14 ∷ what.Deliver 15 ∷ what.Tick 3 ∷ what.Deliver 19 ∷ []

abbrev greater_ballot : Ballot
greater_ballot = record { number = 1; pid = 3 }

-- one confirmation makes a majority of three
a_read_is_answered :
    Gives
    (run three (done 2 (put_once ++ what.Read 1 (read 9 1 97) ∷ what.Deliver 13 ∷ what.Deliver 15 ∷ [])))
    (put_lines ++ line.Answer 12 outcome.Asked ∷ line.Read 1 9 1 (answer.Value (120 ∷ [])) ∷ [])
    put_entries
    (1 ∷ 0 ∷ 0 ∷ [])
unfolding done rising_read
a_read_is_answered = record { lines_are = refl; list_is = refl; decided_are = refl }

-- a server that doesn't lead takes no read
only_a_leader_is_asked :
    Gives (run three (done 2 (put_once ++ what.Read 2 (read 9 1 97) ∷ []))) (put_lines ++ line.Answer 12 outcome.NotLeading ∷ []) put_entries (1 ∷ 0 ∷ 0 ∷ [])
unfolding done rising_read
only_a_leader_is_asked = record { lines_are = refl; list_is = refl; decided_are = refl }

-- where the others have promised a greater ballot, nothing is answered
nobody_confirms :
    Gives
    (run three (done 2 (put_once ++ stood_against ++ what.Read 1 (read 9 1 97) ∷ what.Deliver 21 ∷ what.Deliver 22 ∷ [])))
    (put_lines ++ line.Answer 17 outcome.Asked ∷ [])
    put_entries
    (1 ∷ 0 ∷ 0 ∷ [])
unfolding done rising_read
nobody_confirms = record { lines_are = refl; list_is = refl; decided_are = refl }

-- a leader that promises the greater ballot itself gives up the reads that wait, in their order
reads_are_given_up :
    Gives
    (run three (done 2 (put_once ++ stood_against ++ what.Read 1 (read 9 1 97) ∷ what.Read 1 (read 9 2 98) ∷ what.Deliver 18 ∷ [])))
    (put_lines ++ line.Answer 17 outcome.Asked ∷ line.Answer 18 outcome.Asked ∷ line.Read 1 9 1 (answer.Dropped (cause.Ballot greater_ballot)) ∷ line.Read 1 9 2 (answer.Dropped (cause.Ballot greater_ballot)) ∷ [])
    put_entries
    (1 ∷ 0 ∷ 0 ∷ [])
unfolding done rising_read
reads_are_given_up = record { lines_are = refl; list_is = refl; decided_are = refl }

-- so does one that closes its list
a_stop_sign_gives_up_reads :
    Gives
    (run three (done 2 (put_once ++ what.Read 1 (read 9 1 97) ∷ what.Stop 1 three ∷ what.Deliver 15 ∷ what.Deliver 16 ∷ [])))
    (put_lines ++ line.Answer 12 outcome.Asked ∷ line.Answer 13 (outcome.Appended 1 1) ∷ line.Read 1 9 1 (answer.Dropped (cause.Stop 1)) ∷ [])
    (put_entries ++ entry.Stop (record { next = 2; members = three }) ∷ [])
    (2 ∷ 0 ∷ 0 ∷ [])
unfolding done rising_read
a_stop_sign_gives_up_reads = record { lines_are = refl; list_is = refl; decided_are = refl }

-- a sole member answers at once; a node that failed refuses
a_sole_member_answers :
    Gives
    (run (1 ∷ []) (done 2 (what.Tick 1 ∷ what.Read 1 (read 9 1 97) ∷ []) ++ happens 5 (Faulted 1) false (what.Commands 1 (put 7 1 97 120 ∷ [])) ∷ done 6 (what.Read 1 (read 9 2 97) ∷ [])))
    (line.Answer 3 outcome.Asked ∷ line.Read 1 9 1 answer.Absent ∷ line.Answer 5 (outcome.Refused (refusal.StorageFailed 1)) ∷ line.Answer 6 (outcome.Refused (refusal.StorageFailed 1)) ∷ [])
    []
    (0 ∷ [])
unfolding done rising_read
a_sole_member_answers = record { lines_are = refl; list_is = refl; decided_are = refl }
