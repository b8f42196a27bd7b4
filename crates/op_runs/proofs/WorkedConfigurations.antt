-- Runs over trimming and several configurations that are computed by the definitions: all that is reported of them.
use Rattle.std.proofs.Common.{◌≡◌, ℕ, List, [], ◌∷◌, refl, map}
use Rattle.std.specs.Prelude.{Some, None}
use Rattle.op_types.specs.declared.log.Entry.TheVariants as entry
use Rattle.op_runs.specs.declared.events.What.TheVariants as what
use Rattle.op_types.specs.declared.answers.Answer.TheVariants as answer
use Rattle.op_types.specs.declared.answers.Outcome.TheVariants as outcome
use Rattle.op_types.specs.declared.answers.Refusal.TheVariants as refusal
use Rattle.op_runs.specs.declared.summary.Line.{Line}
use Rattle.op_runs.specs.declared.summary.Line.TheVariants as line
use Rattle.op_runs.specs.declared.summary.Listed.{Listed}
use Rattle.op_runs.specs.declared.summary.NodeLine.{NodeLine}
use Rattle.op_runs.specs.declared.summary.Running.TheVariants as running
use Rattle.op_kv.specs.Rising.{rising_read}
use Rattle.op_runs.specs.World.{Happening}
use Rattle.op_runs.specs.Run.{Execution, first_execution, execution_of}
use Rattle.op_runs.specs.Summary.{node_line, listed_of}
use Rattle.op_runs.proofs.WorkedRuns.{put, done}

abbrev run : List ℕ → List ℕ → List Happening → Execution
run members spares hs = execution_of (first_execution members spares) hs

-- what is reported of a run: its lines, the list of each configuration, and where the nodes stand
record Reports (members : List ℕ) (t : Execution) (lines : List Line) (lists : List Listed) (nodes : List NodeLine) : Type 0 where
  lines_are : t.world.lines ≡ lines
  lists_are : listed_of members t ≡ lists
  nodes_are : map node_line t.world.nodes ≡ nodes

-- trimming is asked for, and one member has not reported yet
a_trim_waits_for_all :
    Reports (1 ∷ 2 ∷ [])
    (run (1 ∷ 2 ∷ []) ([]) (done 2 (what.Tick 1 ∷ what.Deliver 0 ∷ what.Deliver 1 ∷ what.Tick 1 ∷ what.Deliver 3 ∷ what.Deliver 4 ∷ what.Deliver 5 ∷ what.Commands 1 (put 7 1 97 120 ∷ []) ∷ what.Commands 1 (put 7 2 98 121 ∷ []) ∷ what.Deliver 7 ∷ what.Deliver 8 ∷ what.Deliver 10 ∷ what.Deliver 11 ∷ what.Trim 1 ∷ what.Deliver 12 ∷ [])))
    (line.Answer 9 (outcome.Appended 1 0) ∷ line.Answer 10 (outcome.Appended 1 1) ∷ line.Reply 1 7 1 answer.Done ∷ line.Reply 1 7 2 answer.Done ∷ line.Answer 15 (outcome.Asked) ∷ [])
    (record { conf = 1; members = (1 ∷ 2 ∷ []); entries = entry.Command (put 7 1 97 120) ∷ entry.Command (put 7 2 98 121) ∷ [] } ∷ [])
    (record { pid = 1; at = Some (1, 2, 0); joining = None; running = running.Up } ∷ record { pid = 2; at = Some (1, 2, 0); joining = None; running = running.Up } ∷ [])
unfolding done rising_read
a_trim_waits_for_all = record { lines_are = refl; lists_are = refl; nodes_are = refl }

-- the other member reports, and is told to trim
what_all_have_decided_is_trimmed :
    Reports (1 ∷ 2 ∷ [])
    (run (1 ∷ 2 ∷ []) ([]) (done 2 (what.Tick 1 ∷ what.Deliver 0 ∷ what.Deliver 1 ∷ what.Tick 1 ∷ what.Deliver 3 ∷ what.Deliver 4 ∷ what.Deliver 5 ∷ what.Commands 1 (put 7 1 97 120 ∷ []) ∷ what.Commands 1 (put 7 2 98 121 ∷ []) ∷ what.Deliver 7 ∷ what.Deliver 8 ∷ what.Deliver 10 ∷ what.Deliver 11 ∷ what.Trim 1 ∷ what.Deliver 12 ∷ what.Deliver 13 ∷ what.Deliver 14 ∷ [])))
    (line.Answer 9 (outcome.Appended 1 0) ∷ line.Answer 10 (outcome.Appended 1 1) ∷ line.Reply 1 7 1 answer.Done ∷ line.Reply 1 7 2 answer.Done ∷ line.Answer 15 (outcome.Asked) ∷ [])
    (record { conf = 1; members = (1 ∷ 2 ∷ []); entries = entry.Command (put 7 1 97 120) ∷ entry.Command (put 7 2 98 121) ∷ [] } ∷ [])
    (record { pid = 1; at = Some (1, 2, 2); joining = None; running = running.Up } ∷ record { pid = 2; at = Some (1, 2, 2); joining = None; running = running.Up } ∷ [])
unfolding done rising_read
what_all_have_decided_is_trimmed = record { lines_are = refl; lists_are = refl; nodes_are = refl }

-- a sole member trims at once, and finds the base again when it is opened
a_sole_member_trims_at_once :
    Reports (1 ∷ [])
    (run (1 ∷ []) ([]) (done 2 (what.Trim 1 ∷ what.Tick 1 ∷ what.Commands 1 (put 7 1 97 120 ∷ []) ∷ what.Trim 1 ∷ what.Crash 1 ∷ what.Start 1 ∷ what.Show 1 ∷ [])))
    (line.Answer 2 (outcome.NotLeading) ∷ line.Answer 4 (outcome.Appended 1 0) ∷ line.Reply 1 7 1 answer.Done ∷ line.Answer 5 (outcome.Asked) ∷ line.Pair 1 (97 ∷ []) (120 ∷ []) ∷ [])
    (record { conf = 1; members = (1 ∷ []); entries = entry.Command (put 7 1 97 120) ∷ [] } ∷ [])
    (record { pid = 1; at = Some (1, 1, 1); joining = None; running = running.Up } ∷ [])
unfolding done rising_read
a_sole_member_trims_at_once = record { lines_are = refl; lists_are = refl; nodes_are = refl }

-- a stop-sign that no majority has gives way to a later leader
an_undecided_stop_sign_gives_way :
    Reports (1 ∷ 2 ∷ 3 ∷ [])
    (run (1 ∷ 2 ∷ 3 ∷ []) ([]) (done 2 (what.Tick 1 ∷ what.Deliver 0 ∷ what.Deliver 2 ∷ what.Tick 1 ∷ what.Deliver 5 ∷ what.Deliver 7 ∷ what.Stop 1 (1 ∷ 2 ∷ []) ∷ what.Commands 1 (put 7 1 97 120 ∷ []) ∷ what.Tick 2 ∷ what.Deliver 11 ∷ what.Deliver 12 ∷ what.Tick 2 ∷ what.Deliver 16 ∷ what.Deliver 17 ∷ what.Deliver 15 ∷ what.Deliver 19 ∷ what.Deliver 20 ∷ what.Commands 1 (put 7 1 97 120 ∷ []) ∷ [])))
    (line.Answer 8 (outcome.Appended 1 0) ∷ line.Answer 9 (outcome.Refused (refusal.PendingStop 0)) ∷ line.Answer 19 (outcome.Forwarded 2) ∷ [])
    (record { conf = 1; members = (1 ∷ 2 ∷ 3 ∷ []); entries = [] } ∷ [])
    (record { pid = 1; at = Some (1, 0, 0); joining = None; running = running.Up } ∷ record { pid = 2; at = Some (1, 0, 0); joining = None; running = running.Up } ∷ record { pid = 3; at = Some (1, 0, 0); joining = None; running = running.Up } ∷ [])
unfolding done rising_read
an_undecided_stop_sign_gives_way = record { lines_are = refl; lists_are = refl; nodes_are = refl }

-- a spare joins with the base of one donor, and an entry of each of two
a_spare_joins :
    Reports (1 ∷ 2 ∷ [])
    (run (1 ∷ 2 ∷ []) (3 ∷ []) (done 3 (what.Tick 1 ∷ what.Deliver 0 ∷ what.Deliver 1 ∷ what.Tick 1 ∷ what.Deliver 3 ∷ what.Deliver 4 ∷ what.Deliver 5 ∷ what.Commands 1 (put 7 1 97 120 ∷ []) ∷ what.Commands 1 (put 7 2 98 121 ∷ []) ∷ what.Deliver 7 ∷ what.Deliver 8 ∷ what.Deliver 10 ∷ what.Deliver 11 ∷ what.Trim 1 ∷ what.Deliver 12 ∷ what.Deliver 13 ∷ what.Commands 1 (put 7 3 97 122 ∷ []) ∷ what.Stop 1 (2 ∷ 3 ∷ []) ∷ what.Deliver 15 ∷ what.Deliver 16 ∷ what.Deliver 18 ∷ what.Deliver 19 ∷ what.Deliver 20 ∷ what.Deliver 21 ∷ what.Tick 3 ∷ what.Deliver 22 ∷ what.Deliver 23 ∷ what.Deliver 24 ∷ what.Deliver 25 ∷ what.Deliver 26 ∷ what.Deliver 27 ∷ what.Show 3 ∷ what.Commands 1 (put 7 4 99 100 ∷ []) ∷ [])))
    (line.Answer 10 (outcome.Appended 1 0) ∷ line.Answer 11 (outcome.Appended 1 1) ∷ line.Reply 1 7 1 answer.Done ∷ line.Reply 1 7 2 answer.Done ∷ line.Answer 16 (outcome.Asked) ∷ line.Answer 19 (outcome.Appended 1 2) ∷ line.Answer 20 (outcome.Appended 1 3) ∷ line.Reply 1 7 3 answer.Done ∷ line.Pair 3 (97 ∷ []) (122 ∷ []) ∷ line.Pair 3 (98 ∷ []) (121 ∷ []) ∷ line.Answer 35 (outcome.Refused (refusal.PendingStop 3)) ∷ [])
    (record { conf = 1; members = (1 ∷ 2 ∷ []); entries = entry.Command (put 7 1 97 120) ∷ entry.Command (put 7 2 98 121) ∷ entry.Command (put 7 3 97 122) ∷ entry.Stop (record { next = 2; members = (2 ∷ 3 ∷ []) }) ∷ [] } ∷ record { conf = 2; members = (2 ∷ 3 ∷ []); entries = [] } ∷ [])
    (record { pid = 1; at = Some (1, 4, 2); joining = None; running = running.Up } ∷ record { pid = 2; at = Some (2, 0, 0); joining = None; running = running.Up } ∷ record { pid = 3; at = Some (2, 0, 0); joining = None; running = running.Up } ∷ [])
unfolding done rising_read
a_spare_joins = record { lines_are = refl; lists_are = refl; nodes_are = refl }

-- the same run cut before the follower reports
a_spare_waits :
    Reports (1 ∷ 2 ∷ [])
    (run (1 ∷ 2 ∷ []) (3 ∷ []) (done 3 (what.Tick 1 ∷ what.Deliver 0 ∷ what.Deliver 1 ∷ what.Tick 1 ∷ what.Deliver 3 ∷ what.Deliver 4 ∷ what.Deliver 5 ∷ what.Commands 1 (put 7 1 97 120 ∷ []) ∷ what.Commands 1 (put 7 2 98 121 ∷ []) ∷ what.Deliver 7 ∷ what.Deliver 8 ∷ what.Deliver 10 ∷ what.Deliver 11 ∷ what.Trim 1 ∷ what.Deliver 12 ∷ [])))
    (line.Answer 10 (outcome.Appended 1 0) ∷ line.Answer 11 (outcome.Appended 1 1) ∷ line.Reply 1 7 1 answer.Done ∷ line.Reply 1 7 2 answer.Done ∷ line.Answer 16 (outcome.Asked) ∷ [])
    (record { conf = 1; members = (1 ∷ 2 ∷ []); entries = entry.Command (put 7 1 97 120) ∷ entry.Command (put 7 2 98 121) ∷ [] } ∷ [])
    (record { pid = 1; at = Some (1, 2, 0); joining = None; running = running.Up } ∷ record { pid = 2; at = Some (1, 2, 0); joining = None; running = running.Up } ∷ record { pid = 3; at = None; joining = None; running = running.Up } ∷ [])
unfolding done rising_read
a_spare_waits = record { lines_are = refl; lists_are = refl; nodes_are = refl }

-- and when both members have trimmed
a_spare_waits_while_all_trim :
    Reports (1 ∷ 2 ∷ [])
    (run (1 ∷ 2 ∷ []) (3 ∷ []) (done 3 (what.Tick 1 ∷ what.Deliver 0 ∷ what.Deliver 1 ∷ what.Tick 1 ∷ what.Deliver 3 ∷ what.Deliver 4 ∷ what.Deliver 5 ∷ what.Commands 1 (put 7 1 97 120 ∷ []) ∷ what.Commands 1 (put 7 2 98 121 ∷ []) ∷ what.Deliver 7 ∷ what.Deliver 8 ∷ what.Deliver 10 ∷ what.Deliver 11 ∷ what.Trim 1 ∷ what.Deliver 12 ∷ what.Deliver 13 ∷ what.Deliver 14 ∷ [])))
    (line.Answer 10 (outcome.Appended 1 0) ∷ line.Answer 11 (outcome.Appended 1 1) ∷ line.Reply 1 7 1 answer.Done ∷ line.Reply 1 7 2 answer.Done ∷ line.Answer 16 (outcome.Asked) ∷ [])
    (record { conf = 1; members = (1 ∷ 2 ∷ []); entries = entry.Command (put 7 1 97 120) ∷ entry.Command (put 7 2 98 121) ∷ [] } ∷ [])
    (record { pid = 1; at = Some (1, 2, 2); joining = None; running = running.Up } ∷ record { pid = 2; at = Some (1, 2, 2); joining = None; running = running.Up } ∷ record { pid = 3; at = None; joining = None; running = running.Up } ∷ [])
unfolding done rising_read
a_spare_waits_while_all_trim = record { lines_are = refl; lists_are = refl; nodes_are = refl }

-- a sole member closes its list, and goes on in the next configuration
a_sole_member_goes_on :
    Reports (1 ∷ [])
    (run (1 ∷ []) ([]) (done 2 (what.Tick 1 ∷ what.Commands 1 (put 7 1 97 120 ∷ []) ∷ what.Stop 1 (1 ∷ []) ∷ what.Commands 1 (put 7 2 97 121 ∷ []) ∷ what.Tick 1 ∷ what.Commands 1 (put 7 3 98 122 ∷ []) ∷ what.Commands 1 (put 7 1 99 119 ∷ []) ∷ [])))
    (line.Answer 3 (outcome.Appended 1 0) ∷ line.Reply 1 7 1 answer.Done ∷ line.Answer 4 (outcome.Appended 1 1) ∷ line.Answer 5 (outcome.Refused refusal.NoLeader) ∷ line.Answer 7 (outcome.Appended 2 0) ∷ line.Reply 1 7 3 answer.Done ∷ line.Answer 8 (outcome.Appended 2 1) ∷ line.Reply 1 7 1 answer.Stale ∷ [])
    (record { conf = 1; members = (1 ∷ []); entries = entry.Command (put 7 1 97 120) ∷ entry.Stop (record { next = 2; members = (1 ∷ []) }) ∷ [] } ∷ record { conf = 2; members = (1 ∷ []); entries = entry.Command (put 7 3 98 122) ∷ entry.Command (put 7 1 99 119) ∷ [] } ∷ [])
    (record { pid = 1; at = Some (2, 2, 0); joining = None; running = running.Up } ∷ [])
unfolding done rising_read
a_sole_member_goes_on = record { lines_are = refl; lists_are = refl; nodes_are = refl }

-- the news of the next configuration are lost on their way to a spare: it learns of them when it hears of that configuration
lost_news_come_again :
    Reports (1 ∷ 2 ∷ [])
    (run (1 ∷ 2 ∷ []) (3 ∷ []) (done 3 (what.Tick 1 ∷ what.Deliver 0 ∷ what.Deliver 1 ∷ what.Tick 1 ∷ what.Deliver 3 ∷ what.Deliver 4 ∷ what.Deliver 5 ∷ what.Commands 1 (put 7 1 97 120 ∷ []) ∷ what.Stop 1 (2 ∷ 3 ∷ []) ∷ what.Deliver 6 ∷ what.Deliver 7 ∷ what.Deliver 8 ∷ what.Deliver 9 ∷ what.Deliver 10 ∷ what.Deliver 12 ∷ what.Commands 1 (put 7 2 97 121 ∷ []) ∷ what.Tick 2 ∷ what.Deliver 15 ∷ what.Deliver 16 ∷ what.Deliver 17 ∷ what.Tick 3 ∷ what.Deliver 18 ∷ what.Deliver 19 ∷ what.Deliver 20 ∷ what.Deliver 21 ∷ what.Show 3 ∷ [])))
    (line.Answer 10 (outcome.Appended 1 0) ∷ line.Answer 11 (outcome.Appended 1 1) ∷ line.Reply 1 7 1 answer.Done ∷ line.Answer 18 (outcome.Refused (refusal.PendingStop 1)) ∷ line.Pair 3 (97 ∷ []) (120 ∷ []) ∷ [])
    (record { conf = 1; members = (1 ∷ 2 ∷ []); entries = entry.Command (put 7 1 97 120) ∷ entry.Stop (record { next = 2; members = (2 ∷ 3 ∷ []) }) ∷ [] } ∷ record { conf = 2; members = (2 ∷ 3 ∷ []); entries = [] } ∷ [])
    (record { pid = 1; at = Some (1, 2, 0); joining = None; running = running.Up } ∷ record { pid = 2; at = Some (2, 0, 0); joining = None; running = running.Up } ∷ record { pid = 3; at = Some (2, 0, 0); joining = None; running = running.Up } ∷ [])
unfolding done rising_read
lost_news_come_again = record { lines_are = refl; lists_are = refl; nodes_are = refl }
