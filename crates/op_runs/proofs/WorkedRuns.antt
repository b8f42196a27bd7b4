-- Runs that are computed by the definitions: what they give to be reported, their one list, and how much each node then knows of it.
use Rattle.std.proofs.Common.{◌≡◌, ℕ, suc, List, [], ◌∷◌, ◌++◌, refl, Bool, true, false, map}
use Rattle.op_types.specs.declared.log.Op.TheVariants as op
use Rattle.op_types.specs.declared.log.Command.{Command}
use Rattle.op_types.specs.declared.log.Entry.{Entry}
use Rattle.op_types.specs.declared.log.Entry.TheVariants as entry
use Rattle.op_runs.specs.declared.events.What.{What}
use Rattle.op_runs.specs.declared.events.What.TheVariants as what
use Rattle.op_types.specs.declared.answers.Answer.TheVariants as answer
use Rattle.op_types.specs.declared.answers.Cause.TheVariants as cause
use Rattle.op_types.specs.declared.answers.Outcome.TheVariants as outcome
use Rattle.op_types.specs.declared.answers.Refusal.TheVariants as refusal
use Rattle.op_runs.specs.declared.summary.Line.{Line}
use Rattle.op_runs.specs.declared.summary.Line.TheVariants as line
use Rattle.op_spec.specs.Ledger.{decided_in}
use Rattle.op_kv.specs.Rising.{rising_read}
use Rattle.op_runs.specs.declared.summary.Running.{Running}
use Rattle.op_runs.specs.declared.summary.Running.TheVariants as running
use Rattle.op_runs.specs.Summary.{running_of}
use Rattle.op_runs.specs.World.{Fate, Done, Stopped, Faulted, Happening}
use Rattle.op_runs.specs.Run.{Execution, first_execution, execution_of}

abbrev pub put : ℕ → ℕ → ℕ → ℕ → Command
put client seq key value = record { client = client; seq = seq; op = op.Put (key ∷ []) (value ∷ []) }

-- what a run gives: its lines, its list, and how much each node has decided
pub record Gives (t : Execution) (lines : List Line) (entries : List Entry) (decided : List ℕ) : Type 0 where
  pub lines_are : t.world.lines ≡ lines
  pub list_is : t.machine.lists 1 ≡ entries
  pub decided_are : map (λ n. decided_in n.state.durable 1) t.world.nodes ≡ decided

abbrev pub happens : ℕ → Fate → Bool → What → Happening
happens at fate finds_after w = record { event = record { line = at; what = w }; fate = fate; finds_after = finds_after }

-- these events, said from this line on, each done
unfoldable pub done : ℕ → List What → List Happening
done at [] = []
done at (w ∷ ws) = happens at Done false w ∷ done (suc at) ws

abbrev pub three : List ℕ
three = 1 ∷ 2 ∷ 3 ∷ []

abbrev pub run : List ℕ → List Happening → Execution
run members hs = execution_of (first_execution members []) hs

-- server 1 hears server 2, is elected, and asks to be promised its ballot
abbrev pub elected : List What
elected = what.Tick 1 ∷ what.Deliver 0 ∷ what.Deliver 2 ∷ what.Tick 1 ∷ what.Deliver 5 ∷ what.Deliver 7 ∷ []

-- a sole member decides at once
a_sole_member_decides :
    Gives
    (run (1 ∷ []) (done 2 (what.Tick 1 ∷ what.Commands 1 (put 7 1 97 120 ∷ []) ∷ [])))
    (line.Answer 3 (outcome.Appended 1 0) ∷ line.Reply 1 7 1 answer.Done ∷ [])
    (entry.Command (put 7 1 97 120) ∷ [])
    (1 ∷ [])
unfolding done rising_read
a_sole_member_decides = record { lines_are = refl; list_is = refl; decided_are = refl }

-- a sole member decides commands that are proposed together at once
a_sole_member_decides_several :
    Gives
    (run (1 ∷ []) (done 2 (what.Tick 1 ∷ what.Commands 1 (put 7 1 97 120 ∷ put 8 1 98 121 ∷ put 7 2 99 122 ∷ []) ∷ [])))
    (line.Answer 3 (outcome.Appended 1 0) ∷ line.Reply 1 7 1 answer.Done ∷ line.Reply 1 8 1 answer.Done ∷ line.Reply 1 7 2 answer.Done ∷ [])
    (entry.Command (put 7 1 97 120) ∷ entry.Command (put 8 1 98 121) ∷ entry.Command (put 7 2 99 122) ∷ [])
    (3 ∷ [])
unfolding done
a_sole_member_decides_several = record { lines_are = refl; list_is = refl; decided_are = refl }

-- with three members one message brings them to the follower, and one acknowledgement decides them
one_accept_brings_several :
    Gives
    (run three (done 2 (elected ++ what.Commands 1 (put 7 1 97 120 ∷ put 8 1 98 121 ∷ []) ∷ what.Deliver 8 ∷ what.Deliver 9 ∷ what.Deliver 11 ∷ [])))
    (line.Answer 8 (outcome.Appended 1 0) ∷ line.Reply 1 7 1 answer.Done ∷ line.Reply 1 8 1 answer.Done ∷ [])
    (entry.Command (put 7 1 97 120) ∷ entry.Command (put 8 1 98 121) ∷ [])
    (2 ∷ 0 ∷ 0 ∷ [])
unfolding done
one_accept_brings_several = record { lines_are = refl; list_is = refl; decided_are = refl }

-- a follower forwards them in one message, and the leader takes them in one step
several_are_forwarded_together :
    Gives
    (run three (done 2 (elected ++ what.Deliver 8 ∷ what.Commands 2 (put 7 1 97 120 ∷ put 8 1 98 121 ∷ []) ∷ what.Deliver 10 ∷ what.Deliver 11 ∷ what.Deliver 12 ∷ what.Deliver 13 ∷ [])))
    (line.Answer 9 (outcome.Forwarded 1) ∷ line.Reply 2 7 1 answer.Done ∷ line.Reply 2 8 1 answer.Done ∷ [])
    (entry.Command (put 7 1 97 120) ∷ entry.Command (put 8 1 98 121) ∷ [])
    (2 ∷ 2 ∷ 0 ∷ [])
unfolding done
several_are_forwarded_together = record { lines_are = refl; list_is = refl; decided_are = refl }

-- three members: a leader is elected, and decides with one follower
a_majority_decides :
    Gives
    (run three (done 2 (elected ++ what.Commands 1 (put 7 1 97 120 ∷ []) ∷ what.Deliver 8 ∷ what.Deliver 9 ∷ what.Deliver 11 ∷ [])))
    (line.Answer 8 (outcome.Appended 1 0) ∷ line.Reply 1 7 1 answer.Done ∷ [])
    (entry.Command (put 7 1 97 120) ∷ [])
    (1 ∷ 0 ∷ 0 ∷ [])
unfolding done rising_read
a_majority_decides = record { lines_are = refl; list_is = refl; decided_are = refl }

-- an Accept comes before the AcceptSync and is lost; a session begins, and the follower is synced again
a_lost_accept_is_asked_for :
    Gives
    (run three (done 2 (elected ++ what.Commands 1 (put 7 1 97 120 ∷ []) ∷ what.Deliver 9 ∷ what.Deliver 8 ∷ what.Up 2 1 ∷ what.Deliver 11 ∷ what.Deliver 12 ∷ what.Deliver 13 ∷ what.Deliver 14 ∷ what.Deliver 15 ∷ what.Deliver 16 ∷ [])))
    (line.Answer 8 (outcome.Appended 1 0) ∷ line.Reply 1 7 1 answer.Done ∷ [])
    (entry.Command (put 7 1 97 120) ∷ [])
    (1 ∷ 1 ∷ 0 ∷ [])
unfolding done rising_read
a_lost_accept_is_asked_for = record { lines_are = refl; list_is = refl; decided_are = refl }

-- an Accepted that is repeated counts once
a_repeated_accepted_counts_once :
    Gives
    (run three (done 2 (elected ++ what.Commands 1 (put 7 1 97 120 ∷ []) ∷ what.Deliver 8 ∷ what.Deliver 9 ∷ what.Deliver 11 ∷ what.Deliver 11 ∷ what.Deliver 11 ∷ [])))
    (line.Answer 8 (outcome.Appended 1 0) ∷ line.Reply 1 7 1 answer.Done ∷ [])
    (entry.Command (put 7 1 97 120) ∷ [])
    (1 ∷ 0 ∷ 0 ∷ [])
unfolding done rising_read
a_repeated_accepted_counts_once = record { lines_are = refl; list_is = refl; decided_are = refl }

-- an old Prepare and an old AcceptSync come again
old_messages_change_nothing :
    Gives
    (run three (done 2 (elected ++ what.Commands 1 (put 7 1 97 120 ∷ []) ∷ what.Deliver 8 ∷ what.Deliver 9 ∷ what.Deliver 11 ∷ what.Deliver 12 ∷ what.Deliver 5 ∷ what.Deliver 8 ∷ what.Commands 1 (put 7 2 98 121 ∷ []) ∷ what.Deliver 15 ∷ what.Deliver 16 ∷ what.Deliver 17 ∷ [])))
    (line.Answer 8 (outcome.Appended 1 0) ∷ line.Reply 1 7 1 answer.Done ∷ line.Answer 15 (outcome.Appended 1 1) ∷ line.Reply 1 7 2 answer.Done ∷ [])
    (entry.Command (put 7 1 97 120) ∷ entry.Command (put 7 2 98 121) ∷ [])
    (2 ∷ 2 ∷ 0 ∷ [])
unfolding done rising_read
old_messages_change_nothing = record { lines_are = refl; list_is = refl; decided_are = refl }

-- entries that no majority has give way to those of a later leader
what_no_majority_has_is_replaced :
    Gives
    (run three (done 2 (what.Tick 1 ∷ what.Deliver 1 ∷ what.Deliver 2 ∷ what.Tick 1 ∷ what.Deliver 6 ∷ what.Deliver 7 ∷ what.Commands 1 (put 7 1 97 120 ∷ []) ∷ what.Commands 1 (put 7 2 98 121 ∷ []) ∷ what.Tick 2 ∷ what.Deliver 12 ∷ what.Deliver 13 ∷ what.Tick 2 ∷ what.Deliver 17 ∷ what.Deliver 18 ∷ what.Commands 2 (put 8 1 99 122 ∷ []) ∷ what.Deliver 5 ∷ what.Deliver 21 ∷ what.Deliver 4 ∷ what.Deliver 22 ∷ what.Tick 1 ∷ what.Deliver 24 ∷ what.Deliver 25 ∷ what.Tick 1 ∷ what.Deliver 28 ∷ what.Deliver 30 ∷ what.Deliver 31 ∷ what.Deliver 32 ∷ what.Deliver 33 ∷ [])))
    (line.Answer 8 (outcome.Appended 1 0) ∷ line.Answer 9 (outcome.Appended 1 1) ∷ line.Answer 16 (outcome.Appended 1 0) ∷ line.Reply 2 8 1 answer.Done ∷ [])
    (entry.Command (put 8 1 99 122) ∷ [])
    (1 ∷ 1 ∷ 0 ∷ [])
unfolding done rising_read
what_no_majority_has_is_replaced = record { lines_are = refl; list_is = refl; decided_are = refl }

-- entries that a majority has, and nobody knows to be decided, are decided by the next leader
what_a_majority_has_stays :
    Gives
    (run three (done 2 (elected ++ what.Commands 1 (put 7 1 97 120 ∷ []) ∷ what.Commands 1 (put 7 2 98 121 ∷ []) ∷ what.Deliver 8 ∷ what.Deliver 9 ∷ what.Tick 2 ∷ what.Deliver 13 ∷ what.Deliver 15 ∷ what.Tick 2 ∷ what.Deliver 18 ∷ what.Deliver 20 ∷ what.Deliver 21 ∷ what.Deliver 22 ∷ what.Deliver 23 ∷ [])))
    (line.Answer 8 (outcome.Appended 1 0) ∷ line.Answer 9 (outcome.Appended 1 1) ∷ line.Reply 1 7 1 answer.Done ∷ line.Reply 1 7 2 answer.Done ∷ [])
    (entry.Command (put 7 1 97 120) ∷ entry.Command (put 7 2 98 121) ∷ [])
    (2 ∷ 2 ∷ 0 ∷ [])
unfolding done rising_read
what_a_majority_has_stays = record { lines_are = refl; list_is = refl; decided_are = refl }

-- a command that is forwarded is answered where its client waits
a_forwarded_command_is_answered :
    Gives
    (run three (done 2 (what.Commands 2 (put 7 1 97 120 ∷ []) ∷ what.Tick 1 ∷ what.Deliver 0 ∷ what.Deliver 2 ∷ what.Tick 1 ∷ what.Deliver 5 ∷ what.Commands 2 (put 7 1 97 120 ∷ []) ∷ what.Deliver 7 ∷ what.Deliver 8 ∷ what.Deliver 9 ∷ what.Deliver 10 ∷ what.Deliver 12 ∷ what.Deliver 13 ∷ [])))
    (line.Answer 2 (outcome.Refused refusal.NoLeader) ∷ line.Answer 8 (outcome.Forwarded 1) ∷ line.Reply 2 7 1 answer.Done ∷ [])
    (entry.Command (put 7 1 97 120) ∷ [])
    (1 ∷ 1 ∷ 0 ∷ [])
unfolding done rising_read
a_forwarded_command_is_answered = record { lines_are = refl; list_is = refl; decided_are = refl }

-- a leader that a majority no longer hears is replaced, though it hears another member
a_cut_off_leader_is_replaced :
    Gives
    (run three (done 2 (what.Tick 3 ∷ what.Deliver 1 ∷ what.Deliver 2 ∷ what.Tick 3 ∷ what.Deliver 6 ∷ what.Deliver 7 ∷ what.Deliver 8 ∷ what.Tick 1 ∷ what.Deliver 11 ∷ what.Deliver 12 ∷ what.Tick 1 ∷ what.Deliver 13 ∷ what.Deliver 15 ∷ what.Tick 1 ∷ what.Deliver 16 ∷ what.Deliver 18 ∷ what.Tick 1 ∷ what.Deliver 21 ∷ what.Deliver 23 ∷ what.Commands 3 (put 9 1 107 118 ∷ []) ∷ what.Deliver 25 ∷ what.Commands 1 (put 9 2 107 119 ∷ []) ∷ what.Deliver 24 ∷ what.Deliver 26 ∷ what.Deliver 28 ∷ what.Ballots 1 ∷ what.Ballots 3 ∷ [])))
    (line.Answer 21 (outcome.Appended 1 0) ∷ line.Answer 23 (outcome.Appended 1 0) ∷ line.Reply 1 9 2 answer.Done ∷ line.Ballots 1 (record { number = 2; pid = 1 }) (record { number = 2; pid = 1 }) (record { number = 2; pid = 1 }) ∷ line.Ballots 3 (record { number = 1; pid = 3 }) (record { number = 1; pid = 3 }) (record { number = 1; pid = 3 }) ∷ [])
    (entry.Command (put 9 2 107 119) ∷ [])
    (1 ∷ 0 ∷ 0 ∷ [])
unfolding done rising_read
a_cut_off_leader_is_replaced = record { lines_are = refl; list_is = refl; decided_are = refl }

-- a command that is sent again at another node has no second effect
a_command_sent_again :
    Gives
    (run three (done 2 (elected ++ what.Commands 1 (put 7 1 97 120 ∷ []) ∷ what.Deliver 8 ∷ what.Deliver 9 ∷ what.Deliver 11 ∷ what.Commands 1 (put 8 1 97 121 ∷ []) ∷ what.Commands 2 (put 7 1 97 120 ∷ []) ∷ what.Deliver 13 ∷ what.Deliver 14 ∷ what.Deliver 16 ∷ what.Deliver 17 ∷ what.Deliver 18 ∷ [])))
    (line.Answer 8 (outcome.Appended 1 0) ∷ line.Reply 1 7 1 answer.Done ∷ line.Answer 12 (outcome.Appended 1 1) ∷ line.Answer 13 (outcome.Forwarded 1) ∷ line.Reply 1 8 1 answer.Done ∷ line.Reply 2 7 1 answer.Done ∷ [])
    (entry.Command (put 7 1 97 120) ∷ entry.Command (put 8 1 97 121) ∷ entry.Command (put 7 1 97 120) ∷ [])
    (3 ∷ 3 ∷ 0 ∷ [])
unfolding done rising_read
a_command_sent_again = record { lines_are = refl; list_is = refl; decided_are = refl }

-- what was lost with a session is synced when the next one begins
a_session_ends_and_begins :
    Gives
    (run three (done 2 (elected ++ what.Commands 1 (put 7 1 97 120 ∷ []) ∷ what.Down 1 2 ∷ what.Commands 1 (put 7 2 98 121 ∷ []) ∷ what.Up 2 1 ∷ what.Deliver 10 ∷ what.Deliver 11 ∷ what.Deliver 12 ∷ what.Deliver 13 ∷ what.Deliver 14 ∷ what.Deliver 15 ∷ [])))
    (line.Answer 8 (outcome.Appended 1 0) ∷ line.Answer 10 (outcome.Appended 1 1) ∷ line.Reply 1 7 1 answer.Done ∷ line.Reply 1 7 2 answer.Done ∷ [])
    (entry.Command (put 7 1 97 120) ∷ entry.Command (put 7 2 98 121) ∷ [])
    (2 ∷ 2 ∷ 0 ∷ [])
unfolding done rising_read
a_session_ends_and_begins = record { lines_are = refl; list_is = refl; decided_are = refl }

-- an Accept that would leave a gap is not taken: the follower asks to be prepared
a_gap_is_asked_for :
    Gives
    (run three (done 2 (elected ++ what.Deliver 8 ∷ what.Commands 1 (put 7 1 97 120 ∷ []) ∷ what.Commands 1 (put 7 2 98 121 ∷ []) ∷ what.Deliver 11 ∷ what.Deliver 12 ∷ what.Deliver 13 ∷ what.Deliver 14 ∷ what.Deliver 15 ∷ what.Deliver 16 ∷ [])))
    (line.Answer 9 (outcome.Appended 1 0) ∷ line.Answer 10 (outcome.Appended 1 1) ∷ line.Reply 1 7 1 answer.Done ∷ line.Reply 1 7 2 answer.Done ∷ [])
    (entry.Command (put 7 1 97 120) ∷ entry.Command (put 7 2 98 121) ∷ [])
    (2 ∷ 0 ∷ 0 ∷ [])
unfolding done rising_read
a_gap_is_asked_for = record { lines_are = refl; list_is = refl; decided_are = refl }

-- a node stops inside a step, and its opening finds what it stored before
a_stopped_step_is_found_undone :
    Gives
    (run three ((done 2 (elected ++ what.Commands 1 (put 7 1 97 120 ∷ []) ∷ what.Deliver 8 ∷ [])) ++ happens 10 Stopped false (what.Deliver 9) ∷ (done 11 (what.Start 2 ∷ what.Deliver 11 ∷ what.Deliver 13 ∷ what.Deliver 14 ∷ what.Deliver 15 ∷ what.Deliver 16 ∷ what.Deliver 17 ∷ []))))
    (line.Answer 8 (outcome.Appended 1 0) ∷ line.Reply 1 7 1 answer.Done ∷ [])
    (entry.Command (put 7 1 97 120) ∷ [])
    (1 ∷ 1 ∷ 0 ∷ [])
unfolding done rising_read
a_stopped_step_is_found_undone = record { lines_are = refl; list_is = refl; decided_are = refl }

-- the same, and its opening finds what the step was to store
a_stopped_step_is_found_done :
    Gives
    (run three ((done 2 (elected ++ what.Commands 1 (put 7 1 97 120 ∷ []) ∷ what.Deliver 8 ∷ [])) ++ happens 10 Stopped false (what.Deliver 9) ∷ happens 11 Done true (what.Start 2) ∷ (done 12 (what.Deliver 11 ∷ what.Deliver 13 ∷ what.Deliver 14 ∷ what.Deliver 15 ∷ what.Deliver 16 ∷ what.Deliver 17 ∷ []))))
    (line.Answer 8 (outcome.Appended 1 0) ∷ line.Reply 1 7 1 answer.Done ∷ [])
    (entry.Command (put 7 1 97 120) ∷ [])
    (1 ∷ 1 ∷ 0 ∷ [])
unfolding done rising_read
a_stopped_step_is_found_done = record { lines_are = refl; list_is = refl; decided_are = refl }

-- a sole member crashes and starts again
a_sole_member_starts_again :
    Gives
    (run (1 ∷ []) (done 2 (what.Tick 1 ∷ what.Commands 1 (put 7 1 97 120 ∷ []) ∷ what.Crash 1 ∷ what.Commands 1 (put 7 1 97 120 ∷ []) ∷ what.Start 1 ∷ what.Commands 1 (put 7 2 97 120 ∷ []) ∷ what.Tick 1 ∷ what.Commands 1 (put 7 1 97 120 ∷ []) ∷ [])))
    (line.Answer 3 (outcome.Appended 1 0) ∷ line.Reply 1 7 1 answer.Done ∷ line.Answer 7 (outcome.Refused refusal.NoLeader) ∷ line.Answer 9 (outcome.Appended 1 1) ∷ line.Reply 1 7 1 answer.Done ∷ [])
    (entry.Command (put 7 1 97 120) ∷ entry.Command (put 7 1 97 120) ∷ [])
    (2 ∷ [])
unfolding done rising_read
a_sole_member_starts_again = record { lines_are = refl; list_is = refl; decided_are = refl }

-- a disk fails inside a step: the proposal is refused with the count of faults, and so is the next one, until an
-- opening, which finds what was stored before; the node then leads again
a_failed_node_refuses :
    Gives
    (run (1 ∷ []) (done 2 (what.Tick 1 ∷ []) ++ happens 4 (Faulted 1) false (what.Commands 1 (put 7 1 97 120 ∷ [])) ∷ done 5 (what.Commands 1 (put 7 1 97 120 ∷ []) ∷ what.Start 1 ∷ what.Tick 1 ∷ what.Commands 1 (put 7 1 97 120 ∷ []) ∷ [])))
    (line.Answer 4 (outcome.Refused (refusal.StorageFailed 1)) ∷ line.Answer 5 (outcome.Refused (refusal.StorageFailed 1)) ∷ line.Answer 8 (outcome.Appended 1 0) ∷ line.Reply 1 7 1 answer.Done ∷ [])
    (entry.Command (put 7 1 97 120) ∷ [])
    (1 ∷ [])
unfolding done rising_read
a_failed_node_refuses = record { lines_are = refl; list_is = refl; decided_are = refl }

-- an opening finds what the step was to store: the refused command is decided, and when it is sent again its client is
-- given the kept answer
a_failed_step_is_found_done :
    Gives
    (run (1 ∷ []) (done 2 (what.Tick 1 ∷ []) ++ happens 4 (Faulted 1) false (what.Commands 1 (put 7 1 97 120 ∷ [])) ∷ happens 5 Done true (what.Start 1) ∷ done 6 (what.Tick 1 ∷ what.Commands 1 (put 7 1 97 120 ∷ []) ∷ [])))
    (line.Answer 4 (outcome.Refused (refusal.StorageFailed 1)) ∷ line.Answer 7 (outcome.Appended 1 1) ∷ line.Reply 1 7 1 answer.Done ∷ [])
    (entry.Command (put 7 1 97 120) ∷ entry.Command (put 7 1 97 120) ∷ [])
    (2 ∷ [])
unfolding done rising_read
a_failed_step_is_found_done = record { lines_are = refl; list_is = refl; decided_are = refl }

-- a node that failed stops inside its opening: the next opening finds it down
a_failed_node_stops :
    Gives
    (run (1 ∷ []) (done 2 (what.Tick 1 ∷ []) ++ happens 4 (Faulted 1) false (what.Commands 1 (put 7 1 97 120 ∷ [])) ∷ happens 6 Stopped false (what.Start 1) ∷ done 7 (what.Start 1 ∷ what.Tick 1 ∷ what.Commands 1 (put 7 1 97 120 ∷ []) ∷ [])))
    (line.Answer 4 (outcome.Refused (refusal.StorageFailed 1)) ∷ line.Answer 9 (outcome.Appended 1 0) ∷ line.Reply 1 7 1 answer.Done ∷ [])
    (entry.Command (put 7 1 97 120) ∷ [])
    (1 ∷ [])
unfolding done rising_read
a_failed_node_stops = record { lines_are = refl; list_is = refl; decided_are = refl }

-- a node that failed refuses to trim, tells its state of before, and neither ticks nor reads a message; an opening that
-- fails leaves it failed with the new count
a_failed_node_tells :
    Gives
    (run (1 ∷ []) (done 2 (what.Tick 1 ∷ what.Commands 1 (put 7 1 97 120 ∷ []) ∷ []) ++ happens 4 (Faulted 1) false (what.Commands 1 (put 7 2 98 121 ∷ [])) ∷ done 5 (what.Tick 1 ∷ what.Trim 1 ∷ what.Show 1 ∷ what.Ballots 1 ∷ [])
    ++ happens 9 (Faulted 3) true (what.Start 1) ∷ done 10 (what.Stop 1 (1 ∷ []) ∷ [])))
    (line.Answer 3 (outcome.Appended 1 0) ∷ line.Reply 1 7 1 answer.Done ∷ line.Answer 4 (outcome.Refused (refusal.StorageFailed 1)) ∷ line.Answer 6 (outcome.Refused (refusal.StorageFailed 1)) ∷ line.Pair 1 (97 ∷ []) (120 ∷ [])
    ∷ line.Ballots 1 (record { number = 1; pid = 1 }) (record { number = 1; pid = 1 }) (record { number = 1; pid = 1 }) ∷ line.Answer 10 (outcome.Refused (refusal.StorageFailed 3)) ∷ [])
    (entry.Command (put 7 1 97 120) ∷ [])
    (1 ∷ [])
unfolding done rising_read
a_failed_node_tells = record { lines_are = refl; list_is = refl; decided_are = refl }

-- a command is forwarded, and its client waits at the follower, when this comes there by the message that decides it
abbrev decided_elsewhere : Happening → List What → List Happening
decided_elsewhere h late =
    done 2 (elected ++ what.Deliver 8 ∷ what.Commands 2 (put 7 1 97 120 ∷ []) ∷ what.Deliver 10 ∷ what.Deliver 11 ∷ what.Deliver 12 ∷ []) ++ h ∷ done 14 late

-- a node that fails keeps who waits
a_failed_node_keeps_who_waits :
    Gives
    (run three (decided_elsewhere (happens 13 (Faulted 1) false (what.Deliver 13)) (what.Start 2 ∷ what.Deliver 13 ∷ [])))
    (line.Answer 9 (outcome.Forwarded 1) ∷ line.Reply 2 7 1 answer.Done ∷ [])
    (entry.Command (put 7 1 97 120) ∷ [])
    (1 ∷ 1 ∷ 0 ∷ [])
unfolding done rising_read
a_failed_node_keeps_who_waits = record { lines_are = refl; list_is = refl; decided_are = refl }

-- one that stops loses them
a_stopped_node_loses_who_waits :
    Gives
    (run three (decided_elsewhere (happens 13 Stopped false (what.Deliver 13)) (what.Start 2 ∷ what.Deliver 13 ∷ [])))
    (line.Answer 9 (outcome.Forwarded 1) ∷ [])
    (entry.Command (put 7 1 97 120) ∷ [])
    (1 ∷ 1 ∷ 0 ∷ [])
unfolding done rising_read
a_stopped_node_loses_who_waits = record { lines_are = refl; list_is = refl; decided_are = refl }

-- and so does one that failed and then stops
a_failed_node_that_stops_loses_who_waits :
    Gives
    (run three (decided_elsewhere (happens 13 (Faulted 1) false (what.Deliver 13)) (what.Crash 2 ∷ what.Start 2 ∷ what.Deliver 13 ∷ [])))
    (line.Answer 9 (outcome.Forwarded 1) ∷ [])
    (entry.Command (put 7 1 97 120) ∷ [])
    (1 ∷ 1 ∷ 0 ∷ [])
unfolding done rising_read
a_failed_node_that_stops_loses_who_waits = record { lines_are = refl; list_is = refl; decided_are = refl }

-- how the nodes run after a run
abbrev running_after : Execution → List Running
running_after t = map (λ n. running_of n.status) t.world.nodes

-- a node that is down stays so where its opening fails, and one more opening finds it
an_opening_fails :
    running_after (run (1 ∷ []) (done 2 (what.Tick 1 ∷ what.Commands 1 (put 7 1 97 120 ∷ []) ∷ what.Crash 1 ∷ []) ++ happens 6 (Faulted 1) false (what.Start 1) ∷ []))
    ≡ running.Down ∷ []
unfolding done rising_read
an_opening_fails = refl

an_opening_is_tried_again :
    running_after (run (1 ∷ []) (done 2 (what.Tick 1 ∷ what.Commands 1 (put 7 1 97 120 ∷ []) ∷ what.Crash 1 ∷ []) ++ happens 6 (Faulted 1) false (what.Start 1) ∷ done 7 (what.Start 1 ∷ [])))
    ≡ running.Up ∷ []
unfolding done rising_read
an_opening_is_tried_again = refl

-- one that failed is shown so, until an opening is done
a_failed_node_is_shown :
    running_after (run (1 ∷ 2 ∷ []) (happens 2 (Faulted 1) false (what.Tick 1) ∷ happens 3 (Faulted 1) false (what.Tick 2) ∷ happens 4 (Faulted 2) false (what.Start 1) ∷ done 5 (what.Start 2 ∷ [])))
    ≡ running.Failed ∷ running.Up ∷ []
unfolding done
a_failed_node_is_shown = refl

-- a command that waits for its leader to lead is dropped when that gives up its ballot
a_buffered_command_is_dropped :
    Gives
    (run three (done 2 (what.Tick 1 ∷ what.Deliver 0 ∷ what.Deliver 2 ∷ what.Tick 1 ∷ what.Commands 1 (put 7 1 97 120 ∷ []) ∷ what.Tick 2 ∷ what.Deliver 8 ∷ what.Deliver 9 ∷ what.Tick 2 ∷ what.Deliver 12 ∷ [])))
    (line.Answer 6 (outcome.Buffered) ∷ line.Dropped 1 7 1 (cause.Ballot (record { number = 1; pid = 2 })) ∷ [])
    ([])
    (0 ∷ 0 ∷ 0 ∷ [])
unfolding done rising_read
a_buffered_command_is_dropped = record { lines_are = refl; list_is = refl; decided_are = refl }
