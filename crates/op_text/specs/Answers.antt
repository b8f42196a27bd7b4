-- What proposals and commands are answered, as text.
use Rattle.std.specs.Prelude.{ℕ, List, ◌++◌, codes, decimal}
use Rattle.op_types.specs.declared.ballot.Ballot.{Ballot}
use Rattle.op_types.specs.declared.answers.Outcome.{Outcome}
use Rattle.op_types.specs.declared.answers.Outcome.TheVariants as outcome
use Rattle.op_types.specs.declared.answers.Refusal.{Refusal}
use Rattle.op_types.specs.declared.answers.Refusal.TheVariants as refusal
use Rattle.op_types.specs.declared.answers.Cause.{Cause}
use Rattle.op_types.specs.declared.answers.Cause.TheVariants as cause
use Rattle.op_types.specs.declared.answers.Answer.{Answer}
use Rattle.op_types.specs.declared.answers.Answer.TheVariants as answer
use Rattle.op_text.specs.Percent.{encoded}

-- why a proposal is refused
abbrev pub refusal_text : Refusal → List ℕ
refusal_text (refusal.StorageFailed count) = codes "storage " ++ decimal count
refusal_text (refusal.PendingStop pos) = codes "pending " ++ decimal pos
refusal_text refusal.NoLeader = codes "noleader"
refusal_text refusal.PositionsEnd = codes "end"

-- what a proposal is answered
abbrev pub outcome_text : Outcome → List ℕ
outcome_text (outcome.Appended conf pos) = codes "appended " ++ decimal conf ++ codes " " ++ decimal pos
outcome_text outcome.Buffered = codes "buffered"
outcome_text (outcome.Forwarded pid) = codes "forwarded " ++ decimal pid
outcome_text outcome.Asked = codes "asked"
outcome_text outcome.NotLeading = codes "notleading"
outcome_text (outcome.Refused cause) = codes "refused " ++ refusal_text cause

-- a ballot's number, and its owner
abbrev pub ballot_text : Ballot → List ℕ
ballot_text b = decimal b.number ++ codes " " ++ decimal b.pid

-- why a buffered proposal is given up
abbrev pub cause_text : Cause → List ℕ
cause_text (cause.Ballot b) = codes "ballot " ++ ballot_text b
cause_text (cause.Stop pos) = codes "stop " ++ decimal pos
cause_text cause.End = codes "end"

-- what a command is answered
abbrev pub answer_text : Answer → List ℕ
answer_text answer.Done = codes "done"
answer_text (answer.Value value) = codes "value " ++ encoded value
answer_text answer.Absent = codes "absent"
answer_text answer.Stale = codes "stale"
answer_text (answer.Dropped cause) = codes "dropped " ++ cause_text cause
