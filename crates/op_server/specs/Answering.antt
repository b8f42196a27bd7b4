-- What is told of reads in a step, of those that wait when its input has come.
use Rattle.std.specs.Prelude.{ℕ, List, map, Option, None, option_map, if◌then◌else◌}
use Rattle.op_types.specs.Changes.{durable_after}
use Rattle.op_types.specs.declared.answers.Reply.{Reply}
use Rattle.op_reads.specs.Reads.{Reads, without_answered}
use Rattle.op_protocol.specs.State.{State, Planned}
use Rattle.op_protocol.specs.Reading.{read_reply, decided_of, leads_on, adopted_of, answered_of, given_up_in}

-- how much is decided after a plan
abbrev pub decided_by : State → Planned → ℕ
decided_by s p = decided_of (durable_after s.durable p.batch).part

-- the reads that wait still: none, where the node doesn't lead on
abbrev pub kept_reads : State → Planned → Option Reads → Option Reads
kept_reads s p reads =
    if leads_on s.volatile.role p.volatile.role
    then option_map (λ r. without_answered r (decided_by s p) (adopted_of p.volatile.role)) reads
    else None

-- the replies: to those that are answered, or else to all that are given up
abbrev pub told_reads : State → Planned → Option Reads → List Reply
told_reads s p reads =
    if leads_on s.volatile.role p.volatile.role
    then map (read_reply p.service) (answered_of reads (decided_by s p) (adopted_of p.volatile.role))
    else given_up_in s p
