-- Reads that a leader answers without an entry in its log: once a majority has confirmed, for a read, that
-- the leader's ballot is still promised, and the leader has decided all that it adopted. What anybody had
-- decided before the read came, the leader has decided then.
use Rattle.std.specs.Prelude.{◌==◌, ◌&&◌, ℕ, suc, ◌-◌, nat_eq, Bool, false, List, [], ◌∷◌, ◌++◌, map, Option, Some, None, option_map, if◌then◌else◌}
use Rattle.std.specs.Set.{is_member}
use Rattle.op_types.specs.Limits.{positions_end}
use Rattle.op_types.specs.Ballots.{is_same_ballot}
use Rattle.op_types.specs.Changes.{closed_len, durable_after}
use Rattle.op_types.specs.declared.ballot.Ballot.{Ballot}
use Rattle.op_types.specs.declared.read.Read.{Read}
use Rattle.op_types.specs.declared.durable.Part.{Part}
use Rattle.op_types.specs.declared.durable.Closed.{Closed}
use Rattle.op_types.specs.declared.durable.Joining.{Joining}
use Rattle.op_types.specs.declared.messages.Msg.{Msg}
use Rattle.op_types.specs.declared.messages.Body.{Body}
use Rattle.op_types.specs.declared.messages.Body.TheVariants as body
use Rattle.op_types.specs.declared.events.Input.{Input}
use Rattle.op_types.specs.declared.events.Input.TheVariants as input
use Rattle.op_types.specs.declared.answers.Answer.TheVariants as answer
use Rattle.op_types.specs.declared.answers.Cause.{Cause}
use Rattle.op_types.specs.declared.answers.Cause.TheVariants as cause
use Rattle.op_types.specs.declared.answers.Reply.{Reply}
use Rattle.op_types.specs.declared.answers.Outcome.{Outcome}
use Rattle.op_types.specs.declared.answers.Outcome.TheVariants as outcome
use Rattle.op_types.specs.declared.answers.Refusal.TheVariants as refusal
use Rattle.op_types.specs.RoleStates as state
use Rattle.op_types.specs.Roles.{Role, Leading}
use Rattle.op_types.specs.Effects.{Effects}
use Rattle.op_reads.specs.declared.asked_read.AskedRead.{AskedRead}
use Rattle.op_reads.specs.Reads.{Reads, no_reads, with_read, with_confirmed, answered, without_answered, all_asked}
use Rattle.op_spec.specs.Service.{Service, value_at, told_value}
use Rattle.op_protocol.specs.State.{State, Planned}
use Rattle.op_protocol.specs.Parts.{message, others, to_each, saying, nothing}
use Rattle.op_protocol.specs.Configurations.{latest_of}

-- ---- a member

-- the leader of the promised ballot asks whether it is
abbrev pub on_confirm : Part → Role → ℕ → Ballot → ℕ → Effects
on_confirm p r q n number =
    if is_same_ballot p.promised n then saying r (message p.conf q (body.Confirmed n number) ∷ [])
    else nothing r

-- ---- what comes to a leader

-- its part, and what it keeps of its ballot: a node that joins another configuration answers no reads
abbrev pub leading_in : Option Part → Option Joining → Role → Option (Part × state.Leading)
leading_in (Some p) None (Leading l) = Some (p, l)
leading_in p j r = None

-- the same, of a state
abbrev pub leading_at : State → Option (Part × state.Leading)
leading_at s = leading_in s.durable.part s.durable.joining s.volatile.role

-- the reads that it was asked, none at first
abbrev pub reads_at : ℕ → Part → Option Reads → Reads
reads_at me p None = no_reads me p.members
reads_at me p (Some reads) = reads

-- what an input does to the reads, what is sent for it, and what a read is answered at once
pub record Asking : Type 0 where
  pub reads : Option Reads
  pub sends : List (ℕ × Msg)
  pub outcome : Option Outcome

-- nothing comes to the reads
abbrev pub no_asking : Option Reads → Asking
no_asking reads = record { reads = reads; sends = []; outcome = None }

-- a read gets the next number, and each other member is asked to confirm the ballot for it
abbrev pub asks_members : ℕ → Part → Ballot → Reads → Read → Asking
asks_members me p n reads r =
    record {
      reads = Some (with_read reads r);
      sends = to_each p.conf (others me p.members) (body.Confirm n (suc reads.count));
      outcome = Some outcome.Asked;
    }

-- the same, unless numbers end
abbrev pub asks_if_numbered : ℕ → Part → Ballot → Reads → Read → Option Reads → Asking
asks_if_numbered me p n reads r old =
    if suc reads.count == positions_end
    then record { reads = old; sends = []; outcome = Some (outcome.Refused refusal.PositionsEnd) }
    else asks_members me p n reads r

-- a read comes, which only a leader takes
abbrev pub read_asked : ℕ → Option (Part × state.Leading) → Option Reads → Read → Asking
read_asked me None reads r = record { reads = reads; sends = []; outcome = Some outcome.NotLeading }
read_asked me (Some (p, l)) reads r = asks_if_numbered me p l.ballot (reads_at me p reads) r reads

-- a member confirms the ballot for a number
abbrev pub read_confirmed : ℕ → Option (Part × state.Leading) → Option Reads → ℕ → ℕ → Body → Option Reads
read_confirmed me (Some (p, l)) reads q c (body.Confirmed n number) =
    if c == p.conf && (is_member nat_eq (others me p.members) q && is_same_ballot n l.ballot)
    then option_map (λ x. with_confirmed x number q) reads
    else reads
read_confirmed me leading reads q c b = reads

-- what comes of an input
abbrev pub asking_by : ℕ → State → Input → Asking
asking_by me s (input.Read r) = read_asked me (leading_at s) s.reads r
asking_by me s (input.Deliver q m) = no_asking (read_confirmed me (leading_at s) s.reads q m.conf m.body)
asking_by me s x = no_asking s.reads

-- ---- what is told

-- a read's answer: the value of its key
abbrev pub read_reply : Service → AskedRead → Reply
read_reply t a =
    record { client = a.read.client; seq = a.read.seq; answer = told_value (value_at a.read.key t.pairs) }

-- a read is given up
abbrev pub dropped_read : Cause → AskedRead → Reply
dropped_read why a = record { client = a.read.client; seq = a.read.seq; answer = answer.Dropped why }

-- how much a part has decided
abbrev pub decided_of : Option Part → ℕ
decided_of None = 0
decided_of (Some p) = p.decided

-- the place of the stop-sign at the end of a closed list; a node that left its configuration has one
abbrev pub stop_of_closed : Option Closed → Cause
stop_of_closed None = cause.End
stop_of_closed (Some l) = cause.Stop (closed_len l - 1)

-- Why a node that led in this configuration does so no more, by what it stored: a greater ballot is promised,
-- or the configuration ended at its stop-sign.
abbrev pub why_given_up : ℕ → Option Part → Option Closed → Cause
why_given_up conf None l = stop_of_closed l
why_given_up conf (Some p) l = if p.conf == conf then cause.Ballot p.promised else stop_of_closed l

-- the node leads the same ballot before and after
abbrev pub leads_on : Role → Role → Bool
leads_on (Leading l) (Leading k) = is_same_ballot l.ballot k.ballot
leads_on r q = false

-- how long the log was that the leader adopted
abbrev pub adopted_of : Role → ℕ
adopted_of (Leading l) = l.adopted_len
adopted_of r = 0

-- the reads that may be answered, if there are any
abbrev pub answered_of : Option Reads → ℕ → ℕ → List AskedRead
answered_of None decided adopted = []
answered_of (Some reads) decided adopted = answered reads decided adopted

-- all reads that wait, if there are any
abbrev pub asked_of : Option Reads → List AskedRead
asked_of None = []
asked_of (Some reads) = all_asked reads

-- ---- a step with its reads

-- the reads that a step answers: none, where the node doesn't lead on
abbrev pub answered_by : ℕ → State → Input → Planned → List AskedRead
answered_by me s x p =
    if leads_on s.volatile.role p.volatile.role
    then answered_of (asking_by me s x).reads (decided_of (durable_after s.durable p.batch).part)
    (adopted_of p.volatile.role)
    else []

-- the reads that wait after it
abbrev pub reads_after : ℕ → State → Input → Planned → Option Reads
reads_after me s x p =
    if leads_on s.volatile.role p.volatile.role
    then option_map
    (λ reads. without_answered reads (decided_of (durable_after s.durable p.batch).part)
    (adopted_of p.volatile.role))
    (asking_by me s x).reads
    else None

-- those that are given up in it: all, where the node led and does so no more
abbrev pub given_up_in : State → Planned → List Reply
given_up_in s p =
    if leads_on s.volatile.role p.volatile.role then []
    else map (dropped_read (why_given_up (latest_of s.durable) (durable_after s.durable p.batch).part
    (durable_after s.durable p.batch).closed))
    (asked_of s.reads)

-- what is answered at once: a read, or what the rest of the step answers
abbrev pub outcome_or : Option Outcome → Option Outcome → Option Outcome
outcome_or None o = o
outcome_or (Some r) o = Some r

-- a step with what comes of its reads
abbrev pub reading : ℕ → State → Input → Planned → Planned
reading me s x p =
    record p {
      reads = reads_after me s x p;
      sends = (asking_by me s x).sends ++ p.sends;
      read_replies = map (read_reply p.service) (answered_by me s x p) ++ given_up_in s p;
      outcome = outcome_or (asking_by me s x).outcome p.outcome;
    }
