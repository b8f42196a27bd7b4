-- The rows of a node that prepares or leads.
use Rattle.std.specs.Prelude.{◌==◌, ◌&&◌, ◌||◌, ℕ, zero, suc, ◌+◌, nat_lt, nat_le, nat_eq, Bool, false, true, List, [], ◌∷◌, ◌++◌, length, filter, flat_map, Option, Some, None, if◌then◌else◌, map}
use Rattle.std.specs.Set.{is_member}
use Rattle.op_types.specs.Limits.{positions_end}
use Rattle.op_types.specs.Ballots.{is_same_ballot}
use Rattle.op_types.specs.Changes.{len_of, part_with}
use Rattle.op_types.specs.declared.ballot.Ballot.{Ballot}
use Rattle.op_types.specs.declared.changes.Change.TheVariants as change
use Rattle.op_types.specs.declared.log.Entry.{Entry}
use Rattle.op_types.specs.declared.durable.Part.{Part}
use Rattle.op_types.specs.declared.messages.Msg.{Msg}
use Rattle.op_types.specs.declared.messages.Body.{Body}
use Rattle.op_types.specs.declared.messages.Body.TheVariants as body
use Rattle.op_types.specs.Joinings.{Held}
use Rattle.op_types.specs.declared.runs.PromisedRun.{PromisedRun}
use Rattle.op_types.specs.declared.role.Promised.{Promised}
use Rattle.op_types.specs.declared.role.Buffered.{Buffered}
use Rattle.op_types.specs.declared.role.Acknowledged.{Acknowledged}
use Rattle.op_types.specs.declared.answers.Reply.{Reply}
use Rattle.op_types.specs.declared.answers.Cause.{Cause}
use Rattle.op_types.specs.declared.answers.Cause.TheVariants as cause
use Rattle.op_types.specs.declared.answers.Outcome.TheVariants as outcome
use Rattle.op_types.specs.RoleStates as state
use Rattle.op_types.specs.RoleStates.{promise_of, with_promise, with_stage, without_stage, told_by, promised_entries, staged_with, with_buffered, with_synced, without_synced, acknowledged_of, with_acknowledged}
use Rattle.op_types.specs.Roles.{Role, Idle, Preparing, Leading}
use Rattle.op_types.specs.Effects.{Effects}
use Rattle.op_quorum.specs.Quorums.{is_majority, passing}
use Rattle.op_protocol.specs.Parts.{log_from, pending, part_in_round, appending, message, messages, others, to_each, sync_bodies, is_run_to, prepare_body, saying, nothing, first, answered}
use Rattle.op_protocol.specs.Promises.{has_quorum, is_usable, Choice, own_choice, best, chosen_log, chosen_stop, chosen_len, choice_changes, fitting, left_over, dropped}

-- ---- deciding

-- the greatest length up to k that a majority has
abbrev pub backed : (ℕ → ℕ) → List ℕ → ℕ → ℕ
backed has members zero = 0
backed has members (suc k) =
    if is_majority (passing (λ q. nat_le (suc k) (has q)) members) (length members) then suc k
    else backed has members k

-- the length that a member has, as far as the leader of a log of this length knows
abbrev pub length_at : ℕ → ℕ → List Acknowledged → ℕ → ℕ
length_at me len acks q = if q == me then len else acknowledged_of acks q

-- the greatest length that a majority has, where the own log has this length
abbrev pub counted : ℕ → List ℕ → ℕ → List Acknowledged → ℕ
counted me members len acks = backed (length_at me len acks) members len

-- the others that get what is added to the log
abbrev pub synced_others : ℕ → List ℕ → state.Leading → List ℕ
synced_others me members l = filter (λ q. is_member nat_eq l.synced q) (others me members)

-- so much is decided, and each synced follower is told
abbrev pub decides : ℕ → Part → state.Leading → ℕ → Effects
decides me p l x =
    record {
      batch = change.Decided x ∷ [];
      role = Leading l;
      sends = to_each p.conf (synced_others me p.members l) (body.Decide l.ballot x);
      replies = [];
      outcome = None;
    }

-- What a majority has is decided, where the own log has this length.
-- If that is nothing new, these messages go out.
abbrev pub count : ℕ → Part → ℕ → state.Leading → List (ℕ × Msg) → Effects
count me p len l otherwise =
    if nat_lt p.decided (counted me p.members len l.acknowledged)
    then decides me p l (counted me p.members len l.acknowledged)
    else saying (Leading l) otherwise

-- ---- syncing

-- The length up to which the follower has the leader's log: what it told, where its round is the leader's or
-- it is a prefix of the log that was adopted, and otherwise what it has decided.
abbrev pub sync_start : state.Leading → Promised → ℕ
sync_start l k =
    if is_same_ballot k.accepted l.ballot
    || (is_same_ballot k.accepted l.adopted_round && nat_le k.len l.adopted_len) then k.len else k.decided

-- the follower is synced from there: the place is in the log, and isn't trimmed
abbrev pub is_synced : Part → state.Leading → Promised → Bool
is_synced p l k = nat_le p.trimmed (sync_start l k) && nat_le (sync_start l k) (len_of p)

-- what is sent to a follower that promised:
-- the log from where it may lack it; where that is trimmed, it is asked again
abbrev pub sync_sends : Part → state.Leading → Promised → List (ℕ × Msg)
sync_sends p l k =
    if nat_lt (sync_start l k) p.trimmed then message p.conf k.from (prepare_body p l.ballot) ∷ []
    else if nat_le (sync_start l k) (len_of p)
    then messages p.conf k.from (sync_bodies l.ballot (sync_start l k) (log_from p (sync_start l k)))
    else []

-- ---- adopting

-- whether a member is synced by what it promised, if it did
abbrev pub is_synced_by : Part → state.Leading → Option Promised → Bool
is_synced_by p l None = false
is_synced_by p l (Some k) = is_synced p l k

-- what is sent to it by that
abbrev pub sends_by : Part → state.Leading → Option Promised → List (ℕ × Msg)
sends_by p l None = []
sends_by p l (Some k) = sync_sends p l k

-- the leader of a ballot that has adopted a log
abbrev pub first_leading : Ballot → Choice → state.Leading
first_leading n c =
    record {
      ballot = n;
      adopted_round = c.accepted;
      adopted_len = c.len;
      synced = [];
      acknowledged = [];
      reports = [];
    }

-- the same, when those of the members are synced that promised
abbrev pub leading_with : Part → state.Leading → List Promised → state.Leading
leading_with p l promises =
    record l { synced = filter (λ q. is_synced_by p l (promise_of promises q)) p.members }

-- the log of the leader is sent to each that promised, and what a majority has is decided
abbrev pub begin_leading : ℕ → Part → state.Leading → List Promised → Effects
begin_leading me p l promises =
    first [] (flat_map (λ q. sends_by p l (promise_of promises q)) p.members) []
    (count me p (len_of p) (leading_with p l promises) [])

-- the log of the choice is adopted, with these entries of the buffer after it, in the ballot's round
abbrev pub adopt_with : ℕ → Part → state.Preparing → Choice → List Entry → Effects
adopt_with me p r c more =
    first (choice_changes p c ++ appending more ++ change.Accept r.ballot ∷ []) []
    (left_over (chosen_stop p c) (chosen_len p c) r.buffer)
    (begin_leading me (part_in_round p r.ballot (chosen_log p c ++ more))
    (first_leading r.ballot c) r.promises)

-- the log of the choice is adopted, with what of the buffer fits after it
abbrev pub adopt_choice : ℕ → Part → state.Preparing → Choice → Effects
adopt_choice me p r c = adopt_with me p r c (fitting (chosen_stop p c) (chosen_len p c) r.buffer)

-- of the own log and those that were promised, the greatest is adopted
abbrev pub adopt : ℕ → Part → state.Preparing → Effects
adopt me p r = adopt_choice me p r (best p r.promises p.members (own_choice p))

-- a node that prepares adopts as soon as it has a majority
abbrev pub prepares : ℕ → Part → state.Preparing → Effects
prepares me p r = if has_quorum me p.members r.promises then adopt me p r else nothing (Preparing r)

-- ---- giving up a role

-- who is told that what was buffered is given up
abbrev pub given_up_by : Role → Cause → List Reply
given_up_by (Preparing r) why = flat_map (λ b. dropped why b) r.buffer
given_up_by r why = []

-- ---- the rows

-- a node that begins to prepare a ballot
abbrev pub first_preparing : Ballot → state.Preparing
first_preparing n = record { ballot = n; promises = []; stages = []; buffer = [] }

-- A ballot of its own is led: it is promised, the others are asked for their promises, and the own state
-- counts as one. A node that is a majority by itself adopts at once.
abbrev pub lead : ℕ → Part → Role → Ballot → Effects
lead me p r n =
    first (change.Promise n ∷ []) (to_each p.conf (others me p.members) (prepare_body p n))
    (given_up_by r (cause.Ballot n))
    (prepares me (part_with p (change.Promise n)) (first_preparing n))

-- a promise comes: it is kept, or its sender is synced
abbrev pub on_promise : ℕ → Part → Role → Ballot → Promised → Effects
on_promise me p Idle n k = nothing Idle
on_promise me p (Preparing r) n k =
    if is_same_ballot n r.ballot && is_usable p k then prepares me p (with_promise r k)
    else nothing (Preparing r)
on_promise me p (Leading l) n k =
    if is_same_ballot n l.ballot
    then saying (Leading (if is_synced p l k then with_synced l k.from else l)) (sync_sends p l k)
    else nothing (Leading l)

-- a promise counts once all of its entries have come; its parts then leave the stage
abbrev pub promised_once : ℕ → Part → state.Preparing → ℕ → PromisedRun → Held → Option (List Entry) → Effects
promised_once me p r q part held None = nothing (Preparing (with_stage r q held))
promised_once me p r q part held (Some entries) =
    on_promise me p (Preparing (without_stage r q)) r.ballot (told_by q part entries)

-- a part of a promise is staged while the node prepares; once it leads,
-- the last part counts as a promise with no entries
abbrev pub on_promise_part : ℕ → Part → Role → ℕ → Ballot → PromisedRun → Effects
on_promise_part me p Idle q n part = nothing Idle
on_promise_part me p (Preparing r) q n part =
    if is_same_ballot n r.ballot && (nat_le part.start part.at && is_run_to part.len part.at part.run)
    then promised_once me p r q part (staged_with r q part) (promised_entries part (staged_with r q part))
    else nothing (Preparing r)
on_promise_part me p (Leading l) q n part =
    if part.at + length part.run == part.len then on_promise me p (Leading l) n (told_by q part [])
    else nothing (Leading l)

-- what is decided is told again, if anything is
abbrev pub decided_again : Part → ℕ → Ballot → List (ℕ × Msg)
decided_again p q n = if nat_lt 0 p.decided then message p.conf q (body.Decide n p.decided) ∷ [] else []

-- a follower has accepted up to a length in the leader's round
abbrev pub on_accepted : ℕ → Part → Role → ℕ → Ballot → ℕ → Effects
on_accepted me p (Leading l) q n x =
    if is_same_ballot n l.ballot && nat_le x (len_of p) then count me p (len_of p)
    (with_acknowledged l (record { from = q; len = x })) (decided_again p q l.ballot)
    else nothing (Leading l)
on_accepted me p r q n x = nothing r

-- a follower asks to be prepared
abbrev pub on_prepare_req : Part → Role → ℕ → Effects
on_prepare_req p Idle q = nothing Idle
on_prepare_req p (Preparing r) q = saying (Preparing r) (message p.conf q (prepare_body p r.ballot) ∷ [])
on_prepare_req p (Leading l) q = saying (Leading l) (message p.conf q (prepare_body p l.ballot) ∷ [])

-- a leader adds entries to its log, and sends them to each synced follower, in one message
abbrev pub extends : ℕ → Part → state.Leading → List Entry → Effects
extends me p l entries =
    first (change.Append entries ∷ [])
    (to_each p.conf (synced_others me p.members l) (body.Accept l.ballot (len_of p) entries)) []
    (count me p (len_of p + length entries) l [])

-- entries that wait in a buffer
abbrev pub waiting_as : Bool → List Entry → List Buffered
waiting_as is_own entries = map (λ e. record { entry = e; is_own = is_own }) entries

-- entries as a message for the leader
abbrev pub forward_body : List Entry → Body
forward_body [] = body.Forwards []
forward_body (e ∷ []) = body.Forward e
forward_body (e ∷ (d ∷ entries)) = body.Forwards (e ∷ d ∷ entries)

-- entries are proposed together: they are added, wait in the buffer, or go to the leader as far as is known
abbrev pub propose : ℕ → Part → Role → List Entry → Effects
propose me p Idle entries =
    answered (outcome.Forwarded p.promised.pid)
    (saying Idle (message p.conf p.promised.pid (forward_body entries) ∷ []))
propose me p (Preparing r) entries =
    answered outcome.Buffered (nothing (Preparing (with_buffered r (waiting_as true entries))))
propose me p (Leading l) entries = answered (outcome.Appended p.conf (len_of p)) (extends me p l entries)

-- a leader takes entries that were forwarded, where its log goes on and has a position for each
abbrev pub on_forward_leading : ℕ → Part → state.Leading → List Entry → Option ℕ → Effects
on_forward_leading me p l entries (Some pos) = nothing (Leading l)
on_forward_leading me p l entries None =
    if nat_le (len_of p + length entries) positions_end then extends me p l entries else nothing (Leading l)

-- proposals were forwarded together
abbrev pub on_forward : ℕ → Part → Role → List Entry → Effects
on_forward me p Idle entries = nothing Idle
on_forward me p (Preparing r) entries = nothing (Preparing (with_buffered r (waiting_as false entries)))
on_forward me p (Leading l) entries = on_forward_leading me p l entries (pending p)

-- a follower whose session ended gets nothing more until it is synced again
abbrev pub session_down : Role → ℕ → Effects
session_down (Leading l) q = nothing (Leading (without_synced l q))
session_down r q = nothing r
