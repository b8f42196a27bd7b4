-- Bytes of requests and of replies, given from outside. The texts are `a` (97), `b` (98) and `x` (120).
use Rattle.std.proofs.Common.{◌++◌, ℕ, List, [], ◌∷◌, refl}
use Rattle.op_types.specs.declared.log.Op.{Op}
use Rattle.op_types.specs.declared.log.Op.TheVariants.{Put, Del, Get, Cas}
use Rattle.op_types.specs.declared.events.Request.{Request}
use Rattle.op_types.specs.declared.events.Request.TheVariants as request
use Rattle.op_types.specs.declared.answers.Refusal.TheVariants as refusal
use Rattle.op_types.specs.declared.answers.Outcome.TheVariants as outcome
use Rattle.op_types.specs.declared.answers.Cause.TheVariants as cause
use Rattle.op_types.specs.declared.answers.Answer.TheVariants as answer
use Rattle.op_fields.specs.Form.{encoded, items_read}
use Rattle.op_examples.proofs.Entries.{IsEncoded, IsRefused, put_bytes}
use Rattle.op_command.specs.declared.said.Said.{Said}
use Rattle.op_command.specs.declared.said.Said.TheVariants as said
use Rattle.op_command.specs.Requests.{request_form}
use Rattle.op_command.specs.Replies.{reply_form}

-- ---- requests

-- a command of client 7
abbrev command : ℕ → Op → Request
command seq op = request.Command (record { client = 7; seq = seq; op = op })

-- a put
a_put :
    IsEncoded request_form (command 1 (Put (97 ∷ []) (120 ∷ []))) put_bytes
unfolding encoded items_read
a_put = (refl, refl)

-- a delete
a_delete :
    IsEncoded request_form (command 2 (Del (97 ∷ []))) (1 ∷ 0 ∷ 0 ∷ 0 ∷ 0 ∷ 0 ∷ 0 ∷ 0 ∷ 7 ∷ 0 ∷ 0 ∷ 0 ∷ 0
    ∷ 0 ∷ 0 ∷ 0 ∷ 2 ∷ 2 ∷ 1 ∷ 97 ∷ [])
unfolding encoded items_read
a_delete = (refl, refl)

-- a get
a_get :
    IsEncoded request_form (command 3 (Get (97 ∷ []))) (1 ∷ 0 ∷ 0 ∷ 0 ∷ 0 ∷ 0 ∷ 0 ∷ 0 ∷ 7 ∷ 0 ∷ 0 ∷ 0 ∷ 0
    ∷ 0 ∷ 0 ∷ 0 ∷ 3 ∷ 3 ∷ 1 ∷ 97 ∷ [])
unfolding encoded items_read
a_get = (refl, refl)

-- a cas that replaces `x` by nothing
a_replacement :
    IsEncoded request_form (command 4 (Cas (97 ∷ []) (120 ∷ []) [])) (1 ∷ 0 ∷ 0 ∷ 0 ∷ 0 ∷ 0 ∷ 0 ∷ 0 ∷ 7 ∷
    0 ∷ 0 ∷ 0 ∷ 0 ∷ 0 ∷ 0 ∷ 0 ∷ 4 ∷ 4 ∷ 1 ∷ 97 ∷ 0 ∷ 1 ∷ 120 ∷ 0 ∷ 0 ∷ [])
unfolding encoded items_read
a_replacement = (refl, refl)

-- read 2 of client 7, of `b`
a_read :
    IsEncoded request_form (request.Read (record { client = 7; seq = 2; key = 98 ∷ [] })) (6 ∷ 0 ∷ 0 ∷ 0 ∷
    0 ∷ 0 ∷ 0 ∷ 0 ∷ 7 ∷ 0 ∷ 0 ∷ 0 ∷ 0 ∷ 0 ∷ 0 ∷ 0 ∷ 2 ∷ 1 ∷ 98 ∷ [])
unfolding encoded items_read
a_read = (refl, refl)

-- a stop, with the next members
a_stop :
    IsEncoded request_form (request.Stop (1 ∷ 2 ∷ 5 ∷ [])) (2 ∷ 3 ∷ 0 ∷ 0 ∷ 0 ∷ 1 ∷ 0 ∷ 0 ∷ 0 ∷ 2 ∷ 0 ∷ 0
    ∷ 0 ∷ 5 ∷ [])
unfolding encoded items_read
a_stop = (refl, refl)

a_trim :
    IsEncoded request_form request.Trim (3 ∷ [])
unfolding encoded items_read
a_trim = (refl, refl)

a_status :
    IsEncoded request_form request.Status (4 ∷ [])
unfolding encoded items_read
a_status = (refl, refl)

an_end :
    IsEncoded request_form request.End (5 ∷ [])
unfolding encoded items_read
an_end = (refl, refl)

-- no bytes; tags that are none; a byte left over
no_requests :
    (IsRefused request_form [] 0) ×
    (IsRefused request_form (0 ∷ 0 ∷ 0 ∷ 0 ∷ []) 0) ×
    (IsRefused request_form (7 ∷ []) 0) ×
    (IsRefused request_form (3 ∷ 0 ∷ []) 1) ×
    (IsRefused request_form (4 ∷ 0 ∷ []) 1)
unfolding encoded items_read
no_requests = (refl, refl, refl, refl, refl)

-- the number 0; a key above the bytes
no_commands :
    (IsRefused request_form (1 ∷ 0 ∷ 0 ∷ 0 ∷ 0 ∷ 0 ∷ 0 ∷ 0 ∷ 7 ∷ 0 ∷ 0 ∷ 0 ∷ 0 ∷ 0 ∷ 0 ∷ 0 ∷ 0 ∷ 1 ∷ [])
    9) ×
    (IsRefused request_form (1 ∷ 0 ∷ 0 ∷ 0 ∷ 0 ∷ 0 ∷ 0 ∷ 0 ∷ 7 ∷ 0 ∷ 0 ∷ 0 ∷ 0 ∷ 0 ∷ 0 ∷ 0 ∷ 1 ∷ 1 ∷ 65 ∷
    []) 18)
unfolding encoded items_read
no_commands = (refl, refl)

-- nothing behind the tag; the number 0; an empty key
no_reads :
    (IsRefused request_form (6 ∷ []) 1) ×
    (IsRefused request_form (6 ∷ 0 ∷ 0 ∷ 0 ∷ 0 ∷ 0 ∷ 0 ∷ 0 ∷ 7 ∷ 0 ∷ 0 ∷ 0 ∷ 0 ∷ 0 ∷ 0 ∷ 0 ∷ 0 ∷ 1 ∷ 98 ∷
    []) 9) ×
    (IsRefused request_form (6 ∷ 0 ∷ 0 ∷ 0 ∷ 0 ∷ 0 ∷ 0 ∷ 0 ∷ 7 ∷ 0 ∷ 0 ∷ 0 ∷ 0 ∷ 0 ∷ 0 ∷ 0 ∷ 2 ∷ 0 ∷ [])
    17)
unfolding encoded items_read
no_reads = (refl, refl, refl)

-- no members; 32 of them; the same one twice; a byte left over
no_stops :
    (IsRefused request_form (2 ∷ 0 ∷ []) 1) ×
    (IsRefused request_form (2 ∷ 32 ∷ 0 ∷ 0 ∷ 0 ∷ 1 ∷ []) 1) ×
    (IsRefused request_form (2 ∷ 2 ∷ 0 ∷ 0 ∷ 0 ∷ 5 ∷ 0 ∷ 0 ∷ 0 ∷ 5 ∷ []) 6) ×
    (IsRefused request_form (2 ∷ 1 ∷ 0 ∷ 0 ∷ 0 ∷ 1 ∷ 0 ∷ []) 6)
unfolding encoded items_read
no_stops = (refl, refl, refl, refl)

-- ---- replies

-- the client 7 and the number 1, before what is said
abbrev head : List ℕ
head =
    0 ∷ 0 ∷ 0 ∷ 0 ∷ 0 ∷ 0 ∷ 0 ∷ 7 ∷ 0 ∷ 0 ∷ 0 ∷ 0 ∷ 0 ∷ 0 ∷ 0 ∷ 1 ∷ []

-- this is said of command 1 of client 7 in these bytes
abbrev Says : Said → List ℕ → Type 0
Says what bytes = IsEncoded reply_form (record { client = 7; seq = 1; said = what }) (head ++ bytes)

-- a done, a value, an absent and a stale
answers :
    (Says (said.Answer answer.Done) (1 ∷ [])) ×
    (Says (said.Answer (answer.Value (120 ∷ []))) (2 ∷ 0 ∷ 1 ∷ 120 ∷ [])) ×
    (Says (said.Answer answer.Absent) (3 ∷ [])) ×
    (Says (said.Answer answer.Stale) (4 ∷ []))
unfolding encoded items_read
answers = ((refl, refl), (refl, refl), (refl, refl), (refl, refl))

-- it is given up for a ballot, for a stop-sign, and at the end
dropped :
    (Says (said.Answer (answer.Dropped (cause.Ballot (record { number = 3; pid = 2 })))) (5 ∷ 1 ∷ 0 ∷ 0 ∷
    0 ∷ 0 ∷ 0 ∷ 0 ∷ 0 ∷ 3 ∷ 0 ∷ 0 ∷ 0 ∷ 2 ∷ [])) ×
    (Says (said.Answer (answer.Dropped (cause.Stop 9))) (5 ∷ 2 ∷ 0 ∷ 0 ∷ 0 ∷ 0 ∷ 0 ∷ 0 ∷ 0 ∷ 9 ∷ [])) ×
    (Says (said.Answer (answer.Dropped cause.End)) (5 ∷ 3 ∷ []))
unfolding encoded items_read
dropped = ((refl, refl), (refl, refl), (refl, refl))

-- a disk that failed, a stop-sign that waits, no leader, the end of positions, and no memory
refused :
    (Says (said.Outcome (outcome.Refused (refusal.StorageFailed 258))) (6 ∷ 1 ∷ 0 ∷ 0 ∷ 0 ∷ 0 ∷ 0 ∷ 0 ∷ 1
    ∷ 2 ∷ [])) ×
    (Says (said.Outcome (outcome.Refused (refusal.PendingStop 9))) (6 ∷ 2 ∷ 0 ∷ 0 ∷ 0 ∷ 0 ∷ 0 ∷ 0 ∷ 0 ∷ 9
    ∷ [])) ×
    (Says (said.Outcome (outcome.Refused refusal.NoLeader)) (6 ∷ 3 ∷ [])) ×
    (Says (said.Outcome (outcome.Refused refusal.PositionsEnd)) (6 ∷ 4 ∷ [])) ×
    (Says said.RefusedMemory (6 ∷ 5 ∷ []))
unfolding encoded items_read
refused = ((refl, refl), (refl, refl), (refl, refl), (refl, refl), (refl, refl))

-- what becomes of a proposal
outcomes :
    (Says (said.Outcome (outcome.Appended 1 260)) (7 ∷ 0 ∷ 0 ∷ 0 ∷ 1 ∷ 0 ∷ 0 ∷ 0 ∷ 0 ∷ 0 ∷ 0 ∷ 1 ∷ 4 ∷
    [])) ×
    (Says (said.Outcome outcome.Buffered) (8 ∷ [])) ×
    (Says (said.Outcome (outcome.Forwarded 999)) (9 ∷ 0 ∷ 0 ∷ 3 ∷ 231 ∷ [])) ×
    (Says (said.Outcome outcome.Asked) (10 ∷ [])) ×
    (Says (said.Outcome outcome.NotLeading) (11 ∷ []))
unfolding encoded items_read
outcomes = ((refl, refl), (refl, refl), (refl, refl), (refl, refl), (refl, refl))

-- a node's line, the end, a request that is bad at a place, and a stop that names a stranger
others :
    (Says (said.Status (110 ∷ 111 ∷ 100 ∷ 101 ∷ 32 ∷ 49 ∷ 32 ∷ 115 ∷ 112 ∷ 97 ∷ 114 ∷ 101 ∷ [])) (12 ∷ 0 ∷
    12 ∷ 110 ∷ 111 ∷ 100 ∷ 101 ∷ 32 ∷ 49 ∷ 32 ∷ 115 ∷ 112 ∷ 97 ∷ 114 ∷ 101 ∷ [])) ×
    (Says said.Ended (13 ∷ [])) ×
    (Says (said.BadRequest 65536) (14 ∷ 0 ∷ 0 ∷ 0 ∷ 0 ∷ 0 ∷ 1 ∷ 0 ∷ 0 ∷ [])) ×
    (Says (said.Stranger 9) (15 ∷ 0 ∷ 0 ∷ 0 ∷ 9 ∷ []))
unfolding encoded items_read
others = ((refl, refl), (refl, refl), (refl, refl), (refl, refl))

-- a client without a number, and a number without a client
not_asked :
    (IsRefused reply_form (0 ∷ 0 ∷ 0 ∷ 0 ∷ 0 ∷ 0 ∷ 0 ∷ 7 ∷ 0 ∷ 0 ∷ 0 ∷ 0 ∷ 0 ∷ 0 ∷ 0 ∷ 0 ∷ 1 ∷ []) 8) ×
    (IsRefused reply_form (0 ∷ 0 ∷ 0 ∷ 0 ∷ 0 ∷ 0 ∷ 0 ∷ 0 ∷ 0 ∷ 0 ∷ 0 ∷ 0 ∷ 0 ∷ 0 ∷ 0 ∷ 1 ∷ 1 ∷ []) 8)
unfolding encoded items_read
not_asked = (refl, refl)

-- a tag that is none; bytes left over; a value above the limit; refusals that are none; a line that is cut
not_said :
    (IsRefused reply_form (0 ∷ 0 ∷ 0 ∷ 0 ∷ 0 ∷ 0 ∷ 0 ∷ 0 ∷ 0 ∷ 0 ∷ 0 ∷ 0 ∷ 0 ∷ 0 ∷ 0 ∷ 0 ∷ 16 ∷ []) 16) ×
    (IsRefused reply_form (0 ∷ 0 ∷ 0 ∷ 0 ∷ 0 ∷ 0 ∷ 0 ∷ 0 ∷ 0 ∷ 0 ∷ 0 ∷ 0 ∷ 0 ∷ 0 ∷ 0 ∷ 0 ∷ 10 ∷ 0 ∷ [])
    17) ×
    (IsRefused reply_form (0 ∷ 0 ∷ 0 ∷ 0 ∷ 0 ∷ 0 ∷ 0 ∷ 0 ∷ 0 ∷ 0 ∷ 0 ∷ 0 ∷ 0 ∷ 0 ∷ 0 ∷ 0 ∷ 13 ∷ 0 ∷ [])
    17) ×
    (IsRefused reply_form (0 ∷ 0 ∷ 0 ∷ 0 ∷ 0 ∷ 0 ∷ 0 ∷ 0 ∷ 0 ∷ 0 ∷ 0 ∷ 0 ∷ 0 ∷ 0 ∷ 0 ∷ 0 ∷ 2 ∷ 16 ∷ 1 ∷
    []) 17) ×
    (IsRefused reply_form (0 ∷ 0 ∷ 0 ∷ 0 ∷ 0 ∷ 0 ∷ 0 ∷ 0 ∷ 0 ∷ 0 ∷ 0 ∷ 0 ∷ 0 ∷ 0 ∷ 0 ∷ 0 ∷ 6 ∷ 0 ∷ []) 17)
    ×
    (IsRefused reply_form (0 ∷ 0 ∷ 0 ∷ 0 ∷ 0 ∷ 0 ∷ 0 ∷ 0 ∷ 0 ∷ 0 ∷ 0 ∷ 0 ∷ 0 ∷ 0 ∷ 0 ∷ 0 ∷ 6 ∷ 1 ∷ 0 ∷ [])
    18) ×
    (IsRefused reply_form (0 ∷ 0 ∷ 0 ∷ 0 ∷ 0 ∷ 0 ∷ 0 ∷ 0 ∷ 0 ∷ 0 ∷ 0 ∷ 0 ∷ 0 ∷ 0 ∷ 0 ∷ 0 ∷ 12 ∷ 0 ∷ 2 ∷ 97
    ∷ []) 17)
unfolding encoded items_read
not_said = (refl, refl, refl, refl, refl, refl, refl)
