-- Bytes of messages between servers, given from outside, behind the ids of the sender and the addressee.
use Rattle.std.proofs.Common.{◌++◌, ℕ, List, [], ◌∷◌, refl}
use Rattle.op_types.specs.declared.ballot.Ballot.{Ballot}
use Rattle.op_types.specs.declared.messages.Body.{Body}
use Rattle.op_types.specs.declared.messages.Body.TheVariants as variant
use Rattle.op_types.specs.declared.messages.Msg.{Msg}
use Rattle.op_types.specs.declared.messages.Watch.TheVariants as watch
use Rattle.op_fields.specs.Form.{encoded, items_read}
use Rattle.op_examples.proofs.Entries.{IsEncoded, IsRefused, with_byte, one_put, put_bytes}
use Rattle.op_msg.specs.Forms.{addressed}

-- server 2 asks server 1 for a prepare in configuration 1: 13 bytes
a_request_for_a_prepare :
    IsEncoded addressed (2, 1, record { conf = 1; body = variant.PrepareReq }) (0 ∷ 0 ∷ 0 ∷ 2 ∷ 0 ∷ 0 ∷ 0
    ∷ 1 ∷ 9 ∷ 0 ∷ 0 ∷ 0 ∷ 1 ∷ [])
unfolding encoded items_read
a_request_for_a_prepare = (refl, refl)

a_request_that_is_cut :
    IsRefused addressed (0 ∷ 0 ∷ 0 ∷ 2 ∷ 0 ∷ 0 ∷ 0 ∷ 1 ∷ 9 ∷ 0 ∷ 0 ∷ 0 ∷ []) 9
unfolding encoded items_read
a_request_that_is_cut = refl

-- ---- a promise

-- the promise of ballot 5 of server 3 by server 2, which accepted one put in ballot 4 of server 1, and has
-- decided nothing
abbrev promise : ℕ × ℕ × Msg
promise = (
  2,
  3,
  record {
    conf = 1;
    body = variant.Promise (record { number = 5; pid = 3 }) (record { number = 4; pid = 1 }) 1 0 0
        (one_put ∷ []);
  },
)

-- its bytes
abbrev promise_bytes : List ℕ
promise_bytes =
    (0 ∷ 0 ∷ 0 ∷ 2 ∷ 0 ∷ 0 ∷ 0 ∷ 3 ∷ 4 ∷ 0 ∷ 0 ∷ 0 ∷ 1 ∷ 0 ∷ 0 ∷ 0 ∷ 0 ∷ 0 ∷ 0 ∷ 0 ∷ 5 ∷ 0 ∷ 0 ∷ 0 ∷ 3 ∷ 0
    ∷ 0 ∷ 0 ∷ 0 ∷ 0 ∷ 0 ∷ 0 ∷ 4 ∷ 0 ∷ 0 ∷ 0 ∷ 1 ∷ 0 ∷ 0 ∷ 0 ∷ 0 ∷ 0 ∷ 0 ∷ 0 ∷ 1 ∷ 0 ∷ 0 ∷ 0 ∷ 0 ∷ 0 ∷ 0 ∷
    0 ∷ 0 ∷ 0 ∷ 0 ∷ 0 ∷ 0 ∷ 0 ∷ 0 ∷ 0 ∷ 0 ∷ 0 ∷ 0 ∷ 0 ∷ 0 ∷ 0 ∷ 0 ∷ 0 ∷ 1 ∷ []) ++ put_bytes

a_promise :
    IsEncoded addressed promise promise_bytes
unfolding encoded items_read
a_promise = (refl, refl)

-- one other byte in it, and the place that is then named
promises_with_another_byte :
    (IsRefused addressed (with_byte 3 0 promise_bytes) 0) ×
    (IsRefused addressed (with_byte 6 4 promise_bytes) 4) ×
    (IsRefused addressed (with_byte 8 12 promise_bytes) 25) ×
    (IsRefused addressed (with_byte 8 29 promise_bytes) 8) ×
    (IsRefused addressed (with_byte 8 28 promise_bytes) 21) ×
    (IsRefused addressed (with_byte 24 0 promise_bytes) 21) ×
    (IsRefused addressed (with_byte 37 64 promise_bytes) 37) ×
    (IsRefused addressed (with_byte 61 65 promise_bytes) 61) ×
    (IsRefused addressed (with_byte 69 2 promise_bytes) 74) ×
    (IsRefused addressed (with_byte 69 3 promise_bytes) 69) ×
    (IsRefused addressed (with_byte 87 0 promise_bytes) 87)
unfolding encoded items_read
promises_with_another_byte = (refl, refl, refl, refl, refl, refl, refl, refl, refl, refl, refl)

-- a byte left over
a_promise_and_more :
    IsRefused addressed (promise_bytes ++ (0 ∷ [])) 92
unfolding encoded items_read
a_promise_and_more = refl

-- ---- messages from 2 to 3 in configuration 4

-- this is said in these bytes
abbrev Says : Body → List ℕ → Type 0
Says what bytes = IsEncoded addressed (2, 3, record { conf = 4; body = what })
    ((0 ∷ 0 ∷ 0 ∷ 2 ∷ 0 ∷ 0 ∷ 0 ∷ 3 ∷ []) ++ bytes)

-- the ballot of number 5 and owner 3
abbrev leader : Ballot
leader = record { number = 5; pid = 3 }

-- a wish to know how much can be trimmed
a_trim_ask :
    Says (variant.TrimAsk leader) (12 ∷ 0 ∷ 0 ∷ 0 ∷ 4 ∷ 0 ∷ 0 ∷ 0 ∷ 0 ∷ 0 ∷ 0 ∷ 0 ∷ 5 ∷ 0 ∷ 0 ∷ 0 ∷ 3 ∷
    [])
unfolding encoded items_read
a_trim_ask = (refl, refl)

-- how much is decided
a_progress :
    Says (variant.Progress leader 9) (13 ∷ 0 ∷ 0 ∷ 0 ∷ 4 ∷ 0 ∷ 0 ∷ 0 ∷ 0 ∷ 0 ∷ 0 ∷ 0 ∷ 5 ∷ 0 ∷ 0 ∷ 0 ∷ 3 ∷
    0 ∷ 0 ∷ 0 ∷ 0 ∷ 0 ∷ 0 ∷ 0 ∷ 9 ∷ [])
unfolding encoded items_read
a_progress = (refl, refl)

-- how much is trimmed
a_trim :
    Says (variant.Trim 258) (14 ∷ 0 ∷ 0 ∷ 0 ∷ 4 ∷ 0 ∷ 0 ∷ 0 ∷ 0 ∷ 0 ∷ 0 ∷ 1 ∷ 2 ∷ [])
unfolding encoded items_read
a_trim = (refl, refl)

-- the next members, those before, the length of the closed list, and how much of it is trimmed
a_next_configuration :
    Says (variant.NextConf (1 ∷ 4 ∷ []) (1 ∷ []) 7 6) (15 ∷ 0 ∷ 0 ∷ 0 ∷ 4 ∷ 2 ∷ 0 ∷ 0 ∷ 0 ∷ 1 ∷ 0 ∷ 0 ∷ 0
    ∷ 4 ∷ 1 ∷ 0 ∷ 0 ∷ 0 ∷ 1 ∷ 0 ∷ 0 ∷ 0 ∷ 0 ∷ 0 ∷ 0 ∷ 0 ∷ 7 ∷ 0 ∷ 0 ∷ 0 ∷ 0 ∷ 0 ∷ 0 ∷ 0 ∷ 6 ∷ [])
unfolding encoded items_read
a_next_configuration = (refl, refl)

-- a wish for a base
an_ask_for_a_base :
    Says variant.AskBase (16 ∷ 0 ∷ 0 ∷ 0 ∷ 4 ∷ [])
unfolding encoded items_read
an_ask_for_a_base = (refl, refl)

-- a base at a position
a_base :
    Says (variant.BasePart 6 (97 ∷ 98 ∷ [])) (17 ∷ 0 ∷ 0 ∷ 0 ∷ 4 ∷ 0 ∷ 0 ∷ 0 ∷ 0 ∷ 0 ∷ 0 ∷ 0 ∷ 6 ∷ 0 ∷ 0 ∷
    0 ∷ 0 ∷ 0 ∷ 0 ∷ 0 ∷ 2 ∷ 97 ∷ 98 ∷ [])
unfolding encoded items_read
a_base = (refl, refl)

-- a wish for entries
an_ask_for_a_segment :
    Says (variant.AskSegment 6 7) (18 ∷ 0 ∷ 0 ∷ 0 ∷ 4 ∷ 0 ∷ 0 ∷ 0 ∷ 0 ∷ 0 ∷ 0 ∷ 0 ∷ 6 ∷ 0 ∷ 0 ∷ 0 ∷ 0 ∷ 0
    ∷ 0 ∷ 0 ∷ 7 ∷ [])
unfolding encoded items_read
an_ask_for_a_segment = (refl, refl)

-- entries at a position
a_segment :
    Says (variant.Segment 6 (one_put ∷ [])) ((19 ∷ 0 ∷ 0 ∷ 0 ∷ 4 ∷ 0 ∷ 0 ∷ 0 ∷ 0 ∷ 0 ∷ 0 ∷ 0 ∷ 6 ∷ 0 ∷ 0 ∷
    0 ∷ 0 ∷ 0 ∷ 0 ∷ 0 ∷ 1 ∷ []) ++ put_bytes)
unfolding encoded items_read
a_segment = (refl, refl)

-- a part of a promise
a_part_of_a_promise :
    Says (variant.PromisePart leader (record {
      accepted = record { number = 4; pid = 2 };
      len = 9;
      decided
          = 1;
      start = 6;
      at = 7;
      run = one_put ∷ [];
    })) ((20 ∷ 0 ∷ 0 ∷ 0 ∷ 4 ∷ 0 ∷ 0 ∷ 0 ∷ 0 ∷ 0 ∷ 0 ∷ 0 ∷ 5 ∷
    0 ∷ 0 ∷ 0 ∷ 3 ∷ 0 ∷ 0 ∷ 0 ∷ 0 ∷ 0 ∷ 0 ∷ 0 ∷ 4 ∷ 0 ∷ 0 ∷ 0 ∷ 2 ∷ 0 ∷ 0 ∷ 0 ∷ 0 ∷ 0 ∷ 0 ∷ 0 ∷ 9 ∷ 0 ∷ 0
    ∷ 0 ∷ 0 ∷ 0 ∷ 0 ∷ 0 ∷ 1 ∷ 0 ∷ 0 ∷ 0 ∷ 0 ∷ 0 ∷ 0 ∷ 0 ∷ 6 ∷ 0 ∷ 0 ∷ 0 ∷ 0 ∷ 0 ∷ 0 ∷ 0 ∷ 7 ∷ 0 ∷ 0 ∷ 0 ∷
    0 ∷ 0 ∷ 0 ∷ 0 ∷ 1 ∷ []) ++ put_bytes)
unfolding encoded items_read
a_part_of_a_promise = (refl, refl)

-- a part of an AcceptSync
a_part_of_an_accept_sync :
    Says (variant.AcceptSyncPart leader (record {
      start = 6;
      end = 9;
      at = 7;
      run = one_put ∷ one_put ∷ [];
    })) ((21 ∷ 0 ∷ 0 ∷ 0 ∷ 4 ∷ 0 ∷ 0 ∷ 0 ∷ 0 ∷ 0 ∷ 0 ∷ 0 ∷ 5 ∷ 0 ∷ 0 ∷ 0 ∷ 3 ∷ 0 ∷ 0 ∷ 0 ∷ 0 ∷ 0 ∷ 0 ∷ 0 ∷
    6 ∷ 0 ∷ 0 ∷ 0 ∷ 0 ∷ 0 ∷ 0 ∷ 0 ∷ 9 ∷ 0 ∷ 0 ∷ 0 ∷ 0 ∷ 0 ∷ 0 ∷ 0 ∷ 7 ∷ 0 ∷ 0 ∷ 0 ∷ 0 ∷ 0 ∷ 0 ∷ 0 ∷ 2 ∷
    []) ++ (put_bytes ++ put_bytes))
unfolding encoded items_read
a_part_of_an_accept_sync = (refl, refl)

-- a piece of a base
a_piece_of_a_base :
    Says (variant.BasePiece (record { at = 6; total = 258; from = 256; bytes = 97 ∷ 98 ∷ [] })) (22 ∷ 0 ∷
    0 ∷ 0 ∷ 4 ∷ 0 ∷ 0 ∷ 0 ∷ 0 ∷ 0 ∷ 0 ∷ 0 ∷ 6 ∷ 0 ∷ 0 ∷ 0 ∷ 0 ∷ 0 ∷ 0 ∷ 1 ∷ 2 ∷ 0 ∷ 0 ∷ 0 ∷ 0 ∷ 0 ∷ 0 ∷ 1
    ∷ 0 ∷ 0 ∷ 0 ∷ 0 ∷ 0 ∷ 0 ∷ 0 ∷ 0 ∷ 2 ∷ 97 ∷ 98 ∷ [])
unfolding encoded items_read
a_piece_of_a_base = (refl, refl)

-- a read is to be confirmed
a_confirm :
    Says (variant.Confirm leader 258) (23 ∷ 0 ∷ 0 ∷ 0 ∷ 4 ∷ 0 ∷ 0 ∷ 0 ∷ 0 ∷ 0 ∷ 0 ∷ 0 ∷ 5 ∷ 0 ∷ 0 ∷ 0 ∷ 3
    ∷ 0 ∷ 0 ∷ 0 ∷ 0 ∷ 0 ∷ 0 ∷ 1 ∷ 2 ∷ [])
unfolding encoded items_read
a_confirm = (refl, refl)

-- it is
a_confirmed :
    Says (variant.Confirmed leader 1) (24 ∷ 0 ∷ 0 ∷ 0 ∷ 4 ∷ 0 ∷ 0 ∷ 0 ∷ 0 ∷ 0 ∷ 0 ∷ 0 ∷ 5 ∷ 0 ∷ 0 ∷ 0 ∷ 3
    ∷ 0 ∷ 0 ∷ 0 ∷ 0 ∷ 0 ∷ 0 ∷ 0 ∷ 1 ∷ [])
unfolding encoded items_read
a_confirmed = (refl, refl)

-- an observer asks for what is decided behind 258 entries
an_observer_asks :
    Says (variant.Watch (watch.Ask 258)) (25 ∷ 0 ∷ 0 ∷ 0 ∷ 4 ∷ 0 ∷ 0 ∷ 0 ∷ 0 ∷ 0 ∷ 0 ∷ 1 ∷ 2 ∷ [])
unfolding encoded items_read
an_observer_asks = (refl, refl)

-- it is shown an entry at a position
an_entry_is_shown :
    Says (variant.Watch (watch.Shown 6 (one_put ∷ []))) ((26 ∷ 0 ∷ 0 ∷ 0 ∷ 4 ∷ 0 ∷ 0 ∷ 0 ∷ 0 ∷ 0 ∷ 0 ∷ 0 ∷
    6 ∷ 0 ∷ 0 ∷ 0 ∷ 0 ∷ 0 ∷ 0 ∷ 0 ∷ 1 ∷ []) ++ put_bytes)
unfolding encoded items_read
an_entry_is_shown = (refl, refl)

-- or a piece of the base there, of a configuration with members 1 and 4
a_base_is_shown :
    Says (variant.Watch (watch.Base (1 ∷ 4 ∷ []) (record {
      at = 6;
      total = 258;
      from = 256;
      bytes = 97 ∷ 98 ∷ [];
    }))) (27 ∷ 0 ∷ 0 ∷ 0 ∷ 4 ∷ 2 ∷ 0 ∷ 0 ∷ 0 ∷ 1 ∷ 0 ∷ 0 ∷ 0 ∷ 4 ∷ 0 ∷ 0 ∷ 0 ∷ 0 ∷ 0 ∷ 0 ∷ 0 ∷ 6 ∷ 0 ∷ 0 ∷
    0 ∷ 0 ∷ 0 ∷ 0 ∷ 1 ∷ 2 ∷ 0 ∷ 0 ∷ 0 ∷ 0 ∷ 0 ∷ 0 ∷ 1 ∷ 0 ∷ 0 ∷ 0 ∷ 0 ∷ 0 ∷ 0 ∷ 0 ∷ 0 ∷ 2 ∷ 97 ∷ 98 ∷ [])
unfolding encoded items_read
a_base_is_shown = (refl, refl)

-- two commands together
forwarded_commands :
    Says (variant.Forwards (one_put ∷ one_put ∷ [])) ((28 ∷ 0 ∷ 0 ∷ 0 ∷ 4 ∷ 0 ∷ 0 ∷ 0 ∷ 0 ∷ 0 ∷ 0 ∷ 0 ∷ 2
    ∷ []) ++ (put_bytes ++ put_bytes))
unfolding encoded items_read
forwarded_commands = (refl, refl)

-- these bytes are no message's: the first bad field is at this place
abbrev IsBad : List ℕ → ℕ → Type 0
IsBad bytes at = IsRefused addressed ((0 ∷ 0 ∷ 0 ∷ 2 ∷ 0 ∷ 0 ∷ 0 ∷ 3 ∷ []) ++ bytes) at

-- tags that no message has
no_tags :
    (IsBad (0 ∷ 0 ∷ 0 ∷ 0 ∷ 4 ∷ []) 8) ×
    (IsBad (29 ∷ 0 ∷ 0 ∷ 0 ∷ 4 ∷ []) 8)
unfolding encoded items_read
no_tags = (refl, refl)

-- a length above 2^62; no members; no bytes of a base
nothing_for_observers :
    (IsBad (25 ∷ 0 ∷ 0 ∷ 0 ∷ 4 ∷ 64 ∷ 0 ∷ 0 ∷ 0 ∷ 0 ∷ 0 ∷ 0 ∷ 1 ∷ []) 13) ×
    (IsBad (27 ∷ 0 ∷ 0 ∷ 0 ∷ 4 ∷ 0 ∷ []) 13) ×
    (IsBad (27 ∷ 0 ∷ 0 ∷ 0 ∷ 4 ∷ 1 ∷ 0 ∷ 0 ∷ 0 ∷ 1 ∷ 0 ∷ 0 ∷ 0 ∷ 0 ∷ 0 ∷ 0 ∷ 0 ∷ 6 ∷ 0 ∷ 0 ∷ 0 ∷ 0 ∷ 0 ∷ 0 ∷
    1 ∷ 2 ∷ 0 ∷ 0 ∷ 0 ∷ 0 ∷ 0 ∷ 0 ∷ 1 ∷ 0 ∷ 0 ∷ 0 ∷ 0 ∷ 0 ∷ 0 ∷ 0 ∷ 0 ∷ 0 ∷ []) 42)
unfolding encoded items_read
nothing_for_observers = (refl, refl, refl)

-- news of the first configuration; an empty list; no members
no_next_configurations :
    (IsBad (15 ∷ 0 ∷ 0 ∷ 0 ∷ 1 ∷ 1 ∷ 0 ∷ 0 ∷ 0 ∷ 1 ∷ []) 9) ×
    (IsBad (15 ∷ 0 ∷ 0 ∷ 0 ∷ 4 ∷ 1 ∷ 0 ∷ 0 ∷ 0 ∷ 1 ∷ 1 ∷ 0 ∷ 0 ∷ 0 ∷ 1 ∷ 0 ∷ 0 ∷ 0 ∷ 0 ∷ 0 ∷ 0 ∷ 0 ∷ 0 ∷ 0
    ∷ 0 ∷ 0 ∷ 0 ∷ 0 ∷ 0 ∷ 0 ∷ 0 ∷ []) 23) ×
    (IsBad (15 ∷ 0 ∷ 0 ∷ 0 ∷ 4 ∷ 0 ∷ []) 13)
unfolding encoded items_read
no_next_configurations = (refl, refl, refl)

-- more bytes than there are
no_base :
    IsBad (17 ∷ 0 ∷ 0 ∷ 0 ∷ 4 ∷ 0 ∷ 0 ∷ 0 ∷ 0 ∷ 0 ∷ 0 ∷ 0 ∷ 6 ∷ 0 ∷ 0 ∷ 0 ∷ 0 ∷ 0 ∷ 0 ∷ 0 ∷ 2 ∷ 97 ∷ [])
    21
unfolding encoded items_read
no_base = refl

-- the number 0 of a read
no_read :
    IsBad (23 ∷ 0 ∷ 0 ∷ 0 ∷ 4 ∷ 0 ∷ 0 ∷ 0 ∷ 0 ∷ 0 ∷ 0 ∷ 0 ∷ 5 ∷ 0 ∷ 0 ∷ 0 ∷ 3 ∷ 0 ∷ 0 ∷ 0 ∷ 0 ∷ 0 ∷ 0 ∷ 0
    ∷ 0 ∷ []) 25
unfolding encoded items_read
no_read = refl

-- one command alone; a stop-sign among commands
no_commands :
    (IsBad ((28 ∷ 0 ∷ 0 ∷ 0 ∷ 4 ∷ 0 ∷ 0 ∷ 0 ∷ 0 ∷ 0 ∷ 0 ∷ 0 ∷ 1 ∷ []) ++ put_bytes) 13) ×
    (IsBad ((28 ∷ 0 ∷ 0 ∷ 0 ∷ 4 ∷ 0 ∷ 0 ∷ 0 ∷ 0 ∷ 0 ∷ 0 ∷ 0 ∷ 2 ∷ 2 ∷ 0 ∷ 0 ∷ 0 ∷ 5 ∷ 1 ∷ 0 ∷ 0 ∷ 0 ∷ 1 ∷
    []) ++ put_bytes) 21)
unfolding encoded items_read
no_commands = (refl, refl)

-- a byte left over
a_byte_too_much :
    IsBad (16 ∷ 0 ∷ 0 ∷ 0 ∷ 4 ∷ 0 ∷ []) 13
unfolding encoded items_read
a_byte_too_much = refl
