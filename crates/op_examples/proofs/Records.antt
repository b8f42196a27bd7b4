-- Bodies of records, given from outside.
use Rattle.std.proofs.Common.{◌++◌, ℕ, List, [], ◌∷◌, Some, None, true, refl}
use Rattle.op_types.specs.declared.changes.Change.TheVariants as variant
use Rattle.op_types.specs.declared.log.Entry.TheVariants as entries
use Rattle.op_fields.specs.Form.{encoded, items_read}
use Rattle.op_kv.specs.Rising.{rising_read}
use Rattle.op_types.specs.declared.log.Op.TheVariants.{Forget}
use Rattle.op_examples.proofs.Entries.{IsEncoded, IsRefused, with_byte, asked, one_put, put_bytes}
use Rattle.op_record.specs.declared.body.Rec.{Rec}
use Rattle.op_record.specs.declared.body.Rec.TheVariants.{Whole, Step}
use Rattle.op_record.specs.Forms.{body}
use Rattle.op_record.specs.Versions.{first_body}

-- the base of a service with no pairs and no clients
abbrev no_pairs : List ℕ
no_pairs =
    0 ∷ 0 ∷ 0 ∷ 0 ∷ 0 ∷ 0 ∷ 0 ∷ 0 ∷ 0 ∷ 0 ∷ 0 ∷ 0 ∷ 0 ∷ 0 ∷ 0 ∷ 0 ∷ []

-- its length, and the base
abbrev counted_base : List ℕ
counted_base =
    (0 ∷ 0 ∷ 0 ∷ 0 ∷ 0 ∷ 0 ∷ 0 ∷ 16 ∷ []) ++ no_pairs

-- ---- a durable state

-- what the sole member 1 stores at first
abbrev first : Rec
first = Whole (record {
  part = Some (record {
    conf = 1;
    members = 1 ∷ [];
    promised = record { number = 0; pid = 0 };
    accepted = record { number = 0; pid = 0 };
    base = no_pairs;
    trimmed = 0;
    tail = record { items = []; room = 0 };
    decided = 0;
  });
  closed = None;
  joining = None;
})

-- a part, of configuration 1 and member 1; no promised and no accepted ballot; the base; nothing trimmed, no
-- entry, nothing decided
abbrev first_bytes : List ℕ
first_bytes =
    (1 ∷ 1 ∷ 0 ∷ 0 ∷ 0 ∷ 1 ∷ 1 ∷ 0 ∷ 0 ∷ 0 ∷ 1 ∷ 0 ∷ 0 ∷ 0 ∷ 0 ∷ 0 ∷ 0 ∷ 0 ∷ 0 ∷ 0 ∷ 0 ∷ 0 ∷ 0 ∷ 0 ∷ 0 ∷ 0
    ∷ 0 ∷ 0 ∷ 0 ∷ 0 ∷ 0 ∷ 0 ∷ 0 ∷ 0 ∷ 0 ∷ []) ++ (counted_base ++ (0 ∷ 0 ∷ 0 ∷ 0 ∷ 0 ∷ 0 ∷ 0 ∷ 0 ∷ 0 ∷ 0 ∷
    0 ∷ 0 ∷ 0 ∷ 0 ∷ 0 ∷ 0 ∷ 0 ∷ 0 ∷ 0 ∷ 0 ∷ 0 ∷ 0 ∷ 0 ∷ 0 ∷ 0 ∷ 0 ∷ []))

-- its 85 bytes
a_first_durable_state :
    IsEncoded body first first_bytes
unfolding encoded items_read rising_read
a_first_durable_state = (refl, refl)

-- a tag that is none; a byte left over; another base; more decided than there is
no_durable_states :
    (IsRefused body (3 ∷ []) 0) ×
    (IsRefused body (first_bytes ++ (0 ∷ [])) 85) ×
    (IsRefused body (with_byte 58 1 first_bytes) 35) ×
    (IsRefused body (with_byte 82 1 first_bytes) 75)
unfolding encoded items_read rising_read
no_durable_states = (refl, refl, refl, refl)

-- what a node stores that was a member of configuration 1 and joins configuration 3, which follows a list of
-- length 5
abbrev joining_node : Rec
joining_node = Whole (record {
  part = None;
  closed = Some (record {
    conf = 1;
    olds = 1 ∷ [];
    next = 2 ∷ [];
    base = no_pairs;
    trimmed = 4;
    tail = entries.Stop (record { next = 2; members = 2 ∷ [] }) ∷ [];
  });
  joining = Some (record {
    conf = 3;
    members = 1 ∷ [];
    olds = 2 ∷ [];
    len = 5;
    donors = (2, 2) ∷ [];
    base = Some (2, no_pairs);
    held = record { items = (3, one_put) ∷ []; room = 0 };
  });
})

-- no part; the closed list: configuration 1 of 1 before 2, its base, 4 trimmed, a stop-sign; joining:
-- configuration 3 of 1 after 2, the length 5, the donor 2 from 2 on, a base at 2, a put held at 3
abbrev joining_bytes : List ℕ
joining_bytes =
    (1 ∷ 0 ∷ 1 ∷ 0 ∷ 0 ∷ 0 ∷ 1 ∷ 1 ∷ 0 ∷ 0 ∷ 0 ∷ 1 ∷ 1 ∷ 0 ∷ 0 ∷ 0 ∷ 2 ∷ []) ++ (counted_base ++ ((0 ∷ 0 ∷
    0 ∷ 0 ∷ 0 ∷ 0 ∷ 0 ∷ 4 ∷ 0 ∷ 0 ∷ 0 ∷ 0 ∷ 0 ∷ 0 ∷ 0 ∷ 1 ∷ 2 ∷ 0 ∷ 0 ∷ 0 ∷ 2 ∷ 1 ∷ 0 ∷ 0 ∷ 0 ∷ 2 ∷ 1 ∷ 0
    ∷ 0 ∷ 0 ∷ 3 ∷ 1 ∷ 0 ∷ 0 ∷ 0 ∷ 1 ∷ 1 ∷ 0 ∷ 0 ∷ 0 ∷ 2 ∷ 0 ∷ 0 ∷ 0 ∷ 0 ∷ 0 ∷ 0 ∷ 0 ∷ 5 ∷ 1 ∷ 0 ∷ 0 ∷ 0 ∷
    2 ∷ 0 ∷ 0 ∷ 0 ∷ 0 ∷ 0 ∷ 0 ∷ 0 ∷ 2 ∷ 1 ∷ 0 ∷ 0 ∷ 0 ∷ 0 ∷ 0 ∷ 0 ∷ 0 ∷ 2 ∷ []) ++ (counted_base ++ ((0 ∷
    0 ∷ 0 ∷ 0 ∷ 0 ∷ 0 ∷ 0 ∷ 1 ∷ 0 ∷ 0 ∷ 0 ∷ 0 ∷ 0 ∷ 0 ∷ 0 ∷ 3 ∷ []) ++ put_bytes))))

-- its 175 bytes
a_joining_node :
    IsEncoded body joining_node joining_bytes
unfolding encoded items_read rising_read
a_joining_node = (refl, refl)

-- one other byte in it, and the place that is then named
joining_nodes_with_another_byte :
    (IsRefused body (with_byte 1 2 joining_bytes) 1) ×
    (IsRefused body (with_byte 2 2 joining_bytes) 2) ×
    (IsRefused body (with_byte 6 0 joining_bytes) 3) ×
    (IsRefused body (with_byte 24 15 joining_bytes) 17) ×
    (IsRefused body (with_byte 67 2 joining_bytes) 67) ×
    (IsRefused body (with_byte 71 1 joining_bytes) 68) ×
    (IsRefused body (with_byte 89 0 joining_bytes) 82) ×
    (IsRefused body (with_byte 89 1 joining_bytes) 95) ×
    (IsRefused body (with_byte 94 0 joining_bytes) 91) ×
    (IsRefused body (with_byte 102 6 joining_bytes) 95) ×
    (IsRefused body (with_byte 111 6 joining_bytes) 104) ×
    (IsRefused body (with_byte 151 5 joining_bytes) 144)
unfolding encoded items_read rising_read
joining_nodes_with_another_byte = (refl, refl, refl, refl, refl, refl, refl, refl, refl, refl, refl, refl)

-- ---- batches

-- a put is appended, and decided
a_step :
    IsEncoded body (Step (variant.Append (one_put ∷ []) ∷ variant.Decided 1 ∷ [])) ((2 ∷ 2 ∷ 4 ∷ 0 ∷ 0 ∷ 0
    ∷ 0 ∷ 0 ∷ 0 ∷ 0 ∷ 1 ∷ []) ++ (put_bytes ++ (5 ∷ 0 ∷ 0 ∷ 0 ∷ 0 ∷ 0 ∷ 0 ∷ 0 ∷ 1 ∷ [])))
unfolding encoded items_read rising_read
a_step = (refl, refl)

-- trimmed to 258
a_trim :
    IsEncoded body (Step (variant.Trim 258 no_pairs ∷ [])) ((2 ∷ 1 ∷ 6 ∷ 0 ∷ 0 ∷ 0 ∷ 0 ∷ 0 ∷ 0 ∷ 1 ∷ 2 ∷
    []) ++ counted_base)
unfolding encoded items_read rising_read
a_trim = (refl, refl)

-- closed, and named in the next configuration
a_close :
    IsEncoded body (Step (variant.Close true no_pairs ∷ [])) ((2 ∷ 1 ∷ 7 ∷ 1 ∷ []) ++ counted_base)
unfolding encoded items_read rising_read
a_close = (refl, refl)

-- the configuration that is joined, its members, those before, and the closed list's length
a_joining :
    IsEncoded body (Step (variant.JoinBegin 2 (1 ∷ 4 ∷ []) (1 ∷ []) 7 ∷ [])) (2 ∷ 1 ∷ 8 ∷ 0 ∷ 0 ∷ 0 ∷ 2 ∷
    2 ∷ 0 ∷ 0 ∷ 0 ∷ 1 ∷ 0 ∷ 0 ∷ 0 ∷ 4 ∷ 1 ∷ 0 ∷ 0 ∷ 0 ∷ 1 ∷ 0 ∷ 0 ∷ 0 ∷ 0 ∷ 0 ∷ 0 ∷ 0 ∷ 7 ∷ [])
unfolding encoded items_read rising_read
a_joining = (refl, refl)

-- a donor, and how much is trimmed there
a_donor :
    IsEncoded body (Step (variant.JoinDonor 999 6 ∷ [])) (2 ∷ 1 ∷ 9 ∷ 0 ∷ 0 ∷ 3 ∷ 231 ∷ 0 ∷ 0 ∷ 0 ∷ 0 ∷ 0
    ∷ 0 ∷ 0 ∷ 6 ∷ [])
unfolding encoded items_read rising_read
a_donor = (refl, refl)

-- a base at a position
a_base :
    IsEncoded body (Step (variant.JoinBase 6 no_pairs ∷ [])) ((2 ∷ 1 ∷ 10 ∷ 0 ∷ 0 ∷ 0 ∷ 0 ∷ 0 ∷ 0 ∷ 0 ∷ 6
    ∷ []) ++ counted_base)
unfolding encoded items_read rising_read
a_base = (refl, refl)

-- entries at a position
some_entries :
    IsEncoded body (Step (variant.JoinPart 6 (one_put ∷ []) ∷ [])) ((2 ∷ 1 ∷ 11 ∷ 0 ∷ 0 ∷ 0 ∷ 0 ∷ 0 ∷ 0 ∷
    0 ∷ 6 ∷ 0 ∷ 0 ∷ 0 ∷ 0 ∷ 0 ∷ 0 ∷ 0 ∷ 1 ∷ []) ++ put_bytes)
unfolding encoded items_read rising_read
some_entries = (refl, refl)

-- joined
a_joined :
    IsEncoded body (Step (variant.JoinDone no_pairs ∷ [])) ((2 ∷ 1 ∷ 12 ∷ []) ++ counted_base)
unfolding encoded items_read rising_read
a_joined = (refl, refl)

-- an observer's new part
abbrev rebase_bytes : List ℕ
rebase_bytes =
    (2 ∷ 1 ∷ 13 ∷ 0 ∷ 0 ∷ 0 ∷ 3 ∷ 2 ∷ 0 ∷ 0 ∷ 0 ∷ 1 ∷ 0 ∷ 0 ∷ 0 ∷ 4 ∷ 0 ∷ 0 ∷ 0 ∷ 0 ∷ 0 ∷ 0 ∷ 0 ∷ 6 ∷ [])
    ++ counted_base

a_rebase :
    IsEncoded body (Step (variant.Rebase 3 (1 ∷ 4 ∷ []) 6 no_pairs ∷ [])) rebase_bytes
unfolding encoded items_read rising_read
a_rebase = (refl, refl)

-- one other byte in it, and the place that is then named
rebases_with_another_byte :
    (IsRefused body (with_byte 6 0 rebase_bytes) 3) ×
    (IsRefused body (with_byte 7 0 rebase_bytes) 7) ×
    (IsRefused body (with_byte 15 1 rebase_bytes) 12) ×
    (IsRefused body (with_byte 16 65 rebase_bytes) 16) ×
    (IsRefused body (with_byte 31 15 rebase_bytes) 24)
unfolding encoded items_read rising_read
rebases_with_another_byte = (refl, refl, refl, refl, refl)

-- a tag that is none; a flag that is none; the first configuration is joined; a base that is none, twice
no_batches :
    (IsRefused body (2 ∷ 1 ∷ 14 ∷ []) 2) ×
    (IsRefused body ((2 ∷ 1 ∷ 7 ∷ 2 ∷ []) ++ counted_base) 3) ×
    (IsRefused body (2 ∷ 1 ∷ 8 ∷ 0 ∷ 0 ∷ 0 ∷ 1 ∷ 1 ∷ 0 ∷ 0 ∷ 0 ∷ 1 ∷ []) 3) ×
    (IsRefused body (2 ∷ 1 ∷ 12 ∷ 0 ∷ 0 ∷ 0 ∷ 0 ∷ 0 ∷ 0 ∷ 0 ∷ 1 ∷ 0 ∷ []) 3) ×
    (IsRefused body ((2 ∷ 1 ∷ 12 ∷ []) ++ put_bytes) 3)
unfolding encoded items_read rising_read
no_batches = (refl, refl, refl, refl, refl)

-- ---- the first version of areas

-- a step with one change, which appends an entry
abbrev appending : List ℕ → List ℕ
appending bytes =
    (2 ∷ 1 ∷ 4 ∷ 0 ∷ 0 ∷ 0 ∷ 0 ∷ 0 ∷ 0 ∷ 0 ∷ 1 ∷ []) ++ bytes

-- command 1 of client 7 forgets client 8
abbrev forget_bytes : List ℕ
forget_bytes =
    1 ∷ 0 ∷ 0 ∷ 0 ∷ 0 ∷ 0 ∷ 0 ∷ 0 ∷ 7 ∷ 0 ∷ 0 ∷ 0 ∷ 0 ∷ 0 ∷ 0 ∷ 0 ∷ 1 ∷ 6 ∷ 0 ∷ 0 ∷ 0 ∷ 0 ∷ 0 ∷ 0 ∷ 0 ∷ 8 ∷
    []

-- it has the same bytes for what it can hold, as a put, and has no forget and no observer
first_steps :
    (IsEncoded first_body first first_bytes) ×
    (IsEncoded first_body (Step (variant.Append (one_put ∷ []) ∷ [])) (appending put_bytes)) ×
    (IsEncoded body (Step (variant.Append (asked (Forget 8) ∷ []) ∷ [])) (appending forget_bytes)) ×
    (IsRefused first_body (appending forget_bytes) 0) ×
    (IsRefused first_body rebase_bytes 0)
unfolding encoded items_read rising_read
first_steps = ((refl, refl), (refl, refl), (refl, refl), refl, refl)
