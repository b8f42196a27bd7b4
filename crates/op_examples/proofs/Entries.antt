-- Bytes of entries, given from outside: the format encodes each entry so and reads it of them, and refuses
-- what is none at its first bad field. The texts are `a` (97), `x` (120), `y` (121) and `z` (122).
use Rattle.std.proofs.Common.{◌≡◌, ◌++◌, ◌+◌, ℕ, List, [], ◌∷◌, take, drop, Ok, Err, refl}
use Rattle.op_types.specs.declared.log.Op.{Op}
use Rattle.op_types.specs.declared.log.Op.TheVariants.{Put, Del, Get, Cas, Many, Forget}
use Rattle.op_types.specs.declared.writes.Write.TheVariants as write
use Rattle.op_types.specs.declared.log.Entry.{Entry}
use Rattle.op_types.specs.declared.log.Entry.TheVariants as variant
use Rattle.op_fields.specs.Form.{Form, whole, encoded, items_read}
use Rattle.op_entry.specs.Forms.{entry}

-- a value has these bytes, and is read of them
abbrev pub IsEncoded : {A : Type 0} → Form A → A → List ℕ → Type 0
IsEncoded f x bytes = (f.text x ≡ bytes) × (whole f bytes ≡ Ok x)

-- bytes are refused, with the place of their first bad field
abbrev pub IsRefused : {A : Type 0} → Form A → List ℕ → ℕ → Type 0
IsRefused f bytes at = whole f bytes ≡ Err at

-- the bytes with another one at a place
abbrev pub with_byte : ℕ → ℕ → List ℕ → List ℕ
with_byte at byte bytes = take at bytes ++ (byte ∷ drop (at + 1) bytes)

-- command 1 of client 7
abbrev pub asked : Op → Entry
asked op = variant.Command (record { client = 7; seq = 1; op = op })

-- it puts `x` at `a`
abbrev pub one_put : Entry
one_put = asked (Put (97 ∷ []) (120 ∷ []))

-- its bytes
abbrev pub put_bytes : List ℕ
put_bytes =
    1 ∷ 0 ∷ 0 ∷ 0 ∷ 0 ∷ 0 ∷ 0 ∷ 0 ∷ 7 ∷ 0 ∷ 0 ∷ 0 ∷ 0 ∷ 0 ∷ 0 ∷ 0 ∷ 1 ∷ 1 ∷ 1 ∷ 97 ∷ 0 ∷ 1 ∷ 120 ∷ []

-- a put
a_put :
    IsEncoded entry one_put put_bytes
unfolding encoded items_read
a_put = (refl, refl)

-- a delete
a_delete :
    IsEncoded entry (asked (Del (97 ∷ []))) (1 ∷ 0 ∷ 0 ∷ 0 ∷ 0 ∷ 0 ∷ 0 ∷ 0 ∷ 7 ∷ 0 ∷ 0 ∷ 0 ∷ 0 ∷ 0 ∷ 0 ∷ 0
    ∷ 1 ∷ 2 ∷ 1 ∷ 97 ∷ [])
unfolding encoded items_read
a_delete = (refl, refl)

-- a get
a_get :
    IsEncoded entry (asked (Get (97 ∷ []))) (1 ∷ 0 ∷ 0 ∷ 0 ∷ 0 ∷ 0 ∷ 0 ∷ 0 ∷ 7 ∷ 0 ∷ 0 ∷ 0 ∷ 0 ∷ 0 ∷ 0 ∷ 0
    ∷ 1 ∷ 3 ∷ 1 ∷ 97 ∷ [])
unfolding encoded items_read
a_get = (refl, refl)

-- a cas that replaces `x` by `yz`
a_replacement :
    IsEncoded entry (asked (Cas (97 ∷ []) (120 ∷ []) (121 ∷ 122 ∷ []))) (1 ∷ 0 ∷ 0 ∷ 0 ∷ 0 ∷ 0 ∷ 0 ∷ 0 ∷ 7
    ∷ 0 ∷ 0 ∷ 0 ∷ 0 ∷ 0 ∷ 0 ∷ 0 ∷ 1 ∷ 4 ∷ 1 ∷ 97 ∷ 0 ∷ 1 ∷ 120 ∷ 0 ∷ 2 ∷ 121 ∷ 122 ∷ [])
unfolding encoded items_read
a_replacement = (refl, refl)

-- one write, which takes out `a`
a_many :
    IsEncoded entry (asked (Many (write.Del (97 ∷ []) ∷ []))) (1 ∷ 0 ∷ 0 ∷ 0 ∷ 0 ∷ 0 ∷ 0 ∷ 0 ∷ 7 ∷ 0 ∷ 0 ∷ 0
    ∷ 0 ∷ 0 ∷ 0 ∷ 0 ∷ 1 ∷ 5 ∷ 1 ∷ 2 ∷ 1 ∷ 97 ∷ [])
unfolding encoded items_read
a_many = (refl, refl)

-- `x` at `a`, and then `b` is taken out
two_writes :
    IsEncoded entry (asked (Many (write.Put (97 ∷ []) (120 ∷ []) ∷ write.Del (98 ∷ []) ∷ []))) (1 ∷ 0 ∷ 0 ∷ 0
    ∷ 0 ∷ 0 ∷ 0 ∷ 0 ∷ 7 ∷ 0 ∷ 0 ∷ 0 ∷ 0 ∷ 0 ∷ 0 ∷ 0 ∷ 1 ∷ 5 ∷ 2 ∷ 1 ∷ 1 ∷ 97 ∷ 0 ∷ 1 ∷ 120 ∷ 2 ∷ 1 ∷ 98 ∷ [])
unfolding encoded items_read
two_writes = (refl, refl)

-- client 8 is forgotten
a_forget :
    IsEncoded entry (asked (Forget 8)) (1 ∷ 0 ∷ 0 ∷ 0 ∷ 0 ∷ 0 ∷ 0 ∷ 0 ∷ 7 ∷ 0 ∷ 0 ∷ 0 ∷ 0 ∷ 0 ∷ 0 ∷ 0 ∷ 1 ∷ 6
    ∷ 0 ∷ 0 ∷ 0 ∷ 0 ∷ 0 ∷ 0 ∷ 0 ∷ 8 ∷ [])
unfolding encoded items_read
a_forget = (refl, refl)

-- the stop-sign of configuration 1: servers 1 and 999 are the members of the next one
a_stop :
    IsEncoded entry (variant.Stop (record { next = 2; members = 1 ∷ 999 ∷ [] })) (2 ∷ 0 ∷ 0 ∷ 0 ∷ 2 ∷ 2 ∷
    0 ∷ 0 ∷ 0 ∷ 1 ∷ 0 ∷ 0 ∷ 3 ∷ 231 ∷ [])
unfolding encoded items_read
a_stop = (refl, refl)

-- what stands behind an entry is left
a_put_and_more :
    entry.read (put_bytes ++ (109 ∷ 111 ∷ 114 ∷ 101 ∷ [])) 0 ≡ Ok (one_put, 23)
unfolding encoded items_read
a_put_and_more = refl

-- no bytes; a tag that is none
no_entries :
    (IsRefused entry [] 0) ×
    (IsRefused entry (3 ∷ 0 ∷ 0 ∷ 0 ∷ 2 ∷ 1 ∷ 0 ∷ 0 ∷ 0 ∷ 1 ∷ []) 0)
unfolding encoded items_read
no_entries = (refl, refl)

-- no members; 32 of them; the same one twice
no_stops :
    (IsRefused entry (2 ∷ 0 ∷ 0 ∷ 0 ∷ 2 ∷ 0 ∷ []) 5) ×
    (IsRefused entry (2 ∷ 0 ∷ 0 ∷ 0 ∷ 2 ∷ 32 ∷ 0 ∷ 0 ∷ 0 ∷ 1 ∷ []) 5) ×
    (IsRefused entry (2 ∷ 0 ∷ 0 ∷ 0 ∷ 2 ∷ 2 ∷ 0 ∷ 0 ∷ 0 ∷ 1 ∷ 0 ∷ 0 ∷ 0 ∷ 1 ∷ []) 10)
unfolding encoded items_read
no_stops = (refl, refl, refl)

-- a client that is cut; an operation that is none; a cas without its last value; a key that is cut
no_commands :
    (IsRefused entry (1 ∷ 0 ∷ 0 ∷ 0 ∷ 0 ∷ 0 ∷ 0 ∷ 0 ∷ 0 ∷ 0 ∷ []) 1) ×
    (IsRefused entry (1 ∷ 0 ∷ 0 ∷ 0 ∷ 0 ∷ 0 ∷ 0 ∷ 0 ∷ 7 ∷ 0 ∷ 0 ∷ 0 ∷ 0 ∷ 0 ∷ 0 ∷ 0 ∷ 1 ∷ 7 ∷ 1 ∷ 97 ∷ [])
    17) ×
    (IsRefused entry (1 ∷ 0 ∷ 0 ∷ 0 ∷ 0 ∷ 0 ∷ 0 ∷ 0 ∷ 7 ∷ 0 ∷ 0 ∷ 0 ∷ 0 ∷ 0 ∷ 0 ∷ 0 ∷ 1 ∷ 4 ∷ 1 ∷ 97 ∷ 0 ∷
    0 ∷ 0 ∷ 1 ∷ []) 22) ×
    (IsRefused entry (1 ∷ 0 ∷ 0 ∷ 0 ∷ 0 ∷ 0 ∷ 0 ∷ 0 ∷ 7 ∷ 0 ∷ 0 ∷ 0 ∷ 0 ∷ 0 ∷ 0 ∷ 0 ∷ 1 ∷ 1 ∷ 2 ∷ 97 ∷ [])
    18)
unfolding encoded items_read
no_commands = (refl, refl, refl, refl)

-- no writes; 17 of them; one that is none; a client that is forgotten and is none
no_later_commands :
    (IsRefused entry (1 ∷ 0 ∷ 0 ∷ 0 ∷ 0 ∷ 0 ∷ 0 ∷ 0 ∷ 7 ∷ 0 ∷ 0 ∷ 0 ∷ 0 ∷ 0 ∷ 0 ∷ 0 ∷ 1 ∷ 5 ∷ 0 ∷ []) 18) ×
    (IsRefused entry (1 ∷ 0 ∷ 0 ∷ 0 ∷ 0 ∷ 0 ∷ 0 ∷ 0 ∷ 7 ∷ 0 ∷ 0 ∷ 0 ∷ 0 ∷ 0 ∷ 0 ∷ 0 ∷ 1 ∷ 5 ∷ 17 ∷ 2 ∷ 1 ∷ 97
    ∷ []) 18) ×
    (IsRefused entry (1 ∷ 0 ∷ 0 ∷ 0 ∷ 0 ∷ 0 ∷ 0 ∷ 0 ∷ 7 ∷ 0 ∷ 0 ∷ 0 ∷ 0 ∷ 0 ∷ 0 ∷ 0 ∷ 1 ∷ 5 ∷ 1 ∷ 3 ∷ 1 ∷ 97 ∷
    []) 19) ×
    (IsRefused entry (1 ∷ 0 ∷ 0 ∷ 0 ∷ 0 ∷ 0 ∷ 0 ∷ 0 ∷ 7 ∷ 0 ∷ 0 ∷ 0 ∷ 0 ∷ 0 ∷ 0 ∷ 0 ∷ 1 ∷ 6 ∷ 0 ∷ 0 ∷ 0 ∷ 0 ∷
    0 ∷ 0 ∷ 0 ∷ 0 ∷ []) 18)
unfolding encoded items_read
no_later_commands = (refl, refl, refl, refl)
