-- Bytes of a service's state, given from outside, and bytes that are none; and what commands make of a
-- service. The texts are `a` (97), `b` (98), `x` (120), `y` (121) and `z` (122).
use Rattle.std.proofs.Common.{◌≡◌, ℕ, List, [], ◌∷◌, false, is_ok, Ok, refl}
use Rattle.op_types.specs.declared.answers.Answer.TheVariants as answer
use Rattle.op_fields.specs.Form.{whole, encoded}
use Rattle.op_types.specs.declared.log.Op.{Op}
use Rattle.op_types.specs.declared.log.Op.TheVariants.{Put, Many, Forget}
use Rattle.op_types.specs.declared.log.Entry.{Entry}
use Rattle.op_types.specs.declared.log.Entry.TheVariants as entry
use Rattle.op_types.specs.declared.writes.Write.TheVariants as write
use Rattle.op_spec.specs.Service.{Service, new_service, base_bytes, all_after}
use Rattle.op_change.specs.Over.{answers_of}
use Rattle.op_kv.specs.Rising.{rising_read}
use Rattle.op_kv.specs.Bases.{base}

-- a service has these bytes as its base, and is read of them
abbrev IsBaseOf : Service → List ℕ → Type 0
IsBaseOf s bytes = (base_bytes s ≡ bytes) × (base.text s ≡ bytes) × (whole base bytes ≡ Ok s)

-- no pairs and no clients
the_first_base :
    IsBaseOf new_service (0 ∷ 0 ∷ 0 ∷ 0 ∷ 0 ∷ 0 ∷ 0 ∷ 0 ∷ 0 ∷ 0 ∷ 0 ∷ 0 ∷ 0 ∷ 0 ∷ 0 ∷ 0 ∷ [])
unfolding encoded rising_read
the_first_base = (refl, refl, refl)

-- a pair from `k` (107) to `v` (118), and client 7, whose command 2 was answered that value
a_base :
    IsBaseOf (record {
      pairs = (107 ∷ [], 118 ∷ []) ∷ [];
      clients = (
        7,
        record {
          seq = 2;
          answer =
              answer.Value (118 ∷ []);
        },
      ) ∷ [];
    }) (0 ∷ 0 ∷ 0 ∷ 0 ∷ 0 ∷ 0 ∷ 0 ∷ 1 ∷ 1 ∷ 107 ∷ 0 ∷ 1 ∷ 118 ∷ 0 ∷ 0 ∷ 0
    ∷ 0 ∷ 0 ∷ 0 ∷ 0 ∷ 1 ∷ 0 ∷ 0 ∷ 0 ∷ 0 ∷ 0 ∷ 0 ∷ 0 ∷ 7 ∷ 0 ∷ 0 ∷ 0 ∷ 0 ∷ 0 ∷ 0 ∷ 0 ∷ 2 ∷ 2 ∷ 0 ∷ 1 ∷ 118
    ∷ [])
unfolding encoded rising_read
a_base = (refl, refl, refl)

-- a byte less, a byte more, and two pairs whose keys fall
no_bases :
    (is_ok (whole base (0 ∷ 0 ∷ 0 ∷ 0 ∷ 0 ∷ 0 ∷ 0 ∷ 0 ∷ 0 ∷ 0 ∷ 0 ∷ 0 ∷ 0 ∷ 0 ∷ 0 ∷ [])) ≡ false) × (is_ok
    (whole base (0 ∷ 0 ∷ 0 ∷ 0 ∷ 0 ∷ 0 ∷ 0 ∷ 0 ∷ 0 ∷ 0 ∷ 0 ∷ 0 ∷ 0 ∷ 0 ∷ 0 ∷ 0 ∷ 0 ∷ [])) ≡ false) ×
    (is_ok (whole base (0 ∷ 0 ∷ 0 ∷ 0 ∷ 0 ∷ 0 ∷ 0 ∷ 2 ∷ 1 ∷ 98 ∷ 0 ∷ 0 ∷ 1 ∷ 97 ∷ 0 ∷ 0 ∷ 0 ∷ 0 ∷ 0 ∷ 0 ∷
    0 ∷ 0 ∷ 0 ∷ 0 ∷ [])) ≡ false)
unfolding encoded rising_read
no_bases = (refl, refl, refl)

-- ---- what commands make of a service

-- a command of a client, with its number
abbrev asked_by : ℕ → ℕ → Op → Entry
asked_by client seq op = entry.Command (record { client = client; seq = seq; op = op })

-- `x` at `a`, `y` at `b`, and `a` is taken out
abbrev many : List Entry
many =
    asked_by 7 1 (Many (write.Put (97 ∷ []) (120 ∷ []) ∷ write.Put (98 ∷ []) (121 ∷ [])
    ∷ write.Del (97 ∷ []) ∷ [])) ∷ []

writes_from_the_left :
    (answers_of new_service many ≡ answer.Done ∷ []) ×
    (all_after new_service many
    ≡ record { pairs = (98 ∷ [], 121 ∷ []) ∷ []; clients = (7, record { seq = 1; answer = answer.Done }) ∷ [] })
writes_from_the_left = (refl, refl)

-- a lower number is stale, until its client is forgotten
abbrev forgotten : List Entry
forgotten =
    asked_by 7 5 (Put (97 ∷ []) (120 ∷ []))
    ∷ asked_by 7 4 (Put (97 ∷ []) (121 ∷ []))
    ∷ asked_by 8 1 (Forget 7)
    ∷ asked_by 7 4 (Put (97 ∷ []) (122 ∷ [])) ∷ []

a_forgotten_client :
    (answers_of new_service forgotten ≡ answer.Done ∷ answer.Stale ∷ answer.Done ∷ answer.Done ∷ []) ×
    (all_after new_service forgotten ≡ record {
      pairs = (97 ∷ [], 122 ∷ []) ∷ [];
      clients = (7, record { seq = 4; answer = answer.Done })
          ∷ (8, record { seq = 1; answer = answer.Done }) ∷ [];
    })
a_forgotten_client = (refl, refl)
