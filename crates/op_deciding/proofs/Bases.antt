-- The service of a base, and which bytes are one.
use Rattle.std.proofs.Common.{◌≡◌, ◌<◌, ◌^◌, ◌↔◌, Bool, true, false, IsTrue, List, ℕ, length, get_or, refl, sym, ap, ◌∙◌, arith}
use Rattle.op_spec.specs.Service.{Service, base_bytes}
use Rattle.op_spec.specs.ServiceRanges.{ServiceInRange, ServiceIsOrdered}
use Rattle.op_kv.specs.Bases.{IsBase, HasBase}
use Rattle.op_kv.proofs.BaseReads.{has_base}
use Rattle.op_protocol.specs.Bases.{service_read, is_base, service_in}
use Rattle.op_protocol.proofs.Bases.{service_is_read, service_in_base, read_bytes_are, ReadsAs, read_is_base, base_is_read}

-- a service with these bytes is the one that they stand for
pub service_of_base : (s : Service) (bytes : List ℕ) → base_bytes s ≡ bytes → ServiceInRange s → ServiceIsOrdered s → length bytes < 2 ^ 64 → service_in bytes ≡ s
service_of_base s bytes is range order small =
    ap service_in (sym is) ∙ service_in_base s (has_base s range order (omega (arith, ap length is)))

-- bytes that are a base are read
pub base_read : (bytes : List ℕ) → length bytes < 2 ^ 64 → IsBase bytes → is_base bytes ≡ true
base_read bytes small is =
    let has : HasBase is.0 = has_base is.0 is.1 is.2 (omega (arith, ap length is.3)) in
    read_is_base bytes is.0 (ap service_read is.3 ∙ service_is_read is.0 has) is.3

-- and bytes that are read are a base
pub read_base : (bytes : List ℕ) → ((i : ℕ) → get_or bytes i 0 < 256) → is_base bytes ≡ true → IsBase bytes
read_base bytes fits read =
    let r : ReadsAs bytes = base_is_read bytes read in
    let k = read_bytes_are bytes r.service fits r.read in
    (r.service, k.1.range, k.1.order, k.0)

by_both : (a b : Bool) → (a ≡ true → b ≡ true) → (b ≡ true → a ≡ true) → a ≡ b
by_both true b there back = sym (there refl)
by_both false true there back = back refl
by_both false false there back = refl

-- a test of one is a test of the other
pub test_is : (r : Bool) (bytes : List ℕ) → ((i : ℕ) → get_or bytes i 0 < 256) → length bytes < 2 ^ 64 → IsTrue r ↔ IsBase bytes → r ≡ is_base bytes
test_is r bytes fits small tells =
    by_both r (is_base bytes) (λ t. base_read bytes small (tells.0 t)) (λ read. tells.1 (read_base bytes fits read))
