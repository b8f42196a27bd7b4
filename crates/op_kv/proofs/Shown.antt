-- Lengths as bytes.
use Rattle.std.proofs.Common.{◌≡◌, ℕ, ◌%◌, ◌/◌, [], ◌∷◌, ap, arith}
use Rattle.std.specs.Int.{w8, w16, to_be_bytes}
use Rattle.op_fields.specs.Form.{encoded}

pub one_byte : (n : ℕ) → encoded w8 (n % 256) ≡ to_be_bytes w8 n
unfolding encoded
one_byte n = ap (λ b. b ∷ []) (omega arith)

pub two_bytes : (n : ℕ) → encoded w16 (n % 65536) ≡ to_be_bytes w16 n
unfolding encoded
two_bytes n =
    let high : (n % 65536 / 256) % 256 ≡ (n / 256) % 256 = omega arith in
    let low : n % 65536 % 256 ≡ n % 256 = omega arith in
    λ i. high i ∷ low i ∷ []
