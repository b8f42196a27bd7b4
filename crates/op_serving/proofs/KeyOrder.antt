-- The order of what clients wait for tells all of it apart.
use Rattle.std.proofs.Common.{◌≡◌, Bool, true, false, refl}
use Rattle.std.specs.Cmp.{IsTotalOrder, bool_cmp_total, nat_cmp_total, on_total, then_total}
use Rattle.std.proofs.lemmas.Map.Lookups.{exact_pairs, exact_unsigned}
use Rattle.std.specs.declared.cmp.Ordering.TheVariants.{Equal}
use Rattle.std.specs.Ordering.{bool_cmp, nat_cmp}
use Rattle.op_serving.specs.State.{Awaited, Key, awaited_cmp, pair_cmp}

exact_flags : (a b : Bool) → bool_cmp a b ≡ Equal → a ≡ b
exact_flags false false e = refl
exact_flags false true e = absurd cc
exact_flags true false e = absurd cc
exact_flags true true e = refl

pub key_exact : (p q : Awaited) → awaited_cmp p q ≡ Equal → p ≡ q
key_exact = exact_pairs bool_cmp pair_cmp exact_flags (exact_pairs nat_cmp nat_cmp exact_unsigned exact_unsigned)

pub key_total : IsTotalOrder awaited_cmp
key_total =
    then_total (on_total (λ (p : Awaited). p.0) bool_cmp_total)
    (on_total (λ (p : Awaited). p.1) (then_total (on_total (λ (k : Key). k.0) nat_cmp_total) (on_total (λ (k : Key). k.1) nat_cmp_total)))
