-- Entries that are read as rising are what inserting them one after the other makes.
use Rattle.std.proofs.Common.{◌≡◌, ℕ, zero, suc, cond, ltb, List, [], ◌∷◌, Ok, Err, refl, subst}
use Rattle.std.specs.Prelude.{Some}
use Rattle.std.specs.Result.{result_ok}
use Rattle.std.specs.Int.{w64}
use Rattle.std.specs.declared.cmp.Ordering.{Ordering}
use Rattle.std.specs.declared.cmp.Ordering.TheVariants.{Less}
use Rattle.std.specs.Ordering.{nat_cmp, is_lt}
use Rattle.std.specs.Cmp.{IsTotalOrder, nat_cmp_total}
use Rattle.std.specs.Cmp.Lexicographic.{slice_cmp, nat_list_cmp_total}
use Rattle.std.specs.Map.{keys_of}
use Rattle.std.proofs.lemmas.Map.Lookups.{CmpEqualImpliesEq, exact_unsigned, exact_bytes}
use Rattle.op_fields.specs.Form.{Read, ◌>>=◌, Form, number_read, pair}
use Rattle.op_fields.proofs.Formats.{bind_ok, ok_is, passed}
use Rattle.op_entry.specs.Forms.{key_value, client_number}
use Rattle.op_overlay.specs.Entries.{entries_over}
use Rattle.op_kv.specs.Rising.{greatest_count, rising_read, rising}
use Rattle.op_kv.specs.Bases.{applied, pair_above, rising_pairs, client_above, rising_clients}
use Rattle.op_types.specs.declared.answers.Applied.{Applied}
use Rattle.op_overlay.proofs.Entries.{over-nothing}
use Rattle.op_kv.proofs.Climbs.{Climbs, climbs_rise, is_less, nat_less}
use Rattle.op_kv.proofs.RisingSteps.{made_of}

module _ {K X : Type 0} {R : K → K → Ordering} (o : IsTotalOrder R) (exact : CmpEqualImpliesEq R) (f : K → Form (K × X))
    (above : (low : K) (bytes : List ℕ) (at : ℕ) (x : (K × X) × ℕ) → (f low).read bytes at ≡ Ok x → R low x.0.0 ≡ Less) where
  climbs : (n : ℕ) (low : K) (bytes : List ℕ) (at : ℕ) (x : List (K × X) × ℕ) → rising_read f (λ e. e.0) n low bytes at ≡ Ok x → Climbs R low (keys_of x.0)
  unfolding rising_read
  climbs zero low bytes at x e = subst (λ (y : List (K × X) × ℕ). Climbs R low (keys_of y.0)) (ok_is ([], at) x e) tt
  climbs (suc n) low bytes at x e =
      let p = bind_ok ((f low).read bytes at) (λ x. rising_read f (λ e. e.0) n x.0.0 bytes x.1 >>= λ xs. Ok (x.0 ∷ xs.0, xs.1)) x e in
      let q = bind_ok (rising_read f (λ e. e.0) n p.0.0.0 bytes p.0.1) (λ xs. Ok (p.0.0 ∷ xs.0, xs.1)) x p.2 in
      subst (λ (y : List (K × X) × ℕ). Climbs R low (keys_of y.0)) (ok_is (p.0.0 ∷ q.0.0, q.0.1) x q.2)
      (above low bytes at p.0 p.1, climbs n p.0.0.0 bytes p.0.1 q.0 q.1)

  same_made : (read : Read (List (K × X))) → ((x : List (K × X) × ℕ) → read ≡ Ok x → entries_over R [] x.0 ≡ x.0) → made_of (entries_over R []) read ≡ result_ok read
  same_made (Ok x) same = λ i. Some (same x refl i, x.1)
  same_made (Err at) same = refl

  pub made_rising : (low : K) (bytes : List ℕ) (at : ℕ) → made_of (entries_over R []) ((rising f (λ e. e.0) low).read bytes at) ≡ result_ok ((rising f (λ e. e.0) low).read bytes at)
  made_rising low bytes at =
      same_made ((rising f (λ e. e.0) low).read bytes at)
      (λ x e.
      let p = bind_ok (number_read w64 0 greatest_count bytes at) (λ n. rising_read f (λ e. e.0) n.0 low bytes n.1) x e in
      over-nothing o exact x.0 (climbs_rise o low (keys_of x.0) (climbs p.0.0 low bytes p.0.1 x p.2)))

pub made_pairs : (bytes : List ℕ) (at : ℕ) → made_of (entries_over (slice_cmp nat_cmp) []) (rising_pairs.read bytes at) ≡ result_ok (rising_pairs.read bytes at)
made_pairs =
    made_rising nat_list_cmp_total exact_bytes pair_above
    (λ low bytes at x e.
    let p = bind_ok (key_value.read bytes at) (λ a. cond (is_lt (slice_cmp nat_cmp low a.0.0)) (Ok a) (Err at)) x e in
    let t = passed (is_lt (slice_cmp nat_cmp low p.0.0.0)) at p.0 x p.2 in
    subst (λ (y : (List ℕ × List ℕ) × ℕ). slice_cmp nat_cmp low y.0.0 ≡ Less) t.1 (is_less (slice_cmp nat_cmp low p.0.0.0) t.0))
    []

pub made_clients : (bytes : List ℕ) (at : ℕ) → made_of (entries_over nat_cmp []) (rising_clients.read bytes at) ≡ result_ok (rising_clients.read bytes at)
made_clients =
    made_rising nat_cmp_total exact_unsigned client_above
    (λ low bytes at x e.
    let p = bind_ok ((pair client_number (λ _. applied)).read bytes at) (λ a. cond (ltb low a.0.0) (Ok a) (Err at)) x e in
    let t = passed (ltb low p.0.0.0) at p.0 x p.2 in
    subst (λ (y : (ℕ × Applied) × ℕ). nat_cmp low y.0.0 ≡ Less) t.1 (nat_less low p.0.0.0 t.0))
    0
