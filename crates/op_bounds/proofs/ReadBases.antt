-- Whatever bytes are read as a service's base, what is read is in range and in order. And a base that is short enough is read.
use Rattle.std.proofs.Common.{◌≡◌, ℕ, zero, suc, ◌+◌, ◌-◌, ◌^◌, ◌≤◌, Bool, true, eqb, ltb, cond, IsTrue, List, [], ◌∷◌, length, take, drop, Result, Ok, Err, refl, sym, ap, subst, inl, inr, arith}
use Rattle.std.specs.Result.{result_ok}
use Rattle.std.specs.Int.{Width, w8, w16, w64}
use Rattle.std.specs.Cmp.{nat_cmp_total}
use Rattle.std.specs.Cmp.Lexicographic.{nat_list_cmp_total}
use Rattle.std.specs.List.Sorted.{IsStrictlySortedBy}
use Rattle.std.specs.Map.{keys_of}
use Rattle.std.proofs.lemmas.Bool.{ltb-false}
use Rattle.std.proofs.lemmas.List.{length-take, length-drop}
use Rattle.op_types.specs.declared.answers.Answer.{Answer}
use Rattle.op_types.specs.declared.answers.Answer.TheVariants as answer
use Rattle.op_types.specs.declared.answers.Applied.{Applied}
use Rattle.op_fields.specs.Form.{◌>>=◌, Form, Options, number_read, number, counted, pair, fitted, tested, option, no_option, whole}
use Rattle.op_fields.proofs.Formats.{bind_ok, guard, passed, chosen, ok_is, number_within}
use Rattle.op_entry.specs.Forms.{key, value, key_value, client_number}
use Rattle.op_spec.specs.Service.{Pairs, Service, new_service, base_bytes}
use Rattle.op_spec.specs.ServiceRanges.{IsOfEffect, AppliedInRange, ServiceInRange, ServiceIsOrdered}
use Rattle.op_kv.specs.Rising.{greatest_count, RiseFrom, rising_read, rising}
use Rattle.op_kv.specs.Bases.{IsBase, HasBase, no_fields, kept_options, kept_answer, applied, pair_above, rising_pairs, client_above, rising_clients, base}
use Rattle.op_kv.proofs.BaseReads.{pairs_fit, clients_fit}
use Rattle.op_kv.proofs.Climbs.{climbs_rise}
use Rattle.op_protocol.specs.Bases.{is_base, or_new, service_in}
use Rattle.op_protocol.proofs.Bases.{ReadsAs, base_is_read}

-- what is read by this form has an encoding
abbrev Keeps : {A : Type 0} → Form A → Type 0
Keeps {A = A} f = (bytes : List ℕ) (at : ℕ) (x : A × ℕ) → f.read bytes at ≡ Ok x → f.fits x.0

number_keeps : (w : Width) (low high : ℕ) → Keeps (number w low high)
number_keeps w low high bytes at x e = number_within w low high bytes at x e

counted_keeps : (w : Width) (low high : ℕ) → Keeps (counted w low high)
counted_keeps w low high bytes at x e =
    let p = bind_ok (number_read w low high bytes at) (λ n. cond (ltb (length bytes) (n.1 + n.0)) (Err at) (Ok (take n.0 (drop n.1 bytes), n.1 + n.0))) x e in
    let n : ℕ = p.0.0 in
    let mid : ℕ = p.0.1 in
    let g = guard (ltb (length bytes) (mid + n)) at (Ok (take n (drop mid bytes), mid + n)) x p.2 in
    let long : mid + n ≤ length bytes = ltb-false _ _ g.0 in
    let size : length (take n (drop mid bytes)) ≡ n = omega (arith, length-take n (drop mid bytes), length-drop mid bytes) in
    let s = number_within w low high bytes at p.0 p.1 in
    subst (λ (y : List ℕ × ℕ). (low ≤ length y.0) × (length y.0 ≤ high)) (ok_is (take n (drop mid bytes), mid + n) x g.1)
    (omega (arith, size, s.0), omega (arith, size, s.1))

pair_keeps : {A B : Type 0} (f : Form A) (g : A → Form B) → Keeps f → ((a : A) → Keeps (g a)) → Keeps (pair f g)
pair_keeps {A = A} {B = B} f g kf kg bytes at x e =
    let p = bind_ok (f.read bytes at) (λ a. (g a.0).read bytes a.1 >>= λ b. Ok ((a.0, b.0), b.1)) x e in
    let q = bind_ok ((g p.0.0).read bytes p.0.1) (λ b. Ok ((p.0.0, b.0), b.1)) x p.2 in
    subst (λ (y : (A × B) × ℕ). f.fits y.0.0 × (g y.0.0).fits y.0.1) (ok_is ((p.0.0, q.0.0), q.0.1) x q.2)
    (kf bytes at p.0 p.1, kg p.0.0 bytes p.0.1 q.0 q.1)

fitted_keeps : {A B : Type 0} (to : A → B) (from : B → A) (fits : B → Type 0) (f : Form A) → Keeps f → ((a : A) → f.fits a → fits (to a)) → Keeps (fitted to from fits f)
fitted_keeps {A = A} {B = B} to from fits f kf is bytes at x e =
    let p = bind_ok (f.read bytes at) (λ a. Ok (to a.0, a.1)) x e in
    subst (λ (y : B × ℕ). fits y.0) (ok_is (to p.0.0, p.0.1) x p.2) (is p.0.0 (kf bytes at p.0 p.1))

tested_keeps : {A : Type 0} (test : A → Bool) (f : Form A) → Keeps f → Keeps (tested test f)
tested_keeps {A = A} test f kf bytes at x e =
    let p = bind_ok (f.read bytes at) (λ a. cond (test a.0) (Ok a) (Err at)) x e in
    let g = passed (test p.0.0) at p.0 x p.2 in
    subst (λ (y : A × ℕ). f.fits y.0 × IsTrue (test y.0)) g.1 (kf bytes at p.0 p.1, g.0)

module _ {A K : Type 0} (f : K → Form A) (key : A → K) (kf : (low : K) → Keeps (f low)) where
  items_keep : (n : ℕ) (low : K) (bytes : List ℕ) (at : ℕ) (x : List A × ℕ) → rising_read f key n low bytes at ≡ Ok x → (length x.0 ≡ n) × RiseFrom f key low x.0
  unfolding rising_read
  items_keep zero low bytes at x e = subst (λ (y : List A × ℕ). (length y.0 ≡ 0) × RiseFrom f key low y.0) (ok_is ([], at) x e) (refl, tt)
  items_keep (suc n) low bytes at x e =
      let p = bind_ok ((f low).read bytes at) (λ x. rising_read f key n (key x.0) bytes x.1 >>= λ xs. Ok (x.0 ∷ xs.0, xs.1)) x e in
      let q = bind_ok (rising_read f key n (key p.0.0) bytes p.0.1) (λ xs. Ok (p.0.0 ∷ xs.0, xs.1)) x p.2 in
      let rest = items_keep n (key p.0.0) bytes p.0.1 q.0 q.1 in
      subst (λ (y : List A × ℕ). (length y.0 ≡ suc n) × RiseFrom f key low y.0) (ok_is (p.0.0 ∷ q.0.0, q.0.1) x q.2)
      (ap suc rest.0, (kf low bytes at p.0 p.1, rest.1))

  rising_keeps : (low : K) → Keeps (rising f key low)
  rising_keeps low bytes at x e =
      let p = bind_ok (number_read w64 0 greatest_count bytes at) (λ n. rising_read f key n.0 low bytes n.1) x e in
      let rest = items_keep p.0.0 low bytes p.0.1 x p.2 in
      let s = number_within w64 0 greatest_count bytes at p.0 p.1 in
      (omega (arith, s.1, rest.0), rest.1)

-- ---- a service's parts

pairs_keep : Keeps rising_pairs
pairs_keep =
    rising_keeps pair_above (λ p. p.0)
    (λ low. tested_keeps _ key_value (pair_keeps key (λ _. value) (counted_keeps w8 1 64) (λ _. counted_keeps w16 0 4096))) []

abbrev OptionsKeep : Options Answer → Type 0
OptionsKeep options = (tag : ℕ) (bytes : List ℕ) (at : ℕ) (x : Answer × ℕ) → options tag bytes at ≡ Ok x → IsOfEffect x.0

none_keeps : OptionsKeep no_option
none_keeps tag bytes at x e = absurd cc

option_keeps : {A : Type 0} (t : ℕ) (f : Form A) (make : A → Answer) (others : Options Answer) → Keeps f → ((a : A) → f.fits a → IsOfEffect (make a)) → OptionsKeep others → OptionsKeep (option t f make others)
option_keeps {A = A} t f make others kf is rest tag bytes at x e =
    elim (chosen (eqb tag t) (f.read bytes at >>= λ a. Ok (make a.0, a.1)) (others tag bytes at) (Ok x) e) [
      | inl c ↦
          let p = bind_ok (f.read bytes at) (λ a. Ok (make a.0, a.1)) x c.1 in
          subst (λ (y : Answer × ℕ). IsOfEffect y.0) (ok_is (make p.0.0, p.0.1) x p.2) (is p.0.0 (kf bytes at p.0 p.1))
      | inr c ↦ rest tag bytes at x c.1
    ]

options_keep : OptionsKeep kept_options
options_keep =
    option_keeps 1 no_fields (λ _. answer.Done) _ (λ bytes at x e. tt) (λ a fit. tt)
    (option_keeps 2 value (λ v. answer.Value v) _ (counted_keeps w16 0 4096) (λ v fit. fit.1)
    (option_keeps 3 no_fields (λ _. answer.Absent) no_option (λ bytes at x e. tt) (λ a fit. tt) none_keeps))

answer_keeps : Keeps kept_answer
answer_keeps bytes at x e =
    let p = bind_ok (number_read w8 1 3 bytes at) (λ t. kept_options t.0 bytes t.1) x e in
    options_keep p.0.0 bytes p.0.1 x p.2

applied_keeps : Keeps applied
applied_keeps =
    fitted_keeps (λ x. record { seq = x.0; answer = x.1 }) (λ a. (a.seq, a.answer)) AppliedInRange (pair client_number (λ _. kept_answer))
    (pair_keeps client_number (λ _. kept_answer) (number_keeps w64 1 (2 ^ 62 - 1)) (λ _. answer_keeps)) (λ x fit. fit)

clients_keep : Keeps rising_clients
clients_keep = rising_keeps client_above (λ c. c.0) (λ low. tested_keeps _ (pair client_number (λ _. applied)) (pair_keeps client_number (λ _. applied) (number_keeps w64 1 (2 ^ 62 - 1)) (λ _. applied_keeps))) 0

-- ---- the whole

parts_fit : (x : Pairs × List (ℕ × Applied)) → rising_pairs.fits x.0 → rising_clients.fits x.1 → HasBase (record { pairs = x.0; clients = x.1 })
parts_fit x ps cs =
    let p = pairs_fit [] x.0 ps.1 in
    let c = clients_fit 0 x.1 cs.1 in
    record {
      range = record { keys = p.0; values = p.1; clients = c.0; applied = c.1 };
      order = record { pairs = climbs_rise nat_list_cmp_total [] (keys_of x.0) p.2; clients = climbs_rise nat_cmp_total 0 (keys_of x.1) c.2 };
      pairs = ps.0;
      clients = cs.0;
    }

base_keeps : Keeps base
base_keeps =
    fitted_keeps (λ x. record { pairs = x.0; clients = x.1 }) (λ s. (s.pairs, s.clients)) HasBase (pair rising_pairs (λ _. rising_clients))
    (pair_keeps rising_pairs (λ _. rising_clients) pairs_keep (λ _. clients_keep)) (λ x fit. parts_fit x fit.0 fit.1)

-- a service in range and in order
pub record ServiceIn (s : Service) : Type 0 where
  pub range : ServiceInRange s
  pub order : ServiceIsOrdered s

pub new_service_in : ServiceIn new_service
unfolding IsStrictlySortedBy
new_service_in =
    record {
      range = record { keys = λ k d within. absurd (omega arith); values = λ k d within. absurd (omega arith); clients = λ k d within. absurd (omega arith); applied = λ k d within. absurd (omega arith) };
      order = record { pairs = tt; clients = tt };
    }

whole_keeps : (bytes : List ℕ) (s : Service) → whole base bytes ≡ Ok s → HasBase s
whole_keeps bytes s e =
    let p = bind_ok (base.read bytes 0) (λ a. cond (ltb a.1 (length bytes)) (Err a.1) (Ok a.0)) s e in
    let g = guard (ltb p.0.1 (length bytes)) p.0.1 (Ok p.0.0) s p.2 in
    subst HasBase (ok_is p.0.0 s g.1) (base_keeps bytes 0 p.0 p.1)

-- what any bytes are read as
pub service_in_range : (bytes : List ℕ) → ServiceIn (service_in bytes)
service_in_range bytes = by (whole base bytes) refl
  where
    by : (r : Result Service ℕ) → whole base bytes ≡ r → ServiceIn (or_new (result_ok (whole base bytes)))
    by (Ok s) e =
        let h : HasBase s = whole_keeps bytes s e in
        subst (λ (r : Result Service ℕ). ServiceIn (or_new (result_ok r))) (sym e) (record { range = h.range; order = h.order })
    by (Err at) e = subst (λ (r : Result Service ℕ). ServiceIn (or_new (result_ok r))) (sym e) new_service_in

-- ---- bytes

-- the bytes of a service in range and in order are a base
pub base_of : (s : Service) → ServiceIn s → IsBase (base_bytes s)
base_of s k = (s, k.range, k.order, refl)

-- bytes that pass for a base are one
pub base_if_read : (bytes : List ℕ) → is_base bytes ≡ true → IsBase bytes
base_if_read bytes h =
    let r : ReadsAs bytes = base_is_read bytes h in
    let k : ServiceIn r.service = subst ServiceIn (ap or_new r.read) (service_in_range bytes) in
    (r.service, k.range, k.order, r.is)
