-- Bytes that are a base are read to their end, and what is read to its end is a base.
use Rattle.std.proofs.Common.{◌≡◌, ℕ, ◌^◌, ◌<◌, ◌↔◌, Bool, false, eqb, IsTrue, List, [], ◌++◌, length, Ok, Err, refl, sym, ap, ◌∙◌, arith}
use Rattle.std.specs.Prelude.{Option, Some, None, option_map}
use Rattle.std.specs.Result.{result_ok}
use Rattle.std.proofs.lemmas.Bool.{eqb-true, eq-eqb}
use Rattle.std.proofs.lemmas.List.{append-nil, drop_all}
use Rattle.op_fields.specs.Form.{Read}
use Rattle.op_fields.specs.Reads.{IsBytes}
use Rattle.op_spec.specs.Service.{Service, base_bytes}
use Rattle.op_kv.specs.Bases.{IsBase, HasBase, base}
use Rattle.op_kv.specs.Looked.{end_of}
use Rattle.op_kv.proofs.BaseReads.{base_reads, base_text, has_base}

ended : {A : Type 0} (r : Read A) (n : ℕ) → end_of r ≡ Some n → (x : A × ℕ) × (r ≡ Ok x) × (x.1 ≡ n)
ended (Ok x) n e = (x, refl, cc)
ended (Err at) n e = absurd cc

-- what is read to its end is a base
pub read_is_base : (bytes : List ℕ) → IsBytes bytes → end_of (base.read bytes 0) ≡ Some (length bytes) → IsBase bytes
read_is_base bytes fits e =
    let p = ended (base.read bytes 0) (length bytes) e in
    let s : Service = p.0.0 in
    let t = base_reads.takes bytes 0 p.0 fits (omega arith) p.1 in
    let is : bytes ≡ base.text s = t.0.split ∙ ap (λ (l : List ℕ). base.text s ++ l) (drop_all p.0.1 bytes (omega arith)) ∙ append-nil (base.text s) in
    (s, t.1.range, t.1.order, is ∙ base_text s t.1.range)

-- what is read of a base, and that its end is the bytes' end
pub record IsReadAs (bytes : List ℕ) (s : Service) : Type 0 where
  pub read : base.read bytes 0 ≡ Ok (s, length bytes)
  pub fits : HasBase s
  pub bytes_are : base_bytes s ≡ bytes

pub base_is_read : (bytes : List ℕ) → length bytes < 2 ^ 64 → IsBase bytes → (s : Service) × IsReadAs bytes s
base_is_read bytes small is =
    let s : Service = is.0 in
    let fit = has_base s is.1 is.2 (omega (arith, ap length is.3)) in
    let text : bytes ≡ base.text s = is.3 ∙ sym (base_text s is.1) in (
      s,
      record {
        read = base_reads.again bytes 0 s [] fit (omega arith) (text ∙ sym (append-nil (base.text s))) ∙ ap (λ (n : ℕ). let read : Read Service = Ok (s, n) in read) (omega (arith, ap length text));
        fits = fit;
        bytes_are = sym is.3;
      },
    )

pub base_ends : (bytes : List ℕ) → length bytes < 2 ^ 64 → IsBase bytes → end_of (base.read bytes 0) ≡ Some (length bytes)
base_ends bytes small is = ap end_of (base_is_read bytes small is).1.read

-- the end that is told is the bytes' end
abbrev pub ends_at : ℕ → Option ℕ → Bool
ends_at n None = false
ends_at n (Some end) = eqb end n

is_end : (n : ℕ) (r : Option ℕ) → IsTrue (ends_at n r) → r ≡ Some n
is_end n None t = absurd cc
is_end n (Some end) t = ap Some (eqb-true end n t)

pub decides_base : (bytes : List ℕ) (n : ℕ) (r : Option ℕ) → IsBytes bytes → n ≡ length bytes → n < 2 ^ 64 → r ≡ end_of (base.read bytes 0) → IsTrue (ends_at n r) ↔ IsBase bytes
decides_base bytes n r fits size small e = (
  λ t. read_is_base bytes fits (sym e ∙ is_end n r t ∙ ap Some size),
  λ is. ap (ends_at n) (e ∙ base_ends bytes (omega arith) is) ∙ eq-eqb (length bytes) n (sym size),
)

-- the service that is read of a base
pub base_is_kept : (bytes : List ℕ) (t : Option Service) → length bytes < 2 ^ 64 → IsBase bytes → t ≡ option_map (λ x. x.0) (result_ok (base.read bytes 0))
    → (s : Service) × (t ≡ Some s) × HasBase s × (base_bytes s ≡ bytes)
base_is_kept bytes t small is e =
    let p = base_is_read bytes small is in
    (p.0, e ∙ ap (λ (r : Read Service). option_map (λ x. x.0) (result_ok r)) p.1.read, p.1.fits, p.1.bytes_are)

pub same_kept : (s t : Service) → Some s ≡ Some t → s ≡ t
same_kept s t e = cc
