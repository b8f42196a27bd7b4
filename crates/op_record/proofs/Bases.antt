-- A base after its length: the bytes that are read are a base, and a base is read.
use Rattle.std.proofs.Common.{◌≡◌, ℕ, zero, suc, ◌^◌, IsTrue, List, [], ◌∷◌, ◌++◌, length, drop, Ok, Err, refl, sym, ap, subst, ◌∙◌, arith, true≢false}
use Rattle.std.specs.Prelude.{Result, is_ok}
use Rattle.std.specs.Int.{w64}
use Rattle.op_fields.specs.Form.{encoded, whole, counted, tested}
use Rattle.op_fields.specs.Reads.{IsBytes, Reads}
use Rattle.op_fields.proofs.Formats.{wide64, counted-reads, IsBytes-drop}
use Rattle.op_fields.proofs.Composites.{tested-reads}
use Rattle.op_fields.proofs.Takes.{whole-reads}
use Rattle.op_spec.specs.Service.{Service}
use Rattle.op_kv.specs.Bases.{IsBase, HasBase}
use Rattle.op_kv.specs.Bases as kv
use Rattle.op_kv.proofs.BaseReads as kv_reads
use Rattle.op_record.specs.Ranges.{greatest_length, IsShort}
use Rattle.op_record.specs.Forms.{is_base, base}

-- what stands behind other bytes, and what stands before others, are bytes too
is_bytes_behind : (xs ys : List ℕ) → IsBytes (xs ++ ys) → IsBytes ys
is_bytes_behind [] ys h = h
is_bytes_behind (x ∷ xs) ys h = is_bytes_behind xs ys (λ i. h (suc i))

is_bytes_before : (xs ys : List ℕ) → IsBytes (xs ++ ys) → IsBytes xs
is_bytes_before [] ys h i = omega arith
is_bytes_before (x ∷ xs) ys h zero = h zero
is_bytes_before (x ∷ xs) ys h (suc i) = is_bytes_before xs ys (λ k. h (suc k)) i

of_ok : (r : Result Service ℕ) → IsTrue (is_ok r) → (s : Service) × (r ≡ Ok s)
of_ok (Ok s) t = (s, refl)
of_ok (Err at) t = absurd (true≢false (sym t))

pub test_is_base : (b : List ℕ) → IsBytes b → IsTrue (is_base b) → IsBase b
test_is_base b bytes t =
    let p = of_ok (whole kv.base b) t in
    let s : Service = p.0 in
    let h = (whole-reads kv.base kv_reads.base_reads).takes b s bytes p.1 in
    (s, h.1.range, h.1.order, h.0 ∙ kv_reads.base_text s h.1.range)

pub base_is_tested : (b : List ℕ) → IsBase b → IsShort b → IsTrue (is_base b)
base_is_tested b is short =
    let s : Service = is.0 in
    let fit : HasBase s = kv_reads.has_base s is.1 is.2 (omega (arith, ap length is.3, short)) in
    let text : b ≡ kv.base.text s = is.3 ∙ sym (kv_reads.base_text s is.1) in
    ap (λ (l : List ℕ). is_ok (whole kv.base l)) text ∙ ap is_ok ((whole-reads kv.base kv_reads.base_reads).again s fit)

-- bytes after their length that pass the test
tested_reads : Reads (tested is_base (counted w64 0 greatest_length))
tested_reads = tested-reads is_base (counted w64 0 greatest_length) (counted-reads w64 (2 ^ 64) wide64 0 greatest_length (omega arith))

pub base_reads : Reads base
base_reads = record {
  takes = λ bytes at x h le e.
      let t = tested_reads.takes bytes at x h le e in
      let here : IsBytes ((encoded w64 (length x.0) ++ x.0) ++ drop x.1 bytes) = subst IsBytes t.0.split (IsBytes-drop at bytes h) in
      let own : IsBytes x.0 = is_bytes_behind (encoded w64 (length x.0)) x.0 (is_bytes_before (encoded w64 (length x.0) ++ x.0) (drop x.1 bytes) here) in
      (t.0, (test_is_base x.0 own t.1.1, t.1.0.1));
  again = λ bytes at b rest fit le e.
      tested_reads.again bytes at b rest ((omega arith, fit.1), base_is_tested b fit.0 fit.1) le e;
}
