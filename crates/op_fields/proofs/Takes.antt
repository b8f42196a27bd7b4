-- What a function takes whose reading is that of a format: the clauses of a whole body, and of a value that others follow.
use Rattle.std.proofs.Common.{◌≡◌, ℕ, ◌+◌, ◌≤◌, cond, ltb, List, [], ◌++◌, length, drop, Result, Ok, Err, refl, sym, ap, subst, ◌∙◌, arith}
use Rattle.std.proofs.lemmas.Bool.{ltb-false, le-ltb}
use Rattle.std.proofs.lemmas.List.{append-nil, drop_all}
use Rattle.std.specs.Prelude.{IfOk}
use Rattle.op_fields.specs.declared.fail.TakeFail.{TakeFail}
use Rattle.op_fields.specs.declared.fail.TakeFail.TheVariants as fails
use Rattle.op_fields.specs.Taken.{Gives, IfBad}
use Rattle.op_fields.specs.Reads.{IsBytes, Reads, ReadsWhole}
use Rattle.op_fields.specs.Form.{Read, ◌>>=◌, Form, whole}
use Rattle.op_fields.proofs.Formats.{bind_ok, done, found, guard, none, ok_is}

-- ---- whole bodies

pub whole-reads : {A : Type 0} (f : Form A) → Reads f → ReadsWhole f
whole-reads {A = A} f rf = record {
  takes = λ bytes a fits e.
      let p = bind_ok (f.read bytes 0) (λ x. cond (ltb x.1 (length bytes)) (Err x.1) (Ok x.0)) a e in
      let g = guard (ltb p.0.1 (length bytes)) p.0.1 (Ok p.0.0) a p.2 in
      let t = rf.takes bytes 0 p.0 fits (omega arith) p.1 in
      let end : length bytes ≤ p.0.1 = ltb-false _ _ g.0 in
      let is : bytes ≡ f.text p.0.0 = t.0.split ∙ ap (λ (l : List ℕ). f.text p.0.0 ++ l) (drop_all p.0.1 bytes end) ∙ append-nil (f.text p.0.0) in
      subst (λ (b : A). (bytes ≡ f.text b) × f.fits b) (ok_is p.0.0 a g.1) (is, t.1);
  again = λ a fits.
      let r : f.read (f.text a) 0 ≡ Ok (a, 0 + length (f.text a)) = rf.again (f.text a) 0 a [] fits (omega arith) (sym (append-nil (f.text a))) in
      ap (λ (r : Read A). r >>= λ x. cond (ltb x.1 (length (f.text a))) (Err x.1) (Ok x.0)) r
      ∙ not_past (0 + length (f.text a)) (length (f.text a)) a (omega arith);
}
  where
    not_past : (m n : ℕ) (a : A) → n ≤ m → cond (ltb m n) (Err m) (done a) ≡ Ok a
    not_past m n a le = rw (le-ltb m n le) refl

-- ---- the clauses of a function that takes a value from the start of bytes

pub is_found : {A : Type 0} (f : Form A) → Reads f → (bytes : List ℕ) (r : Result (A × ℕ) TakeFail) → IsBytes bytes → Gives r (f.read bytes 0) → IfOk r (λ x. f.fits x.0 × (bytes ≡ f.text x.0 ++ drop x.1 bytes) × (x.1 ≡ length (f.text x.0)))
is_found f reads bytes (Ok x) fits given = let h = found f reads bytes x fits given in (h.2, h.0, h.1)
is_found f reads bytes (Err e) fits given = tt

pub is_only : {A : Type 0} (f : Form A) → Reads f → (bytes : List ℕ) (r : Result (A × ℕ) TakeFail) → Gives r (f.read bytes 0) → (a : A) (rest : List ℕ) → f.fits a → bytes ≡ f.text a ++ rest → Gives r (Ok (a, length (f.text a)))
is_only {A = A} f reads bytes r given a rest fits is =
    let h : f.read bytes 0 ≡ Ok (a, 0 + length (f.text a)) = reads.again bytes 0 a rest fits (omega arith) is in
    let k : f.read bytes 0 ≡ Ok (a, length (f.text a)) = h ∙ ap (λ (n : ℕ). done (a, n)) (omega arith) in
    subst (λ (x : Result (A × ℕ) ℕ). Gives r x) k given

pub is_bad : {A : Type 0} (f : Form A) → Reads f → (bytes : List ℕ) (r : Result (A × ℕ) TakeFail) → Gives r (f.read bytes 0)
    → IfBad r (λ at. (f.read bytes 0 ≡ Err at) × ((a : A) (rest : List ℕ) → f.fits a → bytes ≡ f.text a ++ rest → ⊥))
is_bad f reads bytes (Ok x) given = tt
is_bad f reads bytes (Err fails.NoMemory) given = tt
is_bad f reads bytes (Err (fails.Bad at)) given = (given, none f reads bytes at given)

pub whole_found : {A : Type 0} (f : Form A) → Reads f → (bytes : List ℕ) (r : Result A TakeFail) → IsBytes bytes → Gives r (whole f bytes) → IfOk r (λ a. f.fits a × (bytes ≡ f.text a))
whole_found f reads bytes (Ok a) fits given = let h = (whole-reads f reads).takes bytes a fits given in (h.1, h.0)
whole_found f reads bytes (Err e) fits given = tt

pub whole_only : {A : Type 0} (f : Form A) → Reads f → (bytes : List ℕ) (r : Result A TakeFail) → Gives r (whole f bytes) → (a : A) → f.fits a → bytes ≡ f.text a → Gives r (Ok a)
whole_only {A = A} f reads bytes r given a fits is =
    let h : whole f bytes ≡ Ok a = ap (λ (t : List ℕ). whole f t) is ∙ (whole-reads f reads).again a fits in
    subst (λ (x : Result A ℕ). Gives r x) h given

pub whole_bad : {A : Type 0} (f : Form A) → Reads f → (bytes : List ℕ) (r : Result A TakeFail) → Gives r (whole f bytes)
    → IfBad r (λ at. (whole f bytes ≡ Err at) × ((a : A) → f.fits a → bytes ≡ f.text a → ⊥))
whole_bad f reads bytes (Ok x) given = tt
whole_bad f reads bytes (Err fails.NoMemory) given = tt
whole_bad {A = A} f reads bytes (Err (fails.Bad at)) given = (
  given,
  λ a fits is.
      let h : whole f bytes ≡ Ok a = ap (λ (t : List ℕ). whole f t) is ∙ (whole-reads f reads).again a fits in
      let e : Err at ≡ done a = sym given ∙ h in
      absurd (cc),
)
