-- What is made of formats is read where it is encoded, and only there: pairs, other types, tests, lists.
use Rattle.std.proofs.Common.{◌≡◌, ℕ, zero, suc, ◌+◌, ◌<◌, ◌≤◌, Bool, cond, IsTrue, List, [], ◌∷◌, ◌++◌, length, get_or, drop, Ok, Err, refl, sym, ap, subst, ◌∙◌, append_assoc, length-append, arith}
use Rattle.std.specs.List.{flat_map}
use Rattle.std.proofs.lemmas.List.Concat.{flat_map-cons}
use Rattle.std.specs.Int.{Width}
use Rattle.std.specs.Prelude.{All}
use Rattle.op_fields.specs.Reads.{IsBytes, Took, Reads}
use Rattle.op_fields.specs.Form.{Read, ◌>>=◌, encoded, Form, number_read, pair, fitted, tested, Items, items_read, listed}
use Rattle.op_fields.proofs.Formats.{IsWide, Took-then, after_text, bind_ok, number-reads, ok_is, passed, passes}

pub pair-reads : {A B : Type 0} (f : Form A) (g : A → Form B) → Reads f → ((a : A) → f.fits a → Reads (g a)) → Reads (pair f g)
pair-reads {A = A} {B = B} f g rf rg = record {
  takes = λ bytes at x fits le e.
      let p = bind_ok (f.read bytes at) (λ a. (g a.0).read bytes a.1 >>= λ b. Ok ((a.0, b.0), b.1)) x e in
      let q = bind_ok ((g p.0.0).read bytes p.0.1) (λ b. Ok ((p.0.0, b.0), b.1)) x p.2 in
      let s = rf.takes bytes at p.0 fits le p.1 in
      let t = (rg p.0.0 s.1).takes bytes p.0.1 q.0 fits s.0.within q.1 in
      subst (λ (y : (A × B) × ℕ). Took bytes at (f.text y.0.0 ++ (g y.0.0).text y.0.1) y.1 × (f.fits y.0.0 × (g y.0.0).fits y.0.1)) (ok_is ((p.0.0, q.0.0), q.0.1) x q.2)
      (Took-then bytes at (f.text p.0.0) p.0.1 ((g p.0.0).text q.0.0) q.0.1 s.0 t.0, (s.1, t.1));
  again = λ bytes at a rest fits le e.
      let e1 : drop at bytes ≡ f.text a.0 ++ ((g a.0).text a.1 ++ rest) = e ∙ append_assoc (f.text a.0) ((g a.0).text a.1) rest in
      let b = after_text bytes at (f.text a.0) ((g a.0).text a.1 ++ rest) le e1 in
      let r1 = rf.again bytes at a.0 ((g a.0).text a.1 ++ rest) fits.0 le e1 in
      let r2 = (rg a.0 fits.0).again bytes (at + length (f.text a.0)) a.1 rest fits.1 b.0 b.1 in
      ap (λ (r : Read A). r >>= λ a. (g a.0).read bytes a.1 >>= λ b. Ok ((a.0, b.0), b.1)) r1
      ∙ ap (λ (r : Read B). r >>= λ b. Ok ((a.0, b.0), b.1)) r2
      ∙ ap (λ (n : ℕ). Ok (a, n)) (omega (arith, length-append (f.text a.0) ((g a.0).text a.1)));
}

pub fitted-reads : {A B : Type 0} (to : A → B) (from : B → A) (fits : B → Type 0) (f : Form A) → Reads f
    → ((a : A) → f.fits a → (from (to a) ≡ a) × fits (to a)) → ((b : B) → fits b → f.fits (from b) × (to (from b) ≡ b)) → Reads (fitted to from fits f)
fitted-reads {A = A} {B = B} to from fits f rf back forth = record {
  takes = λ bytes at x h le e.
      let p = bind_ok (f.read bytes at) (λ a. Ok (to a.0, a.1)) x e in
      let s = rf.takes bytes at p.0 h le p.1 in
      let k = back p.0.0 s.1 in
      subst (λ (y : B × ℕ). Took bytes at (f.text (from y.0)) y.1 × fits y.0) (ok_is (to p.0.0, p.0.1) x p.2)
      (subst (λ (a : A). Took bytes at (f.text a) p.0.1) (sym k.0) s.0, k.1);
  again = λ bytes at b rest h le e.
      let k = forth b h in
      ap (λ (r : Read A). r >>= λ a. Ok (to a.0, a.1)) (rf.again bytes at (from b) rest k.0 le e)
      ∙ ap (λ (c : B). Ok (c, at + length (f.text (from b)))) k.1;
}

pub tested-reads : {A : Type 0} (test : A → Bool) (f : Form A) → Reads f → Reads (tested test f)
tested-reads {A = A} test f rf = record {
  takes = λ bytes at x fits le e.
      let p = bind_ok (f.read bytes at) (λ a. cond (test a.0) (Ok a) (Err at)) x e in
      let g = passed (test p.0.0) at p.0 x p.2 in
      let s = rf.takes bytes at p.0 fits le p.1 in
      subst (λ (y : A × ℕ). Took bytes at (f.text y.0) y.1 × (f.fits y.0 × IsTrue (test y.0))) g.1 (s.0, (s.1, g.0));
  again = λ bytes at a rest fits le e.
      ap (λ (r : Read A). r >>= λ a. cond (test a.0) (Ok a) (Err at)) (rf.again bytes at a rest fits.0 le e)
      ∙ passes (test a) (Ok (a, at + length (f.text a))) (Err at) fits.1;
}

module _ {A : Type 0} (f : ℕ → Form A) (key : A → ℕ) (rf : (low : ℕ) → Reads (f low)) (same : (low : ℕ) (a : A) → (f low).text a ≡ (f 0).text a) where
  items-take : (n low : ℕ) (bytes : List ℕ) (at : ℕ) (x : List A × ℕ) → IsBytes bytes → at ≤ length bytes → items_read f key n low bytes at ≡ Ok x
      → Took bytes at (flat_map (f 0).text x.0) x.1 × ((length x.0 ≡ n) × Items f key low x.0)
  unfolding items_read
  items-take zero low bytes at x fits le e =
      subst (λ (y : List A × ℕ). Took bytes at (flat_map (f 0).text y.0) y.1 × ((length y.0 ≡ 0) × Items f key low y.0)) (ok_is ([], at) x e)
      (record { split = refl; place = omega arith; within = le }, (refl, tt))
  items-take (suc n) low bytes at x fits le e =
      let p = bind_ok ((f low).read bytes at) (λ x. items_read f key n (key x.0) bytes x.1 >>= λ xs. Ok (x.0 ∷ xs.0, xs.1)) x e in
      let q = bind_ok (items_read f key n (key p.0.0) bytes p.0.1) (λ xs. Ok (p.0.0 ∷ xs.0, xs.1)) x p.2 in
      let s = (rf low).takes bytes at p.0 fits le p.1 in
      let t = items-take n (key p.0.0) bytes p.0.1 q.0 fits s.0.within q.1 in
      subst (λ (y : List A × ℕ). Took bytes at (flat_map (f 0).text y.0) y.1 × ((length y.0 ≡ suc n) × Items f key low y.0)) (ok_is (p.0.0 ∷ q.0.0, q.0.1) x q.2)
      (rw flat_map-cons (Took-then bytes at ((f 0).text p.0.0) p.0.1 (flat_map (f 0).text q.0.0) q.0.1 (subst (λ (t : List ℕ). Took bytes at t p.0.1) (same low p.0.0) s.0) t.0), (ap suc t.1.0, (s.1, t.1.1)))

  items-again : (xs : List A) (low : ℕ) (bytes : List ℕ) (at : ℕ) (rest : List ℕ) → Items f key low xs → at ≤ length bytes → drop at bytes ≡ flat_map (f 0).text xs ++ rest
      → items_read f key (length xs) low bytes at ≡ Ok (xs, at + length (flat_map (f 0).text xs))
  unfolding items_read
  items-again [] low bytes at rest fits le e = ap (λ (n : ℕ). Ok ([], n)) (omega arith)
  items-again (x ∷ xs) low bytes at rest fits le e =
      let a : List ℕ = (f low).text x in
      let b : List ℕ = flat_map (f 0).text xs in
      let e1 : drop at bytes ≡ a ++ (b ++ rest) = e ∙ ap (λ (t : List ℕ). t ++ rest) (flat_map-cons (f 0).text x xs ∙ ap (λ (t : List ℕ). t ++ b) (sym (same low x))) ∙ append_assoc a b rest in
      let h = after_text bytes at a (b ++ rest) le e1 in
      let r1 = (rf low).again bytes at x (b ++ rest) fits.0 le e1 in
      let r2 = items-again xs (key x) bytes (at + length a) rest fits.1 h.0 h.1 in
      ap (λ (r : Read A). r >>= λ x. items_read f key (length xs) (key x.0) bytes x.1 >>= λ xs. Ok (x.0 ∷ xs.0, xs.1)) r1
      ∙ ap (λ (r : Read (List A)). r >>= λ xs. Ok (x ∷ xs.0, xs.1)) r2
      ∙ ap (λ (n : ℕ). Ok (x ∷ xs, n)) (omega (arith, length-append a b, ap length (flat_map-cons (f 0).text x xs ∙ ap (λ (t : List ℕ). t ++ b) (sym (same low x)))))

  pub listed-reads : (w : Width) (limit : ℕ) → IsWide w limit → (low high first : ℕ) → high < limit → Reads (listed w low high f key first)
  listed-reads w limit wide low high first top = record {
    takes = λ bytes at x fits le e.
        let p = bind_ok (number_read w low high bytes at) (λ n. items_read f key n.0 first bytes n.1) x e in
        let s = (number-reads w limit wide low high top).takes bytes at p.0 fits le p.1 in
        let t = items-take p.0.0 first bytes p.0.1 x fits s.0.within p.2 in
        let both = Took-then bytes at (encoded w p.0.0) p.0.1 (flat_map (f 0).text x.0) x.1 s.0 t.0 in
        subst (λ (k : ℕ). Took bytes at (encoded w k ++ flat_map (f 0).text x.0) x.1 × ((low ≤ k) × (k ≤ high) × Items f key first x.0)) (sym t.1.0)
        (both, (s.1.0, s.1.1, t.1.1));
    again = λ bytes at a rest fits le e.
        let b : List ℕ = flat_map (f 0).text a in
        let e1 : drop at bytes ≡ encoded w (length a) ++ (b ++ rest) = e ∙ append_assoc (encoded w (length a)) b rest in
        let h = after_text bytes at (encoded w (length a)) (b ++ rest) le e1 in
        let r1 = (number-reads w limit wide low high top).again bytes at (length a) (b ++ rest) (fits.0, fits.1) le e1 in
        let r2 = items-again a first bytes (at + length (encoded w (length a))) rest fits.2 h.0 h.1 in
        ap (λ (r : Read ℕ). r >>= λ n. items_read f key n.0 first bytes n.1) r1
        ∙ r2 ∙ ap (λ (n : ℕ). Ok (a, n)) (omega (arith, length-append (encoded w (length a)) b));
  }

-- as many items are read as were asked for
pub items_count : {A : Type 0} (f : ℕ → Form A) (key : A → ℕ) (n low : ℕ) (bytes : List ℕ) (at : ℕ) (x : List A × ℕ) → items_read f key n low bytes at ≡ Ok x → length x.0 ≡ n
unfolding items_read
items_count {A = A} f key zero low bytes at x e = subst (λ (y : List A × ℕ). length y.0 ≡ 0) (ok_is ([], at) x e) refl
items_count {A = A} f key (suc n) low bytes at x e =
    let p = bind_ok ((f low).read bytes at) (λ x. items_read f key n (key x.0) bytes x.1 >>= λ xs. Ok (x.0 ∷ xs.0, xs.1)) x e in
    let q = bind_ok (items_read f key n (key p.0.0) bytes p.0.1) (λ xs. Ok (p.0.0 ∷ xs.0, xs.1)) x p.2 in
    subst (λ (y : List A × ℕ). length y.0 ≡ suc n) (ok_is (p.0.0 ∷ q.0.0, q.0.1) x q.2) (ap suc (items_count f key n (key p.0.0) bytes p.0.1 q.0 q.1))

-- an item of a list that fits has an encoding, where the form is the same for each
pub each_fits : {A : Type 0} (f : Form A) (key : A → ℕ) (low : ℕ) (xs : List A) → Items (λ _. f) key low xs → All (λ x. f.fits x) xs
each_fits f key low [] fits = λ k d lt. absurd (omega arith)
each_fits {A = A} f key low (x ∷ xs) fits = fit (each_fits f key (key x) xs fits.1)
  where
    fit : All (λ x. f.fits x) xs → (k : ℕ) (d : A) → k < suc (length xs) → f.fits (get_or (x ∷ xs) k d)
    fit rest zero d lt = fits.0
    fit rest (suc k) d lt = rest k d (omega arith)

-- and the other way round
pub all_fit : {A : Type 0} (f : Form A) (key : A → ℕ) (low : ℕ) (xs : List A) → All (λ x. f.fits x) xs → Items (λ _. f) key low xs
all_fit f key low [] fits = tt
all_fit f key low (x ∷ xs) fits = (fits zero x (omega arith), all_fit f key (key x) xs (λ k d lt. fits (suc k) d (omega arith)))
