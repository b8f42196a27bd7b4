-- What stands after a flag or a tag is read where it is encoded, and only there.
use Rattle.std.proofs.Common.{◌≡◌, ℕ, ◌+◌, ◌^◌, ◌<◌, ◌≤◌, cond, eqb, List, ◌++◌, length, drop, Option, Some, None, Ok, refl, sym, ap, subst, ◌∙◌, append_assoc, length-append, arith, inl, inr}
use Rattle.std.specs.Int.{w8}
use Rattle.std.proofs.lemmas.Bool.{eqb-true, eqb-false}
use Rattle.op_fields.specs.Reads.{IsBytes, Took, Reads}
use Rattle.op_fields.specs.Form.{Read, ◌>>=◌, encoded, Form, number_read, optional_tag, optional_body, optional_fits, optional, Options, option, no_option, choice}
use Rattle.op_fields.proofs.Formats.{Took-then, after_text, bind_ok, chosen, made, number-reads, ok_is, wide8}

abbrev option_read : {A : Type 0} → Form A → ℕ → List ℕ → ℕ → Read (Option A)
option_read f t bytes at = cond (eqb t 0) (Ok (None, at)) (f.read bytes at >>= λ a. Ok (Some a.0, a.1))

optional_low : {A : Type 0} (o : Option A) → optional_tag o ≤ 1
optional_low None = omega arith
optional_low (Some a) = omega arith

optional-takes : {A : Type 0} (f : Form A) → Reads f → (t : ℕ) (bytes : List ℕ) (at : ℕ) (x : Option A × ℕ) → IsBytes bytes → at ≤ length bytes → t ≤ 1
    → option_read f t bytes at ≡ Ok x
    → Took bytes at (optional_body f x.0) x.1 × optional_fits f x.0 × (t ≡ optional_tag x.0)
optional-takes {A = A} f rf t bytes at x fits le top e =
    let none_is : Option A × ℕ = (None, at) in
    elim (chosen (eqb t 0) (Ok none_is) (f.read bytes at >>= λ a. Ok (Some a.0, a.1)) (Ok x) e) [
      | inl c ↦ subst (λ (y : Option A × ℕ). Took bytes at (optional_body f y.0) y.1 × optional_fits f y.0 × (t ≡ optional_tag y.0)) (ok_is none_is x c.1)
          (record { split = refl; place = omega arith; within = le }, tt, eqb-true t 0 c.0)
      | inr c ↦
          let p = bind_ok (f.read bytes at) (λ a. Ok (Some a.0, a.1)) x c.1 in
          let s = rf.takes bytes at p.0 fits le p.1 in
          subst (λ (y : Option A × ℕ). Took bytes at (optional_body f y.0) y.1 × optional_fits f y.0 × (t ≡ optional_tag y.0)) (ok_is (Some p.0.0, p.0.1) x p.2)
          (s.0, s.1, let ne = eqb-false t 0 c.0 in omega arith)
    ]

optional-again : {A : Type 0} (f : Form A) → Reads f → (o : Option A) (bytes : List ℕ) (at : ℕ) (rest : List ℕ) → optional_fits f o → at ≤ length bytes → drop at bytes ≡ optional_body f o ++ rest
    → option_read f (optional_tag o) bytes at ≡ Ok (o, at + length (optional_body f o))
optional-again {A = A} f rf None bytes at rest h le e = let none_at : ℕ → Read (Option A) = λ n. Ok (None, n) in ap none_at (omega arith)
optional-again {A = A} f rf (Some a) bytes at rest h le e = made (f.read bytes at) (λ a. Some a) a _ (rf.again bytes at a rest h le e)

pub optional-reads : {A : Type 0} (f : Form A) → Reads f → Reads (optional f)
optional-reads {A = A} f rf = record {
  takes = λ bytes at x h le e.
      let p = bind_ok (number_read w8 0 1 bytes at) (λ t. option_read f t.0 bytes t.1) x e in
      let s = (number-reads w8 (2 ^ 8) wide8 0 1 (omega arith)).takes bytes at p.0 h le p.1 in
      let t = optional-takes f rf p.0.0 bytes p.0.1 x h s.0.within s.1.1 p.2 in
      let both = Took-then bytes at (encoded w8 p.0.0) p.0.1 (optional_body f x.0) x.1 s.0 t.0 in
      (subst (λ (k : ℕ). Took bytes at (encoded w8 k ++ optional_body f x.0) x.1) t.2 both, t.1);
  again = λ bytes at o rest h le e.
      let e1 : drop at bytes ≡ encoded w8 (optional_tag o) ++ (optional_body f o ++ rest) = e ∙ append_assoc (encoded w8 (optional_tag o)) (optional_body f o) rest in
      let g = after_text bytes at (encoded w8 (optional_tag o)) (optional_body f o ++ rest) le e1 in
      let r1 = (number-reads w8 (2 ^ 8) wide8 0 1 (omega arith)).again bytes at (optional_tag o) (optional_body f o ++ rest) (omega arith, optional_low o) le e1 in
      let r2 = optional-again f rf o bytes (at + length (encoded w8 (optional_tag o))) rest h g.0 g.1 in
      ap (λ (r : Read ℕ). r >>= λ t. option_read f t.0 bytes t.1) r1
      ∙ r2 ∙ ap (λ (n : ℕ). Ok (o, n)) (omega (arith, length-append (encoded w8 (optional_tag o)) (optional_body f o)));
}

-- ---- tags

module _ {B : Type 0} (tag_of : B → ℕ) (body : B → List ℕ) (fits : B → Type 0) where
  abbrev pub OptionsTake : Options B → Type 0
  OptionsTake options = (tag : ℕ) (bytes : List ℕ) (at : ℕ) (x : B × ℕ) → IsBytes bytes → at ≤ length bytes → options tag bytes at ≡ Ok x
      → Took bytes at (body x.0) x.1 × fits x.0 × (tag_of x.0 ≡ tag)

  pub no_option-takes : OptionsTake no_option
  no_option-takes tag bytes at x h le e = absurd cc

  pub option-takes : {A : Type 0} (t : ℕ) (f : Form A) (make : A → B) (others : Options B) → Reads f
      → ((a : A) → f.fits a → (body (make a) ≡ f.text a) × fits (make a) × (tag_of (make a) ≡ t)) → OptionsTake others → OptionsTake (option t f make others)
  option-takes {A = A} t f make others rf ways rest tag bytes at x h le e =
      elim (chosen (eqb tag t) (f.read bytes at >>= λ a. Ok (make a.0, a.1)) (others tag bytes at) (Ok x) e) [
        | inl c ↦
            let p = bind_ok (f.read bytes at) (λ a. Ok (make a.0, a.1)) x c.1 in
            let s = rf.takes bytes at p.0 h le p.1 in
            let way = ways p.0.0 s.1 in
            subst (λ (y : B × ℕ). Took bytes at (body y.0) y.1 × fits y.0 × (tag_of y.0 ≡ tag)) (ok_is (make p.0.0, p.0.1) x p.2)
            (subst (λ (t : List ℕ). Took bytes at t p.0.1) (sym way.0) s.0, way.1, way.2 ∙ sym (eqb-true tag t c.0))
        | inr c ↦ rest tag bytes at x h le c.1
      ]

  abbrev pub OptionsAgain : Options B → Type 0
  OptionsAgain options = (b : B) (bytes : List ℕ) (at : ℕ) (rest : List ℕ) → fits b → at ≤ length bytes → drop at bytes ≡ body b ++ rest
      → options (tag_of b) bytes at ≡ Ok (b, at + length (body b))

  pub choice-reads : (high : ℕ) (options : Options B) → high < 2 ^ 8 → ((b : B) → fits b → (1 ≤ tag_of b) × (tag_of b ≤ high)) → OptionsTake options → OptionsAgain options
      → Reads (choice high tag_of body fits options)
  choice-reads high options top tags take_one again_one = record {
    takes = λ bytes at x h le e.
        let p = bind_ok (number_read w8 1 high bytes at) (λ t. options t.0 bytes t.1) x e in
        let s = (number-reads w8 (2 ^ 8) wide8 1 high top).takes bytes at p.0 h le p.1 in
        let t = take_one p.0.0 bytes p.0.1 x h s.0.within p.2 in
        let both = Took-then bytes at (encoded w8 p.0.0) p.0.1 (body x.0) x.1 s.0 t.0 in
        (subst (λ (k : ℕ). Took bytes at (encoded w8 k ++ body x.0) x.1) (sym t.2) both, t.1);
    again = λ bytes at b rest h le e.
        let e1 : drop at bytes ≡ encoded w8 (tag_of b) ++ (body b ++ rest) = e ∙ append_assoc (encoded w8 (tag_of b)) (body b) rest in
        let g = after_text bytes at (encoded w8 (tag_of b)) (body b ++ rest) le e1 in
        let r1 = (number-reads w8 (2 ^ 8) wide8 1 high top).again bytes at (tag_of b) (body b ++ rest) (tags b h) le e1 in
        let r2 = again_one b bytes (at + length (encoded w8 (tag_of b))) rest h g.0 g.1 in
        ap (λ (r : Read ℕ). r >>= λ t. options t.0 bytes t.1) r1
        ∙ r2 ∙ ap (λ (n : ℕ). Ok (b, n)) (omega (arith, length-append (encoded w8 (tag_of b)) (body b)));
  }
