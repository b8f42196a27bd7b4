-- Numbers and counted bytes are read where they are encoded, and only there; and what holds of each format that is.
use Rattle.std.proofs.Common.{◌≡◌, ℕ, ◌+◌, ◌^◌, ◌<◌, ◌≤◌, ◌⊎◌, Bool, true, false, cond, ltb, IsTrue, List, [], ◌∷◌, ◌++◌, length, take, drop, Result, Ok, Err, refl, sym, ap, subst, ◌∙◌, append_assoc, length-append, arith, inl, inr}
use Rattle.std.specs.Int.{Width, w8, w16, w32, w64, w128, byte_len, from_be_bytes}
use Rattle.std.proofs.lemmas.Bool.{cases_lt, ltb-false, le-ltb}
use Rattle.std.proofs.lemmas.List.{take_at, drop_at, drop-drop, take-append-drop, length-take, length-drop, get_or-drop, get_or-take, get_or_past}
use Rattle.std.proofs.lemmas.Nat.{be_bytes_2, be_bytes_4, be_bytes_8, from_be_bytes-to_be_bytes_2, from_be_bytes-to_be_bytes_4, from_be_bytes-to_be_bytes_8}
use Rattle.op_fields.specs.Taken.{IsCountedAt}
use Rattle.op_fields.specs.Reads.{IsBytes, IsFieldWidth, limit_of, Took, Reads}
use Rattle.op_fields.specs.Form.{Read, ◌>>=◌, encoded, Form, number_read, number, counted}

pub IsBytes-drop : (n : ℕ) (bytes : List ℕ) → IsBytes bytes → IsBytes (drop n bytes)
IsBytes-drop n bytes h i = rw get_or-drop (h (n + i))

pub IsBytes-take : (n : ℕ) (bytes : List ℕ) → IsBytes bytes → IsBytes (take n bytes)
IsBytes-take n bytes h i =
    elim (cases_lt i n) [
      | inl lt ↦ rw (get_or-take n bytes i 0 lt) (h i)
      | inr le ↦ rw (get_or_past (take n bytes) i 0 (omega (arith, length-take n bytes))) (omega arith)
    ]

-- the value of a step that did not fail
pub bind_ok : {A B : Type 0} (r : Result A ℕ) (f : A → Result B ℕ) (y : B) → (r >>= f) ≡ Ok y → (x : A) × (r ≡ Ok x) × (f x ≡ Ok y)
bind_ok (Ok x) f y e = (x, refl, e)
bind_ok (Err d) f y e = absurd cc

-- a test that did not fail
pub guard : {A : Type 0} (b : Bool) (d : ℕ) (r : Result A ℕ) (y : A) → cond b (Err d) r ≡ Ok y → (b ≡ false) × (r ≡ Ok y)
guard true d r y e = absurd cc
guard false d r y e = (refl, e)

pub passed : {A : Type 0} (b : Bool) (d : ℕ) (x y : A) → cond b (Ok x) (Err d) ≡ Ok y → IsTrue b × (x ≡ y)
passed true d x y e = (refl, cc)
passed false d x y e = absurd cc

pub passes : {A : Type 0} (b : Bool) (x y : A) → IsTrue b → cond b x y ≡ x
passes true x y h = refl
passes false x y h = absurd cc

pub chosen : {A : Type 0} (b : Bool) (r s t : A) → cond b r s ≡ t → ((b ≡ true) × (r ≡ t)) ⊎ ((b ≡ false) × (s ≡ t))
chosen true r s t e = inl (refl, e)
chosen false r s t e = inr (refl, e)

abbrev pub done : {A : Type 0} → A → Result A ℕ
done x = Ok x

pub ok_is : {A : Type 0} (x y : A) → done x ≡ done y → x ≡ y
ok_is x y e = cc

pub Took-then : (bytes : List ℕ) (at : ℕ) (x : List ℕ) (mid : ℕ) (y : List ℕ) (next : ℕ) → Took bytes at x mid → Took bytes mid y next → Took bytes at (x ++ y) next
Took-then bytes at x mid y next p q = record {
  split = p.split ∙ ap (λ (t : List ℕ). x ++ t) q.split ∙ sym (append_assoc x y (drop next bytes));
  place = omega (arith, p.place, q.place, length-append x y);
  within = q.within;
}

-- after a text that stands at a place
pub after_text : (bytes : List ℕ) (at : ℕ) (text rest : List ℕ) → at ≤ length bytes → drop at bytes ≡ text ++ rest → (at + length text ≤ length bytes) × (drop (at + length text) bytes ≡ rest)
after_text bytes at text rest le e = (
  omega (arith, length-drop at bytes, ap length e, length-append text rest),
  sym (drop-drop (length text) at bytes) ∙ ap (λ (t : List ℕ). drop (length text) t) e ∙ drop_at text rest (length text) refl,
)

-- ---- what holds of each format

pub found : {A : Type 0} (f : Form A) → Reads f → (bytes : List ℕ) (x : A × ℕ) → IsBytes bytes → f.read bytes 0 ≡ Ok x → (bytes ≡ f.text x.0 ++ drop x.1 bytes) × (x.1 ≡ length (f.text x.0)) × f.fits x.0
found f reads bytes x fits e =
    let t = reads.takes bytes 0 x fits (omega arith) e in
    (t.0.split, omega (arith, t.0.place), t.1)

pub prefix : {A : Type 0} (f : Form A) → Reads f → (a : A) (rest : List ℕ) → f.fits a → f.read (f.text a ++ rest) 0 ≡ Ok (a, 0 + length (f.text a))
prefix f reads a rest fits = reads.again (f.text a ++ rest) 0 a rest fits (omega arith) refl

pub none : {A : Type 0} (f : Form A) → Reads f → (bytes : List ℕ) (p : ℕ) → f.read bytes 0 ≡ Err p → (a : A) (rest : List ℕ) → f.fits a → bytes ≡ f.text a ++ rest → ⊥
none f reads bytes p e a rest fits is =
    let h = reads.again bytes 0 a rest fits (omega arith) is in
    cc

-- no encoding begins another
pub one : {A : Type 0} (f : Form A) → Reads f → (a b : A) (r s : List ℕ) → f.fits a → f.fits b → f.text a ++ r ≡ f.text b ++ s → a ≡ b
one {A = A} f reads a b r s fa fb is =
    let p = prefix f reads a r fa in
    let q = prefix f reads b s fb in
    let same : done (a, 0 + length (f.text a)) ≡ done (b, 0 + length (f.text b)) = sym p ∙ ap (λ (t : List ℕ). f.read t 0) is ∙ q in
    ap (λ (x : A × ℕ). x.0) (ok_is _ _ same)

abbrev remade : {A B : Type 0} → (A → B) → Read A → Read B
remade make r = r >>= λ a. Ok (make a.0, a.1)

pub made : {A B : Type 0} (r : Read A) (make : A → B) (a : A) (n : ℕ) → r ≡ Ok (a, n) → remade make r ≡ Ok (make a, n)
made r make a n e = ap (remade make) e

-- ---- numbers

pub record IsWide (w : Width) (limit : ℕ) : Type 0 where
  pub len : (n : ℕ) → length (encoded w n) ≡ byte_len w
  pub back : (bytes : List ℕ) → length bytes ≡ byte_len w → IsBytes bytes → encoded w (from_be_bytes w bytes) ≡ bytes
  pub again : (n : ℕ) → n < limit → from_be_bytes w (encoded w n) ≡ n

byte_back : (bytes : List ℕ) → length bytes ≡ 1 → IsBytes bytes → encoded w8 (from_be_bytes w8 bytes) ≡ bytes
unfolding encoded
byte_back [] len fits = absurd (omega arith)
byte_back (b ∷ []) len fits = let h = fits 0 in ap (λ (n : ℕ). n ∷ []) (omega arith)
byte_back (b ∷ c ∷ bs) len fits = absurd (omega arith)

pub wide8 : IsWide w8 (2 ^ 8)
unfolding encoded
wide8 = record { len = λ n. refl; back = byte_back; again = λ n lt. omega arith }

pub wide16 : IsWide w16 (2 ^ 16)
unfolding encoded
wide16 = record { len = λ n. refl; back = λ bytes len fits. be_bytes_2 bytes _ len fits refl; again = λ n lt. from_be_bytes-to_be_bytes_2 n lt }

pub wide32 : IsWide w32 (2 ^ 32)
unfolding encoded
wide32 = record { len = λ n. refl; back = λ bytes len fits. be_bytes_4 bytes _ len fits refl; again = λ n lt. from_be_bytes-to_be_bytes_4 n lt }

pub wide64 : IsWide w64 (2 ^ 64)
unfolding encoded
wide64 = record { len = λ n. refl; back = λ bytes len fits. be_bytes_8 bytes _ len fits refl; again = λ n lt. from_be_bytes-to_be_bytes_8 n lt }

pub wide : (w : Width) → IsFieldWidth w → IsWide w (limit_of w)
wide w8 h = wide8
wide w16 h = wide16
wide w32 h = wide32
wide w64 h = wide64
wide w128 h = absurd h

module _ (w : Width) (limit : ℕ) (wide : IsWide w limit) (low high : ℕ) where
  number-takes : (bytes : List ℕ) (at : ℕ) (x : ℕ × ℕ) → IsBytes bytes → at ≤ length bytes → number_read w low high bytes at ≡ Ok x → Took bytes at (encoded w x.0) x.1 × ((low ≤ x.0) × (x.0 ≤ high))
  number-takes bytes at x fits le e =
      let n : ℕ = from_be_bytes w (take (byte_len w) (drop at bytes)) in
      let g0 = guard (ltb (length bytes) (at + byte_len w)) at (cond (ltb n low) (Err at) (cond (ltb high n) (Err at) (Ok (n, at + byte_len w)))) x e in
      let g1 = guard (ltb n low) at (cond (ltb high n) (Err at) (Ok (n, at + byte_len w))) x g0.1 in
      let g2 = guard (ltb high n) at (Ok (n, at + byte_len w)) x g1.1 in
      let long : at + byte_len w ≤ length bytes = ltb-false _ _ g0.0 in
      let prefix_is : encoded w n ≡ take (byte_len w) (drop at bytes) =
      wide.back (take (byte_len w) (drop at bytes)) (omega (arith, length-take (byte_len w) (drop at bytes), length-drop at bytes)) (IsBytes-take (byte_len w) (drop at bytes) (IsBytes-drop at bytes fits)) in
      let cut : drop at bytes ≡ take (byte_len w) (drop at bytes) ++ drop (at + byte_len w) bytes =
      sym (take-append-drop (byte_len w) (drop at bytes)) ∙ ap (λ (t : List ℕ). take (byte_len w) (drop at bytes) ++ t) (drop-drop (byte_len w) at bytes) in
      subst (λ (y : ℕ × ℕ). Took bytes at (encoded w y.0) y.1 × ((low ≤ y.0) × (y.0 ≤ high))) (ok_is (n, at + byte_len w) x g2.1) (
        record {
          split = cut ∙ ap (λ (t : List ℕ). t ++ drop (at + byte_len w) bytes) (sym prefix_is);
          place = omega (arith, wide.len n);
          within = long;
        },
        (ltb-false _ _ g1.0, ltb-false _ _ g2.0),
      )

  number-again : high < limit → (bytes : List ℕ) (at n : ℕ) (rest : List ℕ) → (low ≤ n) × (n ≤ high) → at ≤ length bytes → drop at bytes ≡ encoded w n ++ rest → number_read w low high bytes at ≡ Ok (n, at + length (encoded w n))
  number-again top bytes at n rest fits le e =
      let b = after_text bytes at (encoded w n) rest le e in
      let same : from_be_bytes w (take (byte_len w) (drop at bytes)) ≡ n =
      ap (λ (t : List ℕ). from_be_bytes w (take (byte_len w) t)) e
      ∙ ap (λ (t : List ℕ). from_be_bytes w t) (take_at (encoded w n) rest (byte_len w) (wide.len n))
      ∙ wide.again n (omega (arith, fits.1)) in
      rw (le-ltb (length bytes) (at + byte_len w) (omega (arith, wide.len n, b.0)), same, le-ltb n low fits.0, le-ltb high n fits.1, wide.len n) refl

  pub number-reads : high < limit → Reads (number w low high)
  number-reads top = record { takes = number-takes; again = number-again top }

  pub counted-reads : high < limit → Reads (counted w low high)
  counted-reads top = record {
    takes = λ bytes at x fits le e.
        let p = bind_ok (number_read w low high bytes at) (λ n. cond (ltb (length bytes) (n.1 + n.0)) (Err at) (Ok (take n.0 (drop n.1 bytes), n.1 + n.0))) x e in
        let n : ℕ = p.0.0 in
        let mid : ℕ = p.0.1 in
        let g = guard (ltb (length bytes) (mid + n)) at (Ok (take n (drop mid bytes), mid + n)) x p.2 in
        let long : mid + n ≤ length bytes = ltb-false _ _ g.0 in
        let s = number-takes bytes at p.0 fits le p.1 in
        let size : length (take n (drop mid bytes)) ≡ n = omega (arith, length-take n (drop mid bytes), length-drop mid bytes) in
        let t : Took bytes mid (take n (drop mid bytes)) (mid + n) = record {
          split = sym (take-append-drop n (drop mid bytes)) ∙ ap (λ (t : List ℕ). take n (drop mid bytes) ++ t) (drop-drop n mid bytes);
          place = omega (arith, size);
          within = long;
        } in
        let both = Took-then bytes at (encoded w n) mid (take n (drop mid bytes)) (mid + n) s.0 t in
        subst (λ (y : List ℕ × ℕ). Took bytes at (encoded w (length y.0) ++ y.0) y.1 × ((low ≤ length y.0) × (length y.0 ≤ high))) (ok_is (take n (drop mid bytes), mid + n) x g.1)
        (subst (λ (k : ℕ). Took bytes at (encoded w k ++ take n (drop mid bytes)) (mid + n) × ((low ≤ k) × (k ≤ high))) (sym size) (both, s.1));
    again = λ bytes at a rest fits le e.
        let e1 : drop at bytes ≡ encoded w (length a) ++ (a ++ rest) = e ∙ append_assoc (encoded w (length a)) a rest in
        let b = after_text bytes at (encoded w (length a)) (a ++ rest) le e1 in
        let mid : ℕ = at + length (encoded w (length a)) in
        let c = after_text bytes mid a rest b.0 b.1 in
        let r1 = number-again top bytes at (length a) (a ++ rest) fits le e1 in
        let r2 : take (length a) (drop mid bytes) ≡ a = ap (λ (t : List ℕ). take (length a) t) b.1 ∙ take_at a rest (length a) refl in
        rw (r1, le-ltb (length bytes) (mid + length a) c.0, r2) (ap (λ (n : ℕ). Ok (a, n)) (omega (arith, length-append (encoded w (length a)) a)));
  }

-- a number that was read is in its range
pub number_within : (w : Width) (low high : ℕ) (bytes : List ℕ) (at : ℕ) (x : ℕ × ℕ) → number_read w low high bytes at ≡ Ok x → (low ≤ x.0) × (x.0 ≤ high)
number_within w low high bytes at x e =
    let n : ℕ = from_be_bytes w (take (byte_len w) (drop at bytes)) in
    let g0 = guard (ltb (length bytes) (at + byte_len w)) at (cond (ltb n low) (Err at) (cond (ltb high n) (Err at) (Ok (n, at + byte_len w)))) x e in
    let g1 = guard (ltb n low) at (cond (ltb high n) (Err at) (Ok (n, at + byte_len w))) x g0.1 in
    let g2 = guard (ltb high n) at (Ok (n, at + byte_len w)) x g1.1 in
    subst (λ (y : ℕ × ℕ). (low ≤ y.0) × (y.0 ≤ high)) (ok_is (n, at + byte_len w) x g2.1) (ltb-false _ _ g1.0, ltb-false _ _ g2.0)

-- bytes stand after their length
pub counted_there : (w : Width) → IsFieldWidth w → (prefix text rest : List ℕ) → length text < limit_of w
    → IsCountedAt w (prefix ++ (encoded w (length text) ++ (text ++ rest))) (length prefix) text
counted_there w h prefix text rest fit =
    let s : List ℕ = encoded w (length text) in
    let bytes : List ℕ = prefix ++ (s ++ (text ++ rest)) in
    let size : length s ≡ byte_len w = (wide w h).len (length text) in
    let after_prefix : drop (length prefix) bytes ≡ s ++ (text ++ rest) = drop_at prefix (s ++ (text ++ rest)) (length prefix) refl in
    let after_count : drop (length prefix + byte_len w) bytes ≡ text ++ rest =
    sym (drop-drop (byte_len w) (length prefix) bytes) ∙ ap (λ (l : List ℕ). drop (byte_len w) l) after_prefix ∙ drop_at s (text ++ rest) (byte_len w) size in
    record {
      within = omega (arith, size, length-append prefix (s ++ (text ++ rest)), length-append s (text ++ rest), length-append text rest);
      count = sym (ap (λ (l : List ℕ). from_be_bytes w (take (byte_len w) l)) after_prefix
          ∙ ap (λ (l : List ℕ). from_be_bytes w l) (take_at s (text ++ rest) (byte_len w) size) ∙ (wide w h).again (length text) fit);
      is = sym (ap (λ (l : List ℕ). take (length text) l) after_count ∙ take_at text rest (length text) refl);
    }
