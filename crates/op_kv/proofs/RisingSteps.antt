-- Reading items that rise one after the other, as a loop does.
use Rattle.std.proofs.Common.{◌≡◌, ℕ, suc, ◌-◌, ◌+◌, ◌≤◌, ◌<◌, List, [], ◌∷◌, Result, Ok, Err, refl, sym, ap, ◌∙◌, arith}
use Rattle.std.specs.Prelude.{Option, Some, None, option_map}
use Rattle.std.specs.Result.{result_ok}
use Rattle.std.specs.Int.{w64}
use Rattle.op_fields.specs.Form.{Read, ◌>>=◌, Form, number_read}
use Rattle.op_kv.specs.Rising.{greatest_count, rising_read, rising}
use Rattle.op_kv.specs.Looked.{end_of}

-- what is made of the items that are read, and the place after them
abbrev pub made_of : {A B : Type 0} → (List A → B) → Read (List A) → Option (B × ℕ)
made_of g read = option_map (λ x. (g x.0, x.1)) (result_ok read)

pub is_ok_of : {A : Type 0} (r : Result A ℕ) (x : A) → result_ok r ≡ Some x → r ≡ Ok x
is_ok_of (Ok y) x e = cc
is_ok_of (Err at) x e = absurd cc

none_bound : {A B : Type 0} (r : Result A ℕ) (f : A → Result B ℕ) → result_ok r ≡ None → result_ok (r >>= f) ≡ None
none_bound (Ok x) f e = absurd cc
none_bound (Err at) f e = refl

abbrev before : {A : Type 0} → A → Read (List A) → Read (List A)
before x read = read >>= λ xs. Ok (x ∷ xs.0, xs.1)

end_before : {A : Type 0} (x : A) (read : Read (List A)) → end_of (before x read) ≡ end_of read
end_before x (Ok xs) = refl
end_before x (Err at) = refl

made_before : {A B : Type 0} (g : List A → B) (x : A) (read : Read (List A)) → made_of g (before x read) ≡ made_of (λ xs. g (x ∷ xs)) read
made_before g x (Ok xs) = refl
made_before g x (Err at) = refl

module _ {A K : Type 0} (f : K → Form A) (key : A → K) where
  -- an item more is read
  pub goes_on : (count i : ℕ) (low : K) (bytes : List ℕ) (at : ℕ) (x : A × ℕ) → i < count → result_ok ((f low).read bytes at) ≡ Some x
      → rising_read f key (count - i) low bytes at ≡ before x.0 (rising_read f key (count - (i + 1)) (key x.0) bytes x.1)
  unfolding rising_read
  goes_on count i low bytes at x lt e =
      let k : count - i ≡ suc (count - (i + 1)) = omega arith in
      rw (k, is_ok_of ((f low).read bytes at) x e) refl

  -- an item can't be read
  pub stops : (count i : ℕ) (low : K) (bytes : List ℕ) (at : ℕ) → i < count → result_ok ((f low).read bytes at) ≡ None
      → result_ok (rising_read f key (count - i) low bytes at) ≡ None
  unfolding rising_read
  stops count i low bytes at lt e =
      let k : count - i ≡ suc (count - (i + 1)) = omega arith in
      rw k (none_bound ((f low).read bytes at) _ e)

  -- none is left
  pub is_done : (count i : ℕ) (low : K) (bytes : List ℕ) (at : ℕ) → count ≤ i → rising_read f key (count - i) low bytes at ≡ Ok ([], at)
  unfolding rising_read
  is_done count i low bytes at le =
      let k : count - i ≡ 0 = omega arith in
      rw k refl

  -- the items after their count
  pub after_count : (low : K) (bytes : List ℕ) (first : ℕ) (x : ℕ × ℕ) → result_ok (number_read w64 0 greatest_count bytes first) ≡ Some x
      → rising_read f key (x.0 - 0) low bytes x.1 ≡ (rising f key low).read bytes first
  after_count low bytes first x e =
      let k : x.0 - 0 ≡ x.0 = omega arith in
      ap (λ n. rising_read f key n low bytes x.1) k
      ∙ sym (ap (λ (r : Read ℕ). r >>= λ n. rising_read f key n.0 low bytes n.1) (is_ok_of (number_read w64 0 greatest_count bytes first) x e))

  -- ---- the place after the items

  pub end_goes_on : (count i : ℕ) (low : K) (bytes : List ℕ) (at : ℕ) (x : A × ℕ) (total : Option ℕ) → i < count → result_ok ((f low).read bytes at) ≡ Some x
      → end_of (rising_read f key (count - i) low bytes at) ≡ total → end_of (rising_read f key (count - (i + 1)) (key x.0) bytes x.1) ≡ total
  end_goes_on count i low bytes at x total lt e so_far =
      sym (end_before x.0 (rising_read f key (count - (i + 1)) (key x.0) bytes x.1)) ∙ sym (ap end_of (goes_on count i low bytes at x lt e)) ∙ so_far

  pub end_stops : (count i : ℕ) (low : K) (bytes : List ℕ) (at : ℕ) (total : Option ℕ) → i < count → result_ok ((f low).read bytes at) ≡ None
      → end_of (rising_read f key (count - i) low bytes at) ≡ total → None ≡ total
  end_stops count i low bytes at total lt e so_far = sym (ap (option_map (λ x. x.1)) (stops count i low bytes at lt e)) ∙ so_far

  pub end_is_done : (count i : ℕ) (low : K) (bytes : List ℕ) (at : ℕ) (total : Option ℕ) → count ≤ i
      → end_of (rising_read f key (count - i) low bytes at) ≡ total → Some at ≡ total
  end_is_done count i low bytes at total le so_far = sym (ap end_of (is_done count i low bytes at le)) ∙ so_far

  -- ---- what is made of the items

  module _ {B : Type 0} where
    pub made_goes_on : (g : List A → B) (count i : ℕ) (low : K) (bytes : List ℕ) (at : ℕ) (x : A × ℕ) (total : Option (B × ℕ)) → i < count → result_ok ((f low).read bytes at) ≡ Some x
        → made_of g (rising_read f key (count - i) low bytes at) ≡ total → made_of (λ xs. g (x.0 ∷ xs)) (rising_read f key (count - (i + 1)) (key x.0) bytes x.1) ≡ total
    made_goes_on g count i low bytes at x total lt e so_far =
        sym (made_before g x.0 (rising_read f key (count - (i + 1)) (key x.0) bytes x.1)) ∙ sym (ap (made_of g) (goes_on count i low bytes at x lt e)) ∙ so_far

    pub made_stops : (g : List A → B) (count i : ℕ) (low : K) (bytes : List ℕ) (at : ℕ) (total : Option (B × ℕ)) → i < count → result_ok ((f low).read bytes at) ≡ None
        → made_of g (rising_read f key (count - i) low bytes at) ≡ total → None ≡ total
    made_stops g count i low bytes at total lt e so_far = sym (ap (option_map (λ x. (g x.0, x.1))) (stops count i low bytes at lt e)) ∙ so_far

    pub made_is_done : (g : List A → B) (count i : ℕ) (low : K) (bytes : List ℕ) (at : ℕ) (total : Option (B × ℕ)) → count ≤ i
        → made_of g (rising_read f key (count - i) low bytes at) ≡ total → Some (g [], at) ≡ total
    made_is_done g count i low bytes at total le so_far = sym (ap (made_of g) (is_done count i low bytes at le)) ∙ so_far
