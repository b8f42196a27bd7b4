-- Reading items one after the other, as a loop does.
use Rattle.std.specs.Global.{Vec}
use Rattle.std.proofs.Common.{◌≡◌, ℕ, zero, suc, ◌-◌, ◌+◌, ◌≤◌, ◌<◌, List, [], ◌∷◌, ◌++◌, Result, Ok, Err, refl, sym, ap, subst, ◌∙◌, append_assoc, arith}
use Rattle.std.proofs.lemmas.List.{append-nil}
use Rattle.op_fields.specs.declared.fail.TakeFail.{TakeFail}
use Rattle.op_fields.specs.declared.fail.TakeFail.TheVariants as fails
use Rattle.op_fields.specs.Form.{Read, ◌>>=◌, Form, items_read}
use Rattle.op_fields.specs.Taken.{Fails, GivesVec}
use Rattle.op_fields.specs.Items.{read_by}

-- what was read before, and what is still read
abbrev pub with_prefix : {A : Type 0} → List A → Read (List A) → Read (List A)
with_prefix prefix read = read >>= λ x. Ok (prefix ++ x.0, x.1)

regroup : {A : Type 0} (prefix : List A) (n : A) (read : Read (List A)) → with_prefix prefix (read >>= λ x. Ok (n ∷ x.0, x.1)) ≡ with_prefix (prefix ++ n ∷ []) read
regroup {A = A} prefix n (Ok x) = ap (λ (ns : List A). Ok (ns, x.1)) (sym (append_assoc prefix (n ∷ []) x.0))
regroup prefix n (Err f) = refl

module _ {A : Type 0} (f : ℕ → Form A) (key : A → ℕ) where
  pub goes_on : (prefix : List A) (count i low : ℕ) (bytes : List ℕ) (at : ℕ) (x : A) (after : ℕ) (total : Read (List A)) → i < count → (f low).read bytes at ≡ Ok (x, after)
      → with_prefix prefix (items_read f key (count - i) low bytes at) ≡ total → with_prefix (prefix ++ x ∷ []) (items_read f key (count - (i + 1)) (key x) bytes after) ≡ total
  unfolding items_read
  goes_on prefix count i low bytes at x after total lt h so_far =
      let k : count - i ≡ suc (count - (i + 1)) = omega arith in
      let one : with_prefix prefix (items_read f key (count - i) low bytes at) ≡ with_prefix (prefix ++ x ∷ []) (items_read f key (count - (i + 1)) (key x) bytes after) = rw (k, h) (regroup prefix x (items_read f key (count - (i + 1)) (key x) bytes after)) in
      sym one ∙ so_far

  pub ends : (e : TakeFail) (prefix : List A) (count i low : ℕ) (bytes : List ℕ) (at : ℕ) (total : Read (List A)) → i < count → Fails e ((f low).read bytes at)
      → with_prefix prefix (items_read f key (count - i) low bytes at) ≡ total → Fails e total
  unfolding items_read
  ends fails.NoMemory prefix count i low bytes at total lt h so_far = tt
  ends (fails.Bad p) prefix count i low bytes at total lt h so_far =
      let k : count - i ≡ suc (count - (i + 1)) = omega arith in
      let one : with_prefix prefix (items_read f key (count - i) low bytes at) ≡ Err p = rw (k, h) refl in
      sym so_far ∙ one

  pub is_done : (prefix : List A) (count i low : ℕ) (bytes : List ℕ) (at : ℕ) (total : Read (List A)) → count ≤ i → with_prefix prefix (items_read f key (count - i) low bytes at) ≡ total → total ≡ Ok (prefix, at)
  unfolding items_read
  is_done prefix count i low bytes at total le so_far =
      let k : count - i ≡ 0 = omega arith in
      let one : with_prefix prefix (items_read f key (count - i) low bytes at) ≡ Ok (prefix, at) = rw k (ap (λ (ns : List A). Ok (ns, at)) (append-nil prefix)) in
      sym so_far ∙ one

same_step : {A B : Type 0} (r : Read A) (p q : A × ℕ → Read B) → ((x : A × ℕ) → p x ≡ q x) → (r >>= p) ≡ (r >>= q)
same_step (Ok x) p q same = same x
same_step (Err at) p q same = refl

abbrev before : {A : Type 0} → A → Read (List A) → Read (List A)
before x read = read >>= λ xs. Ok (x ∷ xs.0, xs.1)

-- only the reading of a form counts
pub same_items : {A : Type 0} (f : ℕ → Form A) (key : A → ℕ) (n low : ℕ) (bytes : List ℕ) (at : ℕ) → items_read (read_by (λ k. (f k).read)) key n low bytes at ≡ items_read f key n low bytes at
unfolding items_read
same_items f key zero low bytes at = refl
same_items f key (suc n) low bytes at =
    same_step ((f low).read bytes at) (λ x. before x.0 (items_read (read_by (λ k. (f k).read)) key n (key x.0) bytes x.1)) (λ x. before x.0 (items_read f key n (key x.0) bytes x.1))
    (λ x. ap (before x.0) (same_items f key n (key x.0) bytes x.1))

-- items that were read one after the other are those of this form
pub of_form : {A : Type 0} (f : ℕ → Form A) (key : A → ℕ) (n : ℕ) (bytes : List ℕ) (at : ℕ) (r : Result (Vec A × ℕ) TakeFail)
    → GivesVec r (items_read (read_by (λ k. (f k).read)) key n 0 bytes at) → GivesVec r (items_read f key n 0 bytes at)
of_form {A = A} f key n bytes at r given = subst (λ (read : Read (List A)). GivesVec r read) (same_items f key n 0 bytes at) given
