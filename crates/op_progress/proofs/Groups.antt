-- A majority whose members hear one another: each hears a majority, and of nobody else; and one of them has the greatest ballot.
use Rattle.std.proofs.Common.{◌≡◌, ◌*◌, ⊎_elim, ◌||◌, not, ℕ, Bool, true, false, cond, eqb, ltb, nat_eq, List, [], ◌∷◌, length, map, filter, refl, sym, ap, ◌∙◌, subst, arith}
use Rattle.std.proofs.lemmas.Bool.{eqb-true, eqb-false, eq-eqb, ne_eqb, or_left, or_right, or_cases, false≢true, ltb-true}
use Rattle.std.specs.Set.{is_member}
use Rattle.op_types.proofs.Order.{is_total}
use Rattle.op_types.specs.declared.ballot.Ballot.{Ballot}
use Rattle.op_quorum.specs.Quorums.{is_majority}
use Rattle.op_protocol.specs.Parts.{others}
use Rattle.op_gen.specs.Links.{Links, is_linked}
use Rattle.op_lockstep.specs.Lockstep.{hears_majority_over}
use Rattle.op_lockstep.specs.Reach.{IsOneOf}
use Rattle.op_lockstep.proofs.Lists.{Each, Each-more, Each-filter, Each-at, each, by_test}
use Rattle.op_progress.specs.Progress.{HearOneAnother}
use Rattle.op_progress.proofs.Orders.{AtMost, at_most_then, at_most_or, below_at_most}

-- ---- lists
pub member_filter : (f : ℕ → Bool) (xs : List ℕ) (x : ℕ) → is_member nat_eq xs x ≡ true → f x ≡ true → is_member nat_eq (filter f xs) x ≡ true
member_filter f [] x m h = absurd (false≢true m)
member_filter f (y ∷ xs) x m h =
    ⊎_elim
    (λ (e : eqb x y ≡ true). let same : x ≡ y = eqb-true x y e in subst (λ (b : Bool). is_member nat_eq (cond b (y ∷ filter f xs) (filter f xs)) x ≡ true) (sym h ∙ ap f same) (or_left (eqb x y) (is_member nat_eq (filter f xs) x) e))
    (λ (k : is_member nat_eq xs x ≡ true). let there = member_filter f xs x k h in
    by_test (f y) (λ (b : Bool). is_member nat_eq (cond b (y ∷ filter f xs) (filter f xs)) x ≡ true) (λ _. or_right (eqb x y) (is_member nat_eq (filter f xs) x) there) (λ _. there))
    (or_cases (eqb x y) (is_member nat_eq xs x) m)

pub told_each : {A : Type 0} (Q : A → Type 0) (f : ℕ → A) (xs : List ℕ) → Each Q (map f xs) → Each (λ r. Q (f r)) xs
told_each Q f [] e = tt
told_each Q f (x ∷ xs) e = (e.0, told_each Q f xs e.1)

pub same_filter : (f g : ℕ → Bool) → ((x : ℕ) → f x ≡ g x) → (xs : List ℕ) → filter f xs ≡ filter g xs
same_filter f g h [] = refl
same_filter f g h (x ∷ xs) = ap (λ (b : Bool). cond b (x ∷ filter f xs) (filter f xs)) (h x) ∙ ap (λ (l : List ℕ). cond (g x) (x ∷ l) l) (same_filter f g h xs)

none_pass : (xs : List ℕ) → filter (λ q. is_member nat_eq [] q) xs ≡ []
none_pass [] = refl
none_pass (x ∷ xs) = none_pass xs

-- ---- the majority
module _ (members : List ℕ) (links : Links) (group : List ℕ) (hear : HearOneAnother members links group) where
  heard_is : (q : ℕ) → IsOneOf group q → (r : ℕ) → (eqb r q || is_linked links q r) ≡ is_member nat_eq group r
  heard_is q m r =
      by_test (is_member nat_eq group r) (λ (b : Bool). is_member nat_eq group r ≡ b → (eqb r q || is_linked links q r) ≡ b)
      (λ _ k. by_test (eqb r q) (λ (b : Bool). eqb r q ≡ b → (b || is_linked links q r) ≡ true) (λ _ _. refl) (λ _ e. (hear).linked q r m k (λ d. eqb-false r q e (sym d))) refl)
      (λ _ k. by_test (eqb r q) (λ (b : Bool). eqb r q ≡ b → (b || is_linked links q r) ≡ false)
      (λ _ e. absurd (false≢true (sym k ∙ ap (is_member nat_eq group) (eqb-true r q e) ∙ m)))
      (λ _ _. by_test (is_linked links q r) (λ (b : Bool). is_linked links q r ≡ b → b ≡ false) (λ _ l. absurd (false≢true (sym k ∙ (hear).apart q r m l))) (λ _ _. refl) refl) refl)
      refl

  pub group_hears : (q : ℕ) → IsOneOf group q → hears_majority_over members links q ≡ true
  group_hears q m = ap (λ (l : List ℕ). is_majority (length l) (length members)) (same_filter (λ r. eqb r q || is_linked links q r) (is_member nat_eq group) (heard_is q m) members) ∙ (hear).majority

  -- whom a member hears is of the majority
  pub hears_group : (q : ℕ) → IsOneOf group q → Each (λ r. IsOneOf group r) (filter (is_linked links q) (others q members))
  hears_group q m =
      Each-more (λ r. Unit {0} × (is_linked links q r ≡ true)) (λ r. IsOneOf group r) (λ r h. (hear).apart q r m h.1) (filter (is_linked links q) (others q members))
      (Each-filter (λ r. Unit {0}) (is_linked links q) (others q members) (each (λ (r : ℕ). Unit {0}) (λ _. tt) (others q members)))

  -- and each other one of it is heard
  pub group_heard : (q s : ℕ) → IsOneOf group q → IsOneOf group s → (q ≡ s → ⊥) → is_member nat_eq (filter (is_linked links q) (others q members)) s ≡ true
  group_heard q s m k apart =
      member_filter (is_linked links q) (others q members) s
      (member_filter (λ r. not (eqb r q)) members s ((hear).all_members s k) (ap not (ne_eqb s q (λ e. apart (sym e)))))
      ((hear).linked q s m k apart)

  -- ---- the greatest of their ballots
  pub record IsTop (f : ℕ → Ballot) (s : ℕ) : Type 0 where
    pub is_one : IsOneOf group s
    pub above : (q : ℕ) → IsOneOf group q → AtMost (f q) (f s)

  first_one : (x : ℕ) (xs : List ℕ) → IsOneOf (x ∷ xs) x
  first_one x xs = or_left (eqb x x) (is_member nat_eq xs x) (eq-eqb x x refl)

  top_of : (f : ℕ → Ballot) (x : ℕ) (xs : List ℕ) → (s : ℕ) × IsOneOf (x ∷ xs) s × Each (λ q. AtMost (f q) (f s)) (x ∷ xs)
  top_of f x [] = (x, first_one x [], (is_total.irreflexive (f x), tt))
  top_of f x (y ∷ xs) = higher (top_of f y xs)
    where
      higher : (s : ℕ) × IsOneOf (y ∷ xs) s × Each (λ q. AtMost (f q) (f s)) (y ∷ xs) → (s : ℕ) × IsOneOf (x ∷ (y ∷ xs)) s × Each (λ q. AtMost (f q) (f s)) (x ∷ (y ∷ xs))
      higher (s, m, e) =
          at_most_or (f x) (f s) ((s : ℕ) × IsOneOf (x ∷ (y ∷ xs)) s × Each (λ q. AtMost (f q) (f s)) (x ∷ (y ∷ xs)))
          (λ low. (s, or_right (eqb s x) (is_member nat_eq (y ∷ xs) s) m, (low, e)))
          (λ up. (x, first_one x (y ∷ xs), (is_total.irreflexive (f x), Each-more (λ q. AtMost (f q) (f s)) (λ q. AtMost (f q) (f x)) (λ q l. at_most_then (f q) (f s) (f x) l (below_at_most (f s) (f x) up)) (y ∷ xs) e)))

  not_below_none : (n : ℕ) → ltb n (2 * 0) ≡ true → ⊥
  not_below_none n h = absurd (omega (arith, ltb-true n (2 * 0) h))

  pub top : (f : ℕ → Ballot) → (s : ℕ) × IsTop f s
  top f = of group refl
    where
      of : (xs : List ℕ) → group ≡ xs → (s : ℕ) × IsTop f s
      of [] e = absurd (not_below_none (length members) (sym (ap (λ (l : List ℕ). is_majority (length l) (length members)) (ap (λ (g : List ℕ). filter (λ q. is_member nat_eq g q) members) e ∙ none_pass members)) ∙ (hear).majority))
      of (x ∷ xs) e =
          let t = top_of f x xs in
          (t.0, record { is_one = subst (λ (g : List ℕ). IsOneOf g t.0) (sym e) t.1; above = λ q m. Each-at (λ q. AtMost (f q) (f t.0)) (x ∷ xs) t.2 q (subst (λ (g : List ℕ). IsOneOf g q) e m) })
