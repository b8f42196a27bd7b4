-- Entries by rising key, with newer ones inserted.
use Rattle.std.proofs.Common.{◌≡◌, Bool, true, false, cond, true≢false, ⊎_elim, refl, sym, ap, ◌∙◌, List, [], ◌∷◌}
use Rattle.std.specs.Prelude.{Option, Some, None}
use Rattle.std.specs.Option.{option_or, is_some, unwrap_or}
use Rattle.std.specs.List.{AllByRecursion, IsDistinct}
use Rattle.std.specs.declared.cmp.Ordering.{Ordering}
use Rattle.std.specs.declared.cmp.Ordering.TheVariants.{Less, Equal, Greater}
use Rattle.std.specs.Ordering.{is_eq, match_ordering, ordering_reverse, eq_by_cmp}
use Rattle.std.specs.Cmp.{IsTotalOrder, eq_by_cmp_equiv, alike_right, tied_itself, Equal-is}
use Rattle.std.specs.List.Sorted.{IsStrictlySortedBy}
use Rattle.std.specs.Map.{keys_of, lookup, update, update_all}
use Rattle.std.specs.BTreeMap.{BTreeMap, insert_entry, is_at, IsOrdered, MovesPrefix}
use Rattle.std.proofs.lemmas.Map.{lookup-none}
use Rattle.std.proofs.lemmas.Map.Keys.{IsDistinct-from_sorted, IsDistinct-tail, sorted_tail}
use Rattle.std.proofs.lemmas.Map.Entries.{none_past_head, none_below_head, lookup_head, lookup_tail}
use Rattle.std.proofs.lemmas.Bool.{cases_Bool}
use Rattle.std.proofs.lemmas.Map.Lookups.{CmpEqualImpliesEq}
use Rattle.std.proofs.lemmas.List.Sums.{fold-append}
use Rattle.op_overlay.specs.Entries.{entries_over}

swapped : {X : Type 0} (a b : Bool) (x y z : X) → (a ≡ true → b ≡ true → x ≡ y) → cond a x (cond b y z) ≡ cond b y (cond a x z)
swapped true true x y z h = h refl refl
swapped true false x y z h = refl
swapped false true x y z h = refl
swapped false false x y z h = refl

over_same : {X : Type 0} (a b : Bool) (x y z : X) → a ≡ b → cond b x z ≡ cond a x (cond b y z)
over_same true true x y z h = refl
over_same true false x y z h = absurd (true≢false h)
over_same false true x y z h = absurd (true≢false (sym h))
over_same false false x y z h = refl

not_None : {X : Type 0} (v : X) → Some v ≡ None → ⊥
not_None v e = absurd (true≢false (ap is_some e))

module _ {K X : Type 0} {R : K → K → Ordering} (o : IsTotalOrder R) where
  abbrev find : List (K × X) → K → Option X
  find es q = lookup (is_at (R q)) es

  abbrev Rises : List (K × X) → Type 0
  Rises es = IsStrictlySortedBy R (keys_of es)

  at_head : (x : K × X) (xs : List (K × X)) → find (x ∷ xs) x.0 ≡ Some x.1
  at_head x xs = lookup_head (is_at (R x.0)) x xs (ap is_eq (tied_itself o x.0))

  past_head : (q : K) (x : K × X) (xs : List (K × X)) → Rises (x ∷ xs) → eq_by_cmp R q x.0 ≡ true → find xs q ≡ None
  past_head q x xs s t = lookup-none (is_at (R q)) xs (none_past_head (eq_by_cmp_equiv o) q x xs (IsDistinct-from_sorted R _ s) t)

  module _ (x y : K × X) (xs ys : List (K × X)) (s : Rises (x ∷ xs)) (t : Rises (y ∷ ys)) (h : (q : K) → find (x ∷ xs) q ≡ find (y ∷ ys) q) where
    by_heads : (r : Ordering) → R x.0 y.0 ≡ r → R x.0 y.0 ≡ Equal
    by_heads Less p = absurd (not_None x.1 (sym (at_head x xs) ∙ h x.0 ∙ lookup-none _ (y ∷ ys) (none_below_head o x.0 y ys t p)))
    by_heads Equal p = p
    by_heads Greater p = absurd (not_None y.1 (sym (at_head y ys) ∙ sym (h y.0) ∙ lookup-none _ (x ∷ xs) (none_below_head o y.0 x xs s (o.antisymm y.0 x.0 ∙ ap ordering_reverse p))))

    heads : R x.0 y.0 ≡ Equal
    heads = by_heads (R x.0 y.0) refl

    values : x.1 ≡ y.1
    values = ap (λ u. unwrap_or u x.1) (sym (at_head x xs) ∙ h x.0 ∙ lookup_head (is_at (R x.0)) y ys (ap is_eq heads))

    tails : (q : K) → find xs q ≡ find ys q
    tails q =
        let t' = eq_by_cmp_equiv o in
        let e : eq_by_cmp R q y.0 ≡ eq_by_cmp R q x.0 = t'.symm q y.0 ∙ sym (t'.congr x.0 y.0 q (ap is_eq heads)) ∙ t'.symm x.0 q in
        ⊎_elim
        (λ b. past_head q x xs s b ∙ sym (past_head q y ys t (e ∙ b)))
        (λ b. sym (lookup_tail (is_at (R q)) x xs b) ∙ h q ∙ lookup_tail (is_at (R q)) y ys (e ∙ b))
        (cases_Bool (eq_by_cmp R q x.0))

  -- entries that rise and are looked up alike are the same
  pub same_entries : CmpEqualImpliesEq R → (es fs : List (K × X)) → Rises es → Rises fs → ((q : K) → find es q ≡ find fs q) → es ≡ fs
  same_entries exact [] [] s t h = refl
  same_entries exact [] (y ∷ ys) s t h = absurd (not_None y.1 (sym (h y.0 ∙ at_head y ys)))
  same_entries exact (x ∷ xs) [] s t h = absurd (not_None x.1 (sym (at_head x xs) ∙ h x.0))
  same_entries exact (x ∷ xs) (y ∷ ys) s t h =
      let r = same_entries exact xs ys (sorted_tail R x.0 (keys_of xs) s) (sorted_tail R y.0 (keys_of ys) t) (tails x y xs ys s t h) in
      λ i. (exact x.0 y.0 (heads x y xs ys s t h) i, values x y xs ys s t h i) ∷ r i

  above-insert_entry : (x : K) (es : List (K × X)) (k : K) (v : X) → R x k ≡ Less → AllByRecursion (λ y. R x y ≡ Less) (keys_of es) → AllByRecursion (λ y. R x y ≡ Less) (keys_of (insert_entry R es k v))
  above-insert_entry x [] k v l a = (l, tt)
  above-insert_entry x (e ∷ es) k v l a = by (R k e.0) (above-insert_entry x es k v l a.1)
    where
      by : (r : Ordering) → AllByRecursion (λ y. R x y ≡ Less) (keys_of (insert_entry R es k v)) → AllByRecursion (λ y. R x y ≡ Less) (keys_of (match_ordering r ((k, v) ∷ e ∷ es) ((e.0, v) ∷ es) (e ∷ insert_entry R es k v)))
      by Less h = (l, a)
      by Equal h = a
      by Greater h = (a.0, h)

  -- an insertion keeps the keys rising
  pub rises-insert_entry : (es : List (K × X)) (k : K) (v : X) → Rises es → Rises (insert_entry R es k v)
  unfolding IsStrictlySortedBy
  rises-insert_entry [] k v s = (tt, tt)
  rises-insert_entry (e ∷ es) k v s = by (R k e.0) refl (rises-insert_entry es k v s.1)
    where
      by : (r : Ordering) → R k e.0 ≡ r → Rises (insert_entry R es k v) → Rises (match_ordering r ((k, v) ∷ e ∷ es) ((e.0, v) ∷ es) (e ∷ insert_entry R es k v))
      by Less p h = ((p, above_all k e.0 p (keys_of es) s.0), s)
        where
          above_all : (x y : K) → R x y ≡ Less → (ks : List K) → AllByRecursion (λ z. R y z ≡ Less) ks → AllByRecursion (λ z. R x z ≡ Less) ks
          above_all x y l [] a = tt
          above_all x y l (z ∷ ks) a = (o.trans x y z l a.0, above_all x y l ks a.1)
      by Equal p h = s
      by Greater p h = (above-insert_entry e.0 es k v (o.antisymm e.0 k ∙ ap ordering_reverse p) s.0, h)

  -- what a key has after an insertion
  pub find-insert_entry : (es : List (K × X)) (k : K) (v : X) (q : K) → find (insert_entry R es k v) q ≡ cond (is_eq (R q k)) (Some v) (find es q)
  find-insert_entry [] k v q = refl
  find-insert_entry (e ∷ es) k v q = by (R k e.0) refl (find-insert_entry es k v q)
    where
      by : (r : Ordering) → R k e.0 ≡ r → find (insert_entry R es k v) q ≡ cond (is_eq (R q k)) (Some v) (find es q)
          → find (match_ordering r ((k, v) ∷ e ∷ es) ((e.0, v) ∷ es) (e ∷ insert_entry R es k v)) q ≡ cond (is_eq (R q k)) (Some v) (cond (is_eq (R q e.0)) (Some e.1) (find es q))
      by Less p h = refl
      by Equal p h = over_same (is_eq (R q k)) (is_eq (R q e.0)) (Some v) (Some e.1) (find es q) (ap is_eq (alike_right o k e.0 q p))
      by Greater p h =
          ap (λ t. cond (is_eq (R q e.0)) (Some e.1) t) h
          ∙ swapped (is_eq (R q e.0)) (is_eq (R q k)) (Some e.1) (Some v) (find es q)
          (λ a b. absurd (true≢false (sym (ap is_eq (sym (o.congr q k e.0 ((Equal-is (R q k)).0 b)) ∙ (Equal-is (R q e.0)).0 a)) ∙ ap is_eq p)))

  -- newer entries keep the keys rising
  pub rises-over : (es cs : List (K × X)) → Rises es → Rises (entries_over R es cs)
  rises-over es [] s = s
  rises-over es (c ∷ cs) s = rises-over (insert_entry R es c.0 c.1) cs (rises-insert_entry es c.0 c.1 s)

  find_or : (b : Bool) (v : X) (n m : Option X) → (b ≡ true → n ≡ None) → option_or n (cond b (Some v) m) ≡ option_or (cond b (Some v) n) m
  find_or true v n m h = ap (λ t. option_or t (Some v)) (h refl)
  find_or false v n m h = refl

  -- what a key has: the newer value, or else the older one
  pub find-over : (es cs : List (K × X)) (q : K) → Rises cs → find (entries_over R es cs) q ≡ option_or (find cs q) (find es q)
  find-over es cs q s = at es cs (IsDistinct-from_sorted R (keys_of cs) s)
    where
      at : (es cs : List (K × X)) → IsDistinct (eq_by_cmp R) (keys_of cs) → find (entries_over R es cs) q ≡ option_or (find cs q) (find es q)
      at es [] d = refl
      at es (c ∷ cs) d =
          at (insert_entry R es c.0 c.1) cs (IsDistinct-tail (eq_by_cmp R) c.0 (keys_of cs) d)
          ∙ ap (λ t. option_or (find cs q) t) (find-insert_entry es c.0 c.1 q)
          ∙ find_or (is_eq (R q c.0)) c.1 (find cs q) (find es q) (λ h. lookup-none (eq_by_cmp R q) cs (none_past_head (eq_by_cmp_equiv o) q c cs d h))

  or_same : (b : Bool) (v : X) (n m : Option X) → option_or (cond b (Some v) n) m ≡ cond b (Some v) (option_or n m)
  or_same true v n m = refl
  or_same false v n m = refl

  -- an entry inserted among the newer ones is inserted last
  pub over-insert_entry : CmpEqualImpliesEq R → (es cs : List (K × X)) (k : K) (v : X) → Rises es → Rises cs → entries_over R es (insert_entry R cs k v) ≡ insert_entry R (entries_over R es cs) k v
  over-insert_entry exact es cs k v s t =
      same_entries exact _ _ (rises-over es (insert_entry R cs k v) s) (rises-insert_entry _ k v (rises-over es cs s))
      (λ q. find-over es (insert_entry R cs k v) q (rises-insert_entry cs k v t)
      ∙ ap (λ u. option_or u (find es q)) (find-insert_entry cs k v q)
      ∙ or_same (is_eq (R q k)) v (find cs q) (find es q)
      ∙ ap (λ u. cond (is_eq (R q k)) (Some v) u) (sym (find-over es cs q t))
      ∙ sym (find-insert_entry (entries_over R es cs) k v q))

  find-update_all : (es xs : List (K × X)) (f : K → Option X) → ((q : K) → find es q ≡ f q) → (q : K) → find (entries_over R es xs) q ≡ update_all (eq_by_cmp R) f xs q
  find-update_all es [] f h q = h q
  find-update_all es (x ∷ xs) f h q =
      find-update_all (insert_entry R es x.0 x.1) xs (update (eq_by_cmp R) f x.0 (Some x.1))
      (λ p. find-insert_entry es x.0 x.1 p ∙ ap (λ b. cond b (Some x.1) (find es p)) ((eq_by_cmp_equiv o).symm p x.0) ∙ ap (λ t. cond (eq_by_cmp R x.0 p) (Some x.1) t) (h p)) q

  -- entries that move from the newer ones to those below leave what both make
  pub over-moved : CmpEqualImpliesEq R → (m other n rest : BTreeMap K X) → IsOrdered R m → MovesPrefix R m other n rest → entries_over R n.entries rest.entries ≡ entries_over R m.entries other.entries
  over-moved exact m other n rest s h =
      ap (λ es. entries_over R es rest.entries) (same_entries exact _ _ h.2.1 (rises-over m.entries h.0 s) (λ q. h.2.0 q ∙ sym (find-update_all m.entries h.0 _ (λ p. refl) q)))
      ∙ sym (fold-append _ m.entries h.0 rest.entries)
      ∙ ap (λ xs. entries_over R m.entries xs) (sym h.1)

  or_none : (m : Option X) → option_or m None ≡ m
  or_none (Some x) = refl
  or_none None = refl

  -- entries that rise, inserted one after the other into none
  pub over-nothing : CmpEqualImpliesEq R → (es : List (K × X)) → Rises es → entries_over R [] es ≡ es
  unfolding IsStrictlySortedBy
  over-nothing exact es s = same_entries exact _ _ (rises-over [] es tt) s (λ q. find-over [] es q s ∙ or_none (find es q))
