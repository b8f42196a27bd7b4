-- Entries by rising key, with some keys taken out before newer ones are inserted.
use Rattle.std.proofs.Common.{◌≡◌, Bool, true, false, cond, ◌||◌, refl, sym, ap, ◌∙◌, List, [], ◌∷◌}
use Rattle.std.specs.Prelude.{Option, None}
use Rattle.std.specs.Option.{option_or}
use Rattle.std.specs.List.{AllByRecursion, list_any}
use Rattle.std.specs.declared.cmp.Ordering.{Ordering}
use Rattle.std.specs.declared.cmp.Ordering.TheVariants.{Less}
use Rattle.std.specs.Ordering.{is_eq}
use Rattle.std.specs.Cmp.{IsTotalOrder, eq_by_cmp_equiv, Equal-is}
use Rattle.std.specs.List.Sorted.{IsStrictlySortedBy}
use Rattle.std.specs.Map.{keys_of, lookup, remove_entry}
use Rattle.std.specs.BTreeMap.{is_at}
use Rattle.std.proofs.lemmas.Map.{lookup-remove_entry}
use Rattle.std.proofs.lemmas.Map.Keys.{IsDistinct-from_sorted}
use Rattle.std.proofs.lemmas.Map.Lookups.{CmpEqualImpliesEq}
use Rattle.op_overlay.specs.Entries.{entries_over, without}
use Rattle.op_overlay.proofs.Entries.{same_entries, rises-over, find-over}

-- whether the key is one of these
abbrev pub among : {K : Type 0} → (K → K → Ordering) → List K → K → Bool
among R ks q = list_any (is_at (R q)) ks

module _ {K X : Type 0} {R : K → K → Ordering} (o : IsTotalOrder R) where
  abbrev find : List (K × X) → K → Option X
  find es q = lookup (is_at (R q)) es

  abbrev Rises : List (K × X) → Type 0
  Rises es = IsStrictlySortedBy R (keys_of es)

  above-remove_entry : (x : K) (test : K → Bool) (es : List (K × X)) → AllByRecursion (λ y. R x y ≡ Less) (keys_of es) → AllByRecursion (λ y. R x y ≡ Less) (keys_of (remove_entry test es))
  above-remove_entry x test [] a = tt
  above-remove_entry x test (e ∷ es) a = by (test e.0) (above-remove_entry x test es a.1)
    where
      by : (b : Bool) → AllByRecursion (λ y. R x y ≡ Less) (keys_of (remove_entry test es)) → AllByRecursion (λ y. R x y ≡ Less) (keys_of (cond b es (e ∷ remove_entry test es)))
      by true h = a.1
      by false h = (a.0, h)

  -- a removal keeps the keys rising
  pub rises-remove_entry : (test : K → Bool) (es : List (K × X)) → Rises es → Rises (remove_entry test es)
  unfolding IsStrictlySortedBy
  rises-remove_entry test [] s = tt
  rises-remove_entry test (e ∷ es) s = by (test e.0) (rises-remove_entry test es s.1)
    where
      by : (b : Bool) → Rises (remove_entry test es) → Rises (cond b es (e ∷ remove_entry test es))
      by true h = s.1
      by false h = (above-remove_entry e.0 test es s.0, h)

  -- what a key has after a removal
  pub find-remove_entry : (k : K) (es : List (K × X)) (q : K) → Rises es → find (remove_entry (is_at (R k)) es) q ≡ cond (is_eq (R k q)) None (find es q)
  find-remove_entry k es q s = lookup-remove_entry (eq_by_cmp_equiv o) (is_at (R k)) (λ x y h. ap is_eq (o.congr k x y ((Equal-is (R k x)).0 h))) q es (IsDistinct-from_sorted R (keys_of es) s)

  -- and so does the removal of some keys
  pub rises-without : (es : List (K × X)) (ks : List K) → Rises es → Rises (without R es ks)
  rises-without es [] s = s
  rises-without es (k ∷ ks) s = rises-without (remove_entry (is_at (R k)) es) ks (rises-remove_entry (is_at (R k)) es s)

  out : (a b : Bool) (m : Option X) → cond b None (cond a None m) ≡ cond (a || b) None m
  out true true m = refl
  out true false m = refl
  out false b m = refl

  -- what a key has that may be taken out
  pub find-without : (es : List (K × X)) (ks : List K) (q : K) → Rises es → find (without R es ks) q ≡ cond (among R ks q) None (find es q)
  find-without es [] q s = refl
  find-without es (k ∷ ks) q s =
      find-without (remove_entry (is_at (R k)) es) ks q (rises-remove_entry (is_at (R k)) es s)
      ∙ ap (λ t. cond (among R ks q) None t) (find-remove_entry k es q s ∙ ap (λ b. cond b None (find es q)) ((eq_by_cmp_equiv o).symm k q))
      ∙ out (is_eq (R q k)) (among R ks q) (find es q)

  deleted : (a b : Bool) (n m : Option X) → option_or (cond a None n) (cond (cond a true b) None m) ≡ cond a None (option_or n (cond b None m))
  deleted true b n m = refl
  deleted false b n m = refl

  -- a key taken out of the newer entries and of those below is taken out of what both make
  pub over-remove_entry : CmpEqualImpliesEq R → (es cs : List (K × X)) (ks js : List K) (k : K) → Rises es → Rises cs → ((q : K) → among R js q ≡ cond (is_eq (R k q)) true (among R ks q))
      → entries_over R (without R es js) (remove_entry (is_at (R k)) cs) ≡ remove_entry (is_at (R k)) (entries_over R (without R es ks) cs)
  over-remove_entry exact es cs ks js k s t h =
      let below = without R es ks in
      let all = entries_over R below cs in
      let rises : Rises all = rises-over o below cs (rises-without es ks s) in
      same_entries o exact _ _ (rises-over o (without R es js) (remove_entry (is_at (R k)) cs) (rises-without es js s)) (rises-remove_entry (is_at (R k)) all rises)
      (λ q. find-over o (without R es js) (remove_entry (is_at (R k)) cs) q (rises-remove_entry (is_at (R k)) cs t)
      ∙ ap (λ u. option_or u (find (without R es js) q)) (find-remove_entry k cs q t)
      ∙ ap (λ u. option_or (cond (is_eq (R k q)) None (find cs q)) u) (find-without es js q s ∙ ap (λ b. cond b None (find es q)) (h q))
      ∙ deleted (is_eq (R k q)) (among R ks q) (find cs q) (find es q)
      ∙ ap (λ u. cond (is_eq (R k q)) None u) (ap (λ u. option_or (find cs q) u) (sym (find-without es ks q s)) ∙ sym (find-over o below cs q t))
      ∙ sym (find-remove_entry k all q rises))

  -- entries that move below, once those that are gone are taken out there, leave what both make
  pub moved-without : (m n other rest es : List (K × X)) (ks left : List K) → m ≡ without R es ks → left ≡ [] → entries_over R n rest ≡ entries_over R m other
      → entries_over R (without R n left) rest ≡ entries_over R (without R es ks) other
  moved-without m n other rest es ks left e l h =
      ap (λ gone. entries_over R (without R n gone) rest) l
      ∙ h
      ∙ ap (λ fs. entries_over R fs other) e
