-- Who asked last for which command or read: what is forgotten, and what a table says of it.
use Rattle.std.proofs.Common.{◌≡◌, ◌∷◌, [], ℕ, Bool, true, false, not, List, Option, Some, None, ◌==◌, ◌&&◌, cond, if◌then◌else◌, refl, sym, ◌∙◌, ap, inl, inr, filter, All, arith}
use Rattle.std.proofs.lemmas.Bool.{cases_Bool}
use Rattle.std.proofs.lemmas.Cmp.{eq_by_cmp_equiv}
use Rattle.std.proofs.lemmas.List.Elements.{All-cons, All-head, All-tail}
use Rattle.std.proofs.lemmas.Map.Entries.{lookup-filter-values, option_filter}
use Rattle.std.proofs.lemmas.Map.Keys.{IsDistinct-from_sorted}
use Rattle.std.specs.FinMap as map
use Rattle.std.specs.Cmp.{tied_itself}
use Rattle.std.specs.Map.{lookup, keys_of}
use Rattle.std.specs.List.Sorted.{IsStrictlySortedBy}
use Rattle.std.specs.declared.cmp.Ordering.{Ordering}
use Rattle.std.specs.declared.cmp.Ordering.TheVariants.{Less, Equal, Greater}
use Rattle.std.specs.BTreeMap.{is_at}
use Rattle.std.specs.Ordering.{is_eq}
use Rattle.op_serving.specs.State.{Askers, Awaited, askers_in, awaited_cmp, is_conn, without_asker}
use Rattle.op_queues.specs.Asked.{AwaitedInRange}
use Rattle.op_serving.proofs.KeyOrder.{key_exact, key_total}

-- ---- the order of what is waited for

equal_of : (o : Ordering) → is_eq o ≡ true → o ≡ Equal
equal_of Less e = absurd cc
equal_of Equal e = refl
equal_of Greater e = absurd cc

-- it is at itself alone
pub key_is : (p q : Awaited) → is_at (awaited_cmp p) q ≡ true → p ≡ q
key_is p q e = key_exact p q (equal_of (awaited_cmp p q) e)

pub key_own : (p : Awaited) → is_at (awaited_cmp p) p ≡ true
key_own p = ap is_eq (tied_itself key_total p)

-- ---- who asks

-- two that say the same of each command are one
pub same_askers : (t u : Askers) → ((q : Awaited) → map.get t q ≡ map.get u q) → t ≡ u
same_askers t u h = map.same_map key_total key_exact t u h

-- who asks, unless it is this connection
abbrev pub unless_at : ℕ → Option ℕ → Option ℕ
unless_at c None = None
unless_at c (Some d) = if d == c then None else Some d

unless_is : (c : ℕ) (o : Option ℕ) → cond (not (is_conn c o)) o None ≡ unless_at c o
unless_is c None = refl
unless_is c (Some d) = grind arith

pub get_without : (c : ℕ) (t : Askers) (q : Awaited) → map.get (without_asker c t) q ≡ unless_at c (map.get t q)
get_without c t q =
    map.get-retain_keys t (λ key. not (is_conn c (map.get t key))) q (λ x e. ap (λ k. not (is_conn c (map.get t k))) (sym (key_exact q x e)))
    ∙ unless_is c (map.get t q)

pub nobody_left : (c : ℕ) → without_asker c map.empty ≡ map.empty
nobody_left c = same_askers _ _ (λ q. get_without c map.empty q ∙ ap (unless_at c) (map.get-empty awaited_cmp q) ∙ sym (map.get-empty awaited_cmp q))

-- where nobody asks nobody is forgotten
pub none_removed : (key : Awaited) (t : Askers) → map.get t key ≡ None → map.remove t key ≡ t
none_removed key t none = same_askers _ _ (λ q. map.get-remove key_total t key q ∙ unasked q)
  where
    unasked : (q : Awaited) → cond (is_at (awaited_cmp q) key) None (map.get t q) ≡ map.get t q
    unasked q = elim (cases_Bool (is_at (awaited_cmp q) key)) [ inl h ↦ rw (h, key_is q key h, none) refl | inr h ↦ rw h refl ]

-- what is asked for or forgotten, and another's end
abbrev pub asks_if : ℕ → Awaited → Bool → Askers → Askers
asks_if c key b t = if b then map.insert t key c else map.remove t key

get_asks : (c : ℕ) (key : Awaited) (b : Bool) (t : Askers) (q : Awaited)
    → map.get (asks_if c key b t) q ≡ cond (is_at (awaited_cmp q) key) (if b then Some c else None) (map.get t q)
get_asks c key true t q = map.get-insert key_total t key c q
get_asks c key false t q = map.get-remove key_total t key q

pub without_asks : (c : ℕ) (key : Awaited) (b : Bool) (d : ℕ) (t : Askers)
    → without_asker d (asks_if c key b t) ≡ asks_if c key (b && not (c == d)) (without_asker d t)
without_asks c key b d t = same_askers _ _ (λ q.
    let there : Option ℕ → Option ℕ = cond (is_at (awaited_cmp q) key) (if b && not (c == d) then Some c else None) in
    get_without d (asks_if c key b t) q ∙ ap (unless_at d) (get_asks c key b t q) ∙ apart b (is_at (awaited_cmp q) key) (map.get t q)
    ∙ sym (get_asks c key (b && not (c == d)) (without_asker d t) q ∙ ap there (get_without d t q)))
  where
    apart : (b at : Bool) (o : Option ℕ)
        → unless_at d (cond at (if b then Some c else None) o) ≡ cond at (if b && not (c == d) then Some c else None) (unless_at d o)
    apart true true o = grind arith
    apart false true o = refl
    apart b false o = refl

-- ---- in a table

abbrev pub Entries : Type 0
Entries = List (Awaited × ℕ)

find_is : (q : Awaited) (es : Entries) → map.find awaited_cmp q es ≡ lookup (is_at (awaited_cmp q)) es
find_is q [] = refl
find_is q (e ∷ es) = ap (cond (is_at (awaited_cmp q) e.0) (Some e.1)) (find_is q es)

pub get_in : (es : Entries) (q : Awaited) → map.get (askers_in es) q ≡ lookup (is_at (awaited_cmp q)) es
get_in es q = map.get-from_entries key_total es q ∙ find_is q es

-- what one entry more or less makes of it
pub asks_in : (c : ℕ) (key : Awaited) (b : Bool) (es fs : Entries)
    → ((q : Awaited) → lookup (is_at (awaited_cmp q)) fs ≡ cond (is_at (awaited_cmp key) q) (if b then Some c else None) (lookup (is_at (awaited_cmp q)) es))
    → askers_in fs ≡ asks_if c key b (askers_in es)
asks_in c key b es fs h = same_askers _ _ (λ q.
    get_in fs q ∙ h q ∙ ap (λ x. cond x (if b then Some c else None) (lookup (is_at (awaited_cmp q)) es)) ((eq_by_cmp_equiv key_total).symm key q)
    ∙ sym (get_asks c key b (askers_in es) q ∙ ap (cond (is_at (awaited_cmp q) key) (if b then Some c else None)) (get_in es q)))

-- without those of one connection
pub filtered : (c : ℕ) (t : Entries) → IsStrictlySortedBy awaited_cmp (keys_of t) → askers_in (filter (λ e. not (e.1 == c)) t) ≡ without_asker c (askers_in t)
filtered c t s = same_askers _ _ (λ q.
    get_in (filter (λ e. not (e.1 == c)) t) q
    ∙ lookup-filter-values (eq_by_cmp_equiv key_total) (λ d. not (d == c)) q t (IsDistinct-from_sorted awaited_cmp (keys_of t) s)
    ∙ passes (lookup (is_at (awaited_cmp q)) t) ∙ ap (unless_at c) (sym (get_in t q)) ∙ sym (get_without c (askers_in t) q))
  where
    passes : (o : Option ℕ) → option_filter (λ d. not (d == c)) o ≡ unless_at c o
    passes None = refl
    passes (Some d) = grind arith

pub asked_left : (c : ℕ) (t : Entries) → All AwaitedInRange (keys_of t) → All AwaitedInRange (keys_of (filter (λ e. not (e.1 == c)) t))
asked_left c [] h = h
asked_left c (e ∷ t) h =
    let rest = asked_left c t (All-tail AwaitedInRange e.0 (keys_of t) h) in
    elim (cases_Bool (e.1 == c)) [ inl y ↦ rw y rest | inr y ↦ rw y (All-cons AwaitedInRange e.0 _ (All-head AwaitedInRange e.0 (keys_of t) h) rest) ]
