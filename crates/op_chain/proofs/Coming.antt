-- One that is added to a set that lacks it, and taken out, leaves the set.
use Rattle.std.proofs.Common.{◌≡◌, ℕ, Bool, true, false, cond, ◌&&◌, ◌||◌, eqb, List, [], ◌∷◌, ◌++◌, refl, sym, ap, ◌∙◌}
use Rattle.std.proofs.lemmas.Bool.{both_ways, eq-eqb, and_from}
use Rattle.std.specs.List.{list_any}
use Rattle.std.specs.Set.{remove_key}
use Rattle.std.specs.BTreeMap.{is_at}
use Rattle.std.specs.BTreeSet.{insert_key}
use Rattle.std.specs.Cmp.{both_tied, unsigned_ties}
use Rattle.std.specs.Ordering.{nat_cmp, match_ordering}
use Rattle.std.specs.declared.cmp.Ordering.{Ordering}
use Rattle.std.specs.declared.cmp.Ordering.TheVariants.{Less, Equal, Greater}
use Rattle.op_protocol.specs.State.{Waiting}
use Rattle.op_protocol.specs.Serving.{waiting_cmp}
use Rattle.op_chain.specs.Waiting.{without_coming}

-- the place of a pair in the set
abbrev at : ℕ × ℕ → ℕ × ℕ → Bool
at k x = is_at (waiting_cmp k) x

found : (k x : ℕ × ℕ) → at k x ≡ (eqb k.0 x.0 && eqb k.1 x.1)
found k x = sym (both_tied (eqb k.0 x.0) (eqb k.1 x.1) (nat_cmp k.0 x.0) (nat_cmp k.1 x.1) (unsigned_ties k.0 x.0) (unsigned_ties k.1 x.1))

is_own : (k : ℕ × ℕ) → at k k ≡ true
is_own k = found k k ∙ and_from (eqb k.0 k.0) (eqb k.1 k.1) (eq-eqb k.0 k.0 refl) (eq-eqb k.1 k.1 refl)

or_false : (a b : Bool) → (a || b) ≡ false → (a ≡ false) × (b ≡ false)
or_false true b h = absurd (both_ways false refl (sym h))
or_false false b h = (refl, h)

by_order : (P : Waiting → Type 0) (o : Ordering) (a b c : Waiting) → (o ≡ Less → P a) → (o ≡ Equal → P b) → (o ≡ Greater → P c) → P (match_ordering o a b c)
by_order P Less a b c f g h = f refl
by_order P Equal a b c f g h = g refl
by_order P Greater a b c f g h = h refl

removed_first : (k : ℕ × ℕ) (ws : Waiting) → remove_key (at k) (k ∷ ws) ≡ ws
removed_first k ws = ap (λ (b : Bool). cond b ws (k ∷ remove_key (at k) ws)) (is_own k)

-- one that is new, added and taken out
pub without_added : (ws : Waiting) (k : ℕ × ℕ) → list_any (is_at (waiting_cmp k)) ws ≡ false → remove_key (is_at (waiting_cmp k)) (insert_key waiting_cmp ws k) ≡ ws
without_added [] k new = removed_first k []
without_added (w ∷ ws) k new =
    let parts = or_false (at k w) (list_any (at k) ws) new in
    by_order (λ (xs : Waiting). remove_key (at k) xs ≡ w ∷ ws) (waiting_cmp k w) (k ∷ w ∷ ws) (w ∷ ws) (w ∷ insert_key waiting_cmp ws k)
    (λ _. removed_first k (w ∷ ws))
    (λ e. absurd (both_ways (at k w) parts.0 (ap (λ (o : Ordering). is_at (λ (_ : ℕ × ℕ). o) w) e)))
    (λ _. ap (λ (b : Bool). cond b (insert_key waiting_cmp ws k) (w ∷ remove_key (at k) (insert_key waiting_cmp ws k))) parts.0
    ∙ ap (λ (xs : Waiting). w ∷ xs) (without_added ws k parts.1))

-- the last of those that come is taken out first
pub without_last : (ws : Waiting) (coming : List (ℕ × ℕ)) (k : ℕ × ℕ) → without_coming ws (coming ++ k ∷ []) ≡ without_coming (remove_key (is_at (waiting_cmp k)) ws) coming
without_last ws [] k = refl
without_last ws (w ∷ coming) k = ap (λ (xs : Waiting). remove_key (is_at (waiting_cmp w)) xs) (without_last ws coming k)

-- one that comes anew leaves those that wait
pub without_new : (ws : Waiting) (coming : List (ℕ × ℕ)) (k : ℕ × ℕ) → list_any (is_at (waiting_cmp k)) ws ≡ false → without_coming (insert_key waiting_cmp ws k) (coming ++ k ∷ []) ≡ without_coming ws coming
without_new ws coming k new = without_last (insert_key waiting_cmp ws k) coming k ∙ ap (λ (xs : Waiting). without_coming xs coming) (without_added ws k new)
