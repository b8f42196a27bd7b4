-- Entries of references, as what they refer to.
use Rattle.std.proofs.Common.{◌≡◌, Bool, true, false, cond, List, [], ◌∷◌, map, Bor, refl, ap}
use Rattle.std.specs.declared.cmp.Ordering.{Ordering}
use Rattle.std.specs.declared.cmp.Ordering.TheVariants.{Less, Equal, Greater}
use Rattle.std.specs.Ordering.{match_ordering}
use Rattle.std.specs.Map.{remove_entry}
use Rattle.std.specs.Map.Iter.{deref_pair}
use Rattle.std.specs.BTreeMap.{insert_entry}

module _ {K X : Type 0} where
  pub map-insert_entry : (R : K → K → Ordering) (es : List (Bor K × Bor X)) (k : Bor K) (v : Bor X)
      → map deref_pair (insert_entry (λ x y. R x.now y.now) es k v) ≡ insert_entry R (map deref_pair es) k.now v.now
  map-insert_entry R [] k v = refl
  map-insert_entry R (e ∷ es) k v = by (R k.now e.0.now) (map-insert_entry R es k v)
    where
      by : (r : Ordering) → map deref_pair (insert_entry (λ x y. R x.now y.now) es k v) ≡ insert_entry R (map deref_pair es) k.now v.now
          → map deref_pair (match_ordering r ((k, v) ∷ e ∷ es) ((e.0, v) ∷ es) (e ∷ insert_entry (λ x y. R x.now y.now) es k v))
          ≡ match_ordering r ((k.now, v.now) ∷ deref_pair e ∷ map deref_pair es) ((e.0.now, v.now) ∷ map deref_pair es) (deref_pair e ∷ insert_entry R (map deref_pair es) k.now v.now)
      by Less h = refl
      by Equal h = refl
      by Greater h = ap (λ l. deref_pair e ∷ l) h

  pub map-remove_entry : (test : K → Bool) (es : List (Bor K × Bor X)) → map deref_pair (remove_entry (λ k. test k.now) es) ≡ remove_entry test (map deref_pair es)
  map-remove_entry test [] = refl
  map-remove_entry test (e ∷ es) = by (test e.0.now) (map-remove_entry test es)
    where
      by : (b : Bool) → map deref_pair (remove_entry (λ k. test k.now) es) ≡ remove_entry test (map deref_pair es)
          → map deref_pair (cond b es (e ∷ remove_entry (λ k. test k.now) es)) ≡ cond b (map deref_pair es) (deref_pair e ∷ remove_entry test (map deref_pair es))
      by true h = refl
      by false h = ap (λ l. deref_pair e ∷ l) h
