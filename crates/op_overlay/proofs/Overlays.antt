-- Entries that were written over others, of which the last one lies apart.
use Rattle.std.proofs.Common.{◌≡◌, true, false, cond, refl, sym, ap, ◌∙◌, List}
use Rattle.std.specs.Prelude.{Option, Some, None}
use Rattle.std.specs.declared.cmp.Ordering.{Ordering}
use Rattle.std.specs.Cmp.{IsTotalOrder}
use Rattle.std.specs.List.Sorted.{IsStrictlySortedBy}
use Rattle.std.specs.Ordering.{is_eq}
use Rattle.std.specs.Map.{keys_of, lookup}
use Rattle.std.specs.BTreeMap.{insert_entry, is_at}
use Rattle.op_overlay.specs.Entries.{entries_over}
use Rattle.op_overlay.specs.Overlays.{with_last, IsExact}
use Rattle.op_overlay.proofs.Entries.{rises-insert_entry, find-insert_entry, over-insert_entry}

module _ {K X : Type 0} {R : K → K → Ordering} (o : IsTotalOrder R) where
  abbrev Rises : List (K × X) → Type 0
  Rises es = IsStrictlySortedBy R (keys_of es)

  abbrev find : List (K × X) → K → Option X
  find es q = lookup (is_at (R q)) es

  -- what the key of the last one has
  pub find-last : (es : List (K × X)) (k : K) (v : X) (q : K) → is_eq (R q k) ≡ true → find (insert_entry R es k v) q ≡ Some v
  find-last es k v q here = find-insert_entry o es k v q ∙ ap (λ b. cond b (Some v) (find es q)) here

  -- and what another key has
  pub find-earlier : (es : List (K × X)) (k : K) (v : X) (q : K) → is_eq (R q k) ≡ false → find (insert_entry R es k v) q ≡ find es q
  find-earlier es k v q past = find-insert_entry o es k v q ∙ ap (λ b. cond b (Some v) (find es q)) past

  -- the last one keeps the keys rising
  pub rises-with_last : (es : List (K × X)) (last : Option (K × X)) → Rises es → Rises (with_last R es last)
  rises-with_last es None s = s
  rises-with_last es (Some e) s = rises-insert_entry o es e.0 e.1 s

  -- the last of the newer ones is inserted last
  pub over-with_last : IsExact R → (es cs : List (K × X)) (last : Option (K × X)) → Rises es → Rises cs → entries_over R es (with_last R cs last) ≡ with_last R (entries_over R es cs) last
  over-with_last exact es cs None s t = refl
  over-with_last exact es cs (Some e) s t = over-insert_entry o exact es cs e.0 e.1 s t

  -- and so is the last of those that moved, and of what is left of them
  pub moved-with_last : IsExact R → (m n other rest : List (K × X)) (last : Option (K × X)) → Rises m → Rises n → Rises other → Rises rest → entries_over R n rest ≡ entries_over R m other
      → entries_over R n (with_last R rest last) ≡ entries_over R m (with_last R other last)
  moved-with_last exact m n other rest last a b c d h =
      over-with_last exact n rest last b d ∙ ap (λ es. with_last R es last) h ∙ sym (over-with_last exact m other last a c)
