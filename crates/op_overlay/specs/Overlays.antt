-- Entries that were written over others, of which the last one lies apart.
use Rattle.std.specs.Prelude.{◌≡◌, List, Option, Some, None}
use Rattle.std.specs.declared.cmp.Ordering.{Ordering}
use Rattle.std.specs.declared.cmp.Ordering.TheVariants.{Equal}
use Rattle.std.specs.BTreeMap.{insert_entry}

-- the entries, with the last one inserted
abbrev pub with_last : {K X : Type 0} → (K → K → Ordering) → List (K × X) → Option (K × X) → List (K × X)
with_last cmp es None = es
with_last cmp es (Some e) = insert_entry cmp es e.0 e.1

-- keys that compare as equal are the same
abbrev pub IsExact : {K : Type 0} → (K → K → Ordering) → Type 0
IsExact {K} cmp = (x y : K) → cmp x y ≡ Equal → x ≡ y
