-- Entries with newer ones, and without some keys.
use Rattle.std.specs.Prelude.{List, fold}
use Rattle.std.specs.declared.cmp.Ordering.{Ordering}
use Rattle.std.specs.Map.{remove_entry}
use Rattle.std.specs.BTreeMap.{insert_entry, is_at}

-- the entries, with each of the newer ones inserted
abbrev pub entries_over : {K X : Type 0} → (K → K → Ordering) → List (K × X) → List (K × X) → List (K × X)
entries_over cmp es newer = fold (λ fs e. insert_entry cmp fs e.0 e.1) es newer

-- the entries without these keys
abbrev pub without : {K X : Type 0} → (K → K → Ordering) → List (K × X) → List K → List (K × X)
without cmp es keys = fold (λ fs k. remove_entry (is_at (cmp k)) fs) es keys
