-- The rows of a table, read one after the other into a map from ids to addresses.
use Rattle.std.proofs.Common.{◌≡◌, ℕ, ◌<◌, true, cond, List, [], ◌∷◌, get_or, Option, Some, option_map, Ordering, Less, Equal, Greater, BTreeMap, String, Global, nat_cmp, is_eq, string_bytes, refl, sym, ap, ◌∙◌, subst, inl, inr, ◌⊎◌, decimal, arith}
use Rattle.std.specs.Ordering.{match_ordering}
use Rattle.std.specs.Cmp.Lexicographic.{slice_cmp}
use Rattle.std.specs.List.{All, AllByRecursion, Contains, slice_get}
use Rattle.std.specs.List.Sorted.{IsStrictlySortedBy}
use Rattle.std.specs.Map.{keys_of}
use Rattle.std.specs.BTreeMap.{get, is_at, IsOrdered}
use Rattle.std.specs.String.{string_cmp}
use Rattle.std.proofs.lemmas.Cmp.{nat_cmp_total, ranked}
use Rattle.std.proofs.lemmas.Map.Lookups.{exact_bytes, exact_unsigned}
use Rattle.std.proofs.lemmas.Map.Entries.{place_from_lookup, btree_map_get_place}
use Rattle.std.proofs.lemmas.Map.Keys.{sorted_head, sorted_tail}
use Rattle.std.proofs.lemmas.List.Elements.{All-head, All-tail, All-map}
use Rattle.std.proofs.lemmas.Option.{same_Some, slice_get-get_or, get_or_from_slice_get, slice_get_within}
use Rattle.toml.specs.Data.{Data, Members as Table, no_members, member, get_member}
use Rattle.toml.specs.View.{view, members_view}
use Rattle.toml.specs.declared.value.Value.{Value}
use Rattle.toml.proofs.Views.{view-lookup}
use Rattle.op_types.specs.Ranges.{IsPid, AreRising}
use Rattle.op_outside.specs.declared.net.Addr.{Addr}
use Rattle.op_setup.specs.Settings.{Peer, IsRow, HasPeer, AreRows}

abbrev pub Row : Type 0
Row = String Global × Value

-- the row is that of an id of the map
abbrev pub IsSomeRow : BTreeMap ℕ Addr → List ℕ → Data → Type 0
IsSomeRow m key value = (id : ℕ) × (a : Addr) × (get nat_cmp m id ≡ Some a) × IsRow key value (id, a)

-- each entry of the map has a row
abbrev pub HaveRows : Table → BTreeMap ℕ Addr → Type 0
HaveRows rows m = (id : ℕ) (a : Addr) → get nat_cmp m id ≡ Some a → HasPeer rows (id, a)

-- each row is that of an id of the map, or still to come
abbrev pub AreRead : Table → BTreeMap ℕ Addr → Table → Type 0
AreRead rows m rest = (key : List ℕ) (value : Data) → get_member key rows ≡ Some value → IsSomeRow m key value ⊎ (get_member key rest ≡ Some value)

-- ---- one more row

-- a row that a look-up finds
pub row_there : (rows : BTreeMap (String Global) Value) (row : Row) → get string_cmp rows row.0 ≡ Some row.1 → get_member (string_bytes row.0) (members_view rows.entries) ≡ Some (view row.1)
row_there rows row e = sym (view-lookup (string_bytes row.0) rows.entries) ∙ ap (option_map view) e

have_by : (rows : Table) (m n : BTreeMap ℕ Addr) (id : ℕ) (a : Addr) (q : ℕ) (b : Addr) (r : Ordering) → nat_cmp id q ≡ r → get nat_cmp n q ≡ cond (is_eq r) (Some a) (get nat_cmp m q)
    → HasPeer rows (id, a) → HaveRows rows m → get nat_cmp n q ≡ Some b → HasPeer rows (q, b)
have_by rows m n id a q b Less h u new old e = old q b (sym u ∙ e)
have_by rows m n id a q b Greater h u new old e = old q b (sym u ∙ e)
have_by rows m n id a q b Equal h u new old e =
    let P : ℕ → Type 0 = λ x. HasPeer rows (x, b) in
    let Q : Addr → Type 0 = λ y. HasPeer rows (id, y) in
    subst P (exact_unsigned id q h) (subst Q (same_Some a b (sym u ∙ e)) new)

-- with a row's id in the map, each entry still has a row
pub next_have : (rows : Table) (m n : BTreeMap ℕ Addr) (id : ℕ) (a : Addr) (key : List ℕ) (value : Data) → ((q : ℕ) → get nat_cmp n q ≡ cond (is_at (nat_cmp id) q) (Some a) (get nat_cmp m q))
    → get_member key rows ≡ Some value → IsRow key value (id, a) → HaveRows rows m → HaveRows rows n
next_have rows m n id a key value updates there row old = λ q b e. have_by rows m n id a q b (nat_cmp id q) refl (updates q) (key, value, there, row) old e

first_by : (key k : List ℕ) (d value : Data) (later : Option Data) (r : Ordering) → slice_cmp nat_cmp key k ≡ r → match_ordering r later (Some d) later ≡ Some value → ((key ≡ k) × (d ≡ value)) ⊎ (later ≡ Some value)
first_by key k d value later Less h e = inr e
first_by key k d value later Equal h e = inl (exact_bytes key k h, same_Some d value e)
first_by key k d value later Greater h e = inr e

as_row : (key k : List ℕ) (d value : Data) (p : Peer) → key ≡ k → d ≡ value → IsRow k d p → IsRow key value p
as_row key k d value p ek ed row = record { id = row.id; addr = row.addr; key_text = ek ∙ row.key_text; value_text = sym ed ∙ row.value_text }

read_by : (rows : Table) (m n : BTreeMap ℕ Addr) (id : ℕ) (a : Addr) (k : List ℕ) (d : Data) → get nat_cmp n id ≡ Some a → get_member k rows ≡ Some d → IsRow k d (id, a)
    → (key : List ℕ) (value : Data) → get_member key rows ≡ Some value → (q : ℕ) (b : Addr) → get nat_cmp m q ≡ Some b → IsRow key value (q, b)
    → (r : Ordering) → nat_cmp id q ≡ r → get nat_cmp n q ≡ cond (is_eq r) (Some a) (get nat_cmp m q) → IsSomeRow n key value
read_by rows m n id a k d here there row key value e q b got old Less h u = (q, b, u ∙ got, old)
read_by rows m n id a k d here there row key value e q b got old Greater h u = (q, b, u ∙ got, old)
read_by rows m n id a k d here there row key value e q b got old Equal h u =
    let keys : key ≡ k = old.key_text ∙ ap decimal (sym (exact_unsigned id q h)) ∙ sym row.key_text in
    let values : d ≡ value = same_Some d value (sym there ∙ ap (λ (x : List ℕ). get_member x rows) (sym keys) ∙ e) in
    (id, a, here, as_row key k d value (id, a) keys values row)

read_next : (rows : Table) (m n : BTreeMap ℕ Addr) (id : ℕ) (a : Addr) (k : List ℕ) (d : Data) (rest : Table) → ((q : ℕ) → get nat_cmp n q ≡ cond (is_at (nat_cmp id) q) (Some a) (get nat_cmp m q)) → get nat_cmp n id ≡ Some a
    → get_member k rows ≡ Some d → IsRow k d (id, a) → (key : List ℕ) (value : Data) → get_member key rows ≡ Some value
    → IsSomeRow m key value ⊎ (get_member key (member k d rest) ≡ Some value) → IsSomeRow n key value ⊎ (get_member key rest ≡ Some value)
read_next rows m n id a k d rest updates here there row key value e (inl (q, b, got, old)) =
    inl (read_by rows m n id a k d here there row key value e q b got old (nat_cmp id q) refl (updates q))
read_next rows m n id a k d rest updates here there row key value e (inr later) =
    elim (first_by key k d value (get_member key rest) (slice_cmp nat_cmp key k) refl later) [
      | inl both ↦ inl (id, a, here, as_row key k d value (id, a) both.0 both.1 row)
      | inr more ↦ inr more
    ]

-- with a row's id in the map, each row is read, or later than that one
pub next_read : (rows : Table) (m n : BTreeMap ℕ Addr) (id : ℕ) (a : Addr) (k : List ℕ) (d : Data) (rest : Table) → ((q : ℕ) → get nat_cmp n q ≡ cond (is_at (nat_cmp id) q) (Some a) (get nat_cmp m q)) → get nat_cmp n id ≡ Some a
    → get_member k rows ≡ Some d → IsRow k d (id, a) → AreRead rows m (member k d rest) → AreRead rows n rest
next_read rows m n id a k d rest updates here there row old = λ key value e. read_next rows m n id a k d rest updates here there row key value e (old key value e)

-- ---- all rows

less : (a b : ℕ) → nat_cmp a b ≡ Less → a < b
less a b h = ranked a b Less (sym h)

rising_after : (low : ℕ) (ks : List ℕ) → AllByRecursion (λ y. nat_cmp low y ≡ Less) ks → IsStrictlySortedBy nat_cmp ks → All IsPid ks → AreRising low ks
rising_after low [] above sorted ids = tt
rising_after low (k ∷ ks) above sorted ids =
    (less low k above.0, (All-head IsPid k ks ids).1, rising_after k ks (sorted_head nat_cmp k ks sorted) (sorted_tail nat_cmp k ks sorted) (All-tail IsPid k ks ids))

rising_ids : (ks : List ℕ) → IsStrictlySortedBy nat_cmp ks → All IsPid ks → AreRising 0 ks
rising_ids [] sorted ids = tt
rising_ids (k ∷ ks) sorted ids =
    let id : IsPid k = All-head IsPid k ks ids in
    let first : 0 < k = omega (arith, id.0) in
    (first, id.1, rising_after k ks (sorted_head nat_cmp k ks sorted) (sorted_tail nat_cmp k ks sorted) (All-tail IsPid k ks ids))

is_equal : (r : Ordering) → is_eq r ≡ true → r ≡ Equal
is_equal Less e = absurd cc
is_equal Equal e = refl
is_equal Greater e = absurd cc

entry_of : (m : BTreeMap ℕ Addr) (id : ℕ) (a : Addr) → get nat_cmp m id ≡ Some a → Contains m.entries (id, a)
entry_of m id a got =
    let place = place_from_lookup (is_at (nat_cmp id)) m.entries a got in
    let same : place.1 ≡ id = sym (exact_unsigned id place.1 (is_equal (nat_cmp id place.1) place.3)) in
    let at : slice_get m.entries place.0 ≡ Some (id, a) = place.2 ∙ ap (λ (x : ℕ). Some (x, a)) same in
    (place.0, slice_get_within m.entries place.0 (id, a) at, get_or_from_slice_get m.entries place.0 (id, a) (id, a) at)

each_has : (rows : Table) (m : BTreeMap ℕ Addr) → IsOrdered nat_cmp m → HaveRows rows m → All (HasPeer rows) m.entries
each_has rows m ordered have = λ i d lt.
    let e : Peer = get_or m.entries i d in
    have e.0 e.1 (btree_map_get_place nat_cmp_total m i e.0 e.1 ordered (slice_get-get_or m.entries i d lt))

-- once all rows are read, they are those of the map's entries
pub all_read : (rows : Table) (m : BTreeMap ℕ Addr) → IsOrdered nat_cmp m → HaveRows rows m → AreRead rows m no_members → AreRows rows m.entries
all_read rows m ordered have read =
    let each = each_has rows m ordered have in
    record {
      rising = rising_ids (keys_of m.entries) ordered (All-map IsPid (λ (p : Peer). p.0) m.entries (λ i d lt. (each i d lt).3.id));
      each = each;
      all = λ key value e. elim (read key value e) [
        | inl (id, a, got, row) ↦ ((id, a), entry_of m id a got, row)
        | inr none ↦ absurd cc
      ];
    }

-- a row that is no peer's
pub no_peers : (rows : Table) (key : List ℕ) (value : Data) → get_member key rows ≡ Some value → ((p : Peer) → IsRow key value p → ⊥) → (peers : List Peer) → AreRows rows peers → ⊥
no_peers rows key value there none peers h = let some = h.all key value there in none some.0 some.2
