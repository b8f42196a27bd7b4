-- How entries are cut into runs: none is empty, and one behind the other they are the entries.
use Rattle.std.proofs.Common.{◌≡◌, ℕ, ◌+◌, ◌<◌, ◌≤◌, false, List, [], ◌∷◌, ◌++◌, length, refl, ap, ◌∙◌, subst, arith, Some, append_assoc, length-append}
use Rattle.std.specs.Prelude.{nat_le, slice_get}
use Rattle.std.proofs.lemmas.Bool.{cond_both, true≢false, leb-true}
use Rattle.op_types.specs.declared.log.Entry.{Entry}
use Rattle.op_types.specs.Limits.{most_part_bytes}
use Rattle.op_types.specs.Cutting.{entry_size, entries_size, cut_behind, cut}
use Rattle.op_types.proofs.Elements.{get_left, get_right}

-- runs one behind the other
abbrev pub joined : List (List Entry) → List Entry
joined [] = []
joined (run ∷ runs) = run ++ joined runs

-- none of these is empty
abbrev pub NoneEmpty : List (List Entry) → Type 0
NoneEmpty [] = Unit {0}
NoneEmpty (run ∷ runs) = (0 < length run) × NoneEmpty runs

behind : (run : List Entry) (used : ℕ) (es : List Entry) → (joined (cut_behind run used es) ≡ run ++ es) × NoneEmpty (cut_behind run used es)
behind [] used [] = (refl, tt)
behind (e ∷ run) used [] = (refl, (omega arith, tt))
behind [] used (d ∷ es) = behind (d ∷ []) (entry_size d) es
behind (e ∷ run) used (d ∷ es) =
    cond_both (nat_le (used + entry_size d) most_part_bytes) (cut_behind (e ∷ run ++ d ∷ []) (used + entry_size d) es) ((e ∷ run) ∷ cut_behind (d ∷ []) (entry_size d) es) (λ (c : List (List Entry)). (joined c ≡ (e ∷ run) ++ (d ∷ es)) × NoneEmpty c)
    (λ c. let r = behind (e ∷ run ++ d ∷ []) (used + entry_size d) es in (r.0 ∙ append_assoc (e ∷ run) (d ∷ []) es, r.1))
    (λ c. let r = behind (d ∷ []) (entry_size d) es in (ap (λ (y : List Entry). (e ∷ run) ++ y) r.0, (omega arith, r.1)))

-- the runs of a cut are the entries, one behind the other
pub cut_joined : (es : List Entry) → joined (cut es) ≡ es
cut_joined es = (behind [] 0 es).0

-- none of them is empty
pub cut_full : (es : List Entry) → NoneEmpty (cut es)
cut_full es = (behind [] 0 es).1

-- entries that don't fit into one message make at least one
pub cut_some : (es : List Entry) → nat_le (entries_size es) most_part_bytes ≡ false → 0 < length (cut es)
cut_some es long = by (cut es) (cut_joined es)
  where
    by : (runs : List (List Entry)) → joined runs ≡ es → 0 < length runs
    by [] e = absurd (true≢false (ap (λ (l : List Entry). nat_le (entries_size l) most_part_bytes) e ∙ long))
    by (run ∷ runs) e = omega arith

-- a run of these entries: what stands before it, and behind it
pub record RunOf (es : List Entry) (at : ℕ) (run : List Entry) : Type 0 where
  pub before : List Entry
  pub after : List Entry
  pub place : at ≡ length before
  pub is : es ≡ before ++ (run ++ after)
  pub full : 0 < length run

-- an entry of a run stands among the entries
pub run_get : (es : List Entry) (at : ℕ) (run : List Entry) → RunOf es at run → (k : ℕ) (e : Entry) → slice_get run k ≡ Some e → slice_get es (at + k) ≡ Some e
run_get es at run o k e h =
    let z : length o.before + k ≡ at + k = omega (arith, o.place) in
    subst (λ j. slice_get es j ≡ Some e) z (ap (λ (l : List Entry). slice_get l (length o.before + k)) o.is ∙ get_right o.before (run ++ o.after) k e (get_left run o.after k e h))

-- a run ends no later than the entries
pub run_within : (es : List Entry) (at : ℕ) (run : List Entry) → RunOf es at run → at + length run ≤ length es
run_within es at run o = omega (arith, o.place, ap (λ (l : List Entry). length l) o.is, length-append o.before (run ++ o.after), length-append run o.after)

-- ---- how many bytes runs take

-- each of these entries fits into a part
abbrev pub EachFits : List Entry → Type 0
EachFits [] = Unit {0}
EachFits (e ∷ es) = (entry_size e ≤ most_part_bytes) × EachFits es

-- each of these runs fits into a part
abbrev pub RunsFit : List (List Entry) → Type 0
RunsFit [] = Unit {0}
RunsFit (run ∷ runs) = (entries_size run ≤ most_part_bytes) × RunsFit runs

size_more : (run : List Entry) (d : Entry) → entries_size (run ++ d ∷ []) ≡ entries_size run + entry_size d
size_more [] d = omega arith
size_more (e ∷ run) d = omega (arith, size_more run d)

behind_fits : (run : List Entry) (used : ℕ) (es : List Entry) → used ≡ entries_size run → used ≤ most_part_bytes → EachFits es → RunsFit (cut_behind run used es)
behind_fits [] used [] is low fits = tt
behind_fits (e ∷ run) used [] is low fits = (omega (arith, is, low), tt)
behind_fits [] used (d ∷ es) is low fits = behind_fits (d ∷ []) (entry_size d) es (omega arith) fits.0 fits.1
behind_fits (e ∷ run) used (d ∷ es) is low fits =
    cond_both (nat_le (used + entry_size d) most_part_bytes) (cut_behind (e ∷ run ++ d ∷ []) (used + entry_size d) es) ((e ∷ run) ∷ cut_behind (d ∷ []) (entry_size d) es) RunsFit
    (λ c. behind_fits (e ∷ run ++ d ∷ []) (used + entry_size d) es (omega (arith, is, size_more run d)) (leb-true (used + entry_size d) most_part_bytes c) fits.1)
    (λ c. (omega (arith, is, low), behind_fits (d ∷ []) (entry_size d) es (omega arith) fits.0 fits.1))

-- where each entry fits into a part, so does each run of the cut
pub cut_fits : (es : List Entry) → EachFits es → RunsFit (cut es)
cut_fits es fits = behind_fits [] 0 es refl (omega arith) fits
