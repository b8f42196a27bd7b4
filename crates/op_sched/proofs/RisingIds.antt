-- Words are read as rising ids one by one, and what is left may name none.
use Rattle.std.proofs.Common.{◌≡◌, ℕ, ◌+◌, ◌<◌, ◌≤◌, List, [], ◌∷◌, ◌++◌, map, length, get_or, drop, refl, ap, ◌∙◌, arith, append-nil, append_assoc}
use Rattle.std.specs.Fmt.{decimal}
use Rattle.std.proofs.lemmas.List.{at_drop_more, drop_all, length-map}
use Rattle.std.proofs.lemmas.Fmt.{decimal_injective}
use Rattle.op_types.specs.Ranges.{IsPid, AreRising}
use Rattle.op_sched.specs.Forms.{AreIdsOf}

-- the words are ids that rise from above `low`
abbrev pub AreIds : ℕ → List (List ℕ) → List ℕ → Type 0
AreIds low words ids = AreRising low ids × (words ≡ map decimal ids)

-- the words name no such ids
abbrev pub NameNone : ℕ → List (List ℕ) → Type 0
NameNone low words = (ids : List ℕ) → AreIds low words ids → ⊥

-- these ids are read from the words: ids above the last one are all that may be left
pub record AreReadTo (ids : List ℕ) (last : ℕ) (rest words : List (List ℕ)) : Type 0 where
  pub found : (more : List ℕ) → AreIds last rest more → AreIds 0 words (ids ++ more)
  pub none : NameNone last rest → NameNone 0 words

-- nothing is read
pub read_nothing : (words : List (List ℕ)) → AreReadTo [] 0 words words
read_nothing words = record { found = λ more h. h; none = λ h. h }

-- a word that is no id above the last one
abbrev pub IsNoIdAbove : ℕ → List ℕ → Type 0
IsNoIdAbove low word = (id : ℕ) → low < id → IsPid id → word ≡ decimal id → ⊥

none_by : (low : ℕ) (word : List ℕ) (rest : List (List ℕ)) → IsNoIdAbove low word → NameNone low (word ∷ rest)
none_by low word rest bad [] h = absurd (let e : word ∷ rest ≡ [] = h.1 in cc)
none_by low word rest bad (id ∷ ids) h = bad id h.0.0 (omega (arith, h.0.0), h.0.1) cc

-- words that name no rising ids are of none
none_of : (most : ℕ) (words : List (List ℕ)) → NameNone 0 words → (ids : List ℕ) → AreIdsOf most words ids → ⊥
none_of most words none ids h = none ids (h.2, h.3)

-- where the next word is no id above the last one, the words are no rising ids
pub stops_at : {A : Type 0} (most : ℕ) (now : A → List ℕ) (ws : List A) (i : ℕ) (d : A) (ids : List ℕ) (last : ℕ) → i < length ws → AreReadTo ids last (map now (drop i ws)) (map now ws) → IsNoIdAbove last (now (get_or ws i d))
    → (all : List ℕ) → AreIdsOf most (map now ws) all → ⊥
stops_at most now ws i d ids last lt before bad =
    let here = rw (at_drop_more (map now) ws i d lt) at before in
    none_of most (map now ws) (here.none (none_by last (now (get_or ws i d)) (map now (drop (i + 1) ws)) bad))

none_after : (low id : ℕ) (rest : List (List ℕ)) → IsPid id → NameNone id rest → NameNone low (decimal id ∷ rest)
none_after low id rest is none [] h = absurd (let e : decimal id ∷ rest ≡ [] = h.1 in cc)
none_after low id rest is none (first ∷ ids) h =
    let same : id ≡ first = decimal_injective id first (omega (arith, is.1)) (omega (arith, h.0.1)) cc in
    none ids (rw same h.0.2, cc)

one_more : (ids : List ℕ) (last id : ℕ) (word : List ℕ) (rest words : List (List ℕ)) → AreReadTo ids last (word ∷ rest) words → last < id → IsPid id → word ≡ decimal id → AreReadTo (ids ++ id ∷ []) id rest words
one_more ids last id word rest words before above is e =
    record {
      found = λ more h. rw (append_assoc ids (id ∷ []) more) (before.found (id ∷ more) ((above, is.1, h.0), cc (e, h.1)));
      none = λ h. before.none (rw e (none_after last id rest is h));
    }

-- the next word is read
pub read_more : {A : Type 0} (now : A → List ℕ) (ws : List A) (i : ℕ) (d : A) (ids more : List ℕ) (last id : ℕ) → i < length ws → AreReadTo ids last (map now (drop i ws)) (map now ws) → last < id → IsPid id → now (get_or ws i d) ≡ decimal id → more ≡ ids ++ id ∷ []
    → AreReadTo more id (map now (drop (i + 1) ws)) (map now ws)
read_more now ws i d ids more last id lt before above is e one =
    let here = rw (at_drop_more (map now) ws i d lt) at before in
    rw one (one_more ids last id (now (get_or ws i d)) (map now (drop (i + 1) ws)) (map now ws) here above is e)

all_of : (most : ℕ) (ids : List ℕ) (last : ℕ) (words : List (List ℕ)) → AreReadTo ids last [] words → 1 ≤ length words → length words ≤ most → AreIdsOf most words ids
all_of most ids last words before some few =
    let all : AreIds 0 words ids = rw append-nil at (before.found [] (tt, refl)) in
    let count : length words ≡ length ids = ap (length {A = List ℕ}) all.1 ∙ length-map ids decimal in
    (omega (arith, count), omega (arith, count), all.0, all.1)

-- all words are read
pub read_all : {A : Type 0} (most : ℕ) (now : A → List ℕ) (ws : List A) (i : ℕ) (ids : List ℕ) (last : ℕ) → length ws ≤ i → AreReadTo ids last (map now (drop i ws)) (map now ws) → 1 ≤ length ws → length ws ≤ most → AreIdsOf most (map now ws) ids
read_all most now ws i ids last end before some few =
    let none = rw (drop_all i ws end) at before in
    all_of most ids last (map now ws) none (omega (arith, length-map ws now)) (omega (arith, length-map ws now))
