-- Ids that words name are spares exactly where none is a member, and observers where none is a spare either.
use Rattle.std.proofs.Common.{◌≡◌, ℕ, Bool, true, false, ◌&&◌, ◌⊎◌, ◌<◌, List, [], ◌∷◌, Option, Result, Err, length, take, refl, sym, ap, ◌∙◌, subst, inl, inr, ⊎_elim, arith}
use Rattle.std.proofs.lemmas.List.{length-map}
use Rattle.std.specs.Fmt.{decimal}
use Rattle.std.specs.Result.{IfOk}
use Rattle.op_text.specs.Found.{IsFound}
use Rattle.op_sched.specs.declared.schedule.SchedFail.{SchedFail}
use Rattle.op_sched.specs.declared.schedule.SchedFail.TheVariants.{BadLine, NoMemory}
use Rattle.op_sched.specs.Failing.{IfBadLine}
use Rattle.std.specs.Prelude.{nat_eq, not, ◌||◌, codes}
use Rattle.std.specs.Set.{is_member}
use Rattle.std.proofs.lemmas.Bool.{false≢true, eqb-true, eq-eqb}
use Rattle.op_types.specs.Ranges.{IsMember}
use Rattle.op_sched.specs.Forms.{AreIdsOf, AreSparesOf, AreObserversOf, are_apart, are_beside}
use Rattle.op_text.proofs.Operations.{after_first}
use Rattle.op_sched.specs.Grammar.{words_of, most_spares, most_observers, AreHeaderWords, AreSpareWords, AreObserverWords, IsHeader, IsSpareLine, IsObserverLine}
use Rattle.op_sched.specs.declared.reading.words.TheConstants.{MOST_WORDS}
use Rattle.op_sched.proofs.WordLists.{line_found}
use Rattle.op_sched.proofs.UnambiguousSchedules.{one_list}

-- no id is both
abbrev NoneIsBoth : List ℕ → List ℕ → Type 0
NoneIsBoth members ids = (q : ℕ) → IsMember ids q → IsMember members q → ⊥

both_true : (a b : Bool) → (a && b) ≡ true → (a ≡ true) × (b ≡ true)
both_true true b h = (refl, h)
both_true false b h = absurd (false≢true h)

not_true : (a : Bool) → not a ≡ true → a ≡ true → ⊥
not_true true h t = false≢true h
not_true false h t = false≢true t

or_true : (a b : Bool) → (a || b) ≡ true → (a ≡ true) ⊎ (b ≡ true)
or_true true b h = inl refl
or_true false b h = inr h

or_rest : (a b : Bool) → b ≡ true → (a || b) ≡ true
or_rest true b h = refl
or_rest false b h = h

not_of : (a : Bool) → (a ≡ true → ⊥) → not a ≡ true
not_of true h = absurd (h refl)
not_of false h = refl

both : (a b : Bool) → a ≡ true → b ≡ true → (a && b) ≡ true
both true b ha hb = hb
both false b ha hb = absurd (false≢true ha)

apart_are : (members ids : List ℕ) → are_apart members ids ≡ true → NoneIsBoth members ids
apart_are members [] h q is other = false≢true is
apart_are members (id ∷ ids) h q is other =
    let p = both_true (not (is_member nat_eq members id)) (are_apart members ids) h in
    ⊎_elim
    (λ same. not_true (is_member nat_eq members id) p.0 (subst (λ (n : ℕ). IsMember members n) (eqb-true q id same) other))
    (λ rest. apart_are members ids p.1 q rest other)
    (or_true (nat_eq q id) (is_member nat_eq ids q) is)

are_apart_by : (members ids : List ℕ) → NoneIsBoth members ids → are_apart members ids ≡ true
are_apart_by members [] h = refl
are_apart_by members (id ∷ ids) h =
    both (not (is_member nat_eq members id)) (are_apart members ids)
    (not_of (is_member nat_eq members id) (λ t. h id (ap (λ (b : Bool). b || is_member nat_eq ids id) (eq-eqb id id refl)) t))
    (are_apart_by members ids (λ q is. h q (or_rest (nat_eq q id) (is_member nat_eq ids q) is)))

-- words that are no rising ids name no spares
pub no_ids : (members : List ℕ) (words : List (List ℕ)) → ((ids : List ℕ) → AreIdsOf most_spares words ids → ⊥) → (ids : List ℕ) → AreSparesOf members words ids → ⊥
no_ids members words none ids h = none ids (h.0, h.1.few, h.1.in_range.rising, h.2)

-- rising ids apart from the members are spares
pub spares_by : (members ids : List ℕ) (words : List (List ℕ)) → AreIdsOf most_spares words ids → are_apart members ids ≡ true → AreSparesOf members words ids
spares_by members ids words h apart = (h.0, record { few = h.1; in_range = record { rising = h.2; apart = apart_are members ids apart } }, h.3)

-- others aren't
pub no_spares_by : (members ids : List ℕ) (words : List (List ℕ)) → AreIdsOf most_spares words ids → are_apart members ids ≡ false → (others : List ℕ) → AreSparesOf members words others → ⊥
no_spares_by members ids words h apart others s =
    let same : others ≡ ids = one_list 0 others ids s.1.in_range.rising h.2 (sym s.2 ∙ h.3) in
    false≢true (sym apart ∙ are_apart_by members ids (subst (NoneIsBoth members) same s.1.in_range.apart))

-- words behind the name are those of a line of spares
pub spare_words : (members ids : List ℕ) (words : List (List ℕ)) → AreSparesOf members words ids → AreSpareWords members (codes "spares" ∷ words) ids
spare_words members ids words h = record { some = h.0; in_range = h.1; written = ap (λ (ws : List (List ℕ)). codes "spares" ∷ ws) h.2 }

pub spare_words_back : (members ids : List ℕ) (words : List (List ℕ)) → AreSpareWords members (codes "spares" ∷ words) ids → AreSparesOf members words ids
spare_words_back members ids words h = (h.some, h.in_range, ap after_first h.written)

pub not_false : (b : Bool) → not b ≡ false → b ≡ true
not_false true h = refl
not_false false h = absurd (false≢true (sym h))

-- ---- the line

few_spare_words : (members : List ℕ) (words : List (List ℕ)) (ids : List ℕ) → AreSpareWords members words ids → length words < MOST_WORDS
few_spare_words members words ids h = omega (arith, ap length h.written, length-map ids decimal, h.in_range.few)

-- the first words of a line are a line of spares' exactly where all are
pub spare_line : {E : Type 0} (members line : List ℕ) (words : List (List ℕ)) → words ≡ take MOST_WORDS (words_of line) → (r : Result (Option (List ℕ)) E) → IfOk r (IsFound (AreSpareWords members words)) → IfOk r (IsFound (IsSpareLine members line))
spare_line members line words is r found = line_found MOST_WORDS (AreSpareWords members) (few_spare_words members) (words_of line) words is r found

-- ---- observers

-- none of some ids is beside others exactly where none is both
beside_are : (members spares ids : List ℕ) → are_beside members spares ids ≡ true → NoneIsBoth members ids × NoneIsBoth spares ids
beside_are members spares ids h = let p = both_true (are_apart members ids) (are_apart spares ids) h in (apart_are members ids p.0, apart_are spares ids p.1)

are_beside_by : (members spares ids : List ℕ) → NoneIsBoth members ids → NoneIsBoth spares ids → are_beside members spares ids ≡ true
are_beside_by members spares ids a b = both (are_apart members ids) (are_apart spares ids) (are_apart_by members ids a) (are_apart_by spares ids b)

-- words that are no rising ids name no observers
pub no_observer_ids : (members spares : List ℕ) (words : List (List ℕ)) → ((ids : List ℕ) → AreIdsOf most_observers words ids → ⊥) → (ids : List ℕ) → AreObserversOf members spares words ids → ⊥
no_observer_ids members spares words none ids h = none ids (h.0, h.1.few, h.1.in_range.rising, h.2)

-- rising ids beside members and spares are observers
pub observers_by : (members spares ids : List ℕ) (words : List (List ℕ)) → AreIdsOf most_observers words ids → are_beside members spares ids ≡ true → AreObserversOf members spares words ids
observers_by members spares ids words h beside =
    let are = beside_are members spares ids beside in (h.0, record { few = h.1; in_range = record { rising = h.2; no_member = are.0; no_spare = are.1 } }, h.3)

-- others aren't
pub no_observers_by : (members spares ids : List ℕ) (words : List (List ℕ)) → AreIdsOf most_observers words ids → are_beside members spares ids ≡ false → (others : List ℕ) → AreObserversOf members spares words others → ⊥
no_observers_by members spares ids words h beside others s =
    let same : others ≡ ids = one_list 0 others ids s.1.in_range.rising h.2 (sym s.2 ∙ h.3) in
    false≢true (sym beside ∙ are_beside_by members spares ids (subst (NoneIsBoth members) same s.1.in_range.no_member) (subst (NoneIsBoth spares) same s.1.in_range.no_spare))

-- words behind the name are those of a line of observers
pub observer_words : (members spares ids : List ℕ) (words : List (List ℕ)) → AreObserversOf members spares words ids → AreObserverWords members spares (codes "observers" ∷ words) ids
observer_words members spares ids words h = record { some = h.0; in_range = h.1; written = ap (λ (ws : List (List ℕ)). codes "observers" ∷ ws) h.2 }

pub observer_words_back : (members spares ids : List ℕ) (words : List (List ℕ)) → AreObserverWords members spares (codes "observers" ∷ words) ids → AreObserversOf members spares words ids
observer_words_back members spares ids words h = (h.some, h.in_range, ap after_first h.written)

few_observer_words : (members spares : List ℕ) (words : List (List ℕ)) (ids : List ℕ) → AreObserverWords members spares words ids → length words < MOST_WORDS
few_observer_words members spares words ids h = omega (arith, ap length h.written, length-map ids decimal, h.in_range.few)

-- the first words of a line are a line of observers' exactly where all are
pub observer_line : {E : Type 0} (members spares line : List ℕ) (words : List (List ℕ)) → words ≡ take MOST_WORDS (words_of line) → (r : Result (Option (List ℕ)) E) → IfOk r (IsFound (AreObserverWords members spares words)) → IfOk r (IsFound (IsObserverLine members spares line))
observer_line members spares line words is r found = line_found MOST_WORDS (AreObserverWords members spares) (few_observer_words members spares) (words_of line) words is r found

-- ---- the header

few_header_words : (words : List (List ℕ)) (ids : List ℕ) → AreHeaderWords words ids → length words < MOST_WORDS
few_header_words words ids h = omega (arith, ap length h.written, length-map ids decimal, h.in_range.few)

-- they are a header's exactly where all are
pub header_line : {E : Type 0} (line : List ℕ) (words : List (List ℕ)) → words ≡ take MOST_WORDS (words_of line) → (r : Result (Option (List ℕ)) E) → IfOk r (IsFound (AreHeaderWords words)) → IfOk r (IsFound (IsHeader line))
header_line line words is r found = line_found MOST_WORDS AreHeaderWords few_header_words (words_of line) words is r found

-- ---- the first bad line

-- a bad line is told on
pub bad_through : {T : Type 0} (S : Type 0) (r : Result T SchedFail) (e : SchedFail) (P Q : ℕ → Type 0) → r ≡ Err e → ((n : ℕ) → P n → Q n) → IfBadLine {T = S} (Err e) P → IfBadLine r Q
bad_through S r (BadLine n) P Q is to h = subst (λ x. IfBadLine x Q) (sym is) (to n h)
bad_through S r NoMemory P Q is to h = subst (λ x. IfBadLine x Q) (sym is) tt
