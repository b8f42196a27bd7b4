-- Where no session is lost any more: marks that are to come are of later places, or lose an input.
use Rattle.std.proofs.Common.{◌≡◌, ◌<◌, ◌≤◌, ◌++◌, ◌∷◌, [], ℕ, Bool, List, length, drop, true, false, not, is_some, ◌&&◌, ◌||◌, ◌==◌, nat_lt, Option, Some, None, All, refl, sym, ◌∙◌, ap, inl, inr, arith, append_assoc}
use Rattle.std.proofs.lemmas.Bool.{cases_Bool, eqb-true, le-ltb}
use Rattle.std.proofs.lemmas.Bool.Decides.{nat_tests}
use Rattle.std.proofs.lemmas.List.{append-nil}
use Rattle.std.proofs.lemmas.List.Elements.{All-head, All-nil}
use Rattle.std.proofs.Math.Seq.{drop-append_seam}
use Rattle.op_serving.specs.declared.mark.Mark.{Mark}
use Rattle.op_serving.specs.declared.mark.Place.{Place}
use Rattle.op_serving.specs.State.{Loop, is_open, next, counted}
use Rattle.op_serving.specs.Reading.{frames_at}
use Rattle.op_serving.specs.Losses.{most_marks, mark_at, is_threat, is_due, is_here, is_open_one, has_threat, IsCalm, settle, settled, IsFrom, Foretells, Grew}
use Rattle.op_queues.proofs.Settling.{foretold}

-- a test that fails, at any place of a chain
pub no_left : (a b : Bool) → a ≡ false → (a && b) ≡ false
no_left true b e = absurd cc
no_left false b e = refl

pub no_right : (a b : Bool) → b ≡ false → (a && b) ≡ false
no_right true b e = e
no_right false b e = refl

pub apart : (a b : ℕ) → (a ≡ b → ⊥) → (a == b) ≡ false
apart a b differ = elim (cases_Bool (a == b)) [ inl h ↦ absurd (differ (eqb-true a b h)) | inr h ↦ h ]

-- ---- places

-- one place is behind another: what is marked at the other is not from it on
abbrev pub Past : Place → Place → Type 0
Past p q = IsFrom q (mark_at p None) → ⊥

pub not_here : (p q : Place) (m : Mark) → Past p q → IsFrom q m → is_here p m ≡ false
not_here p q m past from = grind (arith, nat_tests)

pub past_inputs : (p : Place) (n : ℕ) → p.inputs < n → Past p (record p { inputs = n })
past_inputs p n h from = grind arith

past_frames : (p : Place) (n : ℕ) → p.frames < n → Past p (record p { frames = n })
past_frames p n h from = grind arith

from_from : (p q : Place) (m : Mark) → IsFrom p (mark_at q None) → IsFrom q m → IsFrom p m
from_from p q m a b = grind arith

-- it went on to a place from this one on
pub grew_on : (s t : Loop) → t.lost ≡ s.lost → IsFrom s.place (mark_at t.place None) → s.place.inputs ≤ t.place.inputs → Grew s t
grew_on s t same from up = record {
  added = [];
  lost = same ∙ sym (append-nil s.lost);
  from = All-nil (IsFrom s.place);
  place = λ m h. from_from s.place t.place m from h;
  counts = up;
}

-- ---- what is to come

-- at a later place: it was calm before
pub calm_at : (s m : Loop) → m.lost ≡ s.lost → Past s.place m.place → (marks : List Mark) → Foretells marks m → IsCalm marks s
calm_at s m same past marks f =
    let split : marks ≡ s.lost ++ f.rest = f.split ∙ ap (λ l. l ++ f.rest) same in
    ap (λ r. has_threat r s) (ap (drop (length s.lost)) split ∙ drop-append_seam s.lost f.rest) ∙ none_here f.rest f.later
  where
    none_here : (ms : List Mark) → All (IsFrom m.place) ms → has_threat ms s ≡ false
    none_here [] all = refl
    none_here (x ∷ ms) all =
        let away : is_here s.place x ≡ false = not_here s.place m.place x past (All-head (IsFrom m.place) x ms all) in
        no_right (nat_lt (length s.lost) most_marks) _ (no_left (is_here s.place x) _ away)

-- before an input that was counted it was calm
pub calm_before : (marks : List Mark) (s t : Loop) → Grew (counted s) t → Foretells marks t → IsCalm marks s
calm_before marks s t g f =
    let k : Foretells marks (counted s) = foretold g f in
    calm_at s (counted s) refl (past_inputs s.place (next s.place.inputs) (omega (arith, k.short))) marks k

-- behind a frame that was counted nothing is lost before it
pub calm_frame : (marks : List Mark) (n : ℕ) (s : Loop) → s.place.frames < n → Foretells marks (frames_at n s) → IsCalm marks s
calm_frame marks n s less f = calm_at s (frames_at n s) refl (past_frames s.place n less) marks f

-- where the next mark is no threat
pub calm_next : (marks : List Mark) (s : Loop) (m : Mark) (ms : List Mark) → marks ≡ s.lost ++ m ∷ ms → is_threat m s ≡ false → IsCalm marks s
calm_next marks s m ms split threat = ap (λ r. has_threat r s) (ap (drop (length s.lost)) split ∙ drop-append_seam s.lost (m ∷ ms)) ∙ threat

-- as that of an input that was lost: it names no connection
pub calm_lost : (marks : List Mark) (s t : Loop) → t.lost ≡ s.lost ++ mark_at s.place None ∷ [] → Foretells marks t → IsCalm marks s
calm_lost marks s t e f =
    let m : Mark = mark_at s.place None in
    calm_next marks s m f.rest (f.split ∙ ap (λ l. l ++ f.rest) e ∙ append_assoc s.lost (m ∷ []) f.rest)
    (no_right (nat_lt (length s.lost) most_marks) _ (no_right (is_here s.place m) false refl))

-- where serving has stopped
pub calm_full : (marks : List Mark) (s : Loop) → most_marks ≤ length s.lost → IsCalm marks s
calm_full marks s h = full_at (drop (length s.lost) marks)
  where
    full_at : (ms : List Mark) → has_threat ms s ≡ false
    full_at [] = refl
    full_at (m ∷ ms) = no_left (nat_lt (length s.lost) most_marks) _ (le-ltb (length s.lost) most_marks h)

-- ---- where it is calm, nothing is settled

not_due : (m : Mark) (s : Loop) → is_threat m s ≡ false → is_due m s ≡ false
not_due m s e = grind arith

settle_calm : (ms : List Mark) (s : Loop) → has_threat ms s ≡ false → settle ms s ≡ s
settle_calm [] s e = refl
settle_calm (m ∷ ms) s e = let no : is_due m s ≡ false = not_due m s e in rw no refl

pub calm_settled : (marks : List Mark) (s : Loop) → IsCalm marks s → settled marks s ≡ s
calm_settled marks s e = settle_calm (drop (length s.lost) marks) s e

-- ---- what a threat reads

less_open : (few here some b b2 other : Bool) → (b ≡ true → (b2 || other) ≡ true) → (few && (here && (some && (b2 || other)))) ≡ false → (few && (here && (some && (b || other)))) ≡ false
less_open few here some b b2 other h e = grind arith

-- The same place is calm with fewer open sessions; behind the dials it doesn't matter which are open.
pub calm_less : (marks : List Mark) (s t : Loop) → t.lost ≡ s.lost → t.place ≡ s.place
    → ((c : ℕ) → is_open c s ≡ true → (is_open c t || not (s.place.at == 0)) ≡ true) → IsCalm marks t → IsCalm marks s
calm_less marks s t l p h e = less (drop (length s.lost) marks) (ap (λ x. has_threat (drop (length x) marks) t) (sym l) ∙ e)
  where
    one : (o : Option ℕ) → is_open_one o s ≡ true → (is_open_one o t || not (s.place.at == 0)) ≡ true
    one None e = absurd cc
    one (Some c) e = h c e

    less : (ms : List Mark) → has_threat ms t ≡ false → has_threat ms s ≡ false
    less [] e = refl
    less (m ∷ ms) e =
        less_open (nat_lt (length s.lost) most_marks) (is_here s.place m) (is_some m.conn) (is_open_one m.conn s) (is_open_one m.conn t) (not (s.place.at == 0)) (one m.conn) (rw (sym l, sym p) e)

pub calm_same : (marks : List Mark) (s t : Loop) → t.lost ≡ s.lost → t.place ≡ s.place → ((c : ℕ) → is_open c t ≡ is_open c s) → IsCalm marks t → IsCalm marks s
calm_same marks s t l p h e = calm_less marks s t l p (λ c o. rw (h c, o) refl) e

pub calm_past : (marks : List Mark) (s t : Loop) → t.lost ≡ s.lost → t.place ≡ s.place → (s.place.at ≡ 0 → ⊥) → IsCalm marks t → IsCalm marks s
calm_past marks s t l p h e = calm_less marks s t l p (λ c o. rw (apart s.place.at 0 h) (or_true (is_open c t))) e
  where
    or_true : (b : Bool) → (b || true) ≡ true
    or_true true = refl
    or_true false = refl
