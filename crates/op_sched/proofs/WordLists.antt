-- The words of a line: that at an index, and the first of them, which are put one after the other in places.
use Rattle.std.proofs.Common.{◌≡◌, ℕ, suc, ◌+◌, ◌-◌, ◌<◌, eqb, Bool, Option, List, [], ◌∷◌, ◌++◌, length, take, set, get_or, map, sym, ap, ◌∙◌, subst, Result, arith, append-nil, append_assoc, length-take}
use Rattle.std.proofs.Math.ListN.{get_or-map}
use Rattle.std.proofs.Math.Seq.{take-nil}
use Rattle.std.proofs.lemmas.List.{map-append, take_all, take_more_set}
use Rattle.std.specs.Result.{IfOk}
use Rattle.op_text.specs.Found.{IsFound}
use Rattle.op_text.proofs.FoundAlike.{ok_found_as}
use Rattle.op_sched.specs.Grammar.{space}
use Rattle.op_sched.proofs.FirstParts.{first_place}

-- the word at an index
pub word_at : {A : Type 0} (now : A → List ℕ) (ws : List A) (i : ℕ) (d : A) (xs : List (List ℕ)) → map now ws ≡ xs → now (get_or ws i d) ≡ get_or xs i (now d)
word_at now ws i d xs e = sym (get_or-map now ws i d) ∙ ap (λ (words : List (List ℕ)). get_or words i (now d)) e

abbrev pub is_space : ℕ → Bool
is_space b = eqb b space

-- where the first word of a line ends, if others stand behind it
abbrev pub word_end : List ℕ → Option ℕ
word_end line = first_place is_space line

-- the words that are put and the first of those that aren't, `most` together, are these
abbrev pub AreSplitTo : {A : Type 0} → (A → List ℕ) → ℕ → List A → ℕ → List (List ℕ) → List (List ℕ) → Type 0
AreSplitTo now most words count more all = map now (take count words) ++ take (most - count) more ≡ all

-- one word more is put
pub word_put : {A : Type 0} (now : A → List ℕ) (most : ℕ) (words : List A) (count : ℕ) (word : A) (more after all : List (List ℕ)) → count < length words → count < most → more ≡ now word ∷ after
    → AreSplitTo now most words count more all → AreSplitTo now most (set words count word) (count + 1) after all
word_put now most words count word more after all place room is before =
    let left : most - count ≡ suc (most - (count + 1)) = omega arith in
    let rest = take (most - (count + 1)) after in
    ap (λ (ws : List _). map now ws ++ rest) (take_more_set words count word place)
    ∙ ap (λ (ws : List (List ℕ)). ws ++ rest) (map-append now (take count words) (word ∷ []))
    ∙ append_assoc (map now (take count words)) (now word ∷ []) rest
    ∙ (rw (left, is) at before)

-- the last word is put
pub all_put : {A : Type 0} (now : A → List ℕ) (most : ℕ) (words : List A) (count : ℕ) (all : List (List ℕ)) → AreSplitTo now most words count [] all → map now (take count words) ≡ all
all_put now most words count all h = rw (take-nil, append-nil) at h

-- ---- the first words of a line

-- so many words are all, where they are fewer
all_words : (most : ℕ) (ws : List (List ℕ)) → length (take most ws) < most → take most ws ≡ ws
all_words most ws few = take_all most ws (omega (arith, length-take most ws, few))

-- where whatever is said has fewer words than so many, the first so many words of a line say it exactly where all do
module _ {T : Type 0} (most : ℕ) (P : List (List ℕ) → T → Type 0) (few : (words : List (List ℕ)) (x : T) → P words x → length words < most) (ws : List (List ℕ)) where
  pub said_by_all : (x : T) → P (take most ws) x → P ws x
  said_by_all x h = subst (λ (l : List (List ℕ)). P l x) (all_words most ws (few (take most ws) x h)) h

  pub said_by_first : (x : T) → P ws x → P (take most ws) x
  said_by_first x h = subst (λ (l : List (List ℕ)). P l x) (sym (take_all most ws (omega (arith, few ws x h)))) h

  pub line_found : {E : Type 0} (words : List (List ℕ)) → words ≡ take most ws → (r : Result (Option T) E) → IfOk r (IsFound (P words)) → IfOk r (IsFound (P ws))
  line_found words is r found = ok_found_as (P (take most ws)) (P ws) said_by_all said_by_first r (subst (λ (l : List (List ℕ)). IfOk r (IsFound (P l))) is found)
