-- A text begins with the line that ends at its first LF.
use Rattle.std.proofs.Common.{◌≡◌, ℕ, ◌+◌, ◌<◌, Bool, true, false, cond, eqb, ltb, Option, Some, None, List, [], ◌∷◌, length, take, drop, refl, ap, ◌∙◌, arith}
use Rattle.std.proofs.lemmas.Bool.Decides.{nat_tests}
use Rattle.std.proofs.lemmas.List.Splits.{length-slice_split}
use Rattle.std.proofs.lemmas.List.Sums.{position_or_len_is}
use Rattle.std.specs.List.{slice_split}
use Rattle.memchr.specs.Find.{IsFirstByte, is_byte}
use Rattle.op_sched.specs.Grammar.{line_feed, lines_of, without_empty_end}
use Rattle.op_sched.proofs.FirstParts.{first_place, one_part, part_and_more}

abbrev is_end : ℕ → Bool
is_end b = eqb b line_feed

-- where the first LF stands, as `position` gives it
abbrev pub line_end : List ℕ → Option ℕ
line_end text = first_place is_end text

not_true : (b : Bool) → (b ≡ true → ⊥) → b ≡ false
not_true true never = absurd (never refl)
not_true false never = refl

none_at : (at len : ℕ) → at ≡ len → None ≡ cond (ltb at len) (Some at) None
none_at at len e = grind (arith, nat_tests)

some_at : (at len end : ℕ) → at ≡ end → end < len → Some end ≡ cond (ltb at len) (Some at) None
some_at at len end e small = grind (arith, nat_tests)

-- where the first LF is found
pub line_end_found : (text : List ℕ) (found : Option ℕ) → IsFirstByte (is_byte line_feed) text found → found ≡ line_end text
line_end_found text None none =
    none_at _ _ (position_or_len_is is_end text (length text) 0 (omega arith) (λ k lt. not_true _ (none k (omega arith) lt)) (λ lt. absurd (omega (arith, lt))))
line_end_found text (Some end) found =
    some_at _ _ end (position_or_len_is is_end text end 0 (omega (arith, found.0.high)) (λ k lt. not_true _ (found.0.before k (omega arith) lt)) (λ lt. found.1)) found.0.high

without_empty_end-cons : (part : List ℕ) (parts : List (List ℕ)) → 0 < length parts → without_empty_end (part ∷ parts) ≡ part ∷ without_empty_end parts
without_empty_end-cons part [] some = absurd (omega arith)
without_empty_end-cons part (next ∷ parts) some = refl

one_kept : (n : ℕ) (parts : List (List ℕ)) → 0 < n → cond (eqb n 0) [] parts ≡ parts
one_kept n parts some = grind (arith, nat_tests)

without_empty_end-one : (part : List ℕ) → 0 < length part → without_empty_end (part ∷ []) ≡ part ∷ []
without_empty_end-one part some = one_kept (length part) (part ∷ []) some

-- a text without LF is one line
pub lines_of-one : (text : List ℕ) → 0 < length text → line_end text ≡ None → lines_of text ≡ text ∷ []
lines_of-one text some e = ap without_empty_end (one_part is_end text e) ∙ without_empty_end-one text some

-- the first line ends at the first LF
pub lines_of-more : (text : List ℕ) (end : ℕ) → line_end text ≡ Some end → (lines_of text ≡ take end text ∷ lines_of (drop (end + 1) text)) × (end < length text)
lines_of-more text end e =
    let first = part_and_more is_end text end e in
    (ap without_empty_end first.0 ∙ without_empty_end-cons (take end text) (slice_split is_end (drop (end + 1) text)) (omega (arith, length-slice_split is_end (drop (end + 1) text))), first.1)
