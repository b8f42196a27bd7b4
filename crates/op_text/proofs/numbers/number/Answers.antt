use Rattle.std.proofs.Common.{◌≡◌, ◌<◌, ◌^◌, ◌∷◌, length, decimal, sym, subst, arith}
use Rattle.std.proofs.lemmas.Fmt.{decimal_is_IsNumeral}
use Rattle.op_text.specs.Found.{IsFound}
use Rattle.op_text.specs.Digits.{IsValueOf}
use Rattle.op_text.proofs.Digits.{LeadsAlone, decimal_of_value, one_zero, value_of_decimal}
use Rattle.op_text.proofs.FoundAlike.{found_as}
use Rattle.op_text.proofs.numbers.number.Goals as goal
use Rattle.op_text.proofs.numbers.number.Goals.{else-first-eq48-via-then-first-eq48+else-not-is_empty, else-first-eq48-via-else-first-eq48}

pub returns-in_err-first : goal.returns-in_err-first
returns-in_err-first c = rw c.from_residual.ensures (λ n h.
    let some : 0 < length c.args.word.now = subst (λ w. 0 < length w) (sym h.1) (decimal_is_IsNumeral n h.0).0.0 in
    omega (arith, some, c.in_err-first.ensures.cases))

pub returns-then-not-is_empty : goal.returns-then-not-is_empty
returns-then-not-is_empty c = λ n h.
    let lead : LeadsAlone (c.in_ok-first.first.now ∷ c.in_ok-first.more.now) = subst LeadsAlone (c.in_ok-first.ensures.cases.0) (subst LeadsAlone (sym h.1) (one_zero n h.0)) in
    let alone = lead c.if-first-eq48.true in
    grind arith

pub returns : goal.returns
returns c =
    let word = c.in_ok-first.first.now ∷ c.in_ok-first.more.now in
    let some : 0 < length word = omega arith in
    let lead : LeadsAlone word = elim c.else-first-eq48.branch [
      | else-first-eq48-via-then-first-eq48+else-not-is_empty w ↦ (λ zero. grind arith)
      | else-first-eq48-via-else-first-eq48 w ↦ (λ zero. absurd (grind arith))
    ] in
    subst (λ w. IsFound (λ n. (n < 2 ^ 64) × (w ≡ decimal n)) c.value_of.result) (sym c.in_ok-first.ensures.cases.0)
    (found_as (IsValueOf word) (λ n. (n < 2 ^ 64) × (word ≡ decimal n)) (λ n h. decimal_of_value word n some lead h) (λ n h. value_of_decimal word n h.0 h.1) c.value_of.result (subst (λ w. IsFound (IsValueOf w) c.value_of.result) c.in_ok-first.ensures.cases.0 c.value_of.ensures))
