use Rattle.std.proofs.Common.{◌≡◌, ◌+◌, ◌∙◌, get_or, arith}
use Rattle.std.specs.Char.{digit_value}
use Rattle.std.proofs.lemmas.Str.{digit_value_digit}
use Rattle.op_text.proofs.Digits.{all_read, too_great}
use Rattle.op_text.proofs.numbers.value_of.Goals as goal

pub returns-in_err-checked_mul : goal.returns-in_err-checked_mul
returns-in_err-checked_mul c = rw c.from_residual.ensures (λ n h.
    too_great c.args.word.now c.loop-byte.byte-index c.loop-byte.value n c.loop-byte-test.true (λ fits. c.in_err-checked_mul.ensures (omega (arith, fits))) h.0 (c.loop-byte.invariant.value ∙ h.2))

pub returns-in_err-value : goal.returns-in_err-value
returns-in_err-value c = rw c.from_residual-in_err-value.ensures (λ n h.
    too_great c.args.word.now c.loop-byte.byte-index c.loop-byte.value n c.loop-byte-test.true (λ fits.
    let digit : digit_value (get_or c.args.word.now c.loop-byte.byte-index 0) + 48 ≡ get_or c.args.word.now c.loop-byte.byte-index 0 = digit_value_digit _ (grind arith) in
    c.in_err-value.ensures (grind arith)) h.0 (c.loop-byte.invariant.value ∙ h.2))

pub returns : goal.returns
returns c = all_read c.args.word.now c.loop-byte.byte-index c.loop-byte.value c.loop-byte-test.false c.loop-byte.invariant.fits c.loop-byte.invariant.value c.loop-byte.invariant.whole
