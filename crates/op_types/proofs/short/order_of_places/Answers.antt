use Rattle.std.proofs.Common.{arith, sym, ◌∙◌}
use Rattle.op_types.proofs.Words.{words_decide, apart, level_numbers}
use Rattle.op_types.proofs.short.order_of_places.Goals as goal

pub returns-then-x-y : goal.returns-then-x-y
returns-then-x-y c =
    let whole = words_decide c.args.a.now c.args.b.now c.requires.0 c.requires.1 (λ k. omega (arith, c.type_inv.a k)) (λ k. omega (arith, c.type_inv.b k)) in
    let first = apart c.first_word-x.result c.first_word-y.result in
    rw (whole, ← c.first_word-x.ensures, ← c.first_word-y.ensures) (c.cmp.ensures ∙ sym (first _ c.if-x-y.true))

pub returns : goal.returns
returns c =
    let whole = words_decide c.args.a.now c.args.b.now c.requires.0 c.requires.1 (λ k. omega (arith, c.type_inv.a k)) (λ k. omega (arith, c.type_inv.b k)) in
    let alike = level_numbers c.first_word-x.result c.first_word-y.result c.if-x-y.false in
    rw (whole, ← c.first_word-x.ensures, ← c.first_word-y.ensures, alike, ← c.last_word.ensures, ← c.last_word-2.ensures) c.cmp-2.ensures
