use Rattle.std.proofs.Common.{◌≡◌, arith, sym, ◌∙◌}
use Rattle.std.proofs.lemmas.Fmt.{decimal_injective}
use Rattle.op_sched.proofs.RisingIds.{read_nothing, stops_at, read_more, read_all}
use Rattle.op_sched.proofs.reading.forms.rising_ids.Goals as goal

pub loop-word-init : goal.loop-word-init
loop-word-init c = rw c.new-ids.ensures (read_nothing _)

pub returns-in_default : goal.returns-in_default
returns-in_default c = stops_at c.args.most _ _ _ _ _ _ c.loop-word-test.true c.loop-word.invariant (λ id above is e. c.in_default.ensures id (is, e))

pub returns-then-id-last : goal.returns-then-id-last
returns-then-id-last c = stops_at c.args.most _ _ _ _ _ _ c.loop-word-test.true c.loop-word.invariant (λ id above is e.
    let found = c.in-Some.ensures in
    let same : c.in-Some.id ≡ id = decimal_injective _ _ (omega (arith, found.0)) (omega (arith, is)) (sym found.1 ∙ e) in
    omega (arith, same, above, c.if-id-last.true))

pub loop-word-preserved : goal.loop-word-preserved
loop-word-preserved c =
    let found = c.in-Some.ensures in
    read_more _ _ _ _ _ _ _ _ c.loop-word-test.true c.loop-word.invariant (omega (arith, c.if-id-last.false)) found.0 found.1 c.in_ok-push.ensures.ok

pub returns : goal.returns
returns c = read_all c.args.most _ _ _ _ _ (omega (arith, c.loop-word-test.false)) c.loop-word.invariant (grind arith) (omega (arith, c.if-most-words.false))
