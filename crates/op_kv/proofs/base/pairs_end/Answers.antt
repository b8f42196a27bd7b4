use Rattle.std.proofs.Common.{[], sym, ap, ◌∙◌}
use Rattle.op_kv.specs.Bases.{pair_above, rising_pairs}
use Rattle.op_kv.specs.Looked.{end_of}
use Rattle.op_kv.proofs.RisingSteps.{after_count, end_goes_on, end_stops, end_is_done}
use Rattle.op_kv.proofs.base.pairs_end.Goals as goal

pub pairs-init : goal.pairs-init
pairs-init c = ap end_of (after_count pair_above (λ p. p.0) [] c.args.bytes.now c.args.first (c.in_ok-count.count, c.in_ok-count.at) (sym c.in_ok-count.ensures))

pub pairs-preserved : goal.pairs-preserved
pairs-preserved c = end_goes_on pair_above (λ p. p.0) c.in_ok-count.count c.pairs.counter c.pairs.low.now c.args.bytes.now c.pairs.at ((c.in_ok-key.key.now, c.in_ok-key.field-0-1.now), c.in_ok-key.next) (end_of (rising_pairs.read c.args.bytes.now c.args.first)) c.pairs-test.true (sym c.in_ok-key.ensures) c.pairs.invariant

pub returns-in_err-key : goal.returns-in_err-key
returns-in_err-key c =
    let r = c.from_residual-in_err-key.ensures in
    let stop = end_stops pair_above (λ p. p.0) c.in_ok-count.count c.pairs.counter c.pairs.low.now c.args.bytes.now c.pairs.at (end_of (rising_pairs.read c.args.bytes.now c.args.first)) c.pairs-test.true (sym c.in_err-key.ensures) c.pairs.invariant in
    r ∙ stop

pub returns : goal.returns
returns c = end_is_done pair_above (λ p. p.0) c.in_ok-count.count c.pairs.counter c.pairs.low.now c.args.bytes.now c.pairs.at (end_of (rising_pairs.read c.args.bytes.now c.args.first)) c.pairs-test.false c.pairs.invariant
