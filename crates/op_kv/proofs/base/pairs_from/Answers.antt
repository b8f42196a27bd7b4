use Rattle.std.proofs.Common.{◌≡◌, ◌+◌, ◌-◌, [], sym, ap, ◌∙◌}
use Rattle.std.specs.Ordering.{nat_cmp}
use Rattle.std.specs.Cmp.Lexicographic.{slice_cmp}
use Rattle.std.specs.BTreeMap.{insert_entry}
use Rattle.op_overlay.specs.Entries.{entries_over}
use Rattle.op_kv.specs.Rising.{rising_read}
use Rattle.op_kv.specs.Bases.{pair_above, rising_pairs}
use Rattle.op_kv.proofs.RisingSteps.{made_of, after_count, made_goes_on, made_stops, made_is_done}
use Rattle.op_kv.proofs.RisingEntries.{made_pairs}
use Rattle.op_kv.proofs.base.pairs_from.Goals as goal

pub pairs-init : goal.pairs-init
pairs-init c =
    (λ i. made_of (entries_over (slice_cmp nat_cmp) (c.new-pairs.ensures.empty i)) (rising_read pair_above (λ p. p.0) (c.in-Some.count - 0) [] c.args.bytes.now c.in-Some.at))
    ∙ ap (made_of (entries_over (slice_cmp nat_cmp) [])) (after_count pair_above (λ p. p.0) [] c.args.bytes.now c.args.first (c.in-Some.count, c.in-Some.at) (sym c.in-Some.ensures))

pub pairs-preserved : goal.pairs-preserved
pairs-preserved c =
    let more = made_goes_on pair_above (λ p. p.0) (entries_over (slice_cmp nat_cmp) c.pairs.pairs.entries) c.in-Some.count c.pairs.counter c.pairs.low.now c.args.bytes.now c.pairs.at ((c.in-Some-pair_at.key.now, c.in-Some-pair_at.value.now), c.in-Some-pair_at.next) (made_of (entries_over (slice_cmp nat_cmp) []) (rising_pairs.read c.args.bytes.now c.args.first)) c.pairs-test.true (sym c.in-Some-pair_at.ensures) c.pairs.invariant in
    let es = c.pairs.pairs.entries in
    let put : insert_entry (slice_cmp nat_cmp) es c.in_ok-from_slice.field-0 c.in_ok-from_slice-2.field-0 ≡ insert_entry (slice_cmp nat_cmp) es c.in-Some-pair_at.key.now c.in-Some-pair_at.value.now =
    λ i. insert_entry (slice_cmp nat_cmp) es (c.in_ok-from_slice.ensures i) (c.in_ok-from_slice-2.ensures i) in
    (λ i. made_of (entries_over (slice_cmp nat_cmp) ((c.in_ok-insert.ensures.entries ∙ put) i)) (rising_read pair_above (λ p. p.0) (c.in-Some.count - (c.pairs.counter + 1)) c.in-Some-pair_at.key.now c.args.bytes.now c.in-Some-pair_at.next)) ∙ more

pub returns-in_default-pair_at : goal.returns-in_default-pair_at
returns-in_default-pair_at c =
    made_stops pair_above (λ p. p.0) (entries_over (slice_cmp nat_cmp) c.pairs.pairs.entries) c.in-Some.count c.pairs.counter c.pairs.low.now c.args.bytes.now c.pairs.at (made_of (entries_over (slice_cmp nat_cmp) []) (rising_pairs.read c.args.bytes.now c.args.first)) c.pairs-test.true (sym c.in_default-pair_at.ensures) c.pairs.invariant ∙ made_pairs c.args.bytes.now c.args.first

pub returns : goal.returns
returns c = made_is_done pair_above (λ p. p.0) (entries_over (slice_cmp nat_cmp) c.pairs.pairs.entries) c.in-Some.count c.pairs.counter c.pairs.low.now c.args.bytes.now c.pairs.at (made_of (entries_over (slice_cmp nat_cmp) []) (rising_pairs.read c.args.bytes.now c.args.first)) c.pairs-test.false c.pairs.invariant ∙ made_pairs c.args.bytes.now c.args.first
