use Rattle.std.proofs.Common.{◌≡◌, sym, ◌∙◌}
use Rattle.std.specs.Ordering.{nat_cmp}
use Rattle.std.specs.Cmp.Lexicographic.{slice_cmp}
use Rattle.std.specs.BTreeMap.{insert_entry}
use Rattle.op_change.specs.Over.{Written, pairs_over}
use Rattle.op_change.proofs.Written.{put_over}
use Rattle.op_change.proofs.change.KvChange.put.Goals as goal

pub returns-clause-pairs : goal.returns-clause-pairs
returns-clause-pairs c =
    let inside = c.self.inside in
    let below = c.below.inside.pairs.entries in
    let w : Written = record { pairs = inside.pairs; gone = inside.gone.keys; clients = inside.clients; forgotten = inside.forgotten.keys } in
    let put : insert_entry (slice_cmp nat_cmp) w.pairs c.in_ok-copy.field-0 c.in_ok-copy-2.field-0 ≡ insert_entry (slice_cmp nat_cmp) w.pairs c.args.key.now c.args.value.now =
    λ i. insert_entry (slice_cmp nat_cmp) w.pairs (c.in_ok-copy.ensures i) (c.in_ok-copy-2.ensures i) in
    (λ i. pairs_over (sym c.below.view_is i).pairs (record w { pairs = (c.in_ok-insert.ensures.entries ∙ put) i }))
    ∙ put_over below w c.args.key.now c.args.value.now c.below.invariant.0 c.self.invariant.0
    ∙ (λ i. insert_entry (slice_cmp nat_cmp) (pairs_over (c.below.view_is i).pairs (c.self.view_is i)) c.args.key.now c.args.value.now)
