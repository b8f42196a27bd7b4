use Rattle.std.proofs.Common.{◌≡◌, true, cond, sym, ◌∙◌, ℕ, List}
use Rattle.std.specs.Ordering.{nat_cmp, is_eq}
use Rattle.std.specs.Cmp.Lexicographic.{slice_cmp}
use Rattle.std.specs.Map.{remove_entry}
use Rattle.std.specs.BTreeMap.{is_at}
use Rattle.op_change.specs.Over.{Written, pairs_over}
use Rattle.op_overlay.proofs.Deletes.{among}
use Rattle.op_change.proofs.Written.{is_gone, deleted_over}
use Rattle.op_change.proofs.change.KvChange.delete.Goals as goal

pub returns-clause-pairs : goal.returns-clause-pairs
returns-clause-pairs c =
    let inside = c.self.inside in
    let key = c.args.key.now in
    let below = c.below.inside.pairs.entries in
    let w : Written = record { pairs = inside.pairs; gone = inside.gone.keys; clients = inside.clients; forgotten = inside.forgotten.keys } in
    let gone : (q : List ℕ) → among (slice_cmp nat_cmp) c.insert.new.self.keys q ≡ cond (is_eq (slice_cmp nat_cmp key q)) true (is_gone q w) =
    λ q. c.in_ok-insert.ensures.updates.0 q ∙ (λ i. cond (is_eq (slice_cmp nat_cmp (c.in_ok-copy.ensures i) q)) true (is_gone q w)) in
    (λ i. pairs_over (sym c.below.view_is i).pairs (record w { pairs = c.in_ok-remove.ensures.entries i; gone = c.insert.new.self.keys }))
    ∙ deleted_over below w c.insert.new.self.keys key c.below.invariant.0 c.self.invariant.0 gone
    ∙ (λ i. remove_entry (is_at (slice_cmp nat_cmp key)) (pairs_over (c.below.view_is i).pairs (c.self.view_is i)))
