use Rattle.std.proofs.Common.{◌≡◌, ◌-◌, ◌<◌, ◌^◌, ℕ, List}
use Rattle.op_fields.specs.Form.{items_read}
use Rattle.op_fields.specs.Items.{Reader, ReadsItems, read_by}
use Rattle.op_fields.proofs.ItemSteps.{with_prefix}
use Rattle.op_fields.proofs.items.items_at.Given as goal

abbrev pub invariant-items : goal.invariant-items
invariant-items g l =
    (l.low < 2 ^ 64) × (l.at < 2 ^ 64)
    × ((read : Reader g.row.T.Denot) (key : g.row.T.Denot → ℕ) (bytes : List ℕ) → ReadsItems (goal.F-post g l.fn.item) read key bytes
    → with_prefix l.items.items (items_read (read_by read) key (l.count - l.counter) l.low bytes l.at) ≡ items_read (read_by read) key l.count 0 bytes l.first)
