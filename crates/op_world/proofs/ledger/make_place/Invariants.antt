use Rattle.std.proofs.Common.{◌≡◌, ◌≤◌, ℕ, length}
use Rattle.op_world.specs.Ledgers.{list_at}
use Rattle.op_world.proofs.ledger.make_place.Given as goal

abbrev pub invariant-loop-count : goal.invariant-loop-count
invariant-loop-count l = ((other : ℕ) → list_at l.lists.items other ≡ list_at l.initial.lists.items other) × (l._count ≤ length l.lists.items)
