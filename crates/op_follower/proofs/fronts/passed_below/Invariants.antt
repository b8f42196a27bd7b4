use Rattle.std.proofs.Common.{◌≡◌, ◌≤◌, ℕ, length}
use Rattle.op_types.specs.Joinings.{held_at}
use Rattle.op_types.specs.Rises.{Rises}
use Rattle.op_follower.proofs.fronts.passed_below.Given as goal

abbrev pub invariant-loop-rest : goal.invariant-loop-rest
invariant-loop-rest l = record {
  rising : Rises l.rest;
  same : (i : ℕ) → l.place ≤ i → held_at l.rest i ≡ held_at l.staged i;
}

abbrev pub decreases-loop-rest : goal.decreases-loop-rest
decreases-loop-rest l = length l.rest
