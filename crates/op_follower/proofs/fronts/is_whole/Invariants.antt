use Rattle.std.proofs.Common.{◌≡◌, ◌≤◌, ◌-◌, ℕ, is_some}
use Rattle.op_types.specs.Joinings.{held_at, held_with, held_run}
use Rattle.op_types.specs.Rises.{Rises}
use Rattle.op_follower.proofs.fronts.is_whole.Given as goal

abbrev pub invariant-loop-place : goal.invariant-loop-place
invariant-loop-place l = record {
  rising : Rises l.rest;
  same : (i : ℕ) → l.place ≤ i → held_at l.rest i ≡ held_at l.staged i;
  whole : is_some (held_run (held_with l.staged l.part.at l.part.run) l.place (l.part.end - l.place))
      ≡ is_some (held_run (held_with l.staged l.part.at l.part.run) l.part.start (l.part.end - l.part.start));
}
