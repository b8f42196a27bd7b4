use Rattle.std.proofs.Common.{◌≡◌, ◌≤◌, ◌-◌, ◌++◌, ℕ}
use Rattle.op_types.specs.Joinings.{held_at, held_with}
use Rattle.op_types.specs.Rises.{Rises}
use Rattle.op_types.specs.Stages.{front_up_to}
use Rattle.op_follower.proofs.fronts.front.Given as goal

abbrev pub invariant-loop-place : goal.invariant-loop-place
invariant-loop-place l = record {
  rising : Rises l.rest;
  same : (i : ℕ) → l.place ≤ i → held_at l.rest i ≡ held_at l.staged i;
  copied : l.entries ++ front_up_to (l.to - l.place) (held_with l.staged l.part.at l.part.run) l.place
      ≡ front_up_to (l.to - l.from) (held_with l.staged l.part.at l.part.run) l.from;
}
