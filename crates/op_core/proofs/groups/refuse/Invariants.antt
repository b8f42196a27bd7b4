use Rattle.std.proofs.Common.{◌≡◌, ◌≤◌, ◌-◌, ◌++◌, take, vec_len, vec_capacity}
use Rattle.std.proofs.Math.ListN.{replicate}
use Rattle.op_core.specs.Groups.{failed_with}
use Rattle.op_core.proofs.groups.refuse.Given as goal

abbrev pub invariant-results : goal.invariant-results
invariant-results l = record {
  items : l.results.items ≡ take l.from l.fn.results.items ++ replicate (vec_len l.results - l.from) (failed_with l.count);
  few : vec_len l.results ≤ l.len;
  some : l.from ≤ vec_len l.results;
  len : l.len ≡ vec_len l.fn.results;
  room : vec_capacity l.results ≡ vec_capacity l.fn.results;
}

abbrev pub decreases-results : goal.decreases-results
decreases-results l = l.len - vec_len l.results
