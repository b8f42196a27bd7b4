use Rattle.std.proofs.Common.{◌≡◌, ◌≤◌, ◌-◌, min, length, drop}
use Rattle.std.specs.Prelude.{◌↔◌}
use Rattle.op_outside.specs.Causes.{last_count}
use Rattle.op_outside.specs.Disks.{MayLeave, LeavesOnly}
use Rattle.op_mirror.specs.Crashes.{LeavesMixes}
use Rattle.op_mirror.specs.Levels.{Levelled}
use Rattle.op_mirror.proofs.levelling.level.Given as goal

abbrev pub invariant-loop-at : goal.invariant-loop-at
invariant-loop-at g l = record {
  within : l.at ≤ l.len;
  ours_size : length l.ours ≡ 65536;
  theirs_size : length l.theirs ≡ 65536;
  first_model : (g.D.Disk.state l.first).obeys ↔ (g.D.Disk.state l.fn.first).obeys;
  second_model : (g.D.Disk.state l.second).obeys ↔ (g.D.Disk.state l.fn.second).obeys;
  first_mark : (g.D.Disk.state l.first).mark ≡ (g.D.Disk.state l.fn.first).mark;
  second_mark : (g.D.Disk.state l.second).mark ≡ (g.D.Disk.state l.fn.second).mark;
  first_faults : (g.D.Disk.state l.first).faults ≡ (g.D.Disk.state l.fn.first).faults;
  second_faults : (g.D.Disk.state l.second).faults ≡ (g.D.Disk.state l.fn.second).faults;
  same : (g.D.Disk.state l.fn.first).obeys → (g.D.Disk.state l.first).content ≡ (g.D.Disk.state l.fn.first).content;
  pending : (g.D.Disk.state l.fn.first).obeys → (g.D.Disk.state l.first).pending ≡ (g.D.Disk.state l.fn.first).pending;
  levelled : (g.D.Disk.state l.fn.first).obeys → (g.D.Disk.state l.fn.second).obeys
      → l.len ≡ length (g.D.Disk.state l.fn.first).content → l.was ≡ length (g.D.Disk.state l.fn.second).content
      → Levelled l.at l.was (g.D.Disk.state l.fn.first).content (g.D.Disk.state l.second).content;
  rest : (g.D.Disk.state l.fn.first).obeys → (g.D.Disk.state l.fn.second).obeys
      → l.len ≡ length (g.D.Disk.state l.fn.first).content → l.was ≡ length (g.D.Disk.state l.fn.second).content
      → drop l.at (g.D.Disk.state l.second).content ≡ drop l.at (g.D.Disk.state l.fn.second).content;
  first_leaves : (g.D.Disk.state l.fn.first).obeys → LeavesOnly (MayLeave (g.D.Disk.state l.fn.first)) (g.D.Disk.state l.fn.first) (g.D.Disk.state l.first);
  first_calls : (g.D.Disk.state l.fn.first).obeys → min (g.D.Disk.state l.fn.first).calls last_count ≤ (g.D.Disk.state l.first).calls;
  second_leaves : (g.D.Disk.state l.fn.first).obeys
      → l.len ≡ length (g.D.Disk.state l.fn.first).content → l.was ≡ length (g.D.Disk.state l.fn.second).content
      → LeavesMixes (g.D.Disk.state l.fn.first).content (g.D.Disk.state l.fn.second).content (g.D.Disk.state l.fn.second) (g.D.Disk.state l.second);
}

abbrev pub decreases-loop-at : goal.decreases-loop-at
decreases-loop-at g l = l.len - l.at
