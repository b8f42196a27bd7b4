use Rattle.op_outside.specs.Disks.{LeavesOnly}
use Rattle.op_store.specs.Stored.{IsStored, LeavesPairs, other_disk}
use Rattle.op_store.specs.Stores.{IsBelowOrNext, disks_of}
use Rattle.op_store.proofs.AreaDisks.{along}
use Rattle.op_store.proofs.CheckpointCrashes.{checkpointed, leaves_alone, leaves_pairs, left_read}
use Rattle.op_store.proofs.store.Store.checkpoint.Goals as goal

pub returns-in-Ok-clause-checkpoints : goal.returns-in-Ok-clause-checkpoints
returns-in-Ok-clause-checkpoints g c d represents is =
    let s = c.args.self.now in
    record {
      stored = checkpointed g.D.Disk.state d c.args.framed is s.is_second s.generation s.end s.base s.is_closed s.first s.second c.format.new.first c.format.new.second represents c.format.ensures.uncalled c.in-Ok.end c.in-Ok.ensures.end.0 (c.in-Ok.ensures.formats represents.formattable);
      left = tt;
      crash = leaves_pairs g.D.Disk.state d c.args.framed is s.is_second s.generation s.end s.base s.is_closed s.first s.second c.format.new.first c.format.new.second represents c.format.ensures.uncalled c.format.result (c.format.ensures.formats represents.formattable);
    }

pub returns-in-Err-clause-checkpoints : goal.returns-in-Err-clause-checkpoints
returns-in-Err-clause-checkpoints g c d represents is =
    let state = g.D.Disk.state in
    let s = c.args.self.now in
    let formats = c.format.ensures.formats represents.formattable in
    let left = left_read state d c.args.framed is s.is_second s.generation s.end s.base s.is_closed s.first s.second c.format.new.first c.format.new.second represents c.format.ensures.uncalled c.format.result formats (c.format.ensures.called.image represents.rests.obeys) in
    let crash = leaves_pairs state d c.args.framed is s.is_second s.generation s.end s.base s.is_closed s.first s.second c.format.new.first c.format.new.second represents c.format.ensures.uncalled c.format.result formats in
    record {
      stored = tt;
      left = along _ _ c.fail.ensures.failed (λ n. IsStored d (state n.first).content (state n.second).content) left;
      crash = along _ _ c.fail.ensures.failed (λ n. LeavesPairs (IsStored d) (disks_of state s) (disks_of state n)) crash;
    }

pub returns-in-Ok-clause-alone : goal.returns-in-Ok-clause-alone
returns-in-Ok-clause-alone g c d represents is =
    let s = c.args.self.now in
    leaves_alone g.D.Disk.state d c.args.framed is s.is_second s.generation s.end s.base s.is_closed s.first s.second c.format.new.first c.format.new.second represents c.format.ensures.uncalled c.format.result (c.format.ensures.formats represents.formattable)

pub returns-in-Err-clause-alone : goal.returns-in-Err-clause-alone
returns-in-Err-clause-alone g c d represents is =
    let state = g.D.Disk.state in
    let s = c.args.self.now in
    let alone = leaves_alone state d c.args.framed is s.is_second s.generation s.end s.base s.is_closed s.first s.second c.format.new.first c.format.new.second represents c.format.ensures.uncalled c.format.result (c.format.ensures.formats represents.formattable) in
    along _ _ c.fail.ensures.failed (λ n. LeavesOnly (IsBelowOrNext s.is_second s.generation d) (other_disk s.is_second (disks_of state s)) (other_disk s.is_second (disks_of state n))) alone
