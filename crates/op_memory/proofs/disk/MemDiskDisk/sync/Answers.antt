use Rattle.std.proofs.Common.{refl, rules}
use Rattle.std.specs.Prelude.{OnOk}
use Rattle.op_outside.specs.Disks.{Edits}
use Rattle.op_outside.specs.Disks.Edit.{Nothing}
use Rattle.op_memory.specs.declared.disk.MemDisk.{MemDisk}
use Rattle.op_memory.specs.MemDisks.{seen_of}
use Rattle.op_memory.proofs.Calling.{history_call}
use Rattle.op_memory.proofs.disk.MemDiskDisk.sync.Goals as goal

pub returns-clause-does : goal.returns-clause-does
returns-clause-does c =
    let new : MemDisk = record (c.next_fate.new.self) { history = c.sync-done.new.self; faults = c.settle.new.self } in
    let done : OnOk c.settle.result (Edits Nothing (seen_of c.args.self.now) (seen_of new)) = search rules in
    history_call Nothing Nothing c.args.self.now c.next_fate.new.self new c.settle.result refl c.next_fate.ensures.same c.settle.ensures.cause c.sync-done.ensures.goes_on done
