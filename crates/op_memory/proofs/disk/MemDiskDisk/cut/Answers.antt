use Rattle.std.proofs.Common.{refl, rules}
use Rattle.std.specs.Prelude.{OnOk}
use Rattle.op_outside.specs.Disks.{Edits}
use Rattle.op_outside.specs.Disks.Edit.{Cut}
use Rattle.op_memory.specs.declared.disk.MemDisk.{MemDisk}
use Rattle.op_memory.specs.MemDisks.{seen_of}
use Rattle.op_memory.proofs.Calling.{history_call}
use Rattle.op_memory.proofs.disk.MemDiskDisk.cut.Goals as goal

pub returns-then-eq-2-clause-does : goal.returns-then-eq-2-clause-does
returns-then-eq-2-clause-does c =
    let new : MemDisk = record (c.next_fate-fate.new.self) { history = c.add-done.new.self; faults = c.stop.new.self } in
    history_call (Cut c.args.len) (Cut c.args.len) c.args.self.now c.next_fate-fate.new.self new _ refl c.next_fate-fate.ensures.same
    (record { later = c.stop.ensures.later; ok = search rules; err = search rules }) c.add-done.ensures.goes_on (search rules)

pub returns-clause-does : goal.returns-clause-does
returns-clause-does c =
    let new : MemDisk = record (c.next_fate-fate.new.self) { history = c.add-done-2.new.self; faults = c.settle.new.self } in
    let done : OnOk c.settle.result (Edits (Cut c.args.len) (seen_of c.args.self.now) (seen_of new)) = search rules in
    history_call (Cut c.args.len) (Cut c.args.len) c.args.self.now c.next_fate-fate.new.self new c.settle.result refl c.next_fate-fate.ensures.same c.settle.ensures.cause c.add-done-2.ensures.goes_on done
