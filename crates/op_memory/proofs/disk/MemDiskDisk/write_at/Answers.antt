use Rattle.std.proofs.Common.{◌≡◌, ap, rules}
use Rattle.std.specs.Prelude.{OnOk}
use Rattle.op_outside.specs.Disks.{Edits}
use Rattle.op_outside.specs.Disks.Edit.{Write}
use Rattle.op_memory.specs.declared.disk.MemDisk.{MemDisk}
use Rattle.op_memory.specs.MemDisks.{seen_of}
use Rattle.op_memory.proofs.Calling.{history_call}
use Rattle.op_memory.proofs.disk.MemDiskDisk.write_at.Goals as goal

pub returns-then-eq-2-clause-does : goal.returns-then-eq-2-clause-does
returns-then-eq-2-clause-does c =
    let new : MemDisk = record (c.next_fate-fate.new.self) { history = c.add-done.new.self; faults = c.stop.new.self } in
    let same : c.in-Ok.piece.items ≡ c.args.bytes.now = search rules in
    history_call (Write c.args.at c.in-Ok.piece.items) (Write c.args.at c.args.bytes.now) c.args.self.now c.next_fate-fate.new.self new _ (ap (Write c.args.at) same) c.next_fate-fate.ensures.same
    (record { later = c.stop.ensures.later; ok = search rules; err = search rules }) c.add-done.ensures.goes_on (search rules)

pub returns-clause-does : goal.returns-clause-does
returns-clause-does c =
    let new : MemDisk = record (c.next_fate-fate.new.self) { history = c.add-done-2.new.self; faults = c.settle.new.self } in
    let same : c.in-Ok.piece.items ≡ c.args.bytes.now = search rules in
    let done : OnOk c.settle.result (Edits (Write c.args.at c.args.bytes.now) (seen_of c.args.self.now) (seen_of new)) = search rules in
    history_call (Write c.args.at c.in-Ok.piece.items) (Write c.args.at c.args.bytes.now) c.args.self.now c.next_fate-fate.new.self new c.settle.result (ap (Write c.args.at) same) c.next_fate-fate.ensures.same c.settle.ensures.cause c.add-done-2.ensures.goes_on done
