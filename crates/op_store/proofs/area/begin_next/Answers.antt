use Rattle.std.proofs.Common.{◌≡◌, ℕ, ◌+◌, List, length, refl, subst, arith}
use Rattle.op_journal.specs.Beginnings.{new_area}
use Rattle.op_store.specs.Stored.{disks_with, other_disk}
use Rattle.op_store.proofs.CheckpointCrashes.{settles_begun, below_or_next}
use Rattle.op_store.proofs.area.begin_next.Goals as goal

pub returns-in-Ok-clause-begins : goal.returns-in-Ok-clause-begins
returns-in-Ok-clause-begins g c is below formattable rests =
    let state = g.D.Disk.state in
    let a = c.args.area in
    let old = other_disk a.is_second (disks_with state c.args.first.now c.args.second.now) in
    let new = other_disk a.is_second (disks_with state c.format.new.first c.format.new.second) in
    let end = c.in-Ok.end in
    let formats = c.in-Ok.ensures.formats formattable in
    let next = c.in-Ok.ensures.end in
    let place : end ≡ 17 + 9 + length c.args.framed = omega (arith, next) in
    record {
      settled = settles_begun a.durable c.args.framed is (a.generation + 1) end (end + 1) new (formats.begun rests) place refl;
      written = subst (λ (l : List ℕ). new.content ≡ new_area (a.generation + 1) l) is.1 (formats.written rests.obeys);
      crash = below_or_next a.durable c.args.framed is a.is_second a.generation old new below (formats.crash rests);
    }

pub returns-in-Err-clause-begins : goal.returns-in-Err-clause-begins
returns-in-Err-clause-begins g c is below formattable rests =
    let state = g.D.Disk.state in
    let a = c.args.area in
    let old = other_disk a.is_second (disks_with state c.args.first.now c.args.second.now) in
    let new = other_disk a.is_second (disks_with state c.format.new.first c.format.new.second) in
    let formats = c.in-Err.ensures.formats formattable in
    record { settled = tt; written = tt; crash = below_or_next a.durable c.args.framed is a.is_second a.generation old new below (formats.crash rests) }
