use Rattle.std.proofs.Common.{◌≡◌, sym, subst, rules}
use Rattle.op_outside.specs.Disks.{IsAtRest, LeavesOnly}
use Rattle.op_outside.proofs.Runs.{started}
use Rattle.op_journal.specs.Appends.{Trims}
use Rattle.op_journal.specs.Beginnings.{IsFormattable}
use Rattle.op_record.specs.Ranges.{DurableInRange}
use Rattle.op_record.proofs.Rests.{in_range_rests}
use Rattle.op_journal.specs.declared.fail.DiskFault.{DiskFault as Fault}
use Rattle.op_store.specs.Stored.{Disks, IsBelow, disks_with, chosen_disk, other_disk, rival_end}
use Rattle.op_store.specs.Stores.{IsBelowOrNext}
use Rattle.op_store.specs.Openings.{CarriesOver}
use Rattle.op_store.specs.declared.fail.StoreFail.TheVariants.{DiskFault, NoMemory}
use Rattle.op_store.proofs.AreaDisks.{on_chosen, on_other}
use Rattle.op_store.proofs.KeptDisks.{keep_both, kept_beside}
use Rattle.op_store.proofs.CarriedAreas.{trims_on, trims_not, trims_none, rested_body, counts_uncut, counts_cut}
use Rattle.op_store.proofs.area.carry_over.Goals as goal

pub framed_whole-requires : goal.framed_whole-requires
framed_whole-requires g c = subst DurableInRange (sym (in_range_rests c.args.area.durable c.requires.0.3)) c.requires.0.3

pub returns-in_default-clause-carries : goal.returns-in_default-clause-carries
returns-in_default-clause-carries g c =
    let a = c.args.area in
    let old : Disks = disks_with g.D.Disk.state c.args.first.now c.args.second.now in
    record {
      cuts = λ head bodies area rests size. trims_none head bodies a.end (chosen_disk a.is_second old) NoMemory;
      begins = λ below formattable rests. record { settled = tt; written = tt; crash = started (IsBelowOrNext a.is_second a.generation a.durable) (other_disk a.is_second old) };
    }

pub returns-in_default-trim-clause-carries : goal.returns-in_default-trim-clause-carries
returns-in_default-trim-clause-carries g c =
    let state = g.D.Disk.state in
    let a = c.args.area in
    let old : Disks = disks_with state c.args.first.now c.args.second.now in
    let beside = other_disk a.is_second old in
    let P = IsBelowOrNext a.is_second a.generation a.durable in
    record {
      cuts = λ head bodies area rests size. trims_not head bodies a.end (chosen_disk a.is_second old) (chosen_disk a.is_second (disks_with state c.trim.new.first c.trim.new.second)) c.trim.result _ (c.trim.ensures.trims head bodies area rests size);
      begins = λ below formattable rests. record {
        settled = tt;
        written = tt;
        crash = on_other state a.is_second (λ disk. LeavesOnly P beside disk) c.trim.new.first c.trim.new.second c.args.first.now c.args.second.now c.trim.ensures.uncalled (started P beside);
      };
    }

pub returns-in_default-trim-clause-calls : goal.returns-in_default-trim-clause-calls
returns-in_default-trim-clause-calls g c obey =
    let a = c.args.area in
    counts_uncut g.D.Disk.state a.is_second a.is_closed a.end c.args.len c.args.first.now c.args.second.now c.trim.new.first c.trim.new.second c.trim.ensures.uncalled c.trim.result c.faults.result obey c.trim.ensures.calls c.trim.ensures.idle

pub returns-clause-carries : goal.returns-clause-carries
returns-clause-carries g c =
    let state = g.D.Disk.state in
    let a = c.args.area in
    let b = a.is_second in
    let u = c.args in
    let m = c.trim.new in
    let n = c.begin_next.new in
    let old : Disks = disks_with state u.first.now u.second.now in
    let new : Disks = disks_with state n.first n.second in
    let uncalled = c.trim.ensures.uncalled in
    let is = rested_body a.durable c.in-Ok.framed c.requires.0.3 c.in-Ok.ensures in
    record {
      cuts = λ head bodies area rests size.
          on_chosen state b (λ disk. Trims head bodies a.end (chosen_disk b old) disk c.begin_next.result) n.first n.second m.first m.second c.begin_next.ensures.uncalled
          (trims_on head bodies a.end (chosen_disk b old) (chosen_disk b (disks_with state m.first m.second)) tt c.begin_next.result (c.in-Ok-trim.ensures.trims head bodies area rests size));
      begins = λ below formattable rests.
          on_other state b (λ disk. CarriesOver a disk (other_disk b new) c.begin_next.result) u.first.now u.second.now m.first m.second (sym uncalled)
          (c.begin_next.ensures.begins is
          (on_other state b (λ disk. IsBelow (rival_end b a.generation) disk.content) m.first m.second u.first.now u.second.now uncalled below)
          (on_other state b (λ disk. IsFormattable disk.content a.is_closed) m.first m.second u.first.now u.second.now uncalled formattable)
          (on_other state b IsAtRest m.first m.second u.first.now u.second.now uncalled rests));
    }

pub returns-clause-calls : goal.returns-clause-calls
returns-clause-calls g c obey =
    let a = c.args.area in
    let m = c.trim.new in
    let n = c.begin_next.new in
    counts_cut g.D.Disk.state a.is_second a.is_closed a.end c.args.len c.args.first.now c.args.second.now m.first m.second c.trim.ensures.uncalled n.first n.second c.begin_next.ensures.uncalled Fault (let t : Unit {0} = tt in t) c.begin_next.result obey c.in-Ok-trim.ensures.calls c.trim.ensures.idle c.begin_next.ensures.calls c.begin_next.ensures.fault

pub returns-in_default-trim-clause-kept : goal.returns-in_default-trim-clause-kept
returns-in_default-trim-clause-kept g c =
    kept_beside g.D.Disk.state c.args.area.is_second c.trim.new.first c.trim.new.second c.args.first.now c.args.second.now c.trim.ensures.kept c.trim.ensures.uncalled
