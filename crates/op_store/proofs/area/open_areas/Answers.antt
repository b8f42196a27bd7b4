use Rattle.std.proofs.Common.{◌≡◌, false, rules, refl}
use Rattle.std.specs.Prelude.{IfErr}
use Rattle.op_outside.specs.Disks.{IsAtRest, LeavesOnly}
use Rattle.op_outside.proofs.Runs.{started}
use Rattle.op_store.specs.Stored.{Disks, Obey, disks_with, chosen_disk, other_disk}
use Rattle.op_store.specs.Openings.{FindsAreas, FindsNone}
use Rattle.op_journal.specs.declared.head.Version.TheVariants.{One, Two}
use Rattle.op_store.specs.declared.area.OpenArea.{OpenArea}
use Rattle.op_store.specs.declared.reading.Reading.TheVariants as reading
use Rattle.op_store.proofs.AreaDisks.{on_chosen, on_other}
use Rattle.op_store.proofs.KeptDisks.{keep_both, kept_beside}
use Rattle.op_store.proofs.OpeningOutcomes.{opens_none_of, opens_resumed, opens_carried, opens_begun, beside_there, bodies, rests_there, rests_beside, formattable_there}
use Rattle.op_store.proofs.area.open_areas.Goals as goal

pub returns-in_err-found-clause-opens : goal.returns-in_err-found-clause-opens
returns-in_err-found-clause-opens g c obey =
    let state = g.D.Disk.state in
    let old : Disks = disks_with state c.args.first.now c.args.second.now in
    let mid : Disks = disks_with state c.read_areas.new.first c.read_areas.new.second in
    let r = c.from_residual.result in
    let none : IfErr r (FindsNone old mid) = search rules in
    opens_none_of c.args.fresh old mid (c.read_areas.ensures.still obey) r (search rules) none

pub returns-in-Area-clause-opens : goal.returns-in-Area-clause-opens
returns-in-Area-clause-opens g c obey =
    let state = g.D.Disk.state in
    let old : Disks = disks_with state c.args.first.now c.args.second.now in
    let mid : Disks = disks_with state c.read_areas.new.first c.read_areas.new.second in
    let new : Disks = disks_with state c.resume.new.first c.resume.new.second in
    let still = c.read_areas.ensures.still obey in
    let f = c.in-Area in
    let b = f.is_second in
    let len = c.in_ok-found.len in
    let h = f.head.generation in
    let a : OpenArea = record { is_second = b; generation = h; end = f.end; base = f.base; is_closed = f.is_closed; durable = f.durable; is_new = false } in
    let there : FindsAreas old mid (reading.Area b f.head f.durable f.end f.base f.is_closed) len = search rules in
    let now : f.head.version ≡ Two = search rules in
    let same = bodies c.args.fresh old mid still a f.head.version len there refl in
    let rests = rests_there c.args.fresh old mid still b f.head f.end f.base f.durable f.is_closed len there in
    let beside = rests_beside c.args.fresh old mid still b f.head f.end f.base f.durable f.is_closed len there in
    let uncalled = c.resume.ensures.uncalled in
    let m = c.read_areas.new in
    let n = c.resume.new in
    opens_resumed c.args.fresh old mid still a f.head.version len there refl now new c.resume.result c.resume.ensures.area c.resume.ensures.fault (c.resume.ensures.trims f.head same.bodies same.area rests there.size)
    (on_other state b (λ disk. LeavesOnly (λ image. ⊥) (other_disk b mid) disk) n.first n.second m.first m.second uncalled (started (λ image. ⊥) (other_disk b mid)))
    (on_other state b IsAtRest n.first n.second m.first m.second uncalled beside)
    (on_other state b (λ disk. disk.content ≡ (other_disk b mid).content) n.first n.second m.first m.second uncalled refl)
    (c.resume.ensures.kept.image rests.obeys rests.only.itself)
    c.resume.ensures.calls
    (λ le. on_chosen state b (λ disk. disk.calls ≡ (chosen_disk b mid).calls) n.first n.second m.first m.second (c.resume.ensures.idle le) refl)
    (on_other state b (λ disk. disk.calls ≡ (other_disk b mid).calls) n.first n.second m.first m.second uncalled refl)

pub returns-in-One-clause-opens : goal.returns-in-One-clause-opens
returns-in-One-clause-opens g c obey =
    let state = g.D.Disk.state in
    let old : Disks = disks_with state c.args.first.now c.args.second.now in
    let mid : Disks = disks_with state c.read_areas.new.first c.read_areas.new.second in
    let new : Disks = disks_with state c.carry_over.new.first c.carry_over.new.second in
    let still = c.read_areas.ensures.still obey in
    let f = c.in-Area in
    let b = f.is_second in
    let len = c.in_ok-found.len in
    let h = f.head.generation in
    let a : OpenArea = record { is_second = b; generation = h; end = f.end; base = f.base; is_closed = f.is_closed; durable = f.durable; is_new = false } in
    let there : FindsAreas old mid (reading.Area b f.head f.durable f.end f.base f.is_closed) len = search rules in
    let past : f.head.version ≡ One = search rules in
    let same = bodies c.args.fresh old mid still a f.head.version len there refl in
    let rests = rests_there c.args.fresh old mid still b f.head f.end f.base f.durable f.is_closed len there in
    let beside = rests_beside c.args.fresh old mid still b f.head f.end f.base f.durable f.is_closed len there in
    let t = beside_there c.args.fresh old mid still a f.head.version len there refl in
    let both : Obey mid = (there.rests_first.obeys, there.rests_second.obeys) in
    opens_carried c.args.fresh old mid still a f.head.version len there refl past new c.carry_over.result c.carry_over.ensures.area c.carry_over.ensures.stops (c.carry_over.ensures.carries.cuts f.head same.bodies same.area rests there.size)
    (c.carry_over.ensures.carries.begins t.0 t.1 beside)
    (c.carry_over.ensures.images both (there.rests_first.only.itself, there.rests_second.only.itself))
    (c.carry_over.ensures.calls both)

pub returns-clause-opens : goal.returns-clause-opens
returns-clause-opens g c obey =
    let state = g.D.Disk.state in
    let old : Disks = disks_with state c.args.first.now c.args.second.now in
    let mid : Disks = disks_with state c.read_areas.new.first c.read_areas.new.second in
    let still = c.read_areas.ensures.still obey in
    let f = c.in-New in
    let len = c.in_ok-found.len in
    let found : FindsAreas old mid (reading.New f.is_closed f.is_other_closed) len = search rules in
    let formattable = formattable_there c.args.fresh old mid still f.is_closed f.is_other_closed len found in
    opens_begun c.args.fresh old mid still f.is_closed f.is_other_closed len found (state c.begin.new.first) c.begin.result c.begin.ensures.area c.begin.ensures.stops
    (c.begin.ensures.begins formattable found.rests_first) (c.begin.ensures.kept.image found.rests_first.obeys found.rests_first.only.itself) (c.begin.ensures.calls found.rests_first.obeys)

pub returns-in-Area-clause-kept : goal.returns-in-Area-clause-kept
returns-in-Area-clause-kept g c =
    let state = g.D.Disk.state in
    let mid : Disks = disks_with state c.read_areas.new.first c.read_areas.new.second in
    keep_both (disks_with state c.args.first.now c.args.second.now) mid (disks_with state c.resume.new.first c.resume.new.second) c.read_areas.ensures.kept
    (kept_beside state c.in-Area.is_second c.resume.new.first c.resume.new.second c.read_areas.new.first c.read_areas.new.second c.resume.ensures.kept c.resume.ensures.uncalled)

pub returns-in-One-clause-kept : goal.returns-in-One-clause-kept
returns-in-One-clause-kept g c =
    let state = g.D.Disk.state in
    let mid : Disks = disks_with state c.read_areas.new.first c.read_areas.new.second in
    keep_both (disks_with state c.args.first.now c.args.second.now) mid (disks_with state c.carry_over.new.first c.carry_over.new.second) c.read_areas.ensures.kept c.carry_over.ensures.kept
