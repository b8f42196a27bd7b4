use Rattle.op_world.proofs.Deeds.{event_comes, event_kept, has_run}
use Rattle.op_world.proofs.Events.{none_happens, none_kept, some_happened}
use Rattle.op_world.proofs.world.events.happen.Goals as goal
use Rattle.op_areas.specs.Media.{medium}

pub event-requires-clause-run : goal.event-requires-clause-run
event-requires-clause-run g c =
    let M = medium g.A.Disk.state g.A.Area.holds g.A.Area.IS_MIRRORED in
    let i = c.requires.kept in
    record { spares = i.spares; observers = i.observers; happenings = i.happenings; run = has_run M c.args.world.now c.args.ledger.now i }

pub returns-in_ok-show_server-in-Some-clause-happens : goal.returns-in_ok-show_server-in-Some-clause-happens
returns-in_ok-show_server-in-Some-clause-happens g c t plans show planned =
    let M = medium g.A.Disk.state g.A.Area.holds g.A.Area.IS_MIRRORED in
    let w = c.args.world.now in
    let did = c.in_ok-place.ensures in
    (event_comes M) w c.args.ledger.now c.requires.kept c.args.event c.in-Some.place c.index.result.now c.event.new.self c.show_server.new.self
    (record {
      happened = some_happened M w c.event.new.self c.args.event c.in_ok-place.field-0 c.in-Some.place c.in-Some.is did.happened;
      place = rw c.in-Some.is at did.place;
      at = c.index.ensures;
      lists_are = c.in_ok-show_server-in-Some.ensures;
      servers = did.goes_on.servers;
      same = (did.goes_on.members, did.goes_on.ids);
      proposed = did.proposed;
      possible = did.possible;
    })
    t plans show planned

pub returns-in_ok-show_server-in-Some-clause-kept : goal.returns-in_ok-show_server-in-Some-clause-kept
returns-in_ok-show_server-in-Some-clause-kept g c =
    let M = medium g.A.Disk.state g.A.Area.holds g.A.Area.IS_MIRRORED in
    let w = c.args.world.now in
    let did = c.in_ok-place.ensures in
    (event_kept M) w c.args.ledger.now c.requires.kept c.args.event c.in-Some.place c.index.result.now c.event.new.self c.show_server.new.self
    (record {
      happened = some_happened M w c.event.new.self c.args.event c.in_ok-place.field-0 c.in-Some.place c.in-Some.is did.happened;
      place = rw c.in-Some.is at did.place;
      at = c.index.ensures;
      lists_are = c.in_ok-show_server-in-Some.ensures;
      servers = did.goes_on.servers;
      same = (did.goes_on.members, did.goes_on.ids);
      proposed = did.proposed;
      possible = did.possible;
    })
    c.requires.range

pub returns-in-None-clause-happens : goal.returns-in-None-clause-happens
returns-in-None-clause-happens g c t plans show planned =
    let M = medium g.A.Disk.state g.A.Area.holds g.A.Area.IS_MIRRORED in
    none_happens M c.args.world.now c.event.new.self c.args.ledger.now c.args.event c.in_ok-place.field-0 c.in-None.is c.in_ok-place.ensures.happened t plans show

pub returns-in-None-clause-kept : goal.returns-in-None-clause-kept
returns-in-None-clause-kept g c =
    let M = medium g.A.Disk.state g.A.Area.holds g.A.Area.IS_MIRRORED in
    none_kept M c.args.world.now c.event.new.self c.args.ledger.now c.args.event c.in_ok-place.field-0 c.in-None.is c.in_ok-place.ensures.happened c.requires.kept
