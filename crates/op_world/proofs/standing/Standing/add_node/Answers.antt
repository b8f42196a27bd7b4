use Rattle.op_runs.specs.declared.summary.Running.TheVariants as running
use Rattle.op_world.proofs.StandingNodes.{added_latest, added_line, kept_latest, kept_line, kept_open, up_has, up_runs, failed_has, failed_runs, down_latest, down_line, down_open}
use Rattle.op_world.proofs.standing.Standing.add_node.Goals as goal
use Rattle.op_areas.specs.Media.{medium}

pub add-requires : goal.add-requires
add-requires g c =
    let M = medium g.A.Disk.state g.A.Area.holds g.A.Area.IS_MIRRORED in
    let n = c.args.node.now in
    let d = c.shown.result.now in
    (kept_open M) n d running.Up (up_has M n c.in-Up.node d c.in-Up.is c.shown.ensures) (up_runs M n c.in-Up.node d c.in-Up.is c.shown.ensures) (c.requires.0).node (c.requires.1).node c.requires.2

pub add-requires-in-Failed : goal.add-requires-in-Failed
add-requires-in-Failed g c =
    let M = medium g.A.Disk.state g.A.Area.holds g.A.Area.IS_MIRRORED in
    let n = c.args.node.now in
    let s = c.shown-in-Failed in
    let d = s.result.now in
    (kept_open M) n d running.Failed (failed_has M n c.in-Failed.node d c.in-Failed.is s.ensures) (failed_runs M n c.in-Failed.node d c.in-Failed.is s.ensures) (c.requires.0).node (c.requires.1).node c.requires.2

pub add-requires-in-Down : goal.add-requires-in-Down
add-requires-in-Down g c =
    let M = medium g.A.Disk.state g.A.Area.holds g.A.Area.IS_MIRRORED in
    (down_open M) c.args.node.now c.in-Down.down c.in-Down.is (c.requires.0).node (c.requires.1).node c.requires.2

pub returns-in-Up-clause-latest : goal.returns-in-Up-clause-latest
returns-in-Up-clause-latest g c =
    let M = medium g.A.Disk.state g.A.Area.holds g.A.Area.IS_MIRRORED in
    let n = c.args.node.now in
    let d = c.shown.result.now in
    (added_latest M) c.add.result n d c.args.self.now.latest c.add.new.self.latest
    (kept_latest M n d running.Up (up_has M n c.in-Up.node d c.in-Up.is c.shown.ensures) (up_runs M n c.in-Up.node d c.in-Up.is c.shown.ensures)) c.add.ensures.latest

pub returns-in-Up-clause-lines : goal.returns-in-Up-clause-lines
returns-in-Up-clause-lines g c =
    let M = medium g.A.Disk.state g.A.Area.holds g.A.Area.IS_MIRRORED in
    let n = c.args.node.now in
    let d = c.shown.result.now in
    (added_line M) c.add.result n d running.Up c.args.self.now.lines c.add.new.self.lines
    (kept_line M n d running.Up (up_has M n c.in-Up.node d c.in-Up.is c.shown.ensures) (up_runs M n c.in-Up.node d c.in-Up.is c.shown.ensures)) c.add.ensures.lines

pub returns-in-Failed-clause-latest : goal.returns-in-Failed-clause-latest
returns-in-Failed-clause-latest g c =
    let M = medium g.A.Disk.state g.A.Area.holds g.A.Area.IS_MIRRORED in
    let n = c.args.node.now in
    let s = c.shown-in-Failed in
    let d = s.result.now in
    let added = c.add-in-Failed in
    (added_latest M) added.result n d c.args.self.now.latest added.new.self.latest
    (kept_latest M n d running.Failed (failed_has M n c.in-Failed.node d c.in-Failed.is s.ensures) (failed_runs M n c.in-Failed.node d c.in-Failed.is s.ensures)) added.ensures.latest

pub returns-in-Failed-clause-lines : goal.returns-in-Failed-clause-lines
returns-in-Failed-clause-lines g c =
    let M = medium g.A.Disk.state g.A.Area.holds g.A.Area.IS_MIRRORED in
    let n = c.args.node.now in
    let s = c.shown-in-Failed in
    let d = s.result.now in
    let added = c.add-in-Failed in
    (added_line M) added.result n d running.Failed c.args.self.now.lines added.new.self.lines
    (kept_line M n d running.Failed (failed_has M n c.in-Failed.node d c.in-Failed.is s.ensures) (failed_runs M n c.in-Failed.node d c.in-Failed.is s.ensures)) added.ensures.lines

pub returns-in-Down-clause-latest : goal.returns-in-Down-clause-latest
returns-in-Down-clause-latest g c =
    let M = medium g.A.Disk.state g.A.Area.holds g.A.Area.IS_MIRRORED in
    let n = c.args.node.now in
    let z = c.in-Down.down in
    let added = c.add-in-Down in
    (added_latest M) added.result n z.shown c.args.self.now.latest added.new.self.latest (down_latest M n z c.in-Down.is) added.ensures.latest

pub returns-in-Down-clause-lines : goal.returns-in-Down-clause-lines
returns-in-Down-clause-lines g c =
    let M = medium g.A.Disk.state g.A.Area.holds g.A.Area.IS_MIRRORED in
    let n = c.args.node.now in
    let z = c.in-Down.down in
    let added = c.add-in-Down in
    (added_line M) added.result n z.shown running.Down c.args.self.now.lines added.new.self.lines (down_line M n z c.in-Down.is) added.ensures.lines
