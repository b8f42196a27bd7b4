use Rattle.std.proofs.Common.{List, ℕ, refl, sym, subst}
use Rattle.op_areas.specs.Media.{medium}
use Rattle.op_types.specs.declared.messages.Msg.{Msg}
use Rattle.op_executions.specs.Servers.{IsDoneAt}
use Rattle.op_executions.proofs.Servers.{told_at}
use Rattle.op_runs.specs.World.{Steps}
use Rattle.op_replay_nodes.specs.Became.{given_lines}
use Rattle.op_replay_nodes.specs.Nodes.{area_nodes}
use Rattle.op_replay_nodes.proofs.Doings.{did_step, nothing_awaits}
use Rattle.op_replay_nodes.proofs.Happenings.{admits_up}
use Rattle.op_replay_nodes.proofs.happening.WorldNode+A+A+Copies.step_plainly.Goals as goal

pub step-requires : goal.step-requires
step-requires g c =
    let M = medium g.A.Disk.state g.A.Area.holds g.A.Area.IS_MIRRORED in
    (admits_up M) c.args.self.now c.in-Up.node c.args.input c.in-Up.is c.requires.can

pub returns-in_default : goal.returns-in_default
returns-in_default g c =
    let M = medium g.A.Disk.state g.A.Area.holds g.A.Area.IS_MIRRORED in
    let a = c.args in
    let did = c.in_ok-refuse in
    told_at (area_nodes M) tt a.self.now (Steps a.input) a.line c.refuse.new.self did.field-0 c.tell.result a.lines.now c.tell.new.lines did.ensures c.tell.ensures.sends c.tell.ensures.lines

pub returns : goal.returns
returns g c =
    let M = medium g.A.Disk.state g.A.Area.holds g.A.Area.IS_MIRRORED in
    let a = c.args in
    let did = c.in-Ok.ensures in
    let gave = c.in_ok-sends in
    record {
      told = given_lines a.self.now.pid a.line c.in-Ok.given;
      done = subst (λ (ss : List (ℕ × Msg)). IsDoneAt (area_nodes M) tt a.self.now (Steps a.input) a.line c.forget_in_time.new.self ss (given_lines a.self.now.pid a.line c.in-Ok.given)) (sym gave.ensures.sends)
          ((did_step M) a.self.now _ c.forget_in_time.new.self a.line c.in-Up.node c.step.new.self a.input c.in-Ok.given _ c.in-Up.is refl (nothing_awaits M g.A.Area.IS_MIRRORED a.self.now.plan c.requires.plain) c.requires.due c.requires.can.kept
          did.stepped.0 did.stepped.1 did.sound (λ r. (did.steps.commits r).stored) refl c.in_ok-forget_in_time.ensures);
      added = gave.ensures.lines;
    }
