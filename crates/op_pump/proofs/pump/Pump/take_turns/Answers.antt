use Rattle.std.proofs.Common.{rules, refl, sym, ◌∙◌, ◌≡◌, false, arith, length}
use Rattle.op_serving.specs.Counts.{most_inputs}
use Rattle.op_pump.specs.Counts.{most_in_turn}
use Rattle.op_pump.proofs.Counting.{one_turn, last_turn}
use Rattle.op_pump.proofs.Going.{goes_still, turn_then, turn_still}
use Rattle.op_pump.proofs.Steps.{turns_end}
use Rattle.op_pump.proofs.pump.Pump.take_turns.Goals as goal

pub turns-init : goal.turns-init
turns-init g c = record {
  idle = c.requires.idle;
  turns = c.requires.turns;
  goes = turn_still (goes_still c.requires.idle.idle refl refl);
  most = omega arith;
}

pub turns-preserved : goal.turns-preserved
turns-preserved g c =
    let v = c.turns.invariant in
    let h = c.in-Ok.ensures.idle in
    record {
      idle = record { idle = h.idle; turn = refl; at = refl };
      turns = omega (arith, v.turns, h.turn, c.in-Ok.ensures.left);
      goes = turn_then v.goes refl c.in-Ok.ensures.goes;
      most = one_turn (most_inputs c.turns.self.driver.loop) (most_inputs c.take_turn.new.self.driver.loop) _ c.turns.self.timer.left
          c.take_turn.new.self.timer.left (most_in_turn (length c.args.settings.now.peers)) c.in-Ok.ensures.left c.take_turn.ensures.most v.most;
    }

pub returns-in-Err-clause-goes : goal.returns-in-Err-clause-goes
returns-in-Err-clause-goes g c = turn_then c.turns.invariant.goes refl c.in-Err.ensures.goes

pub returns-clause-goes : goal.returns-clause-goes
returns-clause-goes g c =
    let v = c.turns.invariant in
    let over : c.has_turn.result ≡ false = search rules in
    turn_then v.goes refl (turn_still (turns_end v.idle.idle (sym c.has_turn.ensures.is ∙ over) c.end.ensures))

pub returns-in-Err-clause-most : goal.returns-in-Err-clause-most
returns-in-Err-clause-most g c =
    last_turn (most_inputs c.turns.self.driver.loop) (most_inputs c.take_turn.new.self.driver.loop) _ c.turns.self.timer.left
    (most_in_turn (length c.args.settings.now.peers)) (search rules) c.take_turn.ensures.most c.turns.invariant.most

pub returns-clause-most : goal.returns-clause-most
returns-clause-most g c = omega (arith, c.turns.invariant.most)
