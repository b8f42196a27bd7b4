use Rattle.std.proofs.Common.{rules, refl, ◌∙◌, ◌≡◌, arith}
use Rattle.op_serving.specs.Pump.{asks, writes}
use Rattle.op_pump.proofs.Going.{goes_then, goes_to, goes_still, cut, idle_at}
use Rattle.op_pump.proofs.pump.Pump.take_happenings.Goals as goal

pub loop-i-init : goal.loop-i-init
loop-i-init g c = record {
  idle = c.requires.idle;
  goes = λ o. goes_still c.requires.idle.idle refl refl;
  given = refl;
  timer = refl;
  most = omega arith;
}

pub loop-i-preserved : goal.loop-i-preserved
loop-i-preserved g c =
    let v = c.loop-i.invariant in
    record {
      idle = idle_at v.idle.turn refl c.in_ok-take_happening.ensures.idle;
      goes = λ o. goes_then (v.goes o) refl (c.in_ok-take_happening.ensures.goes o c.args.count c.loop-i-test.true);
      given = c.take_happening.ensures.given ∙ v.given;
      timer = c.take_happening.ensures.timer ∙ v.timer;
      most = omega (arith, v.most, c.take_happening.ensures.most);
    }

pub returns-in_err-take_happening-clause-goes : goal.returns-in_err-take_happening-clause-goes
returns-in_err-take_happening-clause-goes g c o =
    cut {e = c.in_err-take_happening.field-0.0} (writes 0) (search rules)
    (goes_then (c.loop-i.invariant.goes o) refl (c.in_err-take_happening.ensures.goes o c.args.count c.loop-i-test.true))

pub returns-clause-goes : goal.returns-clause-goes
returns-clause-goes g c o =
    let k = c.args.count in
    let e : c.loop-i.i ≡ k = search rules in
    goes_then (goes_to (λ j. asks j k) e (c.loop-i.invariant.goes o)) refl (c.end_happenings.ensures.goes o k)
