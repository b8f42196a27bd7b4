use Rattle.std.proofs.Common.{rules, refl, [], ◌∷◌}
use Rattle.op_outside.proofs.Seen.{grows_none}
use Rattle.op_serving.specs.Pump.{turn}
use Rattle.op_pump.specs.Moments.{set_of}
use Rattle.op_pump.proofs.Going.{goes_then, cut}
use Rattle.op_pump.proofs.pump.Pump.take_turn.Goals as goal

pub returns-in_err-happened-clause-goes : goal.returns-in_err-happened-clause-goes
returns-in_err-happened-clause-goes g c = record {
  times = [];
  goes = cut {e = c.in_err-happened.field-0.0} turn (search rules) (c.in_err-happened.ensures.goes (set_of c.args.settings.now));
  clock = grows_none (g.C.Clock.answers c.args.clock.now);
}

pub returns-in_err-take_time-clause-goes : goal.returns-in_err-take_time-clause-goes
returns-in_err-take_time-clause-goes g c =
    let o = set_of c.args.settings.now in
    record {
      times = c.millis.result ∷ [];
      goes = cut {e = c.in_err-take_time.field-0.0} turn (search rules)
          (goes_then (c.in_ok-happened.ensures.goes o) refl (c.in_err-take_time.ensures.goes c.in_ok-happened.happened));
      clock = c.millis.ensures;
    }

pub returns-in_err-take_happenings-clause-goes : goal.returns-in_err-take_happenings-clause-goes
returns-in_err-take_happenings-clause-goes g c =
    let o = set_of c.args.settings.now in
    let first = goes_then (c.in_ok-happened.ensures.goes o) refl (c.in_ok-take_time.ensures.goes c.in_ok-happened.happened) in
    record {
      times = c.millis.result ∷ [];
      goes = cut {e = c.in_err-take_happenings.field-0.0} turn (search rules) (goes_then first refl (c.in_err-take_happenings.ensures.goes o));
      clock = c.millis.ensures;
    }

pub returns-clause-goes : goal.returns-clause-goes
returns-clause-goes g c =
    let o = set_of c.args.settings.now in
    let first = goes_then (c.in_ok-happened.ensures.goes o) refl (c.in_ok-take_time.ensures.goes c.in_ok-happened.happened) in
    record {
      times = c.millis.result ∷ [];
      goes = goes_then (goes_then first refl (c.in_ok-take_happenings.ensures.goes o)) refl (c.write_all.ensures.goes o);
      clock = c.millis.ensures;
    }
