use Rattle.std.proofs.Common.{rules, refl, sym, ap, Ok, ◌∙◌, ◌≡◌, Some, arith}
use Rattle.op_pump.proofs.Going.{goes_then, goes_still, with_timer}
use Rattle.op_pump.proofs.Written.{less_waits, stops}
use Rattle.op_pump.proofs.pump.Pump.pour_out.Goals as goal

pub queue-init : goal.queue-init
queue-init g c = record {
  idle = c.requires.idle;
  writes = λ o low first. (low, goes_still c.requires.idle.idle refl refl, first);
  waits = (omega arith, c.requires.waits);
  no_hello = λ e. c.requires.no_hello;
  timer = refl;
  most = omega arith;
}

pub queue-preserved : goal.queue-preserved
queue-preserved g c =
    let i = c.queue.invariant in
    let here : c.queue.next ≡ Some c.args.conn = search rules in
    record {
      idle = search rules;
      writes = λ o low first.
          let x = i.writes o low first in
          let y = c.in_ok-next.ensures.writes o x.0 (sym here ∙ x.2) in
          (y.0, goes_then x.1 refl (with_timer i.timer y.1), y.2);
      waits = c.in_ok-next.ensures.waits;
      no_hello = λ e. (less_waits c.args.conn c.queue.self.driver.loop c.write_one.new.self.driver.loop (i.no_hello here)
          (c.in_ok-next.ensures.less (ap Ok e))).0;
      timer = c.write_one.ensures.timer ∙ i.timer;
      most = omega (arith, i.most, c.write_one.ensures.most);
    }

pub returns-in_err-next-clause-writes : goal.returns-in_err-next-clause-writes
returns-in_err-next-clause-writes g c o low first =
    let i = c.queue.invariant in
    let x = i.writes o low first in
    let here : c.queue.next ≡ Some c.args.conn = search rules in
    let y = c.in_err-next.ensures.writes o x.0 (sym here ∙ x.2) in
    stops {end = c.in_err-next.field-0.0} (search rules) (goes_then x.1 refl (with_timer i.timer y.1))
