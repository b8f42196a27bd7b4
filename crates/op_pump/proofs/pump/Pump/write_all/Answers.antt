use Rattle.std.proofs.Common.{rules, refl, sym, ◌∙◌, ◌≡◌, None, arith}
use Rattle.op_serving.specs.Pump.{turn}
use Rattle.op_pump.proofs.Going.{goes_then, goes_still, cut, idle_at, to_timer}
use Rattle.op_pump.proofs.Steps.{writes_end}
use Rattle.op_pump.proofs.Written.{waits_of, waits_low}
use Rattle.op_pump.proofs.pump.Pump.write_all.Goals as goal

pub queues-init : goal.queues-init
queues-init g c = record {
  idle = c.requires.idle;
  goes = λ o. (0, goes_still c.requires.idle.idle refl refl, c.next_to_write-next.ensures.next);
  waits = waits_of 0 c.args.self.now.driver.loop c.next_to_write-next.result c.next_to_write-next.ensures.low c.next_to_write-next.ensures.waits;
  timer = refl;
  most = omega arith;
}

pub queues-preserved : goal.queues-preserved
queues-preserved g c =
    let v = c.queues.invariant in
    let timer = c.write_queue.ensures.timer in
    record {
      idle = idle_at v.idle.turn v.idle.at c.in_ok-next.ensures.idle;
      goes = λ o.
          let x = v.goes o in
          let y = c.in_ok-next.ensures.writes o x.0 (sym c.in-Some.is ∙ x.2) in
          (y.0, to_timer timer (goes_then x.1 refl y.1), y.2);
      waits = waits_low c.in-Some.conn c.write_queue.new.self.driver.loop c.in_ok-next.next c.in_ok-next.ensures.waits;
      timer = timer ∙ v.timer;
      most = omega (arith, v.most, c.write_queue.ensures.most);
    }

pub returns-in_err-next-clause-goes : goal.returns-in_err-next-clause-goes
returns-in_err-next-clause-goes g c o =
    let x = c.queues.invariant.goes o in
    let y = c.in_err-next.ensures.writes o x.0 (sym c.in-Some.is ∙ x.2) in
    to_timer c.write_queue.ensures.timer (cut {e = c.in_err-next.field-0.0} turn (search rules) (goes_then x.1 refl y.1))

pub returns-clause-goes : goal.returns-clause-goes
returns-clause-goes g c o =
    let x = c.queues.invariant.goes o in
    let over : c.queues.next ≡ None = search rules in
    goes_then x.1 refl (writes_end c.queues.invariant.idle.idle (sym over ∙ x.2))
