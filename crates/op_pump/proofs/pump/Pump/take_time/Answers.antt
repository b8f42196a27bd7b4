use Rattle.std.proofs.Common.{rules, refl, ◌≡◌, true, nat_lt}
use Rattle.std.proofs.lemmas.Bool.{lt-ltb}
use Rattle.op_outside.proofs.Seen.{grows_none}
use Rattle.op_serving.specs.Pump.{asks, clock, was_told}
use Rattle.op_pump.specs.Moments.{set_of}
use Rattle.op_pump.proofs.Going.{goes_then, goes_same, cut}
use Rattle.op_pump.proofs.pump.Pump.take_time.Goals as goal

pub returns-then-not-is_due-clause-goes : goal.returns-then-not-is_due-clause-goes
returns-then-not-is_due-clause-goes g c k =
    let early : nat_lt c.args.now c.args.self.now.timer.due ≡ true = lt-ltb c.args.now c.args.self.now.timer.due (c.is_due.ensures.early (search rules)) in
    goes_same (was_told c.args.now) clock refl c.requires.idle.idle (λ l before. refl) tt (λ l before. rw early refl) (grows_none _) refl

pub returns-in_err-give_tick-clause-goes : goal.returns-in_err-give_tick-clause-goes
returns-in_err-give_tick-clause-goes g c k = cut {e = c.in_err-give_tick.field-0.0} (asks 0 k) (search rules) (c.in_err-give_tick.ensures.goes k)

pub returns-clause-goes : goal.returns-clause-goes
returns-clause-goes g c k = goes_then (c.in_ok-give_tick.ensures.goes k) refl (c.dial_all.ensures.goes (set_of c.args.settings.now) k)
