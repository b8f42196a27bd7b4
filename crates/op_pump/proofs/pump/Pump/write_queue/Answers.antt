use Rattle.std.proofs.Common.{rules, refl, sym, ◌∙◌, ◌≡◌, Some}
use Rattle.op_pump.proofs.Going.{goes_then, with_timer}
use Rattle.op_pump.proofs.Written.{stops}
use Rattle.op_pump.proofs.pump.Pump.write_queue.Goals as goal

pub returns-in_err-next-clause-writes : goal.returns-in_err-next-clause-writes
returns-in_err-next-clause-writes g c o low first = stops {end = c.in_err-next.field-0.0} (search rules) (c.in_err-next.ensures.writes o low first).1

pub returns-then-is_conn-clause-writes : goal.returns-then-is_conn-clause-writes
returns-then-is_conn-clause-writes g c o low first =
    let here : c.in_ok-next.next ≡ Some c.args.conn = search rules in
    let x = c.in_ok-next.ensures.writes o low first in
    let y = c.pour_out.ensures.writes o x.0 (sym here ∙ x.2) in
    (y.0, goes_then x.1 refl (with_timer c.write_hello.ensures.timer y.1), y.2)
