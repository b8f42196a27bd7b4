use Rattle.std.proofs.Common.{rules, refl, ap, Some, None, ◌+◌}
use Rattle.op_outside.specs.declared.net.Took.TheVariants as took
use Rattle.op_outside.proofs.Seen.{went_wrong}
use Rattle.op_serving.specs.Inputs.{over}
use Rattle.op_serving.specs.State.{find}
use Rattle.op_serving.specs.Turns.{queue_in, wrote}
use Rattle.op_serving.specs.Pump.{writes, write_to, was_written}
use Rattle.op_driver.specs.Driver.{Served}
use Rattle.op_pump.proofs.Going.{goes_one, goes_same, idle_at}
use Rattle.op_pump.proofs.Steps.{write_asks, written}
use Rattle.op_pump.proofs.Written.{lessens, stops}
use Rattle.op_pump.proofs.pump.Pump.write_one.Goals as goal

pub returns-in_err-settle-in-Ok-Bytes-clause-writes : goal.returns-in_err-settle-in-Ok-Bytes-clause-writes
returns-in_err-settle-in-Ok-Bytes-clause-writes g c o low first =
    let conn = c.args.conn in
    let x = was_written (Some (took.Bytes c.in-Ok-Bytes.n)) in
    let does = c.wrote.ensures.does in
    stops {end = c.in_err-settle-in-Ok-Bytes.field-0.0} (search rules)
    (goes_one x (write_to conn (queue_in (find conn c.args.self.now.driver.loop.sessions))) (writes conn) refl c.in_err-settle-in-Ok-Bytes.ensures.settles
    (record {
      goes_on = refl;
      f = λ l s. wrote l conn c.in-Ok-Bytes.n s;
      does = does;
      asks = write_asks o g.K.Core.line c.args.self.now.timer c.args.self.now.driver low first;
      fits = search rules;
      is = written o g.K.Core.line c.args.self.now.timer c.args.self.now.driver low x first;
    }) refl (search rules) (search rules))

pub returns-in_err-settle-in-Ok-Ended-clause-writes : goal.returns-in_err-settle-in-Ok-Ended-clause-writes
returns-in_err-settle-in-Ok-Ended-clause-writes g c o low first =
    let conn = c.args.conn in
    let x = was_written (Some took.Ended) in
    let does = c.end.ensures.does in
    stops {end = c.in_err-settle-in-Ok-Ended.field-0.0} (search rules)
    (goes_one x (write_to conn (queue_in (find conn c.args.self.now.driver.loop.sessions))) (writes (conn + 1)) refl
    c.in_err-settle-in-Ok-Ended.ensures.settles
    (record {
      goes_on = refl;
      f = λ l s. over l conn s;
      does = does;
      asks = write_asks o g.K.Core.line c.args.self.now.timer c.args.self.now.driver low first;
      fits = tt;
      is = written o g.K.Core.line c.args.self.now.timer c.args.self.now.driver low x first;
    }) refl (search rules) (search rules))

pub returns-in_ok-settle-in-Ok-Bytes-clause-writes : goal.returns-in_ok-settle-in-Ok-Bytes-clause-writes
returns-in_ok-settle-in-Ok-Bytes-clause-writes g c o low first =
    let conn = c.args.conn in
    let x = was_written (Some (took.Bytes c.in-Ok-Bytes.n)) in
    let does = c.wrote.ensures.does in (
      conn,
      goes_one x (write_to conn (queue_in (find conn c.args.self.now.driver.loop.sessions))) (writes conn) refl c.in_ok-settle-in-Ok-Bytes.ensures.settles
          (record {
            goes_on = refl;
            f = λ l s. wrote l conn c.in-Ok-Bytes.n s;
            does = does;
            asks = write_asks o g.K.Core.line c.args.self.now.timer c.args.self.now.driver low first;
            fits = search rules;
            is = written o g.K.Core.line c.args.self.now.timer c.args.self.now.driver low x first;
          }) refl (search rules) (search rules),
      c.next_to_write.ensures.next,
    )

pub returns-in_ok-settle-in-Ok-Bytes-clause-less : goal.returns-in_ok-settle-in-Ok-Bytes-clause-less
returns-in_ok-settle-in-Ok-Bytes-clause-less g c h =
    let same = ap (λ (x : Served _). x.loop.sessions) c.settle.ensures.settles.closes.is in
    lessens c.args.conn c.in-Ok-Bytes.n c.args.self.now.driver.loop c.wrote.new.self.loop c.settle.new.self.driver.loop same (search rules) (search rules)
    c.wrote.ensures.hello c.wrote.ensures.pours

pub returns-in_ok-settle-in-Ok-Bytes-clause-idle : goal.returns-in_ok-settle-in-Ok-Bytes-clause-idle
returns-in_ok-settle-in-Ok-Bytes-clause-idle g c = idle_at c.wrote.ensures.rests.turn c.wrote.ensures.rests.at c.in_ok-settle-in-Ok-Bytes.ensures.idle

pub returns-in-Ok-NotYet-clause-writes : goal.returns-in-Ok-NotYet-clause-writes
returns-in-Ok-NotYet-clause-writes g c o low first =
    let conn = c.args.conn in
    let x = was_written (Some took.NotYet) in (
      conn + 1,
      goes_same x (write_to conn (queue_in (find conn c.args.self.now.driver.loop.sessions))) refl c.requires.idle.idle
          (write_asks o g.K.Core.line c.args.self.now.timer c.args.self.now.driver low first) tt
          (written o g.K.Core.line c.args.self.now.timer c.args.self.now.driver low x first) (search rules) (search rules),
      c.next_behind.ensures.next,
    )

pub returns-in_ok-settle-in-Ok-Ended-clause-writes : goal.returns-in_ok-settle-in-Ok-Ended-clause-writes
returns-in_ok-settle-in-Ok-Ended-clause-writes g c o low first =
    let conn = c.args.conn in
    let x = was_written (Some took.Ended) in
    let does = c.end.ensures.does in (
      conn + 1,
      goes_one x (write_to conn (queue_in (find conn c.args.self.now.driver.loop.sessions))) (writes (conn + 1)) refl c.in_ok-settle-in-Ok-Ended.ensures.settles
          (record {
            goes_on = refl;
            f = λ l s. over l conn s;
            does = does;
            asks = write_asks o g.K.Core.line c.args.self.now.timer c.args.self.now.driver low first;
            fits = tt;
            is = written o g.K.Core.line c.args.self.now.timer c.args.self.now.driver low x first;
          }) refl (search rules) (search rules),
      c.next_behind-in-Ok-Ended.ensures.next,
    )

pub returns-in_ok-settle-in-Ok-Ended-clause-idle : goal.returns-in_ok-settle-in-Ok-Ended-clause-idle
returns-in_ok-settle-in-Ok-Ended-clause-idle g c = idle_at c.end.ensures.rests.turn c.end.ensures.rests.at c.in_ok-settle-in-Ok-Ended.ensures.idle

pub returns-in-Err-clause-writes : goal.returns-in-Err-clause-writes
returns-in-Err-clause-writes g c o low first =
    let conn = c.args.conn in (
      low,
      goes_same (was_written None) (write_to conn (queue_in (find conn c.args.self.now.driver.loop.sessions))) refl c.requires.idle.idle
          (write_asks o g.K.Core.line c.args.self.now.timer c.args.self.now.driver low first) tt
          (written o g.K.Core.line c.args.self.now.timer c.args.self.now.driver low (was_written None) first) (search rules)
          (went_wrong _ _ c.write.result (search rules) c.write.ensures.cause),
      tt,
    )
