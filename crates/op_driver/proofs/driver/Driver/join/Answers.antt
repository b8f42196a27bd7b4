use Rattle.std.proofs.Common.{ap, arith}
use Rattle.op_serving.specs.Counts.{most_inputs}
use Rattle.op_serving.specs.Turns.{joining}
use Rattle.op_driver.specs.Driver.{Served}
use Rattle.op_queues.proofs.Counting.{most_joining, most_lost}
use Rattle.op_driver.proofs.Stepping.{run_from}
use Rattle.op_driver.proofs.Turning.{joins, joins_rests, joins_lost, joins_lost_calm, joins_lost_rests}
use Rattle.op_driver.proofs.driver.Driver.join.Goals as goal

pub returns-in-Ok-clause-acts : goal.returns-in-Ok-clause-acts
returns-in-Ok-clause-acts g c = run_from (joins c.in-Ok.ensures.ok)

pub returns-in-Ok-clause-calm : goal.returns-in-Ok-clause-calm
returns-in-Ok-clause-calm g c = λ dials. (joins {stores = g.K.Core.stores} c.in-Ok.ensures.ok).sure

pub returns-in-Err-clause-acts : goal.returns-in-Err-clause-acts
returns-in-Err-clause-acts g c = joins_lost c.requires.new c.in-Err.ensures.err c.requires.idle.few

pub returns-in-Err-clause-calm : goal.returns-in-Err-clause-calm
returns-in-Err-clause-calm g c = joins_lost_calm c.args.conn c.args.kind c.args.self.now c.requires.new c.in-Err.ensures.err

pub returns-in-Ok-clause-rests : goal.returns-in-Ok-clause-rests
returns-in-Ok-clause-rests g c = joins_rests c.args.conn c.args.kind c.args.self.now c.requires.idle.none c.in-Ok.ensures.ok

pub returns-in-Err-clause-rests : goal.returns-in-Err-clause-rests
returns-in-Err-clause-rests g c = joins_lost_rests c.args.conn c.args.kind c.args.self.now c.requires.new c.in-Err.ensures.err c.requires.kind.0 c.requires.idle.none

pub returns-in-Ok-clause-most : goal.returns-in-Ok-clause-most
returns-in-Ok-clause-most g c = omega (arith, ap (λ (x : Served _). most_inputs x.loop) c.in-Ok.ensures.ok, most_joining c.args.conn c.args.kind c.args.self.now.loop)

pub returns-in-Err-clause-most : goal.returns-in-Err-clause-most
returns-in-Err-clause-most g c =
    let s = c.args.self.now.loop in
    omega (arith, ap (λ (x : Served _). most_inputs x.loop) c.in-Err.ensures.err, most_lost c.args.conn (joining c.args.conn c.args.kind s), most_joining c.args.conn c.args.kind s)
