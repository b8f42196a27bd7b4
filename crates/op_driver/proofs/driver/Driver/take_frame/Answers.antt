use Rattle.std.proofs.Common.{Some, subst, sym}
use Rattle.op_driver.specs.Dealing.{framed, Taken}
use Rattle.op_driver.proofs.Dealing.{frame_counts, taken_lost}
use Rattle.op_driver.proofs.driver.Driver.take_frame.Goals as goal

pub returns-in-Err-clause-taken : goal.returns-in-Err-clause-taken
returns-in-Err-clause-taken g c = taken_lost c.in-Err.ensures.err

pub returns-clause-taken : goal.returns-clause-taken
returns-clause-taken g c =
    let some = c.in_ok-counted.ensures.some in
    let drained = c.drain.ensures in
    subst (λ k. Taken g.K.Core.stores (framed g.K.Core.line c.args.conn c.args.heard c.args.frames) c.args.conn c.args.frames (Some k) c.args.self.now c.drain.new.self) (sym some.0)
    (frame_counts c.in-Ok.ensures.ok c.requires.frames some.1 some.2 drained.drained drained.stays drained.none)
