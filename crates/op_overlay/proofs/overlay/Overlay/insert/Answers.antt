use Rattle.op_overlay.proofs.Overlays.{rises-with_last}
use Rattle.op_overlay.proofs.overlay.Overlay.insert.Goals as goal

pub returns-in_err-insert-in-Some-clause-order : goal.returns-in_err-insert-in-Some-clause-order
returns-in_err-insert-in-Some-clause-order g c = rises-with_last g.met.K.Ord.total c.insert.new.self.entries c.replace.new.dest c.insert.ensures.ordered

pub returns-in_ok-insert-in-Some-clause-order : goal.returns-in_ok-insert-in-Some-clause-order
returns-in_ok-insert-in-Some-clause-order g c = rises-with_last g.met.K.Ord.total c.insert.new.self.entries c.replace.new.dest c.insert.ensures.ordered

pub returns-in-None-clause-order : goal.returns-in-None-clause-order
returns-in-None-clause-order g c = rises-with_last g.met.K.Ord.total c.self.inside.earlier.entries c.replace.new.dest c.self.invariant
