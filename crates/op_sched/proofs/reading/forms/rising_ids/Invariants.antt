use Rattle.std.proofs.Common.{drop, map}
use Rattle.op_sched.proofs.RisingIds.{AreReadTo}
use Rattle.op_sched.proofs.reading.forms.rising_ids.Given as goal

abbrev pub invariant-loop-word : goal.invariant-loop-word
invariant-loop-word l = AreReadTo l.ids l.last (map (λ x. x.now) (drop l.word-index l.words)) (map (λ x. x.now) l.words)
