use Rattle.std.proofs.Common.{◌≡◌, All, IfOk, IfSome, length, vec_capacity}
use Rattle.op_serving.specs.Ranges.{GivenInRange, WantedInRange}
use Rattle.op_driver.proofs.Telling.{HandsOut}
use Rattle.op_driver.proofs.answering.answer_all.Given as goal

abbrev pub invariant-answers : goal.invariant-answers
invariant-answers l = record {
  hands : HandsOut l.fn.wanted l.fn.results.items l.wanted l.failed l.results.items l.fn.sessions l.sessions;
  range : All (λ r. IfOk r GivenInRange) l.results.items;
  wanted : IfSome l.wanted WantedInRange;
  room : vec_capacity l.results ≡ vec_capacity l.fn.results;
}

abbrev pub decreases-answers : goal.decreases-answers
decreases-answers l = length l.results.items
