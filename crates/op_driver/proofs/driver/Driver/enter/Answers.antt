use Rattle.std.proofs.Common.{rules, sym, ap, subst, ◌<◌, ◌≤◌, length, arith}
use Rattle.op_serving.specs.Losses.{most_marks, size, Stays}
use Rattle.op_serving.specs.State.{Loop}
use Rattle.op_serving.specs.Counts.{most_inputs}
use Rattle.op_driver.specs.Driver.{Served}
use Rattle.op_driver.proofs.Together.{entered, entered_full}
use Rattle.op_queues.proofs.Settling.{stays_then}
use Rattle.op_driver.proofs.Counting.{most_counting, size_counting, stays_counting}
use Rattle.op_driver.proofs.driver.Driver.enter.Goals as goal

pub returns-then-is_full-clause-does : goal.returns-then-is_full-clause-does
returns-then-is_full-clause-does g c =
    let full : most_marks ≤ length c.self.inside.sessions.lost = search rules in
    entered_full c.args.who.now c.args.input c.args.self.now (subst (λ (d : Served _). most_marks ≤ length d.loop.lost) c.self.view_is full)

pub returns-clause-does : goal.returns-clause-does
returns-clause-does g c =
    let s = c.self.inside.sessions in
    let few : length s.lost < most_marks = search rules in
    rw (← c.self.view_is) (entered c.args.who.now c.step-result.ensures.steps few c.count.ensures.short c.asked_by-wanted.ensures.is c.count.ensures.counted c.answer.ensures)

pub returns-clause-most : goal.returns-clause-most
returns-clause-most g c = rw (← c.self.view_is) (omega (arith, c.answer.ensures.most, ap most_inputs c.count.ensures.counted, most_counting c.step-result.result c.self.inside.sessions))

pub returns-clause-stays : goal.returns-clause-stays
returns-clause-stays g c =
    let s = c.self.inside.sessions in
    rw (← c.self.view_is) (stays_then (subst (λ (x : Loop). Stays s x) (sym c.count.ensures.counted) (stays_counting c.step-result.result s)) c.answer.ensures.stays)

pub returns-clause-ends : goal.returns-clause-ends
returns-clause-ends g c = rw (← c.self.view_is) (omega (arith, c.answer.ensures.ends, ap size c.count.ensures.counted, size_counting c.step-result.result c.self.inside.sessions))
