use Rattle.std.proofs.Common.{◌≡◌, ◌<◌, ◌==◌, Bool, length, None, if◌then◌else◌, subst, ap, ◌∙◌, rules, arith}
use Rattle.op_serving.specs.Ranges.{InputInRange}
use Rattle.op_driver.specs.Answering.{counting_all}
use Rattle.op_driver.proofs.Taking.{InCount}
use Rattle.op_driver.proofs.Grouping.{DealsWith, deals_from, deals_fewer, deals_most, deals_stays, all_left}
use Rattle.op_driver.proofs.Telling.{range_if}
use Rattle.op_driver.proofs.ungiven.Ungiven.give.Given as given
use Rattle.op_driver.proofs.ungiven.Ungiven.give.Goals as goal

-- what the call did
dealt : (g : given.Over) (c : goal.After-answer_all g) → DealsWith g.K.Core.standing g.K.Core.stores (record { inputs = c.self.inside.inputs.items; wanted = c.self.inside.wanted }) (record { inputs = c.step_all.new.inputs.items; wanted = c.take_if-wanted.new.wanted }) c.step_all.new.results.items c.take_if-wanted.result c.args.sessions.now c.count_all.new.sessions c.answer_all.new.sessions c.args.core.now c.step_all.new.self
dealt g c =
    let s = c.args.sessions.now in
    let empty : c.is_empty.result ≡ (length c.step_all.new.inputs.items == 0) = search rules in
    record {
      steps = c.step_all.ensures.steps;
      some = (let h : 0 < length c.self.inside.inputs.items = search rules in h);
      few = c.requires.few;
      short = subst (λ rs. 0 < length rs → InCount s) c.as_slice.ensures.value c.count_all.ensures.short;
      counted = subst (λ rs. c.count_all.new.sessions ≡ counting_all rs s) c.as_slice.ensures.value c.count_all.ensures.counted;
      now_is = c.take_if-wanted.ensures.taken ∙ ap (λ (b : Bool). if b then c.self.inside.wanted else None) empty;
      later = c.take_if-wanted.ensures.left ∙ ap (λ (b : Bool). if b then None else c.self.inside.wanted) empty;
      out = c.answer_all.ensures.does;
    }

pub returns-clause-gives : goal.returns-clause-gives
returns-clause-gives g c = rw (← c.self.view_is) (deals_from (dealt g c))

pub returns-clause-stays : goal.returns-clause-stays
returns-clause-stays g c = deals_stays (dealt g c)

pub returns-clause-fewer : goal.returns-clause-fewer
returns-clause-fewer g c = rw (← c.self.view_is) (deals_fewer (dealt g c))

pub returns-clause-most : goal.returns-clause-most
returns-clause-most g c = rw (← c.self.view_is) (deals_most (dealt g c))

pub invariant_of-self : goal.invariant_of-self
invariant_of-self g c =
    let i = c.self.invariant in
    let fewer : length c.step_all.new.inputs.items < length c.self.inside.inputs.items = deals_fewer (dealt g c) in (
      c.answer_all.ensures.none,
      omega (arith, fewer, i.1, c.step_all.ensures.kept, c.answer_all.ensures.room),
      all_left InputInRange c.self.inside.inputs.items c.step_all.new.inputs.items c.step_all.ensures.steps.came c.step_all.ensures.steps.split i.2,
      range_if c.is_empty.result c.self.inside.wanted c.take_if-wanted.ensures.left i.3,
    )
