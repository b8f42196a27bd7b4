use Rattle.std.proofs.Common.{rules, ◌≡◌, ◌∙◌, ℕ, None, Some, false, length, All, sym, ap, subst, arith}
use Rattle.std.specs.Map.{values_of}
use Rattle.op_serving.specs.State.{Loop, find, is_overfull, counted, shed}
use Rattle.op_queues.specs.Filling.{IsThin, over_of}
use Rattle.op_queues.proofs.Filling.{thin_found}
use Rattle.op_queues.proofs.Shedding.{ended_less, shed_more, shed_still, shed_thin}
use Rattle.op_queues.proofs.sessions.Sessions.shed.Goals as goal

pub overfull-preserved : goal.overfull-preserved
overfull-preserved c =
    let s : Loop = c.overfull.self in
    let over : over_of s ≡ Some c.in-Some.conn = search rules in
    ap shed (c.count_input.ensures.counted ∙ ap counted c.leave.ensures) ∙ sym (shed_more s c.in-Some.conn over) ∙ c.overfull.invariant

pub returns-then-not-self-clause-is : goal.returns-then-not-self-clause-is
returns-then-not-self-clause-is c =
    let thin : c.self.inside.overfull ≡ false = search rules in
    let all : All IsThin (values_of c.self.inside.sessions.entries) = search (rules, thin) in
    let none : (n : ℕ) → is_overfull (find n c.args.self.now.sessions) ≡ false =
    subst (λ (s : Loop). (n : ℕ) → is_overfull (find n s.sessions) ≡ false) c.self.view_is (thin_found c.self.inside.sessions.entries all) in
    sym (shed_thin c.args.self.now none)

pub overfull-smaller : goal.overfull-smaller
overfull-smaller c =
    let s : Loop = c.overfull.self in
    let over : over_of s ≡ Some c.in-Some.conn = search rules in
    let now = ap (λ (x : Loop). length x.sessions) (c.count_input.ensures.counted ∙ ap counted c.leave.ensures) in
    omega (arith, ended_less s c.in-Some.conn over, now)

pub returns-clause-is : goal.returns-clause-is
returns-clause-is c =
    let s : Loop = c.overfull.self in
    let over : over_of s ≡ None = search rules in
    c.self-2.view_is ∙ sym (shed_still s over) ∙ c.overfull.invariant
