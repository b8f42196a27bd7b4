use Rattle.std.proofs.Common.{◌≡◌, true, List, [], sym, ap, ◌∙◌}
use Rattle.op_types.specs.Ballots.{is_below}
use Rattle.op_types.specs.declared.answers.Reply.{Reply}
use Rattle.op_types.specs.declared.changes.Change.{Change}
use Rattle.op_types.specs.declared.election_state.ElectionState.{ElectionState}
use Rattle.op_types.specs.declared.plan.Plan.{Plan}
use Rattle.op_plans.specs.Plans.{plan_after}
use Rattle.op_instance.specs.Memory.{volatile_of, part_step_of}
use Rattle.op_instance.specs.Ticking.{in_round}
use Rattle.op_instance.proofs.Ticks.{stood}
use Rattle.op_instance.proofs.ticking.stand_for.Goals as goal

pub returns-clause-step : goal.returns-clause-step
returns-clause-step c =
    let me = c.args.member.now.me in
    let p = c.args.member.now.part.now in
    let v = c.args.volatile.now in
    let x : Plan = c.in_ok-plan.plan in
    let above : is_below p.promised c.args.ballot ≡ true = sym c.is_below.ensures ∙ c.if-not-is_below.false in
    let is : c.led.result ≡ _ =
    c.led.ensures
    ∙ ap (λ (y : Plan). let z : Plan = record y { turn = in_round c.state-2.result y.turn } in z) c.in_ok-plan-2.ensures
    ∙ ap (λ (b : List Change). let y : Plan = plan_after b c.args.asks c.new-2.result x in let z : Plan = record y { turn = in_round c.state-2.result y.turn } in z) c.new.ensures
    ∙ ap (λ (r : List Reply). let y : Plan = plan_after [] c.args.asks r x in let z : Plan = record y { turn = in_round c.state-2.result y.turn } in z) c.new-2.ensures
    ∙ ap (λ (s : ElectionState). let y : Plan = plan_after [] c.args.asks [] x in let z : Plan = record y { turn = in_round s y.turn } in z) c.state-2.ensures in
    ap (λ (y : Plan). part_step_of y (volatile_of v)) is
    ∙ stood me p v c.args.election c.args.ballot x c.args.asks above c.in_ok-plan.ensures.turn c.in_ok-plan.ensures.row c.requires.asks
