use Rattle.std.proofs.Common.{List, refl, ap, subst}
use Rattle.op_types.specs.Changes.{Applies}
use Rattle.op_types.specs.declared.changes.Change.{Change}
use Rattle.op_types.specs.declared.durable.Durable.{Durable}
use Rattle.op_protocol.specs.State.{State}
use Rattle.op_server.specs.Seats.{state_of, batch_of}
use Rattle.op_node.proofs.NodeSteps.{adopts, batch_same, range_after}
use Rattle.op_node.proofs.node.Node.take.Goals as goal

pub returns-clause-taken : goal.returns-clause-taken
returns-clause-taken g c =
    let n = c.args.self.now in
    let mid = c.plan.new.self in
    let x = c.args.input in
    let plans = c.in_ok-plan.ensures.plans in
    let plan = c.in_ok-plan.plan in
    let did = adopts n.seat mid c.adopt.new.self n.failed x c.adopt.result c.requires.runs c.plan.ensures.same (c.adopt.ensures x plans) in
    let here = subst (λ (d : Durable). Applies d (batch_of plan)) (ap (λ (s : State). s.durable) c.plan.ensures.same.state) plans.applies in
    record {
      given = did.0;
      node = did.1;
      applies = subst (λ (b : List Change). Applies (state_of n.seat).durable b) (batch_same n.seat mid n.failed x plan c.requires.runs c.plan.ensures.same plans) here;
      store = refl;
    }

pub returns-clause-sound : goal.returns-clause-sound
returns-clause-sound g c =
    let n = c.args.self.now in
    let plans = c.in_ok-plan.ensures.plans in
    let adopted = c.adopt.ensures c.args.input plans in
    record {
      seat = adopted.sound;
      range = range_after n.seat c.plan.new.self c.adopt.new.self c.args.input c.in_ok-plan.plan c.adopt.result c.plan.ensures.same plans adopted c.requires.admits.sound.range;
      store = λ _. c.requires.admits.sound.store c.requires.runs;
    }
