use Rattle.std.proofs.Common.{◌∷◌, List, subst, ◌∙◌}
use Rattle.op_types.specs.declared.events.Input.{Input}
use Rattle.op_core.proofs.Came.{SoFar, so_far_more, so_far_ends}
use Rattle.op_core.proofs.node_core.NodeCoreCore.step_all.Goals as goal

pub returns-then-not-go_on-clause-steps : goal.returns-then-not-go_on-clause-steps
returns-then-not-go_on-clause-steps g c =
    let state = g.D.Disk.state in
    let so_far = subst (λ (ys : List Input). SoFar state c.args.self.now c.args.inputs.now.items ys c.groups.results.items c.groups.self) c.in-Some.ensures.items c.groups.invariant.came in
    so_far_ends state c.args.self.now c.groups.self c.go_on.new.core c.args.inputs.now.items (c.in-Some.first ∷ c.pop_front.new.self.items) c.go_on.new.inputs.items c.groups.results.items c.go_on.new.results.items so_far c.if-not-go_on.ensures.goes

pub groups-preserved : goal.groups-preserved
groups-preserved g c =
    let state = g.D.Disk.state in
    let so_far = subst (λ (ys : List Input). SoFar state c.args.self.now c.args.inputs.now.items ys c.groups.results.items c.groups.self) c.in-Some.ensures.items c.groups.invariant.came in
    record {
      came = so_far_more state c.args.self.now c.groups.self c.go_on.new.core c.args.inputs.now.items (c.in-Some.first ∷ c.pop_front.new.self.items) c.go_on.new.inputs.items c.groups.results.items c.go_on.new.results.items so_far c.if-not-go_on.ensures.goes;
      ready = c.go_on.ensures.ready;
      range = c.go_on.ensures.range;
      given = c.go_on.ensures.given c.groups.invariant.given;
      room = c.go_on.ensures.room;
      capacity = c.go_on.ensures.capacity ∙ c.groups.invariant.capacity;
    }
