use Rattle.std.proofs.Common.{List, sym, ap, ◌∙◌, subst}
use Rattle.op_types.specs.Changes.{Applies}
use Rattle.op_types.specs.Rooms.{HasRoomFor}
use Rattle.op_types.specs.declared.changes.Change.{Change}
use Rattle.op_types.specs.declared.plan.Plan.{Plan}
use Rattle.op_types.specs.declared.turn.Turn.{Turn}
use Rattle.op_spec.specs.Service.{Service}
use Rattle.op_watch.specs.Basing.{HasRoomToStage}
use Rattle.op_observer.specs.Plans.{service_anew}
use Rattle.op_observer.specs.declared.observer.Observer.{Observer}
use Rattle.op_observer.proofs.Adopted.{adopted_parts}
use Rattle.op_observer.proofs.observer.Observer.adopt.Goals as goal

pub adopt-requires-clause-applies : goal.adopt-requires-clause-applies
adopt-requires-clause-applies c =
    let is = c.into_parts-batch.ensures.batch ∙ ap (λ (p : Plan). p.batch) c.into_parts-plan.ensures.plan in
    subst (λ (batch : List Change). Applies c.args.self.now.durable batch) (sym is) c.requires.1.applies

pub adopt-requires-clause-room : goal.adopt-requires-clause-room
adopt-requires-clause-room c =
    let is = c.into_parts-batch.ensures.batch ∙ ap (λ (p : Plan). p.batch) c.into_parts-plan.ensures.plan in
    subst (λ (batch : List Change). HasRoomFor batch c.args.self.now.durable) (sym is) c.requires.1.log

pub adopt-requires-3 : goal.adopt-requires-3
adopt-requires-3 c =
    let is = c.into_parts-batch.ensures.turn ∙ ap (λ (p : Plan). p.turn) c.into_parts-plan.ensures.plan in
    subst (λ (t : Turn). HasRoomToStage t c.args.self.now.stage) (sym is) c.requires.1.stage

pub returns : goal.returns
returns c x before =
    let taken = c.into_parts-plan.result in
    let rest = c.renew.ensures.rest in
    adopted_parts c.args.self.now x c.args.plan before taken.0 taken.1 taken.2 c.into_parts-batch.result
    c.renew.new.self
    c.giving.result c.into_parts-plan.ensures.plan c.into_parts-plan.ensures.change
    c.into_parts-plan.ensures.service
    c.into_parts-batch.ensures.batch c.into_parts-batch.ensures.turn c.into_parts-batch.ensures.sends
    c.into_parts-batch.ensures.outcome (ap (λ (n : Observer). n.me) rest)
    (ap (λ (n : Observer). n.durable) rest ∙ c.adopt.ensures)
    (c.renew.ensures.service ∙ ap (λ (s : Service). service_anew taken.2 s) c.adopt-2.ensures)
    (ap (λ (n : Observer). n.stage) rest ∙ c.adopt-3.ensures) c.giving.ensures
