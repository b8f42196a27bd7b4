use Rattle.std.proofs.Common.{Option, Some, sym, ap, ◌∙◌, subst}
use Rattle.op_types.specs.Stages.{Pieces}
use Rattle.op_types.specs.declared.durable.Joining.{Joining}
use Rattle.op_types.specs.declared.plan.Plan.{Plan}
use Rattle.op_protocol.specs.Joining.{on_base_piece}
use Rattle.op_protocol.specs.State as step
use Rattle.op_segments.specs.Staging.{StagesAs, HasRoomToPiece}
use Rattle.op_instance.specs.Memory.{part_step_of}
use Rattle.op_instance.proofs.Lifts.{piece_step}
use Rattle.op_instance.proofs.stored.Stored.stage_piece.Goals as goal

pub returns-clause-step : goal.returns-clause-step
returns-clause-step c = λ v same.
    let t = c.in_ok-turn.turn in
    let f = λ (w : step.Volatile). on_base_piece (Some c.in-Some.joining) w c.args.conf c.args.piece in
    ap (λ (x : Plan). part_step_of x v) c.set_turn.ensures
    ∙ ap (λ (x : Plan). let y : Plan = record x { turn = t } in part_step_of y v) c.nothing-plan.ensures
    ∙ piece_step t v f (subst (λ (o : Option Pieces). HasRoomToPiece t o) (sym same) c.in_ok-turn.ensures.room) (subst (λ (o : Option Pieces). StagesAs o t f) (sym same) c.in_ok-turn.ensures.step)
    ∙ ap (λ (j : Option Joining). on_base_piece j v c.args.conf c.args.piece) (sym c.in-Some.is)
