use Rattle.std.proofs.Common.{List, sym, subst}
use Rattle.op_types.specs.Changes.{Applies}
use Rattle.op_types.specs.declared.changes.Change.{Change}
use Rattle.op_observer.proofs.Adopted.{settled_is, batch_applies, room_left, room_kept, planned}
use Rattle.op_observer.proofs.observer.Observer.plan.Goals as goal

pub prepare-requires-clause-sound : goal.prepare-requires-clause-sound
prepare-requires-clause-sound c =
    (settled_is c.args.self.now c.args.input c.leave_room.new.self c.settle.new.self c.requires
    c.leave_room.ensures
    c.settle.ensures.stays).sound

pub room_for-requires : goal.room_for-requires
room_for-requires c =
    subst (λ (batch : List Change). Applies c.leave_room.new.self batch) (sym c.batch.ensures)
    (batch_applies c.args.self.now c.args.input c.leave_room.new.self c.settle.new.self c.requires
    c.leave_room.ensures c.settle.ensures.stays c.in_ok-plan.plan c.in_ok-plan.ensures)

pub returns-in_err-settle-clause-same : goal.returns-in_err-settle-clause-same
returns-in_err-settle-clause-same c =
    settled_is c.args.self.now c.args.input c.leave_room.new.self c.settle.new.self c.requires
    c.leave_room.ensures
    c.settle.ensures.stays

pub returns-in_err-plan-clause-same : goal.returns-in_err-plan-clause-same
returns-in_err-plan-clause-same c =
    settled_is c.args.self.now c.args.input c.leave_room.new.self c.settle.new.self c.requires
    c.leave_room.ensures
    c.settle.ensures.stays

pub returns-in_err-room_for-clause-same : goal.returns-in_err-room_for-clause-same
returns-in_err-room_for-clause-same c =
    room_left c.args.self.now c.args.input c.leave_room.new.self c.settle.new.self c.requires
    c.leave_room.ensures
    c.settle.ensures.stays _ c.in_err-room_for.ensures.err

pub returns-clause-same : goal.returns-clause-same
returns-clause-same c =
    room_kept c.args.self.now c.args.input c.leave_room.new.self c.settle.new.self c.requires
    c.leave_room.ensures
    c.settle.ensures.stays c.in_ok-plan.plan c.batch.result.now c.batch.ensures _ c.in_ok-room_for.ensures.ok

pub returns-clause-plans : goal.returns-clause-plans
returns-clause-plans c =
    planned c.args.self.now c.args.input c.leave_room.new.self c.settle.new.self c.requires
    c.leave_room.ensures
    c.settle.ensures.stays c.in_ok-plan.plan c.batch.result.now c.batch.ensures _ c.in_ok-room_for.ensures.ok
    c.in_ok-settle.ensures.ready c.in_ok-plan.ensures c.in_ok-room_for.ensures.plain
