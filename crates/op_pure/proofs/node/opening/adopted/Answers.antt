use Rattle.std.proofs.Common.{sym, ap, subst, ◌∙◌}
use Rattle.op_types.specs.Changes.{Applies, durable_after}
use Rattle.op_types.specs.Rooms.{HasRoomFor, no_needs, with_room}
use Rattle.op_types.specs.declared.durable.Durable.{Durable}
use Rattle.op_types.proofs.Adoption.{room_serves}
use Rattle.op_pure.proofs.node.opening.adopted.Goals as goal

pub adopt-requires-clause-applies : goal.adopt-requires-clause-applies
adopt-requires-clause-applies c =
    let serves = room_serves c.args.durable c.args.batch c.requires.applies c.in-Ok.ensures.plain c.requires.rest in
    subst (λ (d : Durable). Applies d c.args.batch) (sym c.in-Ok.ensures.ok) serves.applies

pub adopt-requires-clause-room : goal.adopt-requires-clause-room
adopt-requires-clause-room c =
    let serves = room_serves c.args.durable c.args.batch c.requires.applies c.in-Ok.ensures.plain c.requires.rest in
    subst (λ (d : Durable). HasRoomFor c.args.batch d) (sym c.in-Ok.ensures.ok) serves.room

pub returns : goal.returns
returns c =
    let serves = room_serves c.args.durable c.args.batch c.requires.applies c.in-Ok.ensures.plain c.requires.rest in
    c.adopt.ensures ∙ ap (λ (d : Durable). with_room no_needs (durable_after d c.args.batch)) c.in-Ok.ensures.ok ∙ serves.same
