-- A durable state in range has no room reserved.
use Rattle.std.proofs.Common.{◌≡◌, ℕ, Option, Some, None, refl, sym, ap, ◌∙◌}
use Rattle.std.specs.Prelude.{IfSome}
use Rattle.op_types.specs.declared.durable.Part.{Part}
use Rattle.op_types.specs.declared.durable.Joining.{Joining}
use Rattle.op_types.specs.declared.durable.Durable.{Durable}
use Rattle.op_types.specs.Rooms.{no_needs, part_with_room, part_option_with_room, joining_with_room, joining_option_with_room, with_room}
use Rattle.op_record.specs.Ranges.{PartInRange, JoiningInRange, DurableInRange}

part_rests : (o : Option Part) → IfSome o PartInRange → part_option_with_room 0 o ≡ o
part_rests None k = refl
part_rests (Some p) k = ap (λ (n : ℕ). Some (part_with_room n p)) (sym k.room)

joining_rests : (o : Option Joining) → IfSome o JoiningInRange → joining_option_with_room 0 o ≡ o
joining_rests None k = refl
joining_rests (Some j) k = ap (λ (n : ℕ). Some (joining_with_room n j)) (sym k.room)

pub in_range_rests : (d : Durable) → DurableInRange d → with_room no_needs d ≡ d
in_range_rests d k =
    ap (λ (o : Option Part). let e : Durable = record d { part = o; joining = joining_option_with_room 0 d.joining } in e) (part_rests d.part k.part)
    ∙ ap (λ (o : Option Joining). let e : Durable = record d { joining = o } in e) (joining_rests d.joining k.joining)
