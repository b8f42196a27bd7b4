use Rattle.std.proofs.Common.{◌≡◌, ℕ, ◌+◌, List, length, refl, sym, subst, arith}
use Rattle.op_types.specs.Rooms.{no_needs, with_room}
use Rattle.op_types.specs.declared.durable.Durable.{Durable}
use Rattle.op_record.specs.Ranges.{DurableInRange}
use Rattle.op_record.specs.declared.body.Rec.TheVariants.{Whole}
use Rattle.op_record.proofs.Rests.{in_range_rests}
use Rattle.op_journal.specs.Beginnings.{new_area}
use Rattle.op_store.specs.Records.{IsBodyOf}
use Rattle.op_store.specs.declared.fail.StoreFail.TheVariants.{NoMemory}
use Rattle.op_store.proofs.CheckpointCrashes.{settles_begun}
use Rattle.op_store.proofs.OpeningOutcomes.{begins_not_yet, begins_whole}
use Rattle.op_store.proofs.area.begin.Goals as goal

-- the record of a fresh durable state, in which no room is reserved
fresh_body : (d : Durable) (framed : List ℕ) → DurableInRange d → IsBodyOf (Whole (with_room no_needs d)) framed → IsBodyOf (Whole d) framed
fresh_body d framed range is = subst (λ (e : Durable). IsBodyOf (Whole e) framed) (in_range_rests d range) is

pub framed_whole-requires : goal.framed_whole-requires
framed_whole-requires g c = subst DurableInRange (sym (in_range_rests c.args.fresh c.requires)) c.requires

pub returns-in_default-clause-begins : goal.returns-in_default-clause-begins
returns-in_default-clause-begins g c formattable rests = begins_not_yet c.args.fresh (g.D.Disk.state c.args.first.now) NoMemory

pub returns-in-Err-clause-begins : goal.returns-in-Err-clause-begins
returns-in-Err-clause-begins g c formattable rests =
    let state = g.D.Disk.state in
    let formats = c.in-Err.ensures.formats formattable in
    record { settled = tt; written = tt; crash = begins_whole c.args.fresh c.in-Ok.framed (fresh_body c.args.fresh c.in-Ok.framed c.requires c.in-Ok.ensures) (state c.args.first.now) (state c.format.new.disk) _ rests formats }

pub returns-in-Ok-format-clause-begins : goal.returns-in-Ok-format-clause-begins
returns-in-Ok-format-clause-begins g c formattable rests =
    let state = g.D.Disk.state in
    let old = state c.args.first.now in
    let new = state c.format.new.disk in
    let framed = c.in-Ok.framed in
    let is = fresh_body c.args.fresh framed c.requires c.in-Ok.ensures in
    let end = c.in-Ok-format.end in
    let formats = c.in-Ok-format.ensures.formats formattable in
    let next = c.in-Ok-format.ensures.end in
    let place : end ≡ 17 + 9 + length framed = omega (arith, next) in
    record {
      settled = settles_begun c.args.fresh framed is 1 end (end + 1) new (formats.begun rests) place refl;
      written = subst (λ (l : List ℕ). new.content ≡ new_area 1 l) is.1 (formats.written rests.obeys);
      crash = begins_whole c.args.fresh framed is old new _ rests formats;
    }
