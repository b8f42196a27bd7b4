use Rattle.std.proofs.Common.{List, option_map, refl, ap, ◌∙◌}
use Rattle.op_types.specs.Stops.{stop_at_end}
use Rattle.op_types.specs.declared.log.Entry.{Entry}
use Rattle.op_world.proofs.Listing.{lists_next}
use Rattle.op_world.proofs.ledger.listed_of.Goals as goal

pub loop-before-preserved : goal.loop-before-preserved
loop-before-preserved c =
    let old = c.loop-before in
    lists_next c.args.lists.items old.lists.items c.take_out-entries.new.lists.items c.args.members c.in-Some.members c.args.count old.before old.next c.next_members-next.result old.listed c.push.new.self _ c.take_out-entries.result
    old.invariant c.loop-before-test.true c.in-Some.is c.take_out-entries.ensures.list c.take_out-entries.ensures.others
    (c.next_members-next.ensures ∙ ap (λ (es : List Entry). option_map (λ s. s.members) (stop_at_end es)) c.as_slice.ensures) refl c.in_ok-push.ensures.ok
