use Rattle.std.proofs.Common.{List, IfSome, length, ◌≡◌, subst}
use Rattle.op_types.specs.declared.log.Entry.{Entry}
use Rattle.op_world.specs.Ledgers.{list_at}
use Rattle.op_world.proofs.Listing.{shown_if}
use Rattle.op_world.proofs.ledger.show.Goals as goal

pub returns : goal.returns
returns c =
    let d = c.args.durable.now in
    shown_if c.show_closed.result d c.args.lists.now.items c.show_part.new.lists.items c.show_closed.new.lists.items c.part_len-part_len.result c.closed_len-closed_len.result
    (subst (λ (ls : List (List Entry)). IfSome d.part (λ p. c.part_len-part_len.result ≡ length (list_at ls p.conf))) c.deref.ensures.value c.part_len-part_len.ensures)
    (subst (λ (ls : List (List Entry)). IfSome d.closed (λ l. c.closed_len-closed_len.result ≡ length (list_at ls l.conf))) c.deref-2.ensures.value c.closed_len-closed_len.ensures)
    c.in_ok-show_part.ensures c.show_closed.ensures
