use Rattle.std.proofs.Common.{ℕ, List, length, get_or, subst, sym, ap, ◌∙◌, arith}
use Rattle.op_types.specs.Ranges.{EntryInRange}
use Rattle.op_types.specs.declared.log.Entry.{Entry}
use Rattle.op_record.proofs.InRange.{held_each}
use Rattle.op_record.proofs.joining.put_held.Goals as goal

pub put_held_entry-requires : goal.put_held_entry-requires
put_held_entry-requires c =
    let items : List (ℕ × Entry) = c.args.j.now.held.items in
    let x : ℕ × Entry = c.x-item.result in
    let same = c.as_slice-x-items.ensures.items in
    let here = c.x-item.is ∙ ap (λ (xs : List (ℕ × Entry)). get_or xs c.held.x-index x) same in
    subst (λ (y : ℕ × Entry). EntryInRange y.1) (sym here)
    (held_each c.args.j.now.len 0 items c.requires.held c.held.x-index x (omega (arith, ap length same, c.held-test.true)))
