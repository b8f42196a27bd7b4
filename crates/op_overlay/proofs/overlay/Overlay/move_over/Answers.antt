use Rattle.std.proofs.Common.{◌≡◌, [], sym, ap, ◌∙◌}
use Rattle.std.specs.Prelude.{Some}
use Rattle.op_overlay.specs.Entries.{entries_over}
use Rattle.op_overlay.specs.Overlays.{with_last}
use Rattle.op_overlay.proofs.Entries.{over-moved, rises-insert_entry}
use Rattle.op_overlay.proofs.Overlays.{rises-with_last, moved-with_last}
use Rattle.op_overlay.proofs.overlay.Overlay.move_over.Goals as goal

pub returns-in_err-append-clause-same : goal.returns-in_err-append-clause-same
returns-in_err-append-clause-same g c =
    let o = g.met.K.Ord.total in
    let m = c.args.below.now in
    let s = c.self.inside in
    let n = c.append.new.self in
    let rest = c.append.new.other in
    moved-with_last o c.requires.exact m.entries n.entries s.earlier.entries rest.entries s.last c.requires.order c.append.ensures.ordered c.append.ensures.other_was_ordered c.append.ensures.other_ordered
    (over-moved o c.requires.exact m s.earlier n rest c.requires.order c.append.ensures.moves)
    ∙ ap (entries_over g.K.Ord.cmp m.entries) c.self.view_is

pub returns-in_err-append-clause-order : goal.returns-in_err-append-clause-order
returns-in_err-append-clause-order g c = rises-with_last g.met.K.Ord.total c.append.new.other.entries c.self.inside.last c.append.ensures.other_ordered

pub returns-clause-same : goal.returns-clause-same
returns-clause-same g c =
    let o = g.met.K.Ord.total in
    let R = g.K.Ord.cmp in
    let m = c.args.below.now in
    let s = c.self.inside in
    let n = c.append.new.self in
    let rest = c.append.new.other in
    ap (λ last. entries_over R n.entries (with_last R rest.entries last)) (c.take.ensures.after ∙ sym c.in-None.is ∙ c.take.ensures.value)
    ∙ moved-with_last o c.requires.exact m.entries n.entries s.earlier.entries rest.entries s.last c.requires.order c.append.ensures.ordered c.append.ensures.other_was_ordered c.append.ensures.other_ordered
    (over-moved o c.requires.exact m s.earlier n rest c.requires.order c.append.ensures.moves)
    ∙ ap (entries_over R m.entries) c.self.view_is

pub returns-in-Ok-clause-same : goal.returns-in-Ok-clause-same
returns-in-Ok-clause-same g c =
    let o = g.met.K.Ord.total in
    let R = g.K.Ord.cmp in
    let m = c.args.below.now in
    let s = c.self.inside in
    let n = c.append.new.self in
    let rest = c.append.new.other in
    let none : rest.entries ≡ [] = c.in_ok-append.ensures.ok in
    (λ i. entries_over R (c.in-Ok.ensures.entries i) (with_last R (none i) (c.take.ensures.after i)))
    ∙ (λ i. entries_over R n.entries (with_last R (sym none i) (sym c.in-Some.is i)))
    ∙ ap (λ last. entries_over R n.entries (with_last R rest.entries last)) c.take.ensures.value
    ∙ moved-with_last o c.requires.exact m.entries n.entries s.earlier.entries rest.entries s.last c.requires.order c.append.ensures.ordered c.append.ensures.other_was_ordered c.append.ensures.other_ordered
    (over-moved o c.requires.exact m s.earlier n rest c.requires.order c.append.ensures.moves)
    ∙ ap (entries_over R m.entries) c.self.view_is

pub returns-in-Some-clause-same : goal.returns-in-Some-clause-same
returns-in-Some-clause-same g c =
    let o = g.met.K.Ord.total in
    let R = g.K.Ord.cmp in
    let m = c.args.below.now in
    let s = c.self.inside in
    let n = c.append.new.self in
    let rest = c.append.new.other in
    (λ i. entries_over R (c.in-Err.ensures.err i) (with_last R rest.entries (Some (c.in-Err.ensures.value_returned i))))
    ∙ ap (λ last. entries_over R n.entries (with_last R rest.entries last)) (sym c.in-Some.is ∙ c.take.ensures.value)
    ∙ moved-with_last o c.requires.exact m.entries n.entries s.earlier.entries rest.entries s.last c.requires.order c.append.ensures.ordered c.append.ensures.other_was_ordered c.append.ensures.other_ordered
    (over-moved o c.requires.exact m s.earlier n rest c.requires.order c.append.ensures.moves)
    ∙ ap (entries_over R m.entries) c.self.view_is

pub returns-in-Some-clause-order : goal.returns-in-Some-clause-order
returns-in-Some-clause-order g c = rises-insert_entry g.met.K.Ord.total c.append.new.other.entries c.in-Err.failed.value.0 c.in-Err.failed.value.1 c.append.ensures.other_ordered
