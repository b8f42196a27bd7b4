use Rattle.std.proofs.Common.{◌≡◌, ℕ, List, [], ◌∷◌, ◌++◌, Some, ap, sym, ◌∙◌, is_some}
use Rattle.op_types.specs.Roomed.{Roomed}
use Rattle.op_types.specs.Joinings.{Held, held_with}
use Rattle.op_types.specs.RoleStates.{promised_entries, told_by}
use Rattle.op_types.specs.declared.log.Entry.{Entry}
use Rattle.op_types.specs.declared.role.Stage.{Stage}
use Rattle.op_types.specs.declared.role.Promised.{Promised}
use Rattle.op_types.proofs.Staged.{IsStaged, part_staged, part_kept, some_of}
use Rattle.op_types.proofs.role.Preparing.keep_part.Goals as goal

pub returns-then-not-covers : goal.returns-then-not-covers
returns-then-not-covers c =
    let r = c.args.self.now in
    let part = c.args.part in
    let held = c.fill.new.self in
    let is : IsStaged r c.args.from part c.args.fresh held =
    ap (λ (h : Roomed (ℕ × Entry)). h.items) c.fill.ensures ∙ ap (λ (h : Roomed (ℕ × Entry)). held_with h.items part.at part.run) c.take_stage-held.ensures.held in
    let s : Stage = record { from = c.args.from; held = held } in
    part_staged r c.args.from part c.args.fresh held c.add.new.self c.requires.empty is
    (ap (λ (x : Roomed Stage). x.items) c.add.ensures ∙ ap (λ (l : List Stage). l ++ s ∷ []) c.take_stage-held.ensures.items)
    (ap (λ (h : Held). is_some (promised_entries part h)) (sym c.as_slice.ensures.items) ∙ sym c.covers.ensures ∙ c.if-not-covers.true)

pub returns : goal.returns
returns c =
    let r = c.args.self.now in
    let part = c.args.part in
    let held = c.fill.new.self in
    let is : IsStaged r c.args.from part c.args.fresh held =
    ap (λ (h : Roomed (ℕ × Entry)). h.items) c.fill.ensures ∙ ap (λ (h : Roomed (ℕ × Entry)). held_with h.items part.at part.run) c.take_stage-held.ensures.held in
    let out : List Entry = c.into_entries.result in
    let whole : promised_entries part held.items ≡ Some out =
    some_of (promised_entries part held.items) out
    (ap (λ (h : Held). is_some (promised_entries part h)) (sym c.as_slice.ensures.items) ∙ sym c.covers.ensures ∙ c.if-not-covers.false)
    c.into_entries.ensures in
    part_kept r c.args.from part c.args.fresh held c.take_stage-held.new.stages c.add-2.new.self out c.requires.empty is c.take_stage-held.ensures.items
    (ap (λ (x : Roomed Promised). x.items) c.add-2.ensures ∙ ap (λ (l : List Promised). l ++ told_by c.args.from part out ∷ []) c.remove_promise.ensures.items) whole
