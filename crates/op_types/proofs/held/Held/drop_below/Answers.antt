use Rattle.std.proofs.Common.{ℕ, List, filter, subst, sym, ap, ◌∙◌, rules, tests, leb, arith}
use Rattle.std.proofs.lemmas.Fn.{filter_same}
use Rattle.op_types.specs.Rises.{Rises}
use Rattle.op_types.specs.Roomed.{Roomed}
use Rattle.op_types.specs.declared.log.Entry.{Entry}
use Rattle.op_types.proofs.HeldLists.{rises-filter}
use Rattle.op_types.proofs.held.Held.drop_below.Goals as goal

pub invariant_of-self : goal.invariant_of-self
invariant_of-self c =
    let kept = filter_same _ (λ (x : ℕ × Entry). leb c.args.place x.0) _ (λ x b q r. search (rules, tests)) _ _ c.retain.ensures.filtered in (
      subst Rises (sym kept) (rises-filter (λ x. leb c.args.place x.0) c.self.inside.items.items c.self.invariant.0),
      c.self.invariant.1,
      omega (arith, c.self.invariant.2, c.retain.ensures.bound, c.retain.ensures.capacity),
      omega (arith, c.self.invariant.3, c.retain.ensures.bound),
    )

pub returns : goal.returns
returns c =
    let kept = filter_same _ (λ (x : ℕ × Entry). leb c.args.place x.0) _ (λ x b q r. search (rules, tests)) _ _ c.retain.ensures.filtered in
    let room : ℕ = c.self.inside.room in
    ap (λ (l : List (ℕ × Entry)). let h : Roomed (ℕ × Entry) = record { items = l; room = room } in h) kept
    ∙ ap (λ (h : Roomed (ℕ × Entry)). let k : Roomed (ℕ × Entry) = record h { items = filter (λ x. leb c.args.place x.0) h.items } in k) c.self.view_is
