use Rattle.std.proofs.Common.{◌≡◌, ◌-◌, ◌+◌, ◌<◌, ◌++◌, ◌∷◌, ℕ, List, drop, subst, sym, ap, ◌∙◌, arith}
use Rattle.std.proofs.lemmas.List.{drop_more, drop_all}
use Rattle.op_types.specs.declared.log.Entry.{Entry}
use Rattle.op_types.specs.Rises.{Rises}
use Rattle.op_types.specs.Joinings.{held_run}
use Rattle.op_segments.specs.Walks.{first_missing, taken}
use Rattle.op_segments.proofs.Walking.{with_front, run_walk, missing_walk, run_lacks, missing_ends}
use Rattle.op_segments.proofs.covering.run_of.Goals as goal

pub loop-item-preserved : goal.loop-item-preserved
loop-item-preserved c =
    let xs : List (ℕ × Entry) = c.args.items.now in
    let i : ℕ = c.loop-item.item-index in
    let x : ℕ × Entry = c.item-item.result in
    let rest : List (ℕ × Entry) = drop (i + 1) xs in
    let split : drop i xs ≡ x ∷ rest = drop_more xs i x c.loop-item-test.true ∙ ap (λ (y : ℕ × Entry). y ∷ rest) (sym c.item-item.is) in
    let rises : Rises (x ∷ rest) = subst (λ (l : List (ℕ × Entry)). Rises l) split c.loop-item.invariant.rises in
    let to : ℕ = c.args.to in
    let before : List Entry = c.loop-item.entries in
    let one : List Entry = taken c.loop-item.next to x in
    record {
      rises = rises.1;
      run =
          ap (λ (l : List Entry). with_front l (held_run rest c.in_ok-next.next (to - c.in_ok-next.next))) c.in_ok-next.ensures.entries
          ∙ ap (λ (n : ℕ). with_front (before ++ one) (held_run rest n (to - n))) c.in_ok-next.ensures.next ∙ run_walk before x rest c.loop-item.next to rises
          ∙ sym (ap (λ (l : List (ℕ × Entry)). with_front before (held_run l c.loop-item.next (to - c.loop-item.next))) split) ∙ c.loop-item.invariant.run;
      missing =
          ap (λ (n : ℕ). first_missing rest n (to - n)) c.in_ok-next.ensures.next ∙ missing_walk x rest c.loop-item.next to rises
          ∙ sym (ap (λ (l : List (ℕ × Entry)). first_missing l c.loop-item.next (to - c.loop-item.next)) split) ∙ c.loop-item.invariant.missing;
    }

pub returns-then-next-to-clause-missing : goal.returns-then-next-to-clause-missing
returns-then-next-to-clause-missing c =
    let none = drop_all c.loop-item.item-index c.args.items.now c.loop-item-test.false in
    let next : ℕ = c.loop-item.next in
    let to : ℕ = c.args.to in
    let lt : next < to = omega (arith, c.if-next-to.true) in (
      sym c.loop-item.invariant.run ∙ ap (λ (l : List (ℕ × Entry)). with_front c.loop-item.entries (held_run l next (to - next))) none ∙ run_lacks c.loop-item.entries next to lt,
      sym (missing_ends next to lt) ∙ sym (ap (λ (l : List (ℕ × Entry)). first_missing l next (to - next)) none) ∙ c.loop-item.invariant.missing,
    )
