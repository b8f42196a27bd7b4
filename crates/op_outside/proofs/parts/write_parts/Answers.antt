use Rattle.std.proofs.Common.{◌≡◌, ℕ, ◌+◌, ◌<◌, List, [], ◌++◌, length, map, take, drop, get_or, sym, ap, ◌∙◌}
use Rattle.std.proofs.lemmas.List.{take_more, map-append, append-nil, take-append-drop}
use Rattle.std.proofs.lemmas.List.Folds.{concat-append}
use Rattle.std.specs.List.{concat}
use Rattle.op_outside.proofs.Pieces.{Appends-more, prefix_after, prefix_of_more}
use Rattle.op_outside.proofs.parts.write_parts.Goals as goal

-- the bytes of one part more
module _ {A : Type 0} (f : A → List ℕ) (xs : List A) (i : ℕ) (d : A) (within : i < length xs) where
  so_far : concat (map f (take (i + 1) xs)) ≡ concat (map f (take i xs)) ++ f (get_or xs i d)
  so_far = rw (take_more xs i d within, map-append, concat-append, append-nil)

  whole : (concat (map f (take i xs)) ++ f (get_or xs i d)) ++ concat (map f (drop (i + 1) xs)) ≡ concat (map f xs)
  whole =
      ap (λ (t : List ℕ). t ++ concat (map f (drop (i + 1) xs))) (sym so_far)
      ∙ sym (concat-append (map f (take (i + 1) xs)) (map f (drop (i + 1) xs)))
      ∙ ap concat (sym (map-append f (take (i + 1) xs) (drop (i + 1) xs)))
      ∙ ap (λ (ys : List A). concat (map f ys)) (take-append-drop (i + 1) xs)

pub returns-in_err-write_all-clause-prefix : goal.returns-in_err-write_all-clause-prefix
returns-in_err-write_all-clause-prefix g c =
    rw (← whole (λ part. part.now) c.args.parts.now c.loop-part.part-index (record { ref_ptr = (0, 0); now = [] }) c.loop-part-test.true)
    (prefix_of_more _ _ _ _ (prefix_after _ _ _ _ _ c.loop-part.invariant.so_far c.write_all.ensures.prefix))

pub loop-part-preserved : goal.loop-part-preserved
loop-part-preserved g c = record {
  so_far =
      rw (so_far (λ part. part.now) c.args.parts.now c.loop-part.part-index (record { ref_ptr = (0, 0); now = [] }) c.loop-part-test.true)
      (Appends-more _ _ _ _ _ c.loop-part.invariant.so_far c.in_ok-write_all.ensures.all);
  same = c.in_ok-write_all.ensures.cause.ok ∙ c.loop-part.invariant.same;
}
