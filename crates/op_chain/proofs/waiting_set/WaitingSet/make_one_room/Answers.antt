use Rattle.std.proofs.Common.{◌≡◌, ℕ, Bool, true, false, not, List, [], ◌∷◌, ◌++◌, refl, sym, ap, ◌∙◌}
use Rattle.std.proofs.lemmas.Bool.{both_ways}
use Rattle.std.specs.BTreeSet.{insert_key}
use Rattle.op_protocol.specs.State.{Waiting}
use Rattle.op_protocol.specs.Serving.{waiting_cmp}
use Rattle.op_chain.specs.Waiting as set
use Rattle.op_chain.specs.Waiting.{without_coming}
use Rattle.op_chain.proofs.Coming.{without_new}
use Rattle.op_chain.proofs.waiting_set.WaitingSet.make_one_room.Goals as goal

not_true : (b : Bool) → true ≡ not b → b ≡ false
not_true true e = absurd (both_ways false refl (sym e))
not_true false e = refl

pub returns-then-branch-clause-same : goal.returns-then-branch-clause-same
returns-then-branch-clause-same c =
    let w : ℕ × ℕ = c.args.waiter in
    let keys : Waiting = c.self.inside.pairs.keys in
    let coming : List (ℕ × ℕ) = c.self.inside.coming.items in
    let items : c.push_reserved.new.self.items ≡ coming ++ w ∷ [] = c.push_reserved.ensures.items ∙ ap (λ (xs : List (ℕ × ℕ)). xs ++ w ∷ []) c.in_ok-reserve.ensures.items in
    ap (λ (ks : Waiting). without_coming ks c.push_reserved.new.self.items) c.in_ok-insert.ensures.keys
    ∙ ap (λ (xs : List (ℕ × ℕ)). without_coming (insert_key waiting_cmp keys w) xs) items
    ∙ without_new keys coming w (not_true _ (sym c.if-branch.true ∙ c.in_ok-insert.ensures.added))
    ∙ ap (λ (s : set.WaitingSet). s.waiting) c.self.view_is
