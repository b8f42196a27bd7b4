use Rattle.std.proofs.Common.{◌≡◌, ℕ, List, not, filter, ap, ◌∙◌, arith, get_or}
use Rattle.std.specs.Prelude.{remove}
use Rattle.op_types.specs.Roomed.{Roomed}
use Rattle.op_types.specs.declared.role.Stage.{Stage}
use Rattle.op_types.proofs.Staged.{place_of, is_of, stage_there, stage_missing, others_there}
use Rattle.op_types.proofs.staging.take_stage.Goals as goal
use Rattle.op_types.proofs.staging.take_stage.Goals.{then-index-len, else-index-len}

pub returns-clause-held : goal.returns-clause-held
returns-clause-held c =
    let xs : List Stage = c.args.stages.now.items in
    let q : ℕ = c.args.from in
    let here : c.stage_index-index.result ≡ place_of xs q = c.stage_index-index.ensures.place ∙ ap (λ (l : List Stage). place_of l q) c.as_slice.ensures in
    elim c.if-index-len.branch [
      | then-index-len w ↦
          w.held-is ∙ ap (λ (s : Stage). s.held) (w.remove.ensures.item w.remove.result)
          ∙ ap (λ (n : ℕ). (get_or xs n w.remove.result).held) here
          ∙ stage_there xs q c.args.fresh w.remove.result (omega (arith, here, c.len.ensures))
      | else-index-len w ↦ w.held-is ∙ stage_missing xs q c.args.fresh (omega (arith, here, c.len.ensures))
    ]

pub returns-clause-items : goal.returns-clause-items
returns-clause-items c =
    let xs : List Stage = c.args.stages.now.items in
    let q : ℕ = c.args.from in
    let here : c.stage_index-index.result ≡ place_of xs q = c.stage_index-index.ensures.place ∙ ap (λ (l : List Stage). place_of l q) c.as_slice.ensures in
    let left : c.remove_stages.new.stages.items ≡ filter (λ s. not (is_of q s)) c.if-index-len.stages.items = c.remove_stages.ensures.items in
    elim c.if-index-len.branch [
      | then-index-len w ↦
          left ∙ ap (λ (r : Roomed Stage). filter (λ s. not (is_of q s)) r.items) w.stages-is
          ∙ ap (λ (l : List Stage). filter (λ s. not (is_of q s)) l) w.remove.ensures.items
          ∙ ap (λ (n : ℕ). filter (λ s. not (is_of q s)) (remove xs n)) here
          ∙ others_there xs q (omega (arith, here, c.len.ensures))
      | else-index-len w ↦ left ∙ ap (λ (r : Roomed Stage). filter (λ s. not (is_of q s)) r.items) w.stages-is
    ]
