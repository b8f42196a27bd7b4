use Rattle.std.proofs.Common.{◌≡◌, ◌<◌, ◌+◌, ◌-◌, ℕ, List, ◌∷◌, ◌++◌, length, sym, ap, ◌∙◌, arith}
use Rattle.std.proofs.Math.ListN.{set}
use Rattle.std.proofs.lemmas.List.{set-append_right}
use Rattle.std.specs.List.{flat_map}
use Rattle.op_types.specs.declared.changes.Change.{Change}
use Rattle.op_record.specs.Forms.{change, step_text}
use Rattle.op_record.proofs.StepHeads.{step_head}
use Rattle.op_record.proofs.growing.set_count.Goals as goal

-- the second byte is the count
counted : (space : List ℕ) (changes : List Change) (at count : ℕ) → count < 256 → length space ≡ at → set (space ++ step_text 0 changes) (at + 1) count ≡ space ++ step_text count changes
counted space changes at count small long =
    let rest : List ℕ = flat_map change.text changes in
    let one : (at + 1) - at ≡ 1 = omega arith in
    ap (λ (b : List ℕ). set (space ++ b) (at + 1) count) (step_head 0 (omega arith) changes)
    ∙ set-append_right space (2 ∷ 0 ∷ rest) at (at + 1) count long (omega arith)
    ∙ ap (λ (i : ℕ). space ++ set (2 ∷ 0 ∷ rest) i count) one
    ∙ ap (λ (b : List ℕ). space ++ b) (sym (step_head count small changes))

pub returns : goal.returns
returns c space changes long is =
    ap (λ (b : List ℕ). set b (c.args.at + 1) c.args.count) is
    ∙ counted space changes c.args.at c.args.count (omega arith) long
