-- What stands before still does, whatever is written after it.
use Rattle.std.proofs.Common.{◌≡◌, ℕ, List, ◌++◌, length, take, drop, sym, ap, ◌∙◌, append_assoc}
use Rattle.std.proofs.Math.Seq.{take-append_seam}
use Rattle.std.proofs.lemmas.List.{take-append-drop}
use Rattle.op_fields.specs.Prefixes.{KeepsPrefix}

pub kept_through : (old text new : List ℕ) → KeepsPrefix (old ++ text) new → KeepsPrefix old new
kept_through old text new kept =
    let n : ℕ = length (old ++ text) in
    let split : (old ++ text) ++ drop n new ≡ new = ap (λ (t : List ℕ). t ++ drop n new) (sym kept) ∙ take-append-drop n new in
    ap (λ (t : List ℕ). take (length old) t) (sym split) ∙ ap (λ (t : List ℕ). take (length old) t) (append_assoc old text (drop n new)) ∙ take-append_seam old (text ++ drop n new)
