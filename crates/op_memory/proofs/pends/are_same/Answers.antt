use Rattle.std.proofs.Common.{◌≡◌, ℕ, ◌&&◌, ap, ◌∙◌, ◌==◌}
use Rattle.std.specs.Bool.{Decides}
use Rattle.std.proofs.lemmas.Bool.Decides.{Decides-and, Decides-eqb, Decides-like}
use Rattle.std.proofs.lemmas.Slice.Eq.{slice_eq-Decides}
use Rattle.op_memory.proofs.pends.are_same.Goals as goal

same_pair : (a b : ℕ × ℕ) → Decides ((a.0 == b.0) && (a.1 == b.1)) (a ≡ b)
same_pair a b =
    Decides-like ((a.0 == b.0) && (a.1 == b.1))
    (λ same. ap (λ (n : ℕ). let p : ℕ × ℕ = (n, a.1) in p) same.0 ∙ ap (λ (n : ℕ). let p : ℕ × ℕ = (b.0, n) in p) same.1)
    (λ same. (ap (λ (p : ℕ × ℕ). p.0) same, ap (λ (p : ℕ × ℕ). p.1) same))
    (Decides-and (a.0 == b.0) (a.1 == b.1) (Decides-eqb a.0 b.0) (Decides-eqb a.1 b.1))

pub returns : goal.returns
returns c = slice_eq-Decides same_pair c.args.ranges.now c.args.others.now c.eq.result c.eq.ensures
