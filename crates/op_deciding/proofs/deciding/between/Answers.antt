use Rattle.std.proofs.Common.{◌≡◌, ℕ, ◌-◌, take, drop, length, ap, ◌∙◌, rules}
use Rattle.std.specs.Prelude.{min}
use Rattle.op_deciding.proofs.Slices.{cut_slice}
use Rattle.op_deciding.proofs.deciding.between.Goals as goal

pub returns : goal.returns
returns c =
    let xs = c.args.entries.now in
    let end : c.min-end.result ≡ min c.args.end (length xs) = search rules in
    let start : c.min-start.result ≡ min c.args.start (min c.args.end (length xs)) = search rules in
    ap (λ (e : ℕ). take (e - c.min-start.result) (drop c.min-start.result xs)) end
    ∙ ap (λ (s : ℕ). take (min c.args.end (length xs) - s) (drop s xs)) start
    ∙ cut_slice c.args.start c.args.end xs
