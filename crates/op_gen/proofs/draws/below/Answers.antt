use Rattle.std.proofs.Common.{◌%◌, ℕ, ap}
use Rattle.rand_pcg.specs.Lcg.{Lcg}
use Rattle.op_gen.specs.Draws.{word_of}
use Rattle.op_gen.proofs.draws.below.Goals as goal

pub returns-clause-drawn : goal.returns-clause-drawn
unfolding word_of
returns-clause-drawn c = ap (λ (x : ℕ). x % c.args.count) (ap (λ (p : ℕ × Lcg). p.0) c.next_word.ensures)

pub returns-clause-words : goal.returns-clause-words
unfolding word_of
returns-clause-words c = ap (λ (p : ℕ × Lcg). p.1) c.next_word.ensures
