use Rattle.std.proofs.Common.{ℕ, rules, tests, not, ◌==◌}
use Rattle.std.proofs.lemmas.Fn.{filter_same}
use Rattle.op_reads.proofs.waiting_read.remove_pid.Goals as goal

pub returns : goal.returns
returns c = filter_same _ (λ (q : ℕ). not (q == c.args.pid)) _ (λ x b q r. search (rules, tests)) _ _ c.retain.ensures.filtered
