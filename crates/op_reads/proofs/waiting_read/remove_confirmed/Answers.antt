use Rattle.std.proofs.Common.{rules, tests, not}
use Rattle.std.proofs.lemmas.Fn.{filter_same}
use Rattle.op_reads.specs.Reads.{WaitingRead, is_confirmed}
use Rattle.op_reads.proofs.waiting_read.remove_confirmed.Goals as goal

pub returns : goal.returns
returns c = filter_same _ (λ (w : WaitingRead). not (is_confirmed c.args.members w)) _ (λ x b q r. search (rules, tests)) _ _ c.retain.ensures.filtered
