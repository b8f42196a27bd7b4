use Rattle.op_setup.proofs.Words.{at_error}
use Rattle.op_setup.proofs.CommandWords.{get_operands}
use Rattle.op_setup.proofs.operations.get.Goals as goal

pub returns-in_err-key-clause-memory : goal.returns-in_err-key-clause-memory
returns-in_err-key-clause-memory c = at_error _ _ (get_operands _ c.in_err-key.ensures.memory)
