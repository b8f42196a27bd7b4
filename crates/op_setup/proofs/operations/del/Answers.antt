use Rattle.op_setup.proofs.Words.{at_error}
use Rattle.op_setup.proofs.CommandWords.{del_operands}
use Rattle.op_setup.proofs.operations.del.Goals as goal

pub returns-in_err-key-clause-memory : goal.returns-in_err-key-clause-memory
returns-in_err-key-clause-memory c = at_error _ _ (del_operands _ c.in_err-key.ensures.memory)
