use Rattle.op_progress.proofs.Trimmed.{trimmed_is_decided, prepares_are_taken}
use Rattle.op_progress.proofs.laws.trims_are_decided.Goals as goal

pub returns : goal.returns
returns c = record { trimmed = trimmed_is_decided; taken = prepares_are_taken }
