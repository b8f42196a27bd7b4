use Rattle.std.proofs.Common.{◌≡◌}
use Rattle.clap.specs.Words.{kind_of}
use Rattle.clap.specs.declared.error.kind.ErrorKind.TheVariants.{OutOfMemory}
use Rattle.op_setup.specs.declared.fail.TaskFail.TheVariants.{Usage, NoMemory}
use Rattle.op_setup.proofs.Taken.{takes_task, finds_task}
use Rattle.op_setup.proofs.reading.matched.Goals as goal

pub returns-in_err-try_get_matches_from-clause-memory : goal.returns-in_err-try_get_matches_from-clause-memory
returns-in_err-try_get_matches_from-clause-memory c = λ usage.
    let full : kind_of c.in_err-try_get_matches_from.field-0.0 ≡ OutOfMemory = c.in_err-try_get_matches_from.ensures.passes (takes_task _ _ c.in_ok-command.ensures c.requires) in
    let no : Usage ≡ NoMemory = (rw usage at c.from_residual-in_err-try_get_matches_from.ensures.1).1 full in cc

pub returns-clause-found : goal.returns-clause-found
returns-clause-found c = finds_task _ _ c.in_ok-try_get_matches_from.field-0 c.in_ok-command.ensures c.in_ok-try_get_matches_from.ensures.matches c.requires
