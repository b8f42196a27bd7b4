use Rattle.op_connections.proofs.Runs.{keeps, heeds, holds, queues, frames}
use Rattle.op_connections.proofs.laws.connections_keep.Goals as goal

pub returns-clause-keeps : goal.returns-clause-keeps
returns-clause-keeps c o l line given p b is = keeps o l line given p b is

pub returns-clause-hears : goal.returns-clause-hears
returns-clause-hears c o l line given p b is = heeds o l line given p b is

pub returns-clause-holds : goal.returns-clause-holds
returns-clause-holds c o l line given p b is = holds o l line given p b is

pub returns-clause-queues : goal.returns-clause-queues
returns-clause-queues c o l line given p b is = queues o l line given p b is

pub returns-clause-frames : goal.returns-clause-frames
returns-clause-frames c o l line given p b is = frames o l line given p b is
