use Rattle.op_observer.proofs.Stated.{again, watched_fits, watched_base}
use Rattle.op_observer.proofs.observer.Observer.again.Goals as goal

pub service_of-requires : goal.service_of-requires
service_of-requires c = watched_base c.args.durable.part c.requires.part

pub returns-clause-state : goal.returns-clause-state
returns-clause-state c =
    again c.args.me c.args.durable c.requires c.new-stage.result c.new-stage.ensures
    c.in_ok-service.service.service
    c.in_ok-service.ensures

pub returns-clause-sound : goal.returns-clause-sound
returns-clause-sound c = record { part = watched_fits c.args.durable.part c.requires.part }
