use Rattle.std.proofs.Common.{ap}
use Rattle.op_kv.specs.Maps.{MapState}
use Rattle.op_observer.proofs.Stated.{begun, watched_fits}
use Rattle.op_observer.proofs.observer.Observer.first.Goals as goal

pub returns-clause-state : goal.returns-clause-state
returns-clause-state c =
    begun c.args.me c.args.durable c.requires c.new-stage.result c.new-stage.ensures
    c.new-service.result.service
    (ap (λ (m : MapState). m.service) c.new-service.ensures)

pub returns-clause-sound : goal.returns-clause-sound
returns-clause-sound c = record { part = watched_fits c.args.durable.part c.requires.part }
