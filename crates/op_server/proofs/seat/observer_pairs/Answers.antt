use Rattle.op_server.proofs.Seats.{observer_pairs, no_pairs}
use Rattle.op_server.proofs.seat.observer_pairs.Goals as goal

pub returns-in-Some : goal.returns-in-Some
returns-in-Some c =
    observer_pairs c.args.observer.now c.durable.result.now c.durable.ensures c.in-Some.field-0
    c.service.result.now.service c.in-Some.is c.service.ensures

pub returns-in-None : goal.returns-in-None
returns-in-None c = no_pairs c.args.observer.now c.durable.result.now c.durable.ensures c.in-None.is
