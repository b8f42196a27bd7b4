use Rattle.std.proofs.Common.{ℕ, ap, ◌∙◌}
use Rattle.op_server.proofs.Seats.{ballots_told, observer_ballots, no_ballots}
use Rattle.op_server.proofs.seat.observer_ballots.Goals as goal

pub returns-in-Some : goal.returns-in-Some
returns-in-Some c =
    ap (λ (me : ℕ). ballots_told me c.in-Some.part) c.me.ensures
    ∙ observer_ballots c.args.observer.now c.durable.result.now c.durable.ensures c.in-Some.part c.in-Some.is

pub returns-in-None : goal.returns-in-None
returns-in-None c = no_ballots c.args.observer.now c.durable.result.now c.durable.ensures c.in-None.is
