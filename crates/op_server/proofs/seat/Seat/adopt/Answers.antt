use Rattle.op_server.proofs.Seats.{votes_plan, observes_plan, votes_ready, observes_ready, votes_adopts, observes_adopts}
use Rattle.op_server.proofs.seat.Seat.adopt.Goals as goal

pub into_server_plan-requires : goal.into_server_plan-requires
into_server_plan-requires c =
    votes_plan c.args.self.now c.requires.0 c.args.plan c.requires.1 c.in-Votes.server c.in-Votes.is

pub into_observer_plan-requires : goal.into_observer_plan-requires
into_observer_plan-requires c =
    observes_plan c.args.self.now c.requires.0 c.args.plan c.requires.1 c.in-Observes.observer
    c.in-Observes.is

pub adopt-requires : goal.adopt-requires
adopt-requires c =
    let x = c.requires.0 in (
      x,
      votes_ready c.args.self.now x c.args.plan c.requires.1 c.in-Votes.server c.into_server_plan.result
          c.in-Votes.is
          c.into_server_plan.ensures,
    )

pub adopt-requires-in-Observes : goal.adopt-requires-in-Observes
adopt-requires-in-Observes c =
    let x = c.requires.0 in (
      x,
      observes_ready c.args.self.now x c.args.plan c.requires.1 c.in-Observes.observer
          c.into_observer_plan.result
          c.in-Observes.is c.into_observer_plan.ensures,
    )

pub returns-in-Votes : goal.returns-in-Votes
returns-in-Votes c x before =
    votes_adopts c.args.self.now x c.in-Votes.server c.adopt.new.self c.adopt.result c.in-Votes.is
    (c.adopt.ensures x
    (votes_ready c.args.self.now x c.args.plan before c.in-Votes.server c.into_server_plan.result
    c.in-Votes.is
    c.into_server_plan.ensures))

pub returns-in-Observes : goal.returns-in-Observes
returns-in-Observes c x before =
    observes_adopts c.args.self.now x c.in-Observes.observer c.adopt-in-Observes.new.self
    c.adopt-in-Observes.result c.in-Observes.is
    (c.adopt-in-Observes.ensures x
    (observes_ready c.args.self.now x c.args.plan before c.in-Observes.observer c.into_observer_plan.result
    c.in-Observes.is c.into_observer_plan.ensures))
