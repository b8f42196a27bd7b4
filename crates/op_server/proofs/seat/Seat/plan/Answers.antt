use Rattle.op_server.proofs.Seats.{server_plans, observer_plans, votes_admits, observes_admits, votes_same, observes_same}
use Rattle.op_server.proofs.seat.Seat.plan.Goals as goal

pub plan-requires : goal.plan-requires
plan-requires c = votes_admits c.args.self.now c.in-Votes.server c.args.input c.in-Votes.is c.requires

pub plan-requires-in-Observes : goal.plan-requires-in-Observes
plan-requires-in-Observes c =
    observes_admits c.args.self.now c.in-Observes.observer c.args.input c.in-Observes.is c.requires

pub returns-in_err-plan-in-Votes-clause-same : goal.returns-in_err-plan-in-Votes-clause-same
returns-in_err-plan-in-Votes-clause-same c =
    votes_same c.args.self.now c.in-Votes.server c.plan.new.self c.in-Votes.is c.plan.ensures.same

pub returns-in_ok-plan-in-Votes-clause-same : goal.returns-in_ok-plan-in-Votes-clause-same
returns-in_ok-plan-in-Votes-clause-same c =
    votes_same c.args.self.now c.in-Votes.server c.plan.new.self c.in-Votes.is c.plan.ensures.same

pub returns-in_ok-plan-in-Votes-clause-plans : goal.returns-in_ok-plan-in-Votes-clause-plans
returns-in_ok-plan-in-Votes-clause-plans c =
    server_plans c.plan.new.self c.args.input c.in_ok-plan-in-Votes.field-0
    c.in_ok-plan-in-Votes.ensures.plans

pub returns-in_err-plan-in-Observes-clause-same : goal.returns-in_err-plan-in-Observes-clause-same
returns-in_err-plan-in-Observes-clause-same c =
    observes_same c.args.self.now c.in-Observes.observer c.plan-in-Observes.new.self c.in-Observes.is
    c.plan-in-Observes.ensures.same

pub returns-in_ok-plan-in-Observes-clause-same : goal.returns-in_ok-plan-in-Observes-clause-same
returns-in_ok-plan-in-Observes-clause-same c =
    observes_same c.args.self.now c.in-Observes.observer c.plan-in-Observes.new.self c.in-Observes.is
    c.plan-in-Observes.ensures.same

pub returns-in_ok-plan-in-Observes-clause-plans : goal.returns-in_ok-plan-in-Observes-clause-plans
returns-in_ok-plan-in-Observes-clause-plans c =
    observer_plans c.plan-in-Observes.new.self c.args.input c.in_ok-plan-in-Observes.field-0
    c.in_ok-plan-in-Observes.ensures.plans
