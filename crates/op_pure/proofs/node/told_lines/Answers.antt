use Rattle.std.proofs.Common.{ap}
use Rattle.op_chain.specs.Chains.{ballots_in, pairs_in}
use Rattle.op_server.specs.Seats.{state_of}
use Rattle.op_runs.specs.World.{ThePairs, TheBallots}
use Rattle.op_executions.specs.Deeds.{told_of}
use Rattle.op_executions.proofs.ToldLines.{lines_of_state}
use Rattle.op_pure.proofs.node.told_lines.Goals as goal

pub returns-in-Pairs : goal.returns-in-Pairs
returns-in-Pairs c =
    lines_of_state c.pair_lines.result c.args.told ThePairs c.args.pid _ (λ s. pairs_in s.service s.durable.part) (state_of c.args.seat.now)
    (ap told_of c.in-Pairs.is) c.pairs.ensures c.pair_lines.ensures

pub returns-in-Ballots : goal.returns-in-Ballots
returns-in-Ballots c =
    lines_of_state c.ballot_lines.result c.args.told TheBallots c.args.pid c.ballots.result (λ s. ballots_in s.volatile s.durable.part) (state_of c.args.seat.now)
    (ap told_of c.in-Ballots.is) c.ballots.ensures c.ballot_lines.ensures
