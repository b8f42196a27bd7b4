-- Elected ballots rise.
use Rattle.std.proofs.Common.{List, ◌++◌}
use Rattle.op_types.specs.declared.ballot.Ballot.{Ballot}
use Rattle.op_types.specs.declared.messages.Heard.{Heard}
use Rattle.op_types.specs.declared.verdict.Verdict.{Verdict}
use Rattle.op_protocol.specs.Election.{Candidate, Elected, unheard, raised, exhausted, elected, unchanged}
use Rattle.op_elect.specs.Elections.{Call, Elections, none, round_ended, floor_raised, ballots_of, RiseAbove}

-- what a round elects is above the leader's ballot, and becomes it
rise_one : (c d : Candidate) (heard : List Heard) (v : Verdict) (ballots : List Ballot) → Elected c heard v d → RiseAbove d.leader ballots → RiseAbove c.leader (ballots_of v ++ ballots)
rise_one c _ heard _ ballots (unheard few) more = more
rise_one c _ heard _ ballots (raised majority low fits) more = more
rise_one c _ heard _ ballots (exhausted majority low last) more = more
rise_one c _ heard _ ballots (elected majority high above) more = (above, more)
rise_one c _ heard _ ballots (unchanged majority high same) more = more

pub rise_above : (c d : Candidate) (calls : List Call) (ballots : List Ballot) → Elections c calls ballots d → RiseAbove c.leader ballots
rise_above c _ _ _ none = tt
rise_above c e _ _ (round_ended {d = d} {heard = heard} {v = v} {calls = calls} {ballots = ballots} ended rest) = rise_one c d heard v ballots ended (rise_above d e calls ballots rest)
rise_above c e _ _ (floor_raised {b = b} {calls = calls} {ballots = ballots} rest) = rise_above _ e calls ballots rest
