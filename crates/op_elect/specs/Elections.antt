-- Elections of a server, one round after the other.
use Rattle.std.specs.Prelude.{◌≡◌, true, List, [], ◌∷◌, ◌++◌}
use Rattle.op_types.specs.Ballots.{is_below}
use Rattle.op_types.specs.declared.ballot.Ballot.{Ballot}
use Rattle.op_types.specs.declared.messages.Heard.{Heard}
use Rattle.op_types.specs.declared.verdict.Verdict.{Verdict}
use Rattle.op_types.specs.declared.verdict.Verdict.TheVariants as verdict
use Rattle.op_protocol.specs.Election.{Candidate, Elected, with_floor}

-- what is done to a server's elections
pub data Call : Type 0 where
  EndRound : (heard : List Heard) → Call
  RaiseFloor : (ballot : Ballot) → Call

-- the ballot that a round elected, if it elected one
abbrev pub ballots_of : Verdict → List Ballot
ballots_of verdict.Nobody = []
ballots_of (verdict.Elected b) = b ∷ []
ballots_of (verdict.Raised b) = []

-- calls in turn, from what a server knows, with the ballots that they elect, to what it then knows
pub data Elections : Candidate → List Call → List Ballot → Candidate → Type 0 where
  none : {c : Candidate} → Elections c [] [] c
  round_ended : {c d e : Candidate} {heard : List Heard} {v : Verdict}
      {calls : List Call} {ballots : List Ballot}
      → Elected c heard v d → Elections d calls ballots e
      → Elections c (EndRound heard ∷ calls) (ballots_of v ++ ballots) e
  floor_raised : {c e : Candidate} {b : Ballot} {calls : List Call} {ballots : List Ballot}
      → Elections (with_floor c b) calls ballots e → Elections c (RaiseFloor b ∷ calls) ballots e

-- the first of these is above the ballot, and each other one is above the one before it
abbrev pub RiseAbove : Ballot → List Ballot → Type 0
RiseAbove low [] = Unit {0}
RiseAbove low (b ∷ ballots) = (is_below low b ≡ true) × RiseAbove b ballots
