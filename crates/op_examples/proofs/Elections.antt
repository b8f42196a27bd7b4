-- Ends of a heartbeat round, given from outside, at server 1 of three, which stands for the ballot (1, 1).
use Rattle.std.proofs.Common.{◌≡◌, ℕ, List, [], ◌∷◌, Bool, true, false, refl}
use Rattle.op_types.specs.Ballots.{no_ballot}
use Rattle.op_types.specs.Limits.{greatest_number}
use Rattle.op_types.specs.declared.ballot.Ballot.{Ballot}
use Rattle.op_types.specs.declared.messages.Heard.{Heard}
use Rattle.op_types.specs.declared.verdict.Verdict.{Verdict}
use Rattle.op_types.specs.declared.verdict.Verdict.TheVariants as verdict
use Rattle.op_protocol.specs.Election.{Ended, candidate, with_floor, round_end}

abbrev ballot : ℕ → ℕ → Ballot
ballot n p = record { number = n; pid = p }

-- it knows this leader's ballot and this floor, and hears this
abbrev ended : Ballot → Ballot → List Heard → Ended
ended leader floor heard = round_end (with_floor (candidate 1 3 (ballot 1 1) leader) floor) heard

-- the reply of server 2, which stands for (1, 2), and says whether it heard a majority
abbrev reply : Bool → List Heard
reply flag = record { from = 2; ballot = ballot 1 2; flag = flag } ∷ []

-- the verdict, and then the own ballot, the leader's, the floor and the flag
abbrev EndsSo : Ended → Verdict → Ballot → Ballot → Ballot → Bool → Type 0
EndsSo end v own leader floor flag = end ≡ record {
  verdict = v;
  after = record { me = 1; members = 3; own = own; leader = leader; floor = floor; flag = flag };
}

-- nobody replies
alone : EndsSo (ended no_ballot no_ballot []) verdict.Nobody (ballot 1 1) no_ballot no_ballot false
alone = refl

-- the greater ballot is elected
elects_the_other :
    EndsSo (ended no_ballot no_ballot (reply true)) (verdict.Elected (ballot 1 2)) (ballot 1 1) (ballot 1 2)
    no_ballot true
elects_the_other = refl

-- the leader's is above both: the own one is raised above it
raises_above_the_leader :
    EndsSo (ended (ballot 1 3) no_ballot (reply true)) (verdict.Raised (ballot 2 1)) (ballot 2 1) (ballot 1 3)
    no_ballot true
raises_above_the_leader = refl

-- and above the floor
raises_above_the_floor :
    EndsSo (ended (ballot 1 1) (ballot 2 2) (reply false)) (verdict.Raised (ballot 3 1)) (ballot 3 1)
    (ballot 1 1) (ballot 2 2) true
raises_above_the_floor = refl

-- who heard no majority isn't elected
keeps_the_leader :
    EndsSo (ended (ballot 1 1) no_ballot (reply false)) verdict.Nobody (ballot 1 1) (ballot 1 1)
    no_ballot true
keeps_the_leader = refl

-- numbers end
raises_no_last_number :
    EndsSo (ended (ballot greatest_number 3) no_ballot (reply true)) verdict.Nobody (ballot 1 1)
    (ballot greatest_number 3) no_ballot true
raises_no_last_number = refl
