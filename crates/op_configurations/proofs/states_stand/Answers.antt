use Rattle.op_configurations.proofs.states_stand.Goals as goal
use Rattle.op_configurations.proofs.Standing as standing
use Rattle.op_configurations.proofs.Stored as stored
use Rattle.op_configurations.proofs.Shown as shown
use Rattle.op_configurations.proofs.Latest as known
use Rattle.op_configurations.proofs.Fixed as fixed

pub returns : goal.returns
returns c = record { stands = standing.stands; stored = stored.stored_stands; holds = fixed.holds_on; shows = shown.shows_same; ledger = shown.ledger_same; trims = standing.trims_known; joining = standing.joining_keeps; above = known.joins_above }
