use Rattle.op_configurations.proofs.letters_stand.Goals as goal
use Rattle.op_configurations.proofs.Standing as standing

pub returns : goal.returns
returns c = record { letters = standing.letters_stand; messages = standing.messages_stand }
