use Rattle.std.proofs.Common.{sym}
use Rattle.op_heartbeat.proofs.Senders.{AreVoters-none, first_member}
use Rattle.op_heartbeat.proofs.rounds.Rounds.begin_round.Goals as goal

pub invariant_of-self : goal.invariant_of-self
invariant_of-self c =
    (AreVoters-none c.self.inside.members.items c.self.inside.me _ (first_member c.self.inside.members.items _ c.self.inside.me c.self.invariant.0) (sym c.clear.ensures.items), rw c.clear.ensures.capacity c.self.invariant.1)
