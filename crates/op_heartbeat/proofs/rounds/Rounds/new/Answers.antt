use Rattle.std.proofs.Common.{ℕ, List, sym, ◌∙◌, subst, arith}
use Rattle.op_types.specs.Ranges.{IsMember}
use Rattle.op_heartbeat.proofs.Senders.{AreVoters-none}
use Rattle.op_heartbeat.proofs.rounds.Rounds.new.Goals as goal

pub invariant_of-result : goal.invariant_of-result
invariant_of-result c =
    let member = subst (λ (members : List ℕ). IsMember members c.args.me) (sym (c.in_ok-members.ensures.items ∙ c.as_slice.ensures)) c.requires in
    (AreVoters-none c.in_ok-members.members.items c.args.me _ member (sym c.in_ok-heard.ensures.items), omega (arith, c.in_ok-heard.ensures.capacity, c.len.ensures))
