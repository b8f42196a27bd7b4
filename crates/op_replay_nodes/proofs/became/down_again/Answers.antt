use Rattle.std.proofs.Common.{◌≡◌, true, inl, inr, refl, rules}
use Rattle.op_replay_nodes.specs.Plans.{lets_fail}
use Rattle.op_replay_nodes.proofs.became.down_again.Goals as goal

pub returns-then-has_stopped : goal.returns-then-has_stopped
returns-then-has_stopped g c = (c.in_ok-left.left, refl, c.in_ok-left.ensures, inl (c.has_stopped.ensures c.if-has_stopped.true, refl))

pub returns : goal.returns
returns g c =
    let lets : lets_fail g.A.Area.IS_MIRRORED c.args.told.now.plan ≡ true = search rules in
    (c.in_ok-armed_down.field-0, refl, c.in_ok-armed_down.ensures, inr (lets, c.is_stop.ensures))
