use Rattle.std.proofs.Common.{◌<◌, length, arith}
use Rattle.op_runs.specs.declared.events.What.TheVariants as what
use Rattle.op_lockstep.specs.Lockstep.{event_of}
use Rattle.op_world.proofs.Lockstep.{more_events, more_quiet}
use Rattle.op_executions.proofs.Bounds.{member_ids}
use Rattle.op_world.proofs.world.lockstep.ballots.Goals as goal

pub loop-pid-preserved : goal.loop-pid-preserved
loop-pid-preserved c =
    let low : c.loop-pid.pid-index < length c.as_slice-pid-items.result.now = omega arith in
    let ids = member_ids c.as_slice-pid-items.result.now (rw c.as_slice-pid-items.ensures c.requires) in
    let old = c.loop-pid.invariant in (
      more_events (λ p. event_of (what.Ballots p)) c.as_slice-pid-items.result.now c.loop-pid.pid-index 0 _ _ c.event_of.result low old.0 c.event_of.ensures c.in_ok-push.ensures.ok,
      more_quiet _ _ (event_of (what.Ballots _)) old.1 (ids c.loop-pid.pid-index 0 low, tt) (rw (← c.event_of.ensures) c.in_ok-push.ensures.ok),
    )
