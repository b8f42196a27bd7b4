use Rattle.op_executions.proofs.Servers.{have_more}
use Rattle.op_executions.proofs.world.first_servers.Goals as goal

pub ids-preserved : goal.ids-preserved
ids-preserved g c =
    have_more g.S.Server.kind c.args.members.now c.args.observers.now c.args.ids.now c.ids.servers.items _ c.in_ok-first.field-0 c.ids.pid-index c.is_among-observes.result c.ids.invariant c.ids-test.true c.in_ok-push.ensures.items
    c.is_among-observes.ensures c.in_ok-first.ensures.shows c.in_ok-first.ensures.kind c.in_ok-first.ensures.kept c.in_ok-first.ensures.first
