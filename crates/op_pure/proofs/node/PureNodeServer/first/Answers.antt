use Rattle.std.proofs.Common.{ap, sym, ◌∙◌}
use Rattle.op_chain.specs.Chains.{first_state}
use Rattle.op_executions.proofs.Servers.{pid_as, up_as}
use Rattle.op_runs.specs.Possible.{kind_if}
use Rattle.op_types.specs.declared.durable.Durable.{Durable}
use Rattle.op_pure.proofs.Finding.{can_open_first, first_whole}
use Rattle.op_pure.proofs.node.PureNodeServer.first.Goals as goal

pub returns-clause-shows : goal.returns-clause-shows
returns-clause-shows c =
    let k = kind_if c.args.observes in
    let members = c.args.members.now in
    let pid = c.args.pid in
    let state = c.in_ok-seat.ensures.state ∙ ap (λ (d : Durable). first_state pid d) c.in_ok-durable.ensures.durable ∙ first_whole k members pid in
    record { pid = pid_as k members pid; state = (sym state, up_as k members pid) }

pub first_seat-requires : goal.first_seat-requires
first_seat-requires c = can_open_first c.args.observes c.args.members.now c.args.pid c.in_ok-durable.durable c.in_ok-durable.ensures.range c.in_ok-durable.ensures.durable
