use Rattle.std.proofs.Common.{subst}
use Rattle.op_types.specs.declared.durable.Durable.{Durable}
use Rattle.op_runs.specs.World.{Observes}
use Rattle.op_store.specs.Openings.{Opened}
use Rattle.op_node.specs.Openings.{disks_with}
use Rattle.op_node.proofs.Seated.{refused_seat, opened_seat}
use Rattle.op_node.proofs.node.Node.open_observer.Goals as goal

pub returns-clause-opened : goal.returns-clause-opened
returns-clause-opened g c =
    let state = g.D.Disk.state in
    let o = c.in_ok-store in
    let begun = c.started_watching.ensures in
    let opened =
    subst (λ (d : Durable). Opened state d
    (disks_with state c.args.first c.args.second) o.store o.durable o.is_new) c.in-Ok.ensures.first
    o.ensures.opened in
    opened_seat state c.args.first c.args.second o.store o.durable o.is_new Observes c.args.me
    c.args.members.now c.started_watching.result begun.who begun.state begun.sends begun.sound begun.range
    c.seated.result c.seated.ensures.seated opened o.ensures.range

pub returns-clause-refused : goal.returns-clause-refused
returns-clause-refused g c =
    let state = g.D.Disk.state in
    let o = c.in_ok-store in
    let opened =
    subst (λ (d : Durable). Opened state d
    (disks_with state c.args.first c.args.second) o.store o.durable o.is_new) c.in-Ok.ensures.first
    o.ensures.opened in
    refused_seat state c.args.first c.args.second o.store o.durable o.is_new _ opened c.seated.result
    c.seated.ensures.starved
