use Rattle.std.proofs.Common.{refl, ◌∙◌}
use Rattle.op_node.proofs.Reopenings.{refuses_opened}
use Rattle.op_node.proofs.node.Node.restart.Goals as goal

pub returns-in_default-restarted-clause-refused : goal.returns-in_default-restarted-clause-refused
returns-in_default-restarted-clause-refused g c =
    let r = c.in-Ok-reopen in
    refuses_opened g.D.Disk.state c.args.self.now _ c.in-Ok.kept r.durable r.field-0-1 (c.in-Ok.ensures ∙ c.durable.ensures) r.ensures.opened refl refl
