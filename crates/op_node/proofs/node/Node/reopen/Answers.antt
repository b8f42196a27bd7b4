use Rattle.std.proofs.Common.{refl, ◌∙◌}
use Rattle.op_store.specs.declared.fail.StoreFail.TheVariants.{NoMemory}
use Rattle.op_node.proofs.Reopenings.{finds_one, finds_none, reopens, refuses_store, refuses_opened}
use Rattle.op_node.proofs.node.Node.reopen.Goals as goal

pub returns-in_default-reopened-clause-refused : goal.returns-in_default-reopened-clause-refused
returns-in_default-reopened-clause-refused g c =
    let r = c.in-Ok-reopen in
    refuses_opened g.D.Disk.state c.args.self.now _ c.in-Ok.kept r.durable r.field-0-1 (c.in-Ok.ensures ∙ c.durable.ensures) r.ensures.opened c.in_default-reopened.ensures.unchanged refl

pub returns-in_default-reopened-clause-found : goal.returns-in_default-reopened-clause-found
returns-in_default-reopened-clause-found g c before after one =
    let r = c.in-Ok-reopen in
    finds_none g.D.Disk.state before after c.args.self.now _ NoMemory
    (refuses_opened g.D.Disk.state c.args.self.now _ c.in-Ok.kept r.durable r.field-0-1 (c.in-Ok.ensures ∙ c.durable.ensures) r.ensures.opened c.in_default-reopened.ensures.unchanged refl) one

pub returns-in-Ok-reopened-clause-found : goal.returns-in-Ok-reopened-clause-found
returns-in-Ok-reopened-clause-found g c before after one =
    let r = c.in-Ok-reopen in
    let seat = c.in-Ok-reopened.ensures in
    finds_one g.D.Disk.state before after r.durable r.field-0-1 c.args.self.now _ c.in-Ok-reopened.sends
    (reopens g.D.Disk.state c.args.self.now _ c.in-Ok.kept r.durable r.field-0-1 c.in-Ok-reopened.sends (c.in-Ok.ensures ∙ c.durable.ensures) r.ensures.opened r.ensures.range seat.who seat.state refl seat.sends) one

pub returns-in-Err-clause-found : goal.returns-in-Err-clause-found
returns-in-Err-clause-found g c before after one =
    finds_none g.D.Disk.state before after c.args.self.now _ c.in-Err.cause
    (refuses_store g.D.Disk.state c.args.self.now _ c.in-Ok.kept c.in-Err.cause (c.in-Ok.ensures ∙ c.durable.ensures) c.in-Err.ensures.refused refl c.count_kept-self.ensures) one
