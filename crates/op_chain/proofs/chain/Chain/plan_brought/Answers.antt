use Rattle.op_chain.proofs.Inputs.{brought_parts}
use Rattle.op_chain.proofs.chain.Chain.plan_brought.Goals as goal

pub plan_joining-requires-clause-brought : goal.plan_joining-requires-clause-brought
plan_joining-requires-clause-brought c =
    let a = c.args.self.now in
    let brings = rw c.in-Changes.is at c.in_ok-brought.ensures in
    let parts = brought_parts c.latest-latest.result a.durable.joining a.volatile.pieces c.args.input c.in-Changes.batch brings.0 in
    (a.volatile.pieces, parts.0, parts.1, parts.2)
