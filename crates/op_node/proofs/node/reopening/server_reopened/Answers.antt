use Rattle.std.proofs.Common.{◌≡◌, ℕ, sym, ap, subst, ◌∙◌}
use Rattle.op_types.specs.declared.durable.Durable.{Durable}
use Rattle.op_chain.specs.Chains.{CanOpen}
use Rattle.op_node.specs.Openings as openings
use Rattle.op_node.proofs.NodeOpenings.{can_open}
use Rattle.op_node.proofs.node.reopening.server_reopened.Goals as goal

pub reopen-requires : goal.reopen-requires
reopen-requires c =
    let me = c.args.server.now.chain.me in
    let is : c.durable_for-durable.result ≡ openings.durable_for me c.args.durable = c.durable_for-durable.ensures ∙ ap (λ (k : ℕ). openings.durable_for k c.args.durable) c.me.ensures in
    subst (λ (d : Durable). CanOpen me d) (sym is) (can_open me c.args.durable c.requires)
