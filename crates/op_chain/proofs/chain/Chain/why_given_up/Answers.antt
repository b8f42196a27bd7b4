use Rattle.std.proofs.Common.{List, sym, ap, refl, ◌∙◌}
use Rattle.std.specs.Prelude.{is_some}
use Rattle.op_types.specs.declared.answers.Cause.TheVariants as cause
use Rattle.op_types.specs.declared.ballot.Ballot.{Ballot}
use Rattle.op_types.specs.declared.changes.Change.{Change}
use Rattle.op_protocol.specs.Parts.{part_after}
use Rattle.op_chain.specs.Chains.{state_of}
use Rattle.op_chain.specs.declared.chain_plan.ChainPlan.{ChainPlan}
use Rattle.op_chain.proofs.Leads.{left_why}
use Rattle.op_chain.proofs.chain.Chain.why_given_up.Goals as goal

pub returns : goal.returns
returns c =
    let me = c.args.self.now in
    let plan = c.args.plan.now in
    let p = c.in-Some.part in
    ap (λ (b : Ballot). cause.Ballot b) (c.promised_after.ensures ∙ ap (λ (b : List Change). (part_after p b).promised) (c.as_slice.ensures ∙ c.batch.ensures))
    ∙ left_why me.me (state_of me).durable plan.plan plan.renewal me.volatile (sym (c.is_some.ensures ∙ ap (λ (q : ChainPlan). is_some q.renewal) c.get.ensures) ∙ c.if-is_some.false) c.requires.plans.1.after.node p me.durable.part c.in-Some.is refl
