use Rattle.std.proofs.Common.{ℕ, ◌-◌, Option, sym, ap, ◌∙◌}
use Rattle.op_types.specs.Rooms.{part_option_with_room}
use Rattle.op_types.specs.declared.answers.Cause.TheVariants as cause
use Rattle.op_types.specs.declared.durable.Part.{Part}
use Rattle.op_chain.specs.Leads.{why_closed}
use Rattle.op_chain.proofs.Leads.{decided_roomed}
use Rattle.op_chain.proofs.chain.Chain.why_closed.Goals as goal

pub returns-in-Some : goal.returns-in-Some
returns-in-Some c =
    let batch = c.args.batch.now in
    ap (λ (n : ℕ). cause.Stop n) (c.saturating_sub.ensures ∙ ap (λ (n : ℕ). n - 1) (c.decided_after.ensures ∙ sym (decided_roomed 0 c.in-Some.part batch)))
    ∙ sym (ap (λ (o : Option Part). why_closed (part_option_with_room 0 o) batch) c.in-Some.is)
