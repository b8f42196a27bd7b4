use Rattle.std.proofs.Common.{◌≡◌, List, Option, Some, None, sym, ap, ◌∙◌}
use Rattle.std.proofs.lemmas.Result.{on_ok_weaker}
use Rattle.op_types.specs.declared.answers.Outcome.TheVariants.{Refused}
use Rattle.op_types.specs.declared.answers.Refusal.{Refusal}
use Rattle.op_types.specs.declared.log.Entry.{Entry}
use Rattle.op_types.specs.declared.plan.Plan.{Plan}
use Rattle.op_protocol.specs.Rows.{entries_of, proposal_at}
use Rattle.op_instance.specs.Memory.{volatile_of, part_step_of}
use Rattle.op_instance.proofs.Commands.{as_many, no_stop}
use Rattle.op_instance.proofs.stored.Stored.propose_commands.Goals as goal

pub returns-in-Some-clause-step : goal.returns-in-Some-clause-step
returns-in-Some-clause-step c =
    let me = c.args.self.now.me in
    let p = c.args.self.now.durable.now.part in
    let v = volatile_of c.args.volatile.now in
    let es : List Entry = entries_of c.args.commands in
    let says : c.refuse.new.plan ≡ _ = c.refuse.ensures ∙ ap (λ (plan : Plan). let x : Plan = record plan { outcome = Some (Refused c.in-Some.cause) } in x) c.requires.nothing in
    ap (λ (plan : Plan). part_step_of plan v) says
    ∙ ap (λ (o : Option Refusal). proposal_at me p v es o) (c.in-Some.ensures.cause es (as_many c.args.commands ∙ sym c.len.ensures) (no_stop c.args.commands))

pub returns-in_ok-entries_of-in-None-clause-step : goal.returns-in_ok-entries_of-in-None-clause-step
returns-in_ok-entries_of-in-None-clause-step c =
    let me = c.args.self.now.me in
    let p = c.args.self.now.durable.now.part in
    let v = volatile_of c.args.volatile.now in
    let es : List Entry = entries_of c.args.commands in
    on_ok_weaker c.propose.result
    (λ is. is ∙ (ap (λ (xs : List Entry). proposal_at me p v xs None) c.in_ok-entries_of-in-None.ensures
    ∙ ap (λ (o : Option Refusal). proposal_at me p v es o) (c.in-None.ensures.cause es (as_many c.args.commands ∙ sym c.len.ensures) (no_stop c.args.commands))))
    c.propose.ensures.step
