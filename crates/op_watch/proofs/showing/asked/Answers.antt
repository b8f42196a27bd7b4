use Rattle.std.proofs.Common.{List, ℕ, Option, ◌++◌, sym, ap, ◌∙◌}
use Rattle.op_types.specs.declared.durable.Joining.{Joining}
use Rattle.op_types.specs.declared.messages.Msg.{Msg}
use Rattle.op_types.specs.declared.plan.Plan.{Plan}
use Rattle.op_types.specs.Effects.{nothing_plan}
use Rattle.op_protocol.specs.Watched.{decided_for, shown_if, answers_by}
use Rattle.op_watch.proofs.showing.asked.Goals as goal

pub returns-in-Some : goal.returns-in-Some
returns-in-Some c =
    let d = c.args.durable.now in
    c.nothing-plan.ensures
    ∙ ap (λ (o : Option Joining). let p : Plan =
    record nothing_plan { sends = answers_by o d c.args.from c.args.conf c.args.position } in p)
    (sym c.in-Some.is)

pub returns-in_ok-show_decided-in-None : goal.returns-in_ok-show_decided-in-None
returns-in_ok-show_decided-in-None c =
    let d = c.args.durable.now in
    let to = c.args.from in
    let conf = c.args.conf in
    let at = c.args.position in
    let shown : List (ℕ × Msg) = shown_if (decided_for d.part d.closed conf) to conf at in
    ap (λ (p : Plan). let q : Plan = record p { sends = c.show_decided.new.sends } in
    q) c.nothing-plan.ensures
    ∙ ap (λ (s : List (ℕ × Msg)). let p : Plan = record nothing_plan { sends = s } in p)
    (c.in_ok-show_decided-in-None.ensures ∙ ap (λ (p : Plan). p.sends ++ shown) c.nothing-plan.ensures)
    ∙ ap (λ (o : Option Joining). let p : Plan = record nothing_plan { sends = answers_by o d to conf at } in
    p)
    (sym c.in-None.is)
