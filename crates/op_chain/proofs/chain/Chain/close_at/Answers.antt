use Rattle.std.proofs.Common.{◌≡◌, ℕ, ◌-◌, ◌++◌, List, Option, refl, sym, ap, subst, ◌∙◌}
use Rattle.std.proofs.lemmas.Result.{IfOk-weaker}
use Rattle.std.specs.Prelude.{nat_eq}
use Rattle.std.specs.Set.{is_member}
use Rattle.op_types.specs.Changes.{closed_by}
use Rattle.op_types.specs.Roles.{role_of, turned}
use Rattle.op_types.specs.declared.answers.Cause.TheVariants as cause
use Rattle.op_types.specs.declared.changes.Change.{Change}
use Rattle.op_types.specs.declared.plan.Plan.{Plan}
use Rattle.op_protocol.specs.Configurations.{news_of}
use Rattle.op_protocol.specs.Leader.{given_up_by}
use Rattle.op_protocol.specs.Parts.{part_after}
use Rattle.op_change.specs.Over.{service_over}
use Rattle.op_chain.specs.Plans.{IfCloses}
use Rattle.op_chain.specs.declared.renewal.Renewal.{Renewal}
use Rattle.op_chain.proofs.Closes.{closes_up}
use Rattle.op_chain.proofs.chain.Chain.close_at.Goals as goal

pub returns : goal.returns
returns c =
    let a = c.args.self.now in
    let plan = c.args.plan.now in
    let part = c.args.part.now in
    let role = role_of a.volatile.role in
    let decided : c.saturating_sub.result ≡ (part_after part plan.batch).decided - 1 =
    c.saturating_sub.ensures ∙ ap (λ (n : ℕ). n - 1) (c.decided_after.ensures ∙ ap (λ (b : List Change). (part_after part b).decided) c.as_slice-2.ensures) in
    let s = service_over a.service.service c.args.served.now.change in
    let new : Plan = record plan { batch = c.push.new.self; sends = c.push_news.new.sends } in
    IfOk-weaker c.from_renewal.result _ (λ (x : Option Renewal). IfCloses a.me a.durable.part s role plan new x)
    (λ (x : Option Renewal) is. subst (λ (y : Option Renewal). IfCloses a.me a.durable.part s role plan new y) (sym is)
    (closes_up a.me a.durable.part s role plan part c.requires.part c.args.stop.now c.requires.decided
    c.push.new.self c.push_news.new.sends c.is_among-named.result c.in_ok-base.base _
    (c.is_among-named.ensures ∙ ap (λ (ms : List ℕ). is_member nat_eq ms a.me) c.as_slice.ensures)
    c.in_ok-base.ensures.bytes
    c.in_ok-push.ensures.ok
    (c.in_ok-push_news.ensures ∙ ap (λ (b : List Change). plan.sends ++ news_of (closed_by (part_after part b))) c.as_slice-3.ensures)
    c.in_ok-begin.ensures
    refl
    (c.in_ok-given_up.ensures ∙ ap (λ (n : ℕ). given_up_by (turned plan.turn role) (cause.Stop n)) decided)))
    c.from_renewal.ensures
