use Rattle.std.proofs.Common.{rules, ap, sym, subst, ◌∙◌, ◌==◌, ◌≡◌, ◌≤◌, ℕ, not, filter, length, All, arith}
use Rattle.std.proofs.lemmas.Fn.{filter_same}
use Rattle.op_types.specs.declared.messages.Msg.{Msg}
use Rattle.op_serving.specs.State.{without}
use Rattle.op_queues.specs.Gathering.{Unread, BroughtInRange}
use Rattle.op_queues.proofs.Frames.{filtered_without}
use Rattle.op_queues.proofs.Runs.{all_left}
use Rattle.op_queues.proofs.Tables.{without_short}
use Rattle.op_queues.proofs.gathered.Gathered.forget.Goals as goal

kept : (c : goal.After-forget) → c.retain.new.self.items ≡ without c.args.conn c.self.inside.messages.items
kept c =
    let same : c.retain.new.self.items ≡ filter (λ (f : ℕ × (ℕ × Msg)). not (f.0 == c.args.conn)) c.self.inside.messages.items =
    filter_same _ _ _ (λ x b f' k. search rules) _ _ c.retain.ensures.filtered in
    same ∙ filtered_without c.args.conn c.self.inside.messages.items

pub invariant_of-self : goal.invariant_of-self
invariant_of-self c =
    let i = c.self.invariant in
    let is : c.retain.new.self.items ≡ without c.args.conn c.self.inside.messages.items = kept c in
    let few : length c.retain.new.self.items ≤ length c.self.inside.messages.items =
    omega (arith, ap length is, without_short c.args.conn c.self.inside.messages.items) in (
      i.0,
      i.1,
      omega (arith, few, i.2),
      omega (arith, few, i.3),
      λ h. omega (arith, few, i.4 (omega (arith, h, c.forget.ensures.len))),
      λ h. omega (arith, few, i.5 (omega (arith, h, c.forget.ensures.len))),
      subst (All BroughtInRange) (sym is) (all_left BroughtInRange c.args.conn c.self.inside.messages.items i.6),
      record { each = c.forget.ensures.range i.7.each; few = omega (arith, i.7.few, c.forget.ensures.len); small = omega (arith, i.7.small, c.forget.ensures.small) },
    )

pub returns : goal.returns
returns c =
    let same : c.retain.new.self.items ≡ without c.args.conn c.args.self.now.brought =
    kept c ∙ ap (λ (u : Unread). without c.args.conn u.brought) c.self.view_is in
    let rest : c.forget.new.self ≡ without c.args.conn c.args.self.now.gathered =
    c.forget.ensures.is ∙ ap (λ (u : Unread). without c.args.conn u.gathered) c.self.view_is in
    cc
