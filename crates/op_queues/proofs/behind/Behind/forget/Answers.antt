use Rattle.std.proofs.Common.{rules, ap, sym, ◌∙◌, ◌==◌, ◌≡◌, ℕ, not, filter}
use Rattle.std.proofs.lemmas.Fn.{filter_same}
use Rattle.op_serving.specs.State.{without}
use Rattle.op_serving.specs.Room.{count_at}
use Rattle.op_queues.specs.declared.unsent.Unsent.{Unsent}
use Rattle.op_queues.proofs.Frames.{filtered_without, none_left}
use Rattle.op_queues.proofs.Counted.{counts_without}
use Rattle.op_queues.proofs.behind.Behind.forget.Goals as goal
use Rattle.op_queues.proofs.behind.Behind.forget.Goals.{After-remove}

kept : (c : After-remove) → c.retain.new.self.items ≡ without c.args.conn c.self.inside.messages.items
kept c =
    let same : c.retain.new.self.items ≡ filter (λ (f : ℕ × Unsent). not (f.0 == c.args.conn)) c.self.inside.messages.items =
    filter_same _ _ _ (λ x b f' k. search rules) _ _ c.retain.ensures.filtered in
    same ∙ filtered_without c.args.conn c.self.inside.messages.items

pub returns-then-count-eq0 : goal.returns-then-count-eq0
returns-then-count-eq0 c =
    let none : count_at c.args.conn c.args.self.now ≡ 0 = search rules in
    sym (none_left c.args.conn c.args.self.now none)

pub invariant_of-self : goal.invariant_of-self
invariant_of-self c =
    counts_without c.self.inside.counts.entries c.remove.new.self.entries c.self.inside.messages.items c.args.conn c.self.invariant c.retain.new.self.items
    (kept c) c.remove.ensures.updates.1 c.remove.ensures.updates.2

pub returns : goal.returns
returns c = kept c ∙ ap (without c.args.conn) c.self.view_is
