use Rattle.std.proofs.Common.{rules, ap, sym, subst, ◌∙◌, ◌≡◌, ◌==◌, ℕ, not, filter, All}
use Rattle.std.proofs.lemmas.Map.Made.{filter_same_pairs}
use Rattle.std.specs.Map.{keys_of}
use Rattle.op_serving.specs.State.{Awaited, askers_in}
use Rattle.op_queues.specs.Asked.{AwaitedInRange}
use Rattle.op_queues.proofs.Askers.{Entries, filtered, asked_left}
use Rattle.op_queues.proofs.asker_table.forget_all.Goals as goal

kept : (c : goal.After-retain) → c.retain.new.self.entries ≡ filter (λ (e : Awaited × ℕ). not (e.1 == c.args.conn)) c.args.askers.now.entries
kept c = filter_same_pairs _ (λ (e : Awaited × ℕ). not (e.1 == c.args.conn)) _ (λ k v b w g t. search rules) _ _ c.retain.ensures.filtered

pub returns-clause-is : goal.returns-clause-is
returns-clause-is c = ap askers_in (kept c) ∙ filtered c.args.conn c.args.askers.now.entries c.retain.ensures.was_ordered

pub returns-clause-range : goal.returns-clause-range
returns-clause-range c h = subst (λ (es : Entries). All AwaitedInRange (keys_of es)) (sym (kept c)) (asked_left c.args.conn c.args.askers.now.entries h)
