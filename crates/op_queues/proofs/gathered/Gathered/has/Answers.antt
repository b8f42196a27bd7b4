use Rattle.std.proofs.Common.{rules, ◌≡◌, ◌∙◌, sym, ap, true, false, is_some, ◌||◌, ◌==◌}
use Rattle.std.specs.List.{list_any}
use Rattle.op_serving.specs.State.{find}
use Rattle.op_queues.specs.Gathering.{Unread}
use Rattle.op_queues.proofs.Runs.{any_found}
use Rattle.op_queues.proofs.gathered.Gathered.has.Goals as goal

pub returns-then-is_among : goal.returns-then-is_among
returns-then-is_among c =
    let value : c.is_among.result ≡ list_any (λ e. e.0 == c.args.conn) c.self.inside.messages.items = search rules in
    let there : is_some (find c.args.conn c.self.inside.messages.items) ≡ true =
    sym (any_found c.args.conn c.self.inside.messages.items) ∙ sym value ∙ search rules in
    search rules ∙ ap (λ b. b || is_some (find c.args.conn c.self.inside.commands)) (sym there)
    ∙ ap (λ (u : Unread). is_some (find c.args.conn u.brought) || is_some (find c.args.conn u.gathered)) c.self.view_is

pub returns-else-is_among : goal.returns-else-is_among
returns-else-is_among c =
    let value : c.is_among.result ≡ list_any (λ e. e.0 == c.args.conn) c.self.inside.messages.items = search rules in
    let none : is_some (find c.args.conn c.self.inside.messages.items) ≡ false =
    sym (any_found c.args.conn c.self.inside.messages.items) ∙ sym value ∙ search rules in
    c.has.ensures ∙ ap (λ b. b || is_some (find c.args.conn c.self.inside.commands)) (sym none)
    ∙ ap (λ (u : Unread). is_some (find c.args.conn u.brought) || is_some (find c.args.conn u.gathered)) c.self.view_is
