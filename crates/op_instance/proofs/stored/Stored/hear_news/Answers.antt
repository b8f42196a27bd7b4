use Rattle.std.proofs.Common.{◌≡◌, ◌<◌, ℕ, Bool, true, cond, ◌&&◌, List, [], None, sym, ap, ◌∙◌, subst}
use Rattle.std.proofs.lemmas.Bool.{lt-ltb}
use Rattle.std.specs.Prelude.{nat_eq, nat_lt}
use Rattle.std.specs.Set.{is_member}
use Rattle.op_types.specs.declared.changes.Change.{Change}
use Rattle.op_types.specs.declared.plan.Plan.{Plan}
use Rattle.op_types.specs.declared.turn.Turn.{Turn}
use Rattle.op_protocol.specs.Configurations.{latest_of}
use Rattle.op_protocol.specs.Joining.{storing, joins, storing_news}
use Rattle.op_instance.specs.Memory.{part_step_of, news_turn}
use Rattle.op_instance.proofs.Lifts.{news_step}
use Rattle.op_instance.proofs.stored.Stored.hear_news.Goals as goal

pub returns-clause-step : goal.returns-clause-step
returns-clause-step c = λ v.
    let d = c.args.self.now.durable.now in
    let me = c.args.self.now.me in
    let news = c.args.news in
    let batch : List Change = joins d.joining c.args.from news.conf news.members news.olds news.len news.trimmed in
    let named : is_member nat_eq news.members me ≡ true = ap (λ (ms : List ℕ). is_member nat_eq ms me) (sym (c.as_slice.ensures ∙ c.get.ensures)) ∙ sym c.is_among.ensures ∙ c.if-not-is_among.false in
    let above : nat_lt (latest_of d) news.conf ≡ true = lt-ltb (latest_of d) news.conf (subst (λ (k : ℕ). k < news.conf) c.latest.ensures c.if-news-latest.false) in
    ap (λ (x : Plan). let y : Plan = record x { batch = c.in_ok-batch.batch } in part_step_of y v) c.set_turn.ensures
    ∙ ap (λ (x : Plan). let y : Plan = record x { batch = c.in_ok-batch.batch; turn = c.news_turn.result } in part_step_of y v) c.nothing-plan.ensures
    ∙ ap (λ (t : Turn). let y : Plan = record { batch = c.in_ok-batch.batch; turn = t; sends = []; replies = []; outcome = None } in part_step_of y v) (c.news_turn.ensures ∙ ap news_turn c.as_slice-2.ensures)
    ∙ ap (λ (b : List Change). let y : Plan = record { batch = b; turn = news_turn b; sends = []; replies = []; outcome = None } in part_step_of y v) c.in_ok-batch.ensures
    ∙ news_step d.joining c.args.from news.conf news.members news.olds news.len news.trimmed v
    ∙ ap (λ (b : Bool). cond b (storing_news v batch) (storing v [])) (sym (ap (λ (b : Bool). b && nat_lt (latest_of d) news.conf) named ∙ ap (λ (b : Bool). true && b) above))
