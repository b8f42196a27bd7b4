use Rattle.std.proofs.Common.{◌+◌, ◌++◌, ◌≤◌, ℕ, List, length, sym, ap, ◌∙◌, arith}
use Rattle.std.proofs.lemmas.List.{take_all}
use Rattle.op_types.specs.declared.messages.Body.TheVariants as body
use Rattle.op_types.specs.declared.messages.Msg.{Msg}
use Rattle.op_protocol.specs.Parts.{part_after, to_each}
use Rattle.op_instance.proofs.Batches.{conf_after, members_after}
use Rattle.op_chain.proofs.News.{newer, news_are}
use Rattle.op_chain.proofs.closing.push_news.Goals as goal

pub returns : goal.returns
returns c =
    let p = c.args.part.now in
    let batch = c.args.batch.now in
    let q = part_after p batch in
    let next : List ℕ = c.args.stop.now.members in
    let before = c.args.sends.now in
    let told = λ (members : List ℕ) (len trimmed : ℕ). before ++ to_each (p.conf + 1) (newer p.members members) (body.NextConf next p.members len trimmed) in
    let len = c.decided_after-len.result in
    let trimmed = c.trimmed_after-trimmed.result in
    let past : length next ≤ c.members.pid-index = omega (arith, ap length c.as_slice-pid-items.ensures, c.members-test.false) in
    c.members.invariant
    ∙ ap (λ (members : List ℕ). told members len trimmed) (take_all c.members.pid-index next past)
    ∙ ap (λ (n : ℕ). told next n trimmed) c.decided_after-len.ensures
    ∙ ap (λ (n : ℕ). told next q.decided n) c.trimmed_after-trimmed.ensures
    ∙ ap (λ (news : List (ℕ × Msg)). before ++ news) (sym (news_are p q c.args.stop.now (conf_after p batch) (members_after p batch) c.requires.fits c.requires.stop))
