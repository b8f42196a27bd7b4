use Rattle.std.proofs.Common.{◌≡◌, ◌+◌, ◌++◌, take}
use Rattle.op_protocol.specs.Parts.{to_each}
use Rattle.op_types.specs.declared.messages.Body.TheVariants as body
use Rattle.op_chain.proofs.News.{newer}
use Rattle.op_chain.proofs.closing.push_news.Given as goal

abbrev pub invariant-members : goal.invariant-members
invariant-members l =
    l.sends ≡ l.initial.sends
    ++ to_each (l.part.conf + 1) (newer l.part.members (take l.pid-index l.stop.members)) (body.NextConf l.stop.members l.part.members l.len l.trimmed)
