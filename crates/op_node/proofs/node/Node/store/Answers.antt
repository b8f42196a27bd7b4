use Rattle.std.proofs.Common.{◌≡◌, ◌≢◌, true, false, List, [], sym, ◌∙◌}
use Rattle.op_types.specs.declared.changes.Change.{Change}
use Rattle.op_node.proofs.Taken.{at_once_idle}
use Rattle.op_node.proofs.node.Node.store.Goals as goal

pub returns-then-is_empty-clause-stored : goal.returns-then-is_empty-clause-stored
returns-then-is_empty-clause-stored g c d changes leads =
    let none : changes ≡ [] = (c.is_empty.ensures changes leads.laid).0 c.if-is_empty.true in
    at_once_idle g.D.Disk.state d changes c.args.self.now.store none

pub returns-clause-stored : goal.returns-clause-stored
returns-clause-stored g c d changes leads =
    let some : changes ≢ [] = λ none. let bad : true ≡ false = sym ((c.is_empty.ensures changes leads.laid).1 none) ∙ c.if-is_empty.false in absurd (cc) in
    c.in-Err.ensures d changes (c.into_framed-framed.ensures changes leads.laid) leads.applies some (leads.ahead ∙ sym c.durable.ensures)

pub returns-in-Ok-clause-sound : goal.returns-in-Ok-clause-sound
returns-in-Ok-clause-sound g c =
    let d = c.requires.leads.0 in
    let changes : List Change = c.requires.leads.1 in
    let leads = c.requires.leads.2 in
    let some : changes ≢ [] = λ none. let bad : true ≡ false = sym ((c.is_empty.ensures changes leads.laid).1 none) ∙ c.if-is_empty.false in absurd (cc) in
    let at = c.in-Ok.ensures d changes (c.into_framed-framed.ensures changes leads.laid) leads.applies some (leads.ahead ∙ sym c.durable.ensures) in
    record { seat = c.requires.sound.seat; range = c.requires.sound.range; store = λ _. at.ready (c.requires.sound.store c.requires.runs) }
