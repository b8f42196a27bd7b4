use Rattle.std.proofs.Common.{List, take, drop, ap, ◌∙◌}
use Rattle.std.proofs.lemmas.List.{drop-take}
use Rattle.op_types.specs.Roomed.{Roomed}
use Rattle.op_types.proofs.reserved.Reserved.cut_to.Goals as goal

pub returns-then-len-self : goal.returns-then-len-self
returns-then-len-self g c =
    let gone = c.self.inside.gone in
    let items = c.self.inside.items.items in
    let room = c.self.inside.room in
    let cut = ap (λ (l : List g.row.T.Denot). drop gone l) c.truncate.ensures.items ∙ drop-take gone c.args.len items in
    ap (λ (l : List g.row.T.Denot). let r : Roomed g.row.T.Denot = record { items = l; room = room } in r) cut
    ∙ ap (λ (r : Roomed g.row.T.Denot). let s : Roomed g.row.T.Denot = record r { items = take c.args.len r.items } in s) c.self.view_is
