use Rattle.std.proofs.Common.{◌≡◌, ℕ, Bool, true, false, nat_eq, List, sym, ◌∙◌, ap, subst}
use Rattle.std.specs.Prelude.{IfErr, IfOk}
use Rattle.std.specs.Set.{is_member}
use Rattle.op_runs.specs.Possible.{kind_if}
use Rattle.op_runs.specs.World.{Kind}
use Rattle.op_node.specs.Openings.{OpensAs, RefusesNode, disks_with, fresh_as}
use Rattle.op_serve.proofs.serving.open_node.Goals as goal

-- whether the settings name it
named : (ids xs : List ℕ) (id : ℕ) (r b : Bool) → xs ≡ ids → r ≡ is_member nat_eq xs id → r ≡ b → kind_if b ≡ kind_if (is_member nat_eq ids id)
named ids xs id r b same is e = ap kind_if (sym e ∙ is ∙ ap (λ (ys : List ℕ). is_member nat_eq ys id) same)

pub returns-then-is_among-clause-opened : goal.returns-then-is_among-clause-opened
returns-then-is_among-clause-opened g c =
    let is = named c.args.settings.now.observers _ c.args.id _ true c.as_slice.ensures c.is_among.ensures c.if-is_among.true in
    let P : Kind → Type 0 = λ k. IfOk c.open_observer.result (λ r. OpensAs k g.D.Disk.state c.args.id c.args.settings.now.members (disks_with g.D.Disk.state c.args.first c.args.second) r.0 r.1) in
    subst P is c.open_observer.ensures.opened

pub returns-then-is_among-clause-refused : goal.returns-then-is_among-clause-refused
returns-then-is_among-clause-refused g c =
    let is = named c.args.settings.now.observers _ c.args.id _ true c.as_slice.ensures c.is_among.ensures c.if-is_among.true in
    let P : Kind → Type 0 = λ k. IfErr c.open_observer.result (RefusesNode g.D.Disk.state (fresh_as k c.args.id c.args.settings.now.members) c.args.first c.args.second) in
    subst P is c.open_observer.ensures.refused

pub returns-clause-opened : goal.returns-clause-opened
returns-clause-opened g c =
    let is = named c.args.settings.now.observers _ c.args.id _ false c.as_slice.ensures c.is_among.ensures c.if-is_among.false in
    let P : Kind → Type 0 = λ k. IfOk c.open.result (λ r. OpensAs k g.D.Disk.state c.args.id c.args.settings.now.members (disks_with g.D.Disk.state c.args.first c.args.second) r.0 r.1) in
    subst P is c.open.ensures.opened

pub returns-clause-refused : goal.returns-clause-refused
returns-clause-refused g c =
    let is = named c.args.settings.now.observers _ c.args.id _ false c.as_slice.ensures c.is_among.ensures c.if-is_among.false in
    let P : Kind → Type 0 = λ k. IfErr c.open.result (RefusesNode g.D.Disk.state (fresh_as k c.args.id c.args.settings.now.members) c.args.first c.args.second) in
    subst P is c.open.ensures.refused
