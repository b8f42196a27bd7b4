use Rattle.std.proofs.Common.{◌≡◌, ◌++◌, ◌∷◌, [], List, length, None, All, rules, refl, sym, ap, subst, ◌∙◌}
use Rattle.std.proofs.lemmas.List.Elements.{All-nil, All-cons, All-append}
use Rattle.op_node.specs.Nodes.{node_of}
use Rattle.op_node.specs.declared.node.Node.{Node}
use Rattle.op_core.specs.Groups.{Told, ToldInRange, starved, changes_at}
use Rattle.op_core.specs.NodeCores.{place_at}
use Rattle.op_core.specs.declared.node_core.NodeCore.{NodeCore}
use Rattle.op_core.proofs.Came.{none_stores, goes_lost}
use Rattle.op_core.proofs.Disks.{noted_stores}
use Rattle.op_core.proofs.Gathered.{gone, goes_whole, goes_short}
use Rattle.op_core.proofs.groups.step_group.Goals as goal

-- one more answer that gives nothing out
one_starved : (rs : List Told) → All ToldInRange rs → All ToldInRange (rs ++ starved ∷ [])
one_starved rs all = All-append ToldInRange rs (starved ∷ []) all (All-cons ToldInRange starved [] tt (All-nil ToldInRange))

pub returns-in_default-clause-goes : goal.returns-in_default-clause-goes
returns-in_default-clause-goes g c =
    let state = g.D.Disk.state in
    let old = c.args.core.now in
    let mid = c.note_place.new.self in
    let noted = c.note_place.ensures in
    goes_lost state old mid c.args.first c.args.inputs.now.items c.args.results.now.items c.push_reserved.new.self.items c.push_reserved.ensures.items
    (record { may = tt; tell = refl; stored = noted_stores state old mid noted.node noted.standing mid [] (none_stores state mid) })

pub returns-in_default-clause-given : goal.returns-in_default-clause-given
returns-in_default-clause-given g c all = subst (All ToldInRange) (sym c.push_reserved.ensures.items) (one_starved c.args.results.now.items all)

pub returns-then-is_whole-clause-goes : goal.returns-then-is_whole-clause-goes
returns-then-is_whole-clause-goes g c =
    let state = g.D.Disk.state in
    let old = c.args.core.now in
    let mid = c.note_place.new.self in
    let noted = c.note_place.ensures in
    let t = c.if-is_whole.ensures.takes in
    let new : NodeCore _ = record mid { node = c.store-end.new.node } in
    let n = c.take_all-is_whole.new.node in
    let before : List Told = c.args.results.now.items in
    let after : List Told = c.take_all-is_whole.new.results.items in
    let later : List Told = c.store-end.new.results.items in
    let h = c.take_all-is_whole.new.gathered in
    let runs : mid.node.failed ≡ None = ap (λ (k : Node _). k.failed) noted.node ∙ c.requires.up in
    let place : c.len-from.result ≡ length before = search rules in
    let stood : mid.stood ≡ place_at (node_of mid.node).state = noted.place c.requires.up ∙ ap (λ (k : Node _). place_at (node_of k).state) (sym noted.node) in
    let x = gone state mid new n t.ts before after h runs t.took c.store-end.result c.len-from.result later place stood (c.store-end.ensures.stored (node_of mid.node).state.durable (changes_at (node_of mid.node) t.ts) t.took.leads) in
    goes_whole state old mid new n t.ts before after later h runs t.took noted.node noted.standing c.store-end.result x (c.args.first ∷ c.args.inputs.now.items) c.take_all-is_whole.new.inputs.items t.left t.is_left t.split (t.full refl)

pub returns-then-is_whole-clause-given : goal.returns-then-is_whole-clause-given
returns-then-is_whole-clause-given g c all =
    let state = g.D.Disk.state in
    let old = c.args.core.now in
    let mid = c.note_place.new.self in
    let noted = c.note_place.ensures in
    let t = c.if-is_whole.ensures.takes in
    let new : NodeCore _ = record mid { node = c.store-end.new.node } in
    let n = c.take_all-is_whole.new.node in
    let before : List Told = c.args.results.now.items in
    let after : List Told = c.take_all-is_whole.new.results.items in
    let later : List Told = c.store-end.new.results.items in
    let h = c.take_all-is_whole.new.gathered in
    let runs : mid.node.failed ≡ None = ap (λ (k : Node _). k.failed) noted.node ∙ c.requires.up in
    let place : c.len-from.result ≡ length before = search rules in
    let stood : mid.stood ≡ place_at (node_of mid.node).state = noted.place c.requires.up ∙ ap (λ (k : Node _). place_at (node_of k).state) (sym noted.node) in
    let x = gone state mid new n t.ts before after h runs t.took c.store-end.result c.len-from.result later place stood (c.store-end.ensures.stored (node_of mid.node).state.durable (changes_at (node_of mid.node) t.ts) t.took.leads) in
    subst (All ToldInRange) (sym x.added) (All-append ToldInRange before x.told all x.given)

pub returns-clause-goes : goal.returns-clause-goes
returns-clause-goes g c =
    let state = g.D.Disk.state in
    let old = c.args.core.now in
    let mid = c.note_place.new.self in
    let noted = c.note_place.ensures in
    let t = c.if-is_whole.ensures.takes in
    let new : NodeCore _ = record mid { node = c.store-end.new.node } in
    let n = c.take_all-is_whole.new.node in
    let before : List Told = c.args.results.now.items in
    let after : List Told = c.take_all-is_whole.new.results.items in
    let later : List Told = c.store-end.new.results.items in
    let h = c.take_all-is_whole.new.gathered in
    let runs : mid.node.failed ≡ None = ap (λ (k : Node _). k.failed) noted.node ∙ c.requires.up in
    let place : c.len-from.result ≡ length before = search rules in
    let stood : mid.stood ≡ place_at (node_of mid.node).state = noted.place c.requires.up ∙ ap (λ (k : Node _). place_at (node_of k).state) (sym noted.node) in
    let x = gone state mid new n t.ts before after h runs t.took c.store-end.result c.len-from.result later place stood (c.store-end.ensures.stored (node_of mid.node).state.durable (changes_at (node_of mid.node) t.ts) t.took.leads) in
    goes_short state old mid new n t.ts before after later h runs t.took noted.node noted.standing c.store-end.result x (c.args.first ∷ c.args.inputs.now.items) c.take_all-is_whole.new.inputs.items t.left c.push_reserved-2.new.self.items t.is_left t.split c.push_reserved-2.ensures.items

pub returns-clause-given : goal.returns-clause-given
returns-clause-given g c all =
    let state = g.D.Disk.state in
    let old = c.args.core.now in
    let mid = c.note_place.new.self in
    let noted = c.note_place.ensures in
    let t = c.if-is_whole.ensures.takes in
    let new : NodeCore _ = record mid { node = c.store-end.new.node } in
    let n = c.take_all-is_whole.new.node in
    let before : List Told = c.args.results.now.items in
    let after : List Told = c.take_all-is_whole.new.results.items in
    let later : List Told = c.store-end.new.results.items in
    let h = c.take_all-is_whole.new.gathered in
    let runs : mid.node.failed ≡ None = ap (λ (k : Node _). k.failed) noted.node ∙ c.requires.up in
    let place : c.len-from.result ≡ length before = search rules in
    let stood : mid.stood ≡ place_at (node_of mid.node).state = noted.place c.requires.up ∙ ap (λ (k : Node _). place_at (node_of k).state) (sym noted.node) in
    let x = gone state mid new n t.ts before after h runs t.took c.store-end.result c.len-from.result later place stood (c.store-end.ensures.stored (node_of mid.node).state.durable (changes_at (node_of mid.node) t.ts) t.took.leads) in
    subst (All ToldInRange) (sym c.push_reserved-2.ensures.items) (one_starved later (subst (All ToldInRange) (sym x.added) (All-append ToldInRange before x.told all x.given)))
