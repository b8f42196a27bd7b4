use Rattle.std.proofs.Common.{◌≡◌, ℕ, Bool, [], refl}
use Rattle.std.proofs.lemmas.Result.{IfOk-weaker}
use Rattle.op_runs.specs.World.{Fate, Tells, told_lines}
use Rattle.op_server.specs.Seats.{state_of}
use Rattle.op_executions.specs.Deeds.{told_of}
use Rattle.op_pure.specs.Nodes.{HasDone}
use Rattle.op_pure.proofs.NodesDone.{only, tells_up, tells_failed, tells_nothing}
use Rattle.op_pure.proofs.node.PureNode.tell.Goals as goal

pub returns-in-Up : goal.returns-in-Up
returns-in-Up c =
    let old = c.args.self.now in
    let t = told_of c.args.told in
    let s = state_of c.in-Up.seat in
    let told = told_lines t old.pid s s.durable.part in
    IfOk-weaker c.telling.result (λ r. r ≡ record { sends = []; told = told }) (λ r. (fate : Fate) → (finds_after : Bool) → (line : ℕ) → HasDone old (Tells t) fate finds_after line old r.sends r.told)
    (λ r is fate finds_after line. only r old old (Tells t) fate finds_after line told is (tells_up old c.in-Up.seat t fate finds_after line told c.requires c.in-Up.is refl)) c.telling.ensures

pub returns-in-Failed : goal.returns-in-Failed
returns-in-Failed c =
    let old = c.args.self.now in
    let t = told_of c.args.told in
    let f = c.in-Failed in
    let s = state_of f.seat in
    let told = told_lines t old.pid s s.durable.part in
    IfOk-weaker c.telling-in-Failed.result (λ r. r ≡ record { sends = []; told = told }) (λ r. (fate : Fate) → (finds_after : Bool) → (line : ℕ) → HasDone old (Tells t) fate finds_after line old r.sends r.told)
    (λ r is fate finds_after line. only r old old (Tells t) fate finds_after line told is (tells_failed old f.seat f.field-1 f.field-2 t fate finds_after line told c.requires f.is refl)) c.telling-in-Failed.ensures

pub returns-in-Down : goal.returns-in-Down
returns-in-Down c fate finds_after line =
    let old = c.args.self.now in
    only c.nothing.result old old (Tells (told_of c.args.told)) fate finds_after line [] c.nothing.ensures (tells_nothing old c.args.told fate finds_after line c.in-Down.field-0 c.in-Down.field-1 c.requires c.in-Down.is)
