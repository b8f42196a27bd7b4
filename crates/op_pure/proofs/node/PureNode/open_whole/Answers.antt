use Rattle.std.proofs.Common.{◌≡◌, ℕ, Bool, List, [], sym, ap, subst, ◌∙◌}
use Rattle.op_types.specs.declared.changes.Change.{Change}
use Rattle.op_types.specs.declared.durable.Durable.{Durable}
use Rattle.op_types.specs.declared.messages.Msg.{Msg}
use Rattle.op_runs.specs.World.{Done, Opens}
use Rattle.op_executions.specs.Servers.{CanDo}
use Rattle.op_executions.specs.declared.server.Done as given
use Rattle.op_protocol.specs.Starting.{state_after_restart}
use Rattle.op_pure.specs.Nodes.{kind_of, node_of, pure_nodes, CanFind, CanOpenAs, HasDone, IsOpened}
use Rattle.op_pure.specs.declared.node.PureNode.{PureNode}
use Rattle.op_pure.specs.declared.node.Status.{Status}
use Rattle.op_pure.specs.declared.node.Status.TheVariants as status
use Rattle.op_pure.proofs.Finding.{finds_down, finds_failed}
use Rattle.op_pure.proofs.NodesDone.{as_opened, opens_up, opens_down, opens_failed}
use Rattle.op_pure.proofs.node.PureNode.open_whole.Goals.{in-Up, in-Down+in_ok-durable-in-Down+in_ok-seat-in-Down, in-Failed+in_ok-seat-in-Failed}
use Rattle.op_pure.proofs.node.PureNode.open_whole.Goals as goal

-- what an opening finds of one that is down can be opened
down_finds : (old : PureNode) (d : Durable) (batch : List Change) (finds_after : Bool) → CanDo pure_nodes old Opens → status.Down d batch ≡ old.status → CanFind (kind_of old) old.pid d batch finds_after
down_finds old d batch finds_after can is = finds_down old d batch finds_after (subst (λ (s : Status). CanDo pure_nodes (node_of old s) Opens) (sym is) can)

pub found-requires-clause-applies : goal.found-requires-clause-applies
found-requires-clause-applies c = (down_finds c.args.self.now c.in-Down.durable c.in-Down.batch c.args.finds_after c.requires c.in-Down.ensures.value).applies

pub found-requires-clause-rest : goal.found-requires-clause-rest
found-requires-clause-rest c = (down_finds c.args.self.now c.in-Down.durable c.in-Down.batch c.args.finds_after c.requires c.in-Down.ensures.value).rest

pub opened-requires : goal.opened-requires
opened-requires c =
    let old = c.args.self.now in
    subst (λ (d : Durable). CanOpenAs (kind_of old) old.pid d) (sym c.in_ok-durable-in-Down.ensures) (down_finds old c.in-Down.durable c.in-Down.batch c.args.finds_after c.requires c.in-Down.ensures.value).can

pub reopened-requires : goal.reopened-requires
reopened-requires c =
    let old = c.args.self.now in
    record { finds = finds_failed old c.in-Failed.seat c.in-Failed.field-1 c.in-Failed.batch c.args.finds_after (subst (λ (s : Status). CanDo pure_nodes (node_of old s) Opens) (sym c.in-Failed.ensures.value) c.requires) }

pub returns : goal.returns
returns c line =
    let old = c.args.self.now in
    let finds_after = c.args.finds_after in
    let seat = c.match-replace.seat in
    let done = c.match-replace.done in
    let with_sends : List (ℕ × Msg) → given.Done → given.Done = λ sends d. record { sends = sends; told = d.told } in
    subst (λ (s : Status). HasDone old Opens Done finds_after line (node_of old s) done.sends done.told) (sym c.put.ensures)
    (elim c.match-replace.branch [
      | in-Up w ↦
          as_opened old Opens Done finds_after line seat w.in-Up.seat done [] w.seat-is (w.done-is ∙ c.nothing-done.ensures) (opens_up old w.in-Up.seat finds_after line c.requires.kept w.in-Up.ensures.value)
      | in-Down+in_ok-durable-in-Down+in_ok-seat-in-Down w ↦
          let o = w.in_ok-seat-in-Down in
          as_opened old Opens Done finds_after line seat o.seat done o.sends w.seat-is (w.done-is ∙ ap (with_sends o.sends) c.nothing-done.ensures)
          (opens_down old w.in-Down.durable w.in-Down.batch o.seat finds_after line o.sends w.in-Down.ensures.value
          (subst (λ (d : Durable). IsOpened (kind_of old) old.pid (state_after_restart old.pid d) o.seat o.sends) w.in_ok-durable-in-Down.ensures o.ensures))
      | in-Failed+in_ok-seat-in-Failed w ↦
          let o = w.in_ok-seat-in-Failed in
          as_opened old Opens Done finds_after line seat o.seat done o.sends w.seat-is (w.done-is ∙ ap (with_sends o.sends) c.nothing-done.ensures)
          (opens_failed old w.in-Failed.seat w.in-Failed.field-1 w.in-Failed.batch o.seat finds_after line o.sends c.requires.kept w.in-Failed.ensures.value o.ensures)
    ])
