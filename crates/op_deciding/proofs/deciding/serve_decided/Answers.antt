use Rattle.std.proofs.Common.{Option, sym, subst}
use Rattle.std.specs.Prelude.{OnOk}
use Rattle.op_types.specs.declared.durable.Part.{Part}
use Rattle.op_protocol.specs.Parts.{part_after, decided_since}
use Rattle.op_protocol.specs.Rows.{newly_decided}
use Rattle.op_deciding.specs.Deciding.{IsServed}
use Rattle.op_deciding.proofs.Decided.{ok_served, none_served}
use Rattle.op_deciding.proofs.deciding.serve_decided.Goals as goal

pub returns-in-Some : goal.returns-in-Some
returns-in-Some c =
    let s = c.args.service.now.service in
    let p = c.in-Some.part in
    let new = c.serve_newly.new.served in
    subst (λ (o : Option Part). OnOk c.serve_newly.result (IsServed s (newly_decided o c.args.batch.now) new)) (sym c.in-Some.is)
    (ok_served c.serve_newly.result s c.args.served.now new (decided_since p (part_after p c.args.batch.now)) c.requires.nothing c.serve_newly.ensures)

pub returns-in-None : goal.returns-in-None
returns-in-None c =
    let s = c.args.service.now.service in
    subst (λ (o : Option Part). IsServed s (newly_decided o c.args.batch.now) c.args.served.now) (sym c.in-None.is) (none_served s c.args.served.now c.requires.nothing)
