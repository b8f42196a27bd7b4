use Rattle.std.proofs.lemmas.Result.{IfOk-weaker}
use Rattle.op_types.specs.declared.messages.Body.TheVariants as body
use Rattle.op_observer.specs.Plans.{Hears, Shows, Bases}
use Rattle.op_observer.proofs.Hearing.{saying, heard_shown, heard_based, heard_asked}
use Rattle.op_observer.proofs.taking.hear_member.Goals as goal

pub returns-in-Shown : goal.returns-in-Shown
returns-in-Shown c =
    let m = c.args.member.now in
    let t = c.args.stage.now in
    let s = c.args.service.now.service in
    let conf = c.args.conf in
    let w = c.args.watch in
    let at = c.in-Shown.at in
    let entries = c.in-Shown.entries in
    IfOk-weaker c.take_entries.result (Shows m s conf at entries) (Hears m t s (saying conf (body.Watch w)))
    (λ p k. heard_shown m t s conf w at entries p c.in-Shown.is k) c.take_entries.ensures

pub returns-in-Base : goal.returns-in-Base
returns-in-Base c =
    let m = c.args.member.now in
    let t = c.args.stage.now in
    let s = c.args.service.now.service in
    let conf = c.args.conf in
    let w = c.args.watch in
    let members = c.in-Base.members in
    let piece = c.in-Base.piece in
    IfOk-weaker c.take_piece.result (Bases m t conf members piece) (Hears m t s (saying conf (body.Watch w)))
    (λ p k. heard_based m t s conf w members piece p c.in-Base.is k) c.take_piece.ensures

pub returns-in-Ask : goal.returns-in-Ask
returns-in-Ask c =
    heard_asked c.args.member.now c.args.stage.now c.args.service.now.service c.args.conf c.args.watch
    c.in-Ask.field-0 c.doing_nothing.result c.in-Ask.is c.doing_nothing.ensures
