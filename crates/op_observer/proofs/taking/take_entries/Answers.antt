use Rattle.std.proofs.Common.{◌≡◌, Option, Some, sym, ◌∙◌, subst}
use Rattle.std.specs.Prelude.{IfSome, List, ◌+◌, ◌≤◌, length}
use Rattle.std.proofs.lemmas.Result.{IfOk-weaker}
use Rattle.op_types.specs.Changes.{len_of, EndsNowhere}
use Rattle.op_types.specs.Limits.{positions_end}
use Rattle.op_types.specs.declared.log.Entry.{Entry}
use Rattle.op_watch.specs.Plans.{lacking}
use Rattle.op_observer.specs.Plans.{Shows, Takes}
use Rattle.op_observer.proofs.Heard.{shows_none, shows_some}
use Rattle.op_observer.proofs.taking.take_entries.Goals as goal

pub take_new-requires-clause-room : goal.take_new-requires-clause-room
take_new-requires-clause-room c =
    let part = c.args.member.now.part.now in
    subst (λ (o : Option (List Entry)). IfSome o
    (λ new. len_of part + length new ≤ positions_end)) c.in-Some.is
    c.in_ok-new.ensures.room

pub take_new-requires-clause-stops : goal.take_new-requires-clause-stops
take_new-requires-clause-stops c =
    subst (λ (o : Option (List Entry)). IfSome o (EndsNowhere c.args.member.now.part.now.conf)) c.in-Some.is
    c.in_ok-new.ensures.stops

pub returns-in-Some : goal.returns-in-Some
returns-in-Some c =
    let m = c.args.member.now in
    let s = c.args.service.now.service in
    let conf = c.args.conf in
    let at = c.args.at in
    let entries = c.args.entries in
    let new = c.in-Some.new in
    let lacks : lacking m.part.now conf at entries ≡ Some new = sym c.in_ok-new.ensures.lacks
    ∙ c.in-Some.is in
    IfOk-weaker c.take_new.result (Takes m s new) (Shows m s conf at entries)
    (λ p k. shows_some m s conf at entries new lacks p k) c.take_new.ensures

pub returns-in-None : goal.returns-in-None
returns-in-None c =
    shows_none c.args.member.now c.args.service.now.service c.args.conf c.args.at c.args.entries
    (sym c.in_ok-new.ensures.lacks ∙ c.in-None.is) c.doing_nothing.result c.doing_nothing.ensures
