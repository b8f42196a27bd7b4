use Rattle.std.proofs.Common.{◌++◌, Option, sym, ap, ◌∙◌, append-nil}
use Rattle.std.proofs.lemmas.Result.{IfOk-equal}
use Rattle.op_protocol.specs.Watched.{Decided, shown_of, shown_if}
use Rattle.op_watch.specs.Showing.{decided_of}
use Rattle.op_watch.proofs.showing.show_decided.Goals as goal

pub returns-in-Some : goal.returns-in-Some
returns-in-Some c =
    let sends = c.args.sends.now in
    let to = c.args.to in
    let conf = c.args.conf in
    let at = c.args.position in
    let k : Decided = decided_of c.in-Some.decided in
    IfOk-equal c.show.result c.show.new.sends (sends ++ shown_of k to conf at) _ c.show.ensures
    (ap (λ (o : Option Decided). sends ++ shown_if o to conf at) c.in-Some.ensures)

pub returns-in-None : goal.returns-in-None
returns-in-None c =
    let sends = c.args.sends.now in
    sym (append-nil sends)
    ∙ ap (λ (o : Option Decided). sends ++ shown_if o c.args.to c.args.conf c.args.position) c.in-None.ensures
