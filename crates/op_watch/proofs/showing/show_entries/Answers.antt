use Rattle.std.proofs.Common.{List, ◌++◌, ◌∷◌, [], sym, ap, ◌∙◌, append-nil}
use Rattle.op_types.specs.declared.log.Entry.{Entry}
use Rattle.op_types.specs.declared.messages.Body.{Body}
use Rattle.op_types.specs.declared.messages.Body.TheVariants as body
use Rattle.op_types.specs.declared.messages.Watch.TheVariants as watch
use Rattle.op_protocol.specs.Parts.{message, messages}
use Rattle.op_watch.proofs.FirstShown.{run_shown, none_shown}
use Rattle.op_watch.proofs.showing.show_entries.Goals as goal

pub returns-in_default : goal.returns-in_default
returns-in_default c =
    let sends = c.args.sends.now in
    sym (append-nil sends)
    ∙ ap (λ (bodies : List Body). sends ++ messages c.args.conf c.args.to bodies)
    (sym (none_shown c.args.position c.args.entries.now c.in_default.ensures.none))

pub returns : goal.returns
returns c =
    let sends = c.args.sends.now in
    let conf = c.args.conf in
    let to = c.args.to in
    let at = c.args.position in
    let run : List Entry = c.in-Some.run'.now in
    c.in_ok-push.ensures.ok
    ∙ ap (λ (es : List Entry). sends ++ message conf to
    (body.Watch (watch.Shown at es)) ∷ []) c.in_ok-shown.ensures
    ∙ ap (λ (bodies : List Body). sends ++ messages conf to bodies)
    (sym (run_shown at c.args.entries.now run c.in-Some.field-0-1.now c.in-Some.ensures.cut))
