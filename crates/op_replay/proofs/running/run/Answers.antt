use Rattle.std.proofs.Common.{map, ap, ◌∙◌, arith}
use Rattle.op_runs.specs.declared.events.Event.{Event}
use Rattle.op_runs.specs.Schedules.{IsFirstRefused}
use Rattle.op_replay.proofs.FirstBad.{bad_within, bad_line}
use Rattle.op_replay.proofs.running.run.Goals as goal

pub index-requires : goal.index-requires
index-requires c =
    let all = c.in-Ok.ensures ∙ ap (map (λ (e : Event). e.line)) c.as_slice.ensures in
    let bad : IsFirstRefused c.args.members c.args.spares c.args.observers c.args.is_mirrored c.args.events c.in-Err-BadEvent.index = rw c.in-Err-BadEvent.field-0-is at c.in-Err-BadEvent.ensures.bad in
    let within = bad_within c.args.members c.args.spares c.args.observers c.args.is_mirrored c.args.events c.in-Ok.lines.items c.in-Err-BadEvent.index all bad in
    omega (arith, within, c.in-Ok.lines.ok)

pub returns-in-Err-BadEvent-clause-bad : goal.returns-in-Err-BadEvent-clause-bad
returns-in-Err-BadEvent-clause-bad c =
    let all = c.in-Ok.ensures ∙ ap (map (λ (e : Event). e.line)) c.as_slice.ensures in
    let bad : IsFirstRefused c.args.members c.args.spares c.args.observers c.args.is_mirrored c.args.events c.in-Err-BadEvent.index = rw c.in-Err-BadEvent.field-0-is at c.in-Err-BadEvent.ensures.bad in
    bad_line c.args.members c.args.spares c.args.observers c.args.is_mirrored c.args.events c.in-Ok.lines.items c.in-Err-BadEvent.index c.index.result.now all bad c.index.ensures
