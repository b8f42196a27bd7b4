use Rattle.std.proofs.Common.{◌≡◌, refl, ◌∙◌}
use Rattle.op_call.specs.Calls.{said_line, is_told, is_cut, is_untold, has_no_reply}
use Rattle.op_call.proofs.calling.call_node.Goals as goal

pub returns-in-Err : goal.returns-in-Err
returns-in-Err g c = rw c.status_of.ensures (has_no_reply c.in-Err.ensures refl)

pub returns-in_default : goal.returns-in_default
returns-in_default g c = is_untold c.in-Ok.ensures refl

pub returns-in-Ok-write_all : goal.returns-in-Ok-write_all
returns-in-Ok-write_all g c =
    let text : c.deref.result.now ≡ said_line c.in-Ok.reply.said = c.deref.ensures.value ∙ c.in-Ok-reply_line.ensures in
    is_told c.in-Ok.ensures (rw (← text) c.in-Ok-write_all.ensures.all) c.in-Ok-write_all.ensures.cause.ok

pub returns : goal.returns
returns g c =
    let text : c.deref.result.now ≡ said_line c.in-Ok.reply.said = c.deref.ensures.value ∙ c.in-Ok-reply_line.ensures in
    is_cut c.in-Ok.ensures (rw (← text) c.in-Err-write_all.ensures.prefix) (c.in-Err-write_all.ensures.cause.err refl)
