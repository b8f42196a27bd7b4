use Rattle.std.proofs.Common.{true, false}
use Rattle.op_serving.specs.Handing.{proposed, sent_all, replied_all}
use Rattle.op_queues.proofs.Settling.{does_then}
use Rattle.op_queues.proofs.Sending.{blind_sent_all, blind_replied_all}
use Rattle.op_serving.specs.State.{Loop}
use Rattle.op_driver.proofs.answering.hand_out.Goals as goal

pub returns : goal.returns
returns c =
    let g = c.args.given in
    let first = does_then (proposed c.args.wanted g.outcome) (sent_all g.sends) (blind_sent_all g.sends) c.propose.ensures c.send_all.ensures in
    let second = does_then (λ (s : Loop). sent_all g.sends (proposed c.args.wanted g.outcome s)) (replied_all false g.replies) (blind_replied_all false g.replies) first c.reply_all.ensures in
    does_then (λ (s : Loop). replied_all false g.replies (sent_all g.sends (proposed c.args.wanted g.outcome s))) (replied_all true g.read_replies) (blind_replied_all true g.read_replies) second c.reply_all-2.ensures
