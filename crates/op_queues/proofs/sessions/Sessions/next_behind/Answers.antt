use Rattle.std.proofs.Common.{◌+◌, ◌∙◌, ap, nat_le}
use Rattle.std.specs.Prelude.{◌&&◌}
use Rattle.std.specs.List.{find as first}
use Rattle.std.specs.Map.{keys_of}
use Rattle.op_serving.specs.State.{Loop}
use Rattle.op_queues.proofs.Waiting.{has, first_waiting, excluded_is}
use Rattle.op_queues.proofs.sessions.Sessions.next_behind.Goals as goal

pub loop-other-init : goal.loop-other-init
loop-other-init c =
    ap (first_waiting c.args.self.now.sessions) (c.into_iter-other-iterator.ensures.into_iter_gives ∙ c.range-other-items.ensures.between tt)
    ∙ excluded_is c.args.self.now.sessions c.args.conn c.self.inside.sessions.entries
    ∙ ap (λ (s : Loop). first (λ d. nat_le (c.args.conn + 1) d && has c.args.self.now.sessions d) (keys_of s.sessions)) c.self.view_is
