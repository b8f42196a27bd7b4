use Rattle.std.proofs.Common.{◌∙◌, ap, nat_le}
use Rattle.std.specs.Prelude.{◌&&◌}
use Rattle.std.specs.List.{find as first}
use Rattle.std.specs.Map.{keys_of}
use Rattle.op_serving.specs.State.{Loop}
use Rattle.op_queues.proofs.Waiting.{has, first_waiting, included_is}
use Rattle.op_queues.proofs.sessions.Sessions.next_to_write.Goals as goal

pub loop-conn-init : goal.loop-conn-init
loop-conn-init c =
    ap (first_waiting c.args.self.now.sessions) (c.into_iter-conn-iterator.ensures.into_iter_gives ∙ c.range-conn-items.ensures.between tt)
    ∙ included_is c.args.self.now.sessions c.args.low c.self.inside.sessions.entries
    ∙ ap (λ (s : Loop). first (λ d. nat_le c.args.low d && has c.args.self.now.sessions d) (keys_of s.sessions)) c.self.view_is
