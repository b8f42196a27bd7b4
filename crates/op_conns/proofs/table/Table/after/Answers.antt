use Rattle.std.proofs.Common.{◌∙◌, ap, ◌+◌}
use Rattle.std.proofs.Common.{nat_le}
use Rattle.std.specs.Prelude.{◌&&◌}
use Rattle.std.specs.List.{find}
use Rattle.std.specs.Map.{keys_of}
use Rattle.op_conns.specs.Tables.{Queues}
use Rattle.op_conns.proofs.Waiting.{has, first_waiting, excluded_is}
use Rattle.op_conns.proofs.table.Table.after.Goals as goal

pub loop-later-init : goal.loop-later-init
loop-later-init c = ap (first_waiting c.args.self.now) (c.into_iter-later-iterator.ensures.into_iter_gives ∙ c.range-later-items.ensures.between tt) ∙ excluded_is c.args.self.now c.args.conn c.self.inside.queues.entries ∙ ap (λ (t : Queues). find (λ d. nat_le (c.args.conn + 1) d && has c.args.self.now d) (keys_of t)) c.self.view_is
