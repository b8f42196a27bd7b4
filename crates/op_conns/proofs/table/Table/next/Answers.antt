use Rattle.std.proofs.Common.{◌∙◌, ap}
use Rattle.std.proofs.Common.{nat_le}
use Rattle.std.specs.Prelude.{◌&&◌}
use Rattle.std.specs.List.{find}
use Rattle.std.specs.Map.{keys_of}
use Rattle.op_conns.specs.Tables.{Queues}
use Rattle.op_conns.proofs.Waiting.{has, first_waiting, included_is}
use Rattle.op_conns.proofs.table.Table.next.Goals as goal

pub loop-conn-init : goal.loop-conn-init
loop-conn-init c = ap (first_waiting c.args.self.now) (c.into_iter-conn-iterator.ensures.into_iter_gives ∙ c.range-conn-items.ensures.between tt) ∙ included_is c.args.self.now c.args.low c.self.inside.queues.entries ∙ ap (λ (t : Queues). find (λ d. nat_le c.args.low d && has c.args.self.now d) (keys_of t)) c.self.view_is
