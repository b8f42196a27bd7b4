use Rattle.std.proofs.Common.{◌≡◌, take}
use Rattle.std.specs.Prelude.{flat_map}
use Rattle.op_protocol.specs.Promises.{dropped}
use Rattle.op_plans.proofs.dropping.all_dropped.Given as goal

abbrev pub invariant-loop-buffered : goal.invariant-loop-buffered
invariant-loop-buffered l = l.replies ≡ flat_map (λ b. dropped l.cause b) (take l.buffered-index l.buffer)
