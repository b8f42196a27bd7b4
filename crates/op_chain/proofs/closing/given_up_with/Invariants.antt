use Rattle.std.proofs.Common.{◌≡◌, ◌++◌, take}
use Rattle.std.specs.Prelude.{flat_map}
use Rattle.op_protocol.specs.Promises.{dropped}
use Rattle.op_chain.proofs.closing.given_up_with.Given as goal

abbrev pub invariant-buffered : goal.invariant-buffered
invariant-buffered l = l.replies ≡ l.initial.replies ++ flat_map (λ b. dropped l.cause b) (take l.buffered-index l.more)
