use Rattle.std.proofs.Common.{refl, rules}
use Rattle.op_executions.proofs.Worlds.{starts}
use Rattle.op_executions.proofs.world.ServerWorld.new.Goals as goal

pub returns-clause-run : goal.returns-clause-run
returns-clause-run g c =
    starts g.S.Server.kind _ c.args.members c.args.spares.now c.args.observers.now refl c.requires.members c.requires.spares c.requires.observers (search rules) (search rules) c.new.ensures.items (search rules) refl (search rules)
