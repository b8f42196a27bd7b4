use Rattle.std.proofs.Common.{◌≡◌, ◌∷◌, [], arith, rules}
use Rattle.op_gen.specs.Draws.{put_of}
use Rattle.op_gen.proofs.Servers.{put_in_range}
use Rattle.op_gen.proofs.draws.one_put.Goals as goal

pub returns-clause-range : goal.returns-clause-range
returns-clause-range c =
    let same : c.push.new.self ≡ put_of c.args.client c.args.number c.args.key ∷ [] = search rules in
    rw same (put_in_range c.args.client c.args.number c.args.key c.requires.client c.requires.number (omega arith))
