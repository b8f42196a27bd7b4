use Rattle.std.proofs.Common.{arith}
use Rattle.op_types.proofs.Words.{padded}
use Rattle.op_types.proofs.short.ShortBytes.order.Goals as goal

pub returns : goal.returns
returns c =
    let a = c.args.self.now in
    let b = c.args.other.now in
    let behind = padded a.len b.len a.bytes b.bytes (omega arith) a.fits b.fits a.padded b.padded in
    cc
