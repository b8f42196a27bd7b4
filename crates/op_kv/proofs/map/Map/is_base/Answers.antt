use Rattle.std.proofs.Common.{length, refl, arith}
use Rattle.std.specs.Prelude.{Some, None}
use Rattle.op_kv.proofs.BaseIs.{decides_base}
use Rattle.op_kv.proofs.map.Map.is_base.Goals as goal

pub returns-in-Some : goal.returns-in-Some
returns-in-Some c = decides_base c.args.bytes.now (length c.args.bytes.now) (Some c.in-Some.end) (λ i. omega (arith, c.type_inv.bytes i)) refl (omega arith) c.in-Some.ensures

pub returns-in-None : goal.returns-in-None
returns-in-None c = decides_base c.args.bytes.now (length c.args.bytes.now) None (λ i. omega (arith, c.type_inv.bytes i)) refl (omega arith) c.in-None.ensures
