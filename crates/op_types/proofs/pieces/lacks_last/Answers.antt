use Rattle.std.proofs.Common.{◌≡◌, ℕ, ◌-◌, Bool, true, false, not, length, Option, Some, None, refl, arith}
use Rattle.std.specs.Prelude.{is_some, IsTrue}
use Rattle.op_types.proofs.Pieced.{one_missing}
use Rattle.op_types.proofs.pieces.lacks_last.Goals as goal

none_of : (o : Option ℕ) (b : Bool) → IsTrue b → is_some o ≡ not b → o ≡ None
none_of None b t is = refl
none_of (Some x) true t is = absurd cc
none_of (Some x) false t is = absurd cc

pub returns-then-len-gt0 : goal.returns-then-len-gt0
returns-then-len-gt0 c =
    λ t. one_missing c.args.places.now (length c.args.places.now - 1) _ (omega (arith, c.if-len-gt0.true)) (none_of _ c.is_none.result t c.is_none.ensures)
