use Rattle.std.proofs.Common.{◌≡◌, Bool, true, false, IsTrue, refl, sym, arith}
use Rattle.op_record.specs.Forms.{is_base}
use Rattle.op_record.proofs.Bases.{test_is_base, base_is_tested}
use Rattle.op_record.proofs.base.is_base.Goals as goal

same_test : (a b : Bool) → (IsTrue a → IsTrue b) → (IsTrue b → IsTrue a) → a ≡ b
same_test true b there back = sym (there refl)
same_test false true there back = back refl
same_test false false there back = refl

pub returns : goal.returns
returns c = same_test c.is_base.result (is_base c.args.bytes.now)
    (λ t. base_is_tested c.args.bytes.now (c.is_base.ensures.0 t) (omega arith))
    (λ t. c.is_base.ensures.1 (test_is_base c.args.bytes.now (λ i. omega (arith, c.type_inv.bytes i)) t))
