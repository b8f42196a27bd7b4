use Rattle.std.proofs.Common.{ℕ, Vec, Global, sym, subst}
use Rattle.std.specs.Prelude.{IfOk}
use Rattle.op_areas.specs.Calls.{IsImageAt}
use Rattle.op_areas.specs.declared.copy_call.CopyCall.{CopyCall}
use Rattle.op_areas.proofs.mirror.image_at.Goals as goal

pub returns-in-Stopped-clause-image : goal.returns-in-Stopped-clause-image
returns-in-Stopped-clause-image c =
    subst (λ (k : CopyCall). IfOk c.image.result (λ (x : Vec ℕ Global). IsImageAt k c.args.disk.now c.args.image x.items)) (sym c.in-Stopped.is) c.image.ensures

pub returns-in-Done-clause-image : goal.returns-in-Done-clause-image
returns-in-Done-clause-image c =
    subst (λ (k : CopyCall). IfOk c.image_done.result (λ (x : Vec ℕ Global). IsImageAt k c.args.disk.now c.args.image x.items)) (sym c.in-Done.is) c.image_done.ensures

pub returns-in-Missing-clause-image : goal.returns-in-Missing-clause-image
returns-in-Missing-clause-image c =
    subst (λ (k : CopyCall). IfOk c.image_before.result (λ (x : Vec ℕ Global). IsImageAt k c.args.disk.now c.args.image x.items)) (sym c.in-Missing.is) c.image_before.ensures
