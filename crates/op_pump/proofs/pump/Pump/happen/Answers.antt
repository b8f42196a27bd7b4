use Rattle.std.proofs.Common.{inl, inr, subst, sym}
use Rattle.op_pump.proofs.Steps.{still_happened}
use Rattle.op_driver.specs.Driver.{Acts}
use Rattle.op_driver.proofs.Stepping.{run_from}
use Rattle.op_pump.specs.Moments.{happened}
use Rattle.op_pump.proofs.pump.Pump.happen.Goals as goal

pub returns-in-Readable-clause-acts : goal.returns-in-Readable-clause-acts
returns-in-Readable-clause-acts g c = still_happened c.in-Readable.field-0 c.args.happening c.args.self.now.driver (inl c.in-Readable.is)

pub returns-in-Writable-clause-acts : goal.returns-in-Writable-clause-acts
returns-in-Writable-clause-acts g c = still_happened c.in-Writable.field-0 c.args.happening c.args.self.now.driver (inr c.in-Writable.is)

pub returns-in-Ended-clause-acts : goal.returns-in-Ended-clause-acts
returns-in-Ended-clause-acts g c =
    subst (λ h. Acts g.K.Core.stores (λ l s. happened l h s) c.args.self.now.driver c.end.new.self) (sym c.in-Ended.is) (run_from c.end.ensures.does)
