use Rattle.std.proofs.Common.{ℕ, Vec, Global, rules}
use Rattle.std.proofs.lemmas.Result.{IfOk-weaker}
use Rattle.op_memory.specs.Images.{IsFilled, LeftNow}
use Rattle.op_memory.specs.Histories.{start_of, state_before}
use Rattle.op_memory.proofs.Stops.{filled_before_left}
use Rattle.op_memory.proofs.disk_history.DiskHistory.filled_before.Goals as goal

pub returns-clause-filled : goal.returns-clause-filled
returns-clause-filled c = search rules

pub returns-clause-left : goal.returns-clause-left
returns-clause-left c =
    IfOk-weaker c.filled_by.result (λ (x : Vec ℕ Global). IsFilled (state_before c.args.self.now).pending c.args.byte x.items)
    (λ (x : Vec ℕ Global). LeftNow (start_of c.args.self.now) c.args.self.now.calls.items x.items)
    (λ x is. filled_before_left (start_of c.args.self.now) c.args.self.now.calls.items c.args.byte x.items is)
    (returns-clause-filled c)
