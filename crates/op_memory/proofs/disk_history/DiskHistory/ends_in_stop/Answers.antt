use Rattle.std.proofs.Common.{sym, ◌∙◌}
use Rattle.op_memory.proofs.Stops.{ends_as}
use Rattle.op_memory.proofs.disk_history.DiskHistory.ends_in_stop.Goals as goal

pub returns : goal.returns
returns c =
    c.is_stop.ensures
    ∙ ends_as c.args.self.now.calls.items c.in-Some.field-0-1.now c.in-Some.last.now (sym c.as_slice.ensures.value ∙ c.in-Some.ensures.cases.0)
