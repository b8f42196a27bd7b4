use Rattle.op_memory.proofs.Anew.{begins_anew}
use Rattle.op_memory.proofs.disk.MemDisk.forget.Goals as goal

pub returns-clause-known : goal.returns-clause-known
returns-clause-known c =
    begins_anew c.args.self.history c.in_ok-history.history c.args.self.faults.count c.args.self.script.made c.in_ok-history.ensures.bytes c.in_ok-history.ensures.state
