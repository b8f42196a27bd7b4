use Rattle.op_memory.proofs.Gathering.{pend_alike, gathered_alike}
use Rattle.op_memory.specs.Histories.{start_of}
use Rattle.op_memory.proofs.disk.MemDisk.pends_as.Goals as goal

pub returns : goal.returns
returns c =
    let h = c.args.self.now.history in
    let k = c.args.other.now.history in (
      λ is. pend_alike (start_of h) (start_of k) h.calls.items k.calls.items c.in_ok-pends.pends c.in_ok-others.others c.in_ok-pends.ensures c.in_ok-others.ensures (c.is_same.ensures.0 is),
      λ alike. c.is_same.ensures.1 (gathered_alike (start_of h) (start_of k) h.calls.items k.calls.items c.in_ok-pends.pends c.in_ok-others.others c.in_ok-pends.ensures c.in_ok-others.ensures alike),
    )
