use Rattle.std.proofs.Common.{take}
use Rattle.op_serve.proofs.Peers.{Lacks}
use Rattle.op_serve.proofs.serving.own_addr.Given as goal

-- no peer so far has the id
abbrev pub invariant-loop-peer : goal.invariant-loop-peer
invariant-loop-peer l = Lacks (take l.peer-index l.peer-items) l.fn.id
