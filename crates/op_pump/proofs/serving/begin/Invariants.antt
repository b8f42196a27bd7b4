use Rattle.std.proofs.Common.{◌≡◌, drop}
use Rattle.op_pump.specs.Serving.{knows, begun}
use Rattle.op_pump.proofs.serving.begin.Given as goal

abbrev pub invariant-loop-peer : goal.invariant-loop-peer
invariant-loop-peer l = knows (drop l.peer-index l.settings.peers) l.sessions ≡ begun l.settings.peers l.me
