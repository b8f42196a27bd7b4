use Rattle.std.proofs.Common.{◌≡◌, flat_map}
use Rattle.op_serving.specs.State.{conn_of}
use Rattle.op_queues.specs.Filling.{first_over}
use Rattle.op_queues.proofs.sessions.Sessions.overfull_peer.Given as goal

abbrev pub invariant-loop-peer : goal.invariant-loop-peer
invariant-loop-peer l = first_over l.self.sessions (flat_map conn_of l._peer-iterator) ≡ first_over l.self.sessions (flat_map conn_of l.self.peers)
