use Rattle.std.proofs.Common.{rules, flat_map}
use Rattle.std.proofs.lemmas.List.Folds.{find-append}
use Rattle.std.specs.Map.{keys_of}
use Rattle.op_serving.specs.State.{find, is_overfull, conn_of}
use Rattle.op_queues.proofs.sessions.Sessions.next_overfull.Goals as goal

pub returns-in-Some-clause-next : goal.returns-in-Some-clause-next
returns-in-Some-clause-next c =
    let s = c.args.self.now in rw (find-append (λ n. is_overfull (find n s.sessions)) (flat_map conn_of s.peers) (keys_of s.sessions)) (search rules)

pub returns-in-None-clause-next : goal.returns-in-None-clause-next
returns-in-None-clause-next c =
    let s = c.args.self.now in rw (find-append (λ n. is_overfull (find n s.sessions)) (flat_map conn_of s.peers) (keys_of s.sessions)) (search rules)
