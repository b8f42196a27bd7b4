use Rattle.std.proofs.Common.{◌+◌, [], ℕ, List, refl, drop, get_or}
use Rattle.std.proofs.lemmas.List.{drop_more, drop_all}
use Rattle.op_command.specs.declared.said.Said.{Said}
use Rattle.op_command.specs.Replies.{said_of as denied}
use Rattle.op_serving.specs.State.{Key}
use Rattle.op_serving.specs.Handing.{Told, of_command, said_each, told, told_all}
use Rattle.op_queues.proofs.Settling.{does_then, does_nothing}
use Rattle.op_queues.proofs.Sending.{blind_told_all}
use Rattle.op_queues.proofs.sessions.Sessions.deny_all.Goals as goal

pub loop-conn-init : goal.loop-conn-init
loop-conn-init c = λ t d. d

pub loop-conn-preserved : goal.loop-conn-preserved
loop-conn-preserved c = λ t d.
    let keys = c.args.keys.now in
    let n = c.loop-conn.conn-index in
    let p : ℕ × Key = get_or keys n (0, (0, 0)) in
    let what : Said = denied c.args.why in
    let left : List Told = said_each (drop (n + 1) keys) what in
    c.loop-conn.invariant t (rw (drop_more keys n (0, (0, 0)) c.loop-conn-test.true)
    (does_then (told p.0 (of_command p.1 what)) (told_all left) (blind_told_all left) c.deny.ensures d))

pub returns : goal.returns
returns c =
    c.loop-conn.invariant c.loop-conn.self
    (rw (drop_all c.loop-conn.conn-index c.args.keys.now c.loop-conn-test.false) (does_nothing (told_all []) c.loop-conn.self refl))

pub deny-requires-clause-key : goal.deny-requires-clause-key
deny-requires-clause-key c = c.requires.keys c.loop-conn.conn-index (0, (0, 0)) c.loop-conn-test.true
