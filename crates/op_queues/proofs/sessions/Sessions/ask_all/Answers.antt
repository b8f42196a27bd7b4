use Rattle.std.proofs.Common.{◌+◌, [], ℕ, List, false, refl, drop, get_or}
use Rattle.std.proofs.lemmas.List.{drop_more, drop_all}
use Rattle.op_serving.specs.State.{Key}
use Rattle.op_serving.specs.Handing.{asked_by_one, asked}
use Rattle.op_queues.proofs.Settling.{does_then, does_nothing}
use Rattle.op_queues.proofs.Asking.{blind_asked}
use Rattle.op_queues.proofs.sessions.Sessions.ask_all.Goals as goal

pub loop-conn-init : goal.loop-conn-init
loop-conn-init c = λ t d. d

pub loop-conn-preserved : goal.loop-conn-preserved
loop-conn-preserved c = λ t d.
    let keys = c.args.keys.now in
    let n = c.loop-conn.conn-index in
    let left : List (ℕ × Key) = drop (n + 1) keys in
    let p : ℕ × Key = get_or keys n (0, (0, 0)) in
    c.loop-conn.invariant t
    (rw (drop_more keys n (0, (0, 0)) c.loop-conn-test.true) (does_then (asked_by_one false p) (asked false left) (blind_asked false left) c.ask.ensures d))

pub returns : goal.returns
returns c =
    c.loop-conn.invariant c.loop-conn.self
    (rw (drop_all c.loop-conn.conn-index c.args.keys.now c.loop-conn-test.false) (does_nothing (asked false []) c.loop-conn.self refl))
