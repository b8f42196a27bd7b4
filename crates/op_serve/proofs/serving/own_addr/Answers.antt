use Rattle.std.proofs.Common.{◌≡◌, ℕ, List, take, subst}
use Rattle.std.proofs.lemmas.List.{take_all}
use Rattle.op_outside.specs.declared.net.Addr.{Addr}
use Rattle.op_serve.proofs.Peers.{Lacks, lacks_none, lacks_more}
use Rattle.op_serve.proofs.serving.own_addr.Goals as goal

pub loop-peer-init : goal.loop-peer-init
loop-peer-init c = lacks_none c.args.id

pub loop-peer-preserved : goal.loop-peer-preserved
loop-peer-preserved c = lacks_more c.as_slice-peer-items.result.now c.loop-peer.peer-index c.args.id _ c.loop-peer-test.true c.if-peer-id.false c.loop-peer.invariant

pub returns-clause-absent : goal.returns-clause-absent
returns-clause-absent c is =
    let whole : take c.loop-peer.peer-index c.as_slice-peer-items.result.now ≡ c.as_slice-peer-items.result.now = take_all _ _ c.loop-peer-test.false in
    subst (λ (peers : List (ℕ × Addr)). Lacks peers c.args.id) (rw (← c.as_slice-peer-items.ensures) whole) c.loop-peer.invariant
