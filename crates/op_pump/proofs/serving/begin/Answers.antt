use Rattle.std.proofs.Common.{◌≡◌, [], drop, length, sym, ap, ◌∙◌, arith}
use Rattle.std.proofs.lemmas.List.{drop_all}
use Rattle.op_pump.specs.Serving.{knows}
use Rattle.op_pump.proofs.serving.begin.Goals as goal

-- src/serving.rt:74:1
pub returns : goal.returns
returns c =
    let long : length c.as_slice-peer-items.result.now ≡ length c.args.settings.now.peers = ap length c.as_slice-peer-items.ensures in
    let none : drop c.loop-peer.peer-index c.args.settings.now.peers ≡ [] =
    drop_all c.loop-peer.peer-index c.args.settings.now.peers (omega (arith, long, c.loop-peer-test.false)) in
    ap (λ ps. knows ps c.loop-peer.sessions) (sym none) ∙ c.loop-peer.invariant
