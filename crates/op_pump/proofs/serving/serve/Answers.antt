use Rattle.std.proofs.Common.{rules, refl, sym, ◌∙◌, ap, subst, ◌≡◌, ◌≤◌, ◌+◌, ◌*◌, length, arith}
use Rattle.op_outside.specs.Seen.{NetSeen}
use Rattle.op_serving.specs.State.{Loop}
use Rattle.op_serving.specs.Losses.{most_marks}
use Rattle.op_driver.specs.Driver.{Served}
use Rattle.op_pump.specs.Moments.{set_of, TurnsGo}
use Rattle.op_pump.specs.Serving.{begun, ServesNode}
use Rattle.op_serving.specs.Counts.{most_inputs}
use Rattle.op_pump.specs.Counts.{most_in_turn}
use Rattle.op_pump.proofs.Counting.{is_short}
use Rattle.op_pump.proofs.Ends.{serves, begun_idle}
use Rattle.op_pump.proofs.serving.serve.Goals as goal

pub take_turns-end-requires-clause-idle : goal.take_turns-end-requires-clause-idle
take_turns-end-requires-clause-idle g c =
    let h = begun_idle c.args.settings.now.peers c.me.result c.new.result.loop (ap (λ (x : Served _). x.loop) c.new.ensures ∙ search rules) in
    record { idle = h.idle; turn = refl; at = refl }

pub take_turns-end-requires-clause-turns : goal.take_turns-end-requires-clause-turns
take_turns-end-requires-clause-turns g c =
    let h = begun_idle c.args.settings.now.peers c.me.result c.new.result.loop (ap (λ (x : Served _). x.loop) c.new.ensures ∙ search rules) in
    omega (arith, h.turn, c.new-in-Ok.ensures.range)

pub returns-in-Ok-clause-serves : goal.returns-in-Ok-clause-serves
returns-in-Ok-clause-serves g c =
    let o = c.args.settings.now in
    let d = c.new.result in
    let e = c.take_turns-end.new.self.driver in
    let n0 : NetSeen = (g.N.Net.told c.args.net.now, g.N.Net.fault_count c.args.net.now) in
    let n1 : NetSeen = (g.N.Net.told c.take_turns-end.new.net, g.N.Net.fault_count c.take_turns-end.new.net) in
    let k0 = g.C.Clock.answers c.args.clock.now in
    let k1 = g.C.Clock.answers c.millis-start.new.self in
    let k2 = g.C.Clock.answers c.take_turns-end.new.clock in
    let marks = c.into_lost.result.items in
    let begun_is : c.in-Ok.sessions ≡ begun o.peers c.me.result = search rules in
    let core_is : d.core ≡ c.args.core = ap (λ (x : Served _). x.core) c.new.ensures in
    let loop_is : d.loop ≡ begun o.peers (g.K.Core.standing d.core).me = ap (λ (x : Served _). x.loop) c.new.ensures ∙ begun_is
    ∙ ap (begun o.peers) (c.me.ensures.me ∙ ap (λ k. (g.K.Core.standing k).me) (sym core_is)) in
    let node_is : d.node ≡ g.K.Core.standing d.core = ap (λ (x : Served _). x.node) c.new.ensures ∙ ap g.K.Core.standing (sym core_is) in
    let last_is : e.node ≡ g.K.Core.standing e.core = sym c.into_parts-core.ensures.node ∙ ap g.K.Core.standing c.into_parts-core.ensures.core in
    let lost_is : marks ≡ e.loop.lost = c.into_lost.ensures.lost ∙ ap (λ (s : Loop). s.lost) c.into_parts-core.ensures.sessions in
    let most : length e.loop.lost ≤ most_marks = subst (λ xs. length xs ≤ most_marks) lost_is c.into_lost.ensures.most in
    let short = is_short o (g.K.Core.standing d.core).me d.loop e.loop c.requires.limits loop_is
    (subst (λ t. most_inputs e.loop ≤ most_inputs d.loop + t.left * most_in_turn (length o.peers)) c.new-in-Ok.ensures.is c.take_turns-end.ensures.most) in
    let goes = subst (λ t. TurnsGo g.K.Core.stores (set_of o) g.K.Core.line c.take_turns-end.result t d c.take_turns-end.new.self.timer e n0 n1 k1 k2)
    c.new-in-Ok.ensures.is c.take_turns-end.ensures.goes in
    subst (λ m. ServesNode g.K.Core.standing g.K.Core.stores o g.K.Core.line c.take_turns-end.result marks c.args.core m n0 n1 k0 k2)
    (sym c.into_parts-core.ensures.core)
    (subst (λ k. ServesNode g.K.Core.standing g.K.Core.stores o g.K.Core.line c.take_turns-end.result marks k e.core n0 n1 k0 k2) core_is
    (serves o g.K.Core.line c.take_turns-end.result marks c.millis-start.result c.take_turns-end.new.self.timer d e n0 n1 k0 k1 k2 loop_is node_is last_is
    lost_is most short c.millis-start.ensures goes))
