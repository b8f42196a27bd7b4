use Rattle.std.proofs.Common.{rules, subst, ◌≡◌, ◌+◌, Ok, Err}
use Rattle.op_outside.specs.Seen.{NetSeen}
use Rattle.op_client.specs.Rules.{at, ask, turn, has_asked}
use Rattle.op_client.specs.Run.{Ran}
use Rattle.op_client.proofs.Runs.{stays, quietly, ran_then, out_then, hears_fail, hears_one, hears_none}
use Rattle.op_client.proofs.client.Client.take_happenings.Goals as goal

pub loop-i-init : goal.loop-i-init
loop-i-init g c = record { ran = λ k. stays (g.N.Net.told c.args.net.now, g.N.Net.fault_count c.args.net.now); given = c.requires }

pub returns-in_err-reply : goal.returns-in_err-reply
returns-in_err-reply g c k =
    let N0 : NetSeen = (g.N.Net.told c.args.net.now, g.N.Net.fault_count c.args.net.now) in
    let N1 : NetSeen = (g.N.Net.told c.loop-i.net, g.N.Net.fault_count c.loop-i.net) in
    let N2 : NetSeen = (g.N.Net.told c.take_happening.new.net, g.N.Net.fault_count c.take_happening.new.net) in
    hears_fail (at turn k _) c.from_residual.result c.in_err-reply.field-0.0 N0 N2 (search rules)
    (out_then (Err c.in_err-reply.field-0.0) N0 N1 N2 (c.loop-i.invariant.ran k) (c.in_err-reply.ensures.hears k c.args.happened c.loop-i-test.true))

pub returns-in-Some : goal.returns-in-Some
returns-in-Some g c k =
    let N0 : NetSeen = (g.N.Net.told c.args.net.now, g.N.Net.fault_count c.args.net.now) in
    let N1 : NetSeen = (g.N.Net.told c.loop-i.net, g.N.Net.fault_count c.loop-i.net) in
    let N2 : NetSeen = (g.N.Net.told c.take_happening.new.net, g.N.Net.fault_count c.take_happening.new.net) in
    out_then (Ok c.in-Some.reply) N0 N1 N2 (c.loop-i.invariant.ran k)
    (hears_one (at (ask (c.loop-i.i + 1) c.args.happened) k c.take_happening.new.self) c.in_ok-reply.field-0 c.in-Some.reply N1 N2 c.in-Some.is (c.in_ok-reply.ensures.hears k c.args.happened c.loop-i-test.true))

pub loop-i-preserved : goal.loop-i-preserved
loop-i-preserved g c =
    let N0 : NetSeen = (g.N.Net.told c.args.net.now, g.N.Net.fault_count c.args.net.now) in
    let N1 : NetSeen = (g.N.Net.told c.loop-i.net, g.N.Net.fault_count c.loop-i.net) in
    let N2 : NetSeen = (g.N.Net.told c.take_happening.new.net, g.N.Net.fault_count c.take_happening.new.net) in
    record { ran = λ k. ran_then N0 N1 N2 (c.loop-i.invariant.ran k) (hears_none c.in_ok-reply.field-0 N1 N2 c.in_default.is (c.in_ok-reply.ensures.hears k c.args.happened c.loop-i-test.true)); given = search rules }

pub returns : goal.returns
returns g c k =
    let N0 : NetSeen = (g.N.Net.told c.args.net.now, g.N.Net.fault_count c.args.net.now) in
    let N1 : NetSeen = (g.N.Net.told c.loop-i.net, g.N.Net.fault_count c.loop-i.net) in
    let e : c.loop-i.i ≡ c.args.happened = search rules in
    ran_then N0 N1 N1 (subst (λ i. Ran c.args.conn (at (ask 0 c.args.happened) k c.args.self.now) (at (ask i c.args.happened) k c.loop-i.self) N0 N1) e (c.loop-i.invariant.ran k)) (quietly N1 has_asked)
