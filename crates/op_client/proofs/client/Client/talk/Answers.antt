use Rattle.std.proofs.Common.{rules, subst, ◌≡◌, ◌+◌, ◌-◌, ℕ, Ok, Err, arith}
use Rattle.op_outside.specs.Seen.{NetSeen}
use Rattle.op_client.specs.Rules.{most_waits, at, turn, turns_over}
use Rattle.op_client.specs.Run.{Ran}
use Rattle.op_client.proofs.Runs.{stays, quietly, ran_then, out_then, out_fail, hears_one, hears_none}
use Rattle.op_client.proofs.client.Client.talk.Goals as goal

pub loop-init : goal.loop-init
loop-init g c = stays (g.N.Net.told c.args.net.now, g.N.Net.fault_count c.args.net.now)

pub returns-in_err-reply : goal.returns-in_err-reply
returns-in_err-reply g c =
    let N0 : NetSeen = (g.N.Net.told c.args.net.now, g.N.Net.fault_count c.args.net.now) in
    let N1 : NetSeen = (g.N.Net.told c.loop.net, g.N.Net.fault_count c.loop.net) in
    let N2 : NetSeen = (g.N.Net.told c.take_turn.new.net, g.N.Net.fault_count c.take_turn.new.net) in
    let k : ℕ = most_waits - (c.loop.counter + 1) in
    let e : most_waits - c.loop.counter ≡ k + 1 = omega (arith, c.loop-test.true) in
    let upto : Ran c.args.conn (at turn most_waits c.args.self) (at turn (k + 1) c.loop.self) N0 N1 =
    subst (λ i. Ran c.args.conn (at turn most_waits c.args.self) (at turn i c.loop.self) N0 N1) e c.loop.invariant in
    out_fail c.from_residual.result c.in_err-reply.field-0.0 N0 N2 (search rules) (out_then (Err c.in_err-reply.field-0.0) N0 N1 N2 upto (c.in_err-reply.ensures k))

pub returns-in-Some : goal.returns-in-Some
returns-in-Some g c =
    let N0 : NetSeen = (g.N.Net.told c.args.net.now, g.N.Net.fault_count c.args.net.now) in
    let N1 : NetSeen = (g.N.Net.told c.loop.net, g.N.Net.fault_count c.loop.net) in
    let N2 : NetSeen = (g.N.Net.told c.take_turn.new.net, g.N.Net.fault_count c.take_turn.new.net) in
    let k : ℕ = most_waits - (c.loop.counter + 1) in
    let e : most_waits - c.loop.counter ≡ k + 1 = omega (arith, c.loop-test.true) in
    let upto : Ran c.args.conn (at turn most_waits c.args.self) (at turn (k + 1) c.loop.self) N0 N1 =
    subst (λ i. Ran c.args.conn (at turn most_waits c.args.self) (at turn i c.loop.self) N0 N1) e c.loop.invariant in
    out_then (Ok c.in-Some.reply) N0 N1 N2 upto (hears_one (at turn k c.take_turn.new.self) c.in_ok-reply.field-0 c.in-Some.reply N1 N2 c.in-Some.is (c.in_ok-reply.ensures k))

pub loop-preserved : goal.loop-preserved
loop-preserved g c =
    let N0 : NetSeen = (g.N.Net.told c.args.net.now, g.N.Net.fault_count c.args.net.now) in
    let N1 : NetSeen = (g.N.Net.told c.loop.net, g.N.Net.fault_count c.loop.net) in
    let N2 : NetSeen = (g.N.Net.told c.take_turn.new.net, g.N.Net.fault_count c.take_turn.new.net) in
    let k : ℕ = most_waits - (c.loop.counter + 1) in
    let e : most_waits - c.loop.counter ≡ k + 1 = omega (arith, c.loop-test.true) in
    let upto : Ran c.args.conn (at turn most_waits c.args.self) (at turn (k + 1) c.loop.self) N0 N1 =
    subst (λ i. Ran c.args.conn (at turn most_waits c.args.self) (at turn i c.loop.self) N0 N1) e c.loop.invariant in
    ran_then N0 N1 N2 upto (hears_none c.in_ok-reply.field-0 N1 N2 c.in_default.is (c.in_ok-reply.ensures k))

pub returns : goal.returns
returns g c =
    let N0 : NetSeen = (g.N.Net.told c.args.net.now, g.N.Net.fault_count c.args.net.now) in
    let N1 : NetSeen = (g.N.Net.told c.loop.net, g.N.Net.fault_count c.loop.net) in
    let e : most_waits - c.loop.counter ≡ 0 = omega (arith, c.loop-test.false) in
    let upto : Ran c.args.conn (at turn most_waits c.args.self) (at turn 0 c.loop.self) N0 N1 =
    subst (λ i. Ran c.args.conn (at turn most_waits c.args.self) (at turn i c.loop.self) N0 N1) e c.loop.invariant in
    (0, c.loop.self, ran_then N0 N1 N1 upto (quietly N1 turns_over))
