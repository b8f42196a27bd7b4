use Rattle.std.proofs.Common.{rules, ◌+◌, Err}
use Rattle.op_outside.specs.Seen.{NetSeen}
use Rattle.op_outside.proofs.Seen.{went_wrong}
use Rattle.op_client.specs.declared.call_fail.CallFail.TheVariants as fail
use Rattle.op_client.specs.Rules.{at, turn, goes_on}
use Rattle.op_client.proofs.Runs.{quietly, ran_then, out_then, hears_then, hears_fail}
use Rattle.op_client.proofs.Turns.{waited, waited_failing}
use Rattle.op_client.proofs.client.Client.take_turn.Goals as goal

pub returns-in_err-write_left : goal.returns-in_err-write_left
returns-in_err-write_left g c k =
    let N0 : NetSeen = (g.N.Net.told c.args.net.now, g.N.Net.fault_count c.args.net.now) in
    let N1 : NetSeen = (g.N.Net.told c.write_left.new.net, g.N.Net.fault_count c.write_left.new.net) in
    hears_fail (at turn k _) c.from_residual.result c.in_err-write_left.field-0.0 N0 N1 (search rules)
    (out_then (Err c.in_err-write_left.field-0.0) N0 N0 N1 (quietly N0 (goes_on k)) (c.in_err-write_left.ensures (k + 1)))

pub returns-in_default : goal.returns-in_default
returns-in_default g c k =
    let N0 : NetSeen = (g.N.Net.told c.args.net.now, g.N.Net.fault_count c.args.net.now) in
    let N1 : NetSeen = (g.N.Net.told c.write_left.new.net, g.N.Net.fault_count c.write_left.new.net) in
    let N2 : NetSeen = (g.N.Net.told c.wait.new.self, g.N.Net.fault_count c.wait.new.self) in
    out_then (Err fail.NetFault) N0 N1 N2 (ran_then N0 N0 N1 (quietly N0 (goes_on k)) (c.in_ok-write_left.ensures (k + 1)))
    (waited_failing c.args.conn k c.write_left.new.self N1 N2 (search rules) (went_wrong _ _ c.wait.result (search rules) c.wait.ensures.cause))

pub returns : goal.returns
returns g c k =
    let N0 : NetSeen = (g.N.Net.told c.args.net.now, g.N.Net.fault_count c.args.net.now) in
    let N1 : NetSeen = (g.N.Net.told c.write_left.new.net, g.N.Net.fault_count c.write_left.new.net) in
    let N2 : NetSeen = (g.N.Net.told c.wait.new.self, g.N.Net.fault_count c.wait.new.self) in
    let N3 : NetSeen = (g.N.Net.told c.take_happenings.new.net, g.N.Net.fault_count c.take_happenings.new.net) in
    hears_then (at turn k c.take_happenings.new.self) c.take_happenings.result N0 N2 N3
    (ran_then N0 N1 N2 (ran_then N0 N0 N1 (quietly N0 (goes_on k)) (c.in_ok-write_left.ensures (k + 1)))
    (waited c.args.conn k c.write_left.new.self N1 N2 c.in-Ok.happened (search rules) (search rules)))
    (c.take_happenings.ensures k)
