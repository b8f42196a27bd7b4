use Rattle.std.proofs.Common.{rules, Err}
use Rattle.op_outside.specs.Seen.{NetSeen}
use Rattle.op_outside.proofs.Seen.{went_wrong}
use Rattle.op_client.proofs.Runs.{stays, ran_then, out_then}
use Rattle.op_client.proofs.Turns.{wrote, wrote_no_more, wrote_end, wrote_failing, wrote_all}
use Rattle.op_client.specs.declared.call_fail.CallFail.TheVariants as fail
use Rattle.op_client.proofs.client.Client.write_left.Goals as goal

pub left-init : goal.left-init
left-init g c k = stays (g.N.Net.told c.args.net.now, g.N.Net.fault_count c.args.net.now)

pub left-preserved : goal.left-preserved
left-preserved g c k =
    let N0 : NetSeen = (g.N.Net.told c.args.net.now, g.N.Net.fault_count c.args.net.now) in
    let N1 : NetSeen = (g.N.Net.told c.left.net, g.N.Net.fault_count c.left.net) in
    let N2 : NetSeen = (g.N.Net.told c.write.new.self, g.N.Net.fault_count c.write.new.self) in
    ran_then N0 N1 N2 (c.left.invariant k) (wrote c.args.conn k c.left.self N1 N2 c.left-in-left-2.result.now c.left-in-left-2.ensures (search rules) c.took.new.self c.in-Ok-Bytes.n c.took.ensures.new (search rules) (search rules))

pub returns-in-Ok-NotYet : goal.returns-in-Ok-NotYet
returns-in-Ok-NotYet g c k =
    let N0 : NetSeen = (g.N.Net.told c.args.net.now, g.N.Net.fault_count c.args.net.now) in
    let N1 : NetSeen = (g.N.Net.told c.left.net, g.N.Net.fault_count c.left.net) in
    let N2 : NetSeen = (g.N.Net.told c.write.new.self, g.N.Net.fault_count c.write.new.self) in
    ran_then N0 N1 N2 (c.left.invariant k) (wrote_no_more c.args.conn k c.left.self N1 N2 c.left-in-left-2.result.now c.left-in-left-2.ensures (search rules) (search rules) (search rules))

pub returns-in-Ok-Ended : goal.returns-in-Ok-Ended
returns-in-Ok-Ended g c k =
    let N0 : NetSeen = (g.N.Net.told c.args.net.now, g.N.Net.fault_count c.args.net.now) in
    let N1 : NetSeen = (g.N.Net.told c.left.net, g.N.Net.fault_count c.left.net) in
    let N2 : NetSeen = (g.N.Net.told c.write.new.self, g.N.Net.fault_count c.write.new.self) in
    out_then (Err fail.NoReply) N0 N1 N2 (c.left.invariant k) (wrote_end c.args.conn k c.left.self N1 N2 c.left-in-left-2.result.now c.left-in-left-2.ensures (search rules) (search rules) (search rules))

pub returns-in-Err : goal.returns-in-Err
returns-in-Err g c k =
    let N0 : NetSeen = (g.N.Net.told c.args.net.now, g.N.Net.fault_count c.args.net.now) in
    let N1 : NetSeen = (g.N.Net.told c.left.net, g.N.Net.fault_count c.left.net) in
    let N2 : NetSeen = (g.N.Net.told c.write.new.self, g.N.Net.fault_count c.write.new.self) in
    out_then (Err fail.NetFault) N0 N1 N2 (c.left.invariant k)
    (wrote_failing c.args.conn k c.left.self N1 N2 c.left-in-left-2.result.now c.left-in-left-2.ensures (search rules) (search rules) (went_wrong _ _ c.write.result (search rules) c.write.ensures.cause))

pub returns : goal.returns
returns g c k =
    let N0 : NetSeen = (g.N.Net.told c.args.net.now, g.N.Net.fault_count c.args.net.now) in
    let N1 : NetSeen = (g.N.Net.told c.left.net, g.N.Net.fault_count c.left.net) in
    ran_then N0 N1 N1 (c.left.invariant k) (wrote_all c.args.conn k c.left.self N1 c.left-in-left.result.now c.left-in-left.ensures (search rules))
