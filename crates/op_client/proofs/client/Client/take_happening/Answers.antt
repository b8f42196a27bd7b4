use Rattle.std.proofs.Common.{◌+◌, Err}
use Rattle.op_outside.specs.Seen.{NetSeen}
use Rattle.op_client.specs.declared.call_fail.CallFail.TheVariants as fail
use Rattle.op_client.specs.Rules.{at, ask, read, close}
use Rattle.op_client.proofs.Runs.{hears_then}
use Rattle.op_client.proofs.Turns.{readied, of_own_bytes, of_own_end, of_other_bytes, of_other_end, of_neither}
use Rattle.op_client.proofs.client.Client.take_happening.Goals as goal
use Rattle.op_client.proofs.client.Client.take_happening.Goals.{in_default-via-in-Readable+else-c-conn, in_default-via-in-Ended+else-c-conn-2, in_default-via-in_default}

pub returns-in-Readable-clause-hears : goal.returns-in-Readable-clause-hears
returns-in-Readable-clause-hears g c k n lt =
    let N0 : NetSeen = (g.N.Net.told c.args.net.now, g.N.Net.fault_count c.args.net.now) in
    let N1 : NetSeen = (g.N.Net.told c.ready.new.self, g.N.Net.fault_count c.ready.new.self) in
    let N2 : NetSeen = (g.N.Net.told c.read.new.net, g.N.Net.fault_count c.read.new.net) in
    hears_then (at (ask (c.args.i + 1) n) k c.read.new.self) c.read.result N0 N1 N2
    (readied c.args.conn k c.args.self.now N0 N1 c.args.i n _ (read (c.args.i + 1) n) lt (of_own_bytes c.args.conn c.in-Readable.c (c.args.i + 1) n c.if-c-conn.true) c.in-Readable.ensures.tells c.ready.ensures.count)
    (c.read.ensures.hears k (c.args.i + 1) n)

pub returns-in-Ended-clause-hears : goal.returns-in-Ended-clause-hears
returns-in-Ended-clause-hears g c k n lt =
    let N0 : NetSeen = (g.N.Net.told c.args.net.now, g.N.Net.fault_count c.args.net.now) in
    let N1 : NetSeen = (g.N.Net.told c.ready.new.self, g.N.Net.fault_count c.ready.new.self) in
    (k, c.args.self.now, readied c.args.conn k c.args.self.now N0 N1 c.args.i n _ (close (Err fail.NoReply)) lt (of_own_end c.args.conn c.in-Ended.c (c.args.i + 1) n c.if-c-conn-2.true) c.in-Ended.ensures.tells c.ready.ensures.count)

pub returns-in_default-clause-hears : goal.returns-in_default-clause-hears
returns-in_default-clause-hears g c k n lt =
    let N0 : NetSeen = (g.N.Net.told c.args.net.now, g.N.Net.fault_count c.args.net.now) in
    let N1 : NetSeen = (g.N.Net.told c.ready.new.self, g.N.Net.fault_count c.ready.new.self) in
    readied c.args.conn k c.args.self.now N0 N1 c.args.i n c.ready.result (ask (c.args.i + 1) n) lt
    (elim c.in_default.branch [
      | in_default-via-in-Readable+else-c-conn w ↦ of_other_bytes c.args.conn w.in-Readable.c c.ready.result (c.args.i + 1) n w.in-Readable.is w.if-c-conn.false
      | in_default-via-in-Ended+else-c-conn-2 w ↦ of_other_end c.args.conn w.in-Ended.c c.ready.result (c.args.i + 1) n w.in-Ended.is w.if-c-conn-2.false
      | in_default-via-in_default w ↦ of_neither c.args.conn c.ready.result (c.args.i + 1) n w.in_default.not-Readable w.in_default.not-Ended
    ]) c.ready.ensures.tells c.ready.ensures.count
