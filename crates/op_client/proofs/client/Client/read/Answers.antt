use Rattle.std.proofs.Common.{rules}
use Rattle.op_outside.specs.Seen.{NetSeen}
use Rattle.op_outside.proofs.Seen.{went_wrong}
use Rattle.op_client.specs.Rules.{at, ask}
use Rattle.op_client.proofs.Runs.{hears_then}
use Rattle.op_client.proofs.Turns.{was_read, was_read_nothing, was_read_end, was_read_failing}
use Rattle.op_client.proofs.client.Client.read.Goals as goal

pub returns-in-Ok-Bytes-clause-hears : goal.returns-in-Ok-Bytes-clause-hears
returns-in-Ok-Bytes-clause-hears g c k i n =
    let N0 : NetSeen = (g.N.Net.told c.args.net.now, g.N.Net.fault_count c.args.net.now) in
    let N1 : NetSeen = (g.N.Net.told c.read.new.self, g.N.Net.fault_count c.read.new.self) in
    hears_then (at (ask i n) k c.take_piece.new.self) c.take_piece.result N0 N1 N1 (was_read c.args.conn k c.args.self.now N0 N1 i n _ (search rules) (search rules)) (c.take_piece.ensures c.args.conn k i n N1)

pub returns-in-Ok-NotYet-clause-hears : goal.returns-in-Ok-NotYet-clause-hears
returns-in-Ok-NotYet-clause-hears g c k i n =
    was_read_nothing c.args.conn k c.args.self.now (g.N.Net.told c.args.net.now, g.N.Net.fault_count c.args.net.now) (g.N.Net.told c.read.new.self, g.N.Net.fault_count c.read.new.self) i n (search rules) (search rules)

pub returns-in-Ok-Ended-clause-hears : goal.returns-in-Ok-Ended-clause-hears
returns-in-Ok-Ended-clause-hears g c k i n =
    was_read_end c.args.conn k c.args.self.now (g.N.Net.told c.args.net.now, g.N.Net.fault_count c.args.net.now) (g.N.Net.told c.read.new.self, g.N.Net.fault_count c.read.new.self) i n (search rules) (search rules)

pub returns-in-Err-clause-hears : goal.returns-in-Err-clause-hears
returns-in-Err-clause-hears g c k i n =
    was_read_failing c.args.conn k c.args.self.now (g.N.Net.told c.args.net.now, g.N.Net.fault_count c.args.net.now) (g.N.Net.told c.read.new.self, g.N.Net.fault_count c.read.new.self) i n (search rules) (went_wrong _ _ c.read.result (search rules) c.read.ensures.cause)
