use Rattle.std.proofs.Common.{rules, sym, subst, ◌≡◌, Err}
use Rattle.op_outside.specs.Seen.{NetSeen}
use Rattle.op_outside.proofs.Seen.{went_wrong}
use Rattle.op_client.specs.declared.call_fail.CallFail.TheVariants as fail
use Rattle.op_client.specs.Rules.{Client, Ending, at, turn, most_waits, fresh}
use Rattle.op_client.specs.Run.{RanOut}
use Rattle.op_client.specs.Called.{Calls}
use Rattle.op_client.proofs.Ends.{called_starved, called_failing, called_in_vain, called_over}
use Rattle.op_client.proofs.calling.call.Goals as goal

pub returns-in_err-client : goal.returns-in_err-client
returns-in_err-client g c =
    let N0 : NetSeen = (g.N.Net.told c.args.net.now, g.N.Net.fault_count c.args.net.now) in
    let is : c.from_residual.result ≡ Err fail.NoMemory = search rules in
    subst (λ (e : Ending). Calls c.args.addr.now c.args.request.now e N0 N0) (sym is) (called_starved c.args.addr.now c.args.request.now N0)

pub returns-in-Ok-Some : goal.returns-in-Ok-Some
returns-in-Ok-Some g c =
    let N0 : NetSeen = (g.N.Net.told c.args.net.now, g.N.Net.fault_count c.args.net.now) in
    let N1 : NetSeen = (g.N.Net.told c.dial.new.self, g.N.Net.fault_count c.dial.new.self) in
    let N2 : NetSeen = (g.N.Net.told c.talk-ending.new.net, g.N.Net.fault_count c.talk-ending.new.net) in
    let N3 : NetSeen = (g.N.Net.told c.close.new.self, g.N.Net.fault_count c.close.new.self) in
    let e : Ending = c.talk-ending.result in
    let began : RanOut c.in-Ok-Some.conn (at turn most_waits (fresh c.args.request.now)) e N1 N2 =
    subst (λ (s : Client). RanOut c.in-Ok-Some.conn (at turn most_waits s) e N1 N2) c.in_ok-client.ensures c.talk-ending.ensures in
    called_over c.args.addr.now c.args.request.now c.in-Ok-Some.conn e N0 N1 N2 N3 (search rules) (search rules) began c.close.ensures.tells c.close.ensures.count

pub returns-in-Ok-None : goal.returns-in-Ok-None
returns-in-Ok-None g c =
    called_in_vain c.args.addr.now c.args.request.now (g.N.Net.told c.args.net.now, g.N.Net.fault_count c.args.net.now) (g.N.Net.told c.dial.new.self, g.N.Net.fault_count c.dial.new.self) (search rules) (search rules)

pub returns-in-Err : goal.returns-in-Err
returns-in-Err g c =
    called_failing c.args.addr.now c.args.request.now (g.N.Net.told c.args.net.now, g.N.Net.fault_count c.args.net.now) (g.N.Net.told c.dial.new.self, g.N.Net.fault_count c.dial.new.self) (search rules)
    (went_wrong _ _ c.dial.result (search rules) c.dial.ensures.cause)
