use Rattle.std.proofs.Common.{refl}
use Rattle.op_chain.specs.Plans as chains
use Rattle.op_server.specs.Servers.{state_of}
use Rattle.op_server.specs.declared.reading.Reading.{Reading}
use Rattle.op_server.proofs.Answers.{ok_reading}
use Rattle.op_server.proofs.server.Server.reading.Goals as goal

pub returns-clause-reading : goal.returns-clause-reading
returns-clause-reading c =
    let s = c.args.self.now in
    let made : Reading = record { reads = c.tell.new.reads; asked = c.in_ok-asked.asked; replies = c.in_ok-replies.replies; outcome = c.args.asking.outcome } in
    ok_reading s.chain.me (state_of s) c.args.asking (chains.planned_by s.chain c.args.plan.now) made c.from_reading.result
    c.in_ok-replies.ensures.reads c.in_ok-asked.ensures.items c.in_ok-replies.ensures.replies refl c.from_reading.ensures
