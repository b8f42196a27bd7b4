use Rattle.std.proofs.Common.{sym, ◌∙◌}
use Rattle.op_server.proofs.Asks.{is_member_there}
use Rattle.op_server.specs.Servers.{state_of}
use Rattle.op_server.proofs.server.Server.confirmed_number.Goals as goal

pub returns-then-is_same-clause-member : goal.returns-then-is_same-clause-member
returns-then-is_same-clause-member c =
    is_member_there (state_of c.args.self.now) c.in_ok-part.part.now c.in_ok-part.lead c.in_ok-part.ensures c.me.result c.args.from c.as_slice.result.now c.as_slice.ensures (sym c.is_other-is_other.ensures ∙ c.if-is_other.true)
