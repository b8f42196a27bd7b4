use Rattle.op_trim.proofs.Rows.{asks_row}
use Rattle.op_trim.proofs.asking.leader_asks.Goals as goal

pub returns-clause-row : goal.returns-clause-row
returns-clause-row c = asks_row c.args.member.now.me c.args.member.now.part.now c.args.leading.now c.asks.result c.asks.ensures
