use Rattle.op_executions.specs.Deeds.{doing_of}
use Rattle.op_executions.proofs.Servers.{told_at}
use Rattle.op_pure.specs.Nodes.{pure_nodes}
use Rattle.op_pure.proofs.node.PureNodeServer.happens.Goals as goal

pub returns : goal.returns
returns c =
    let a = c.args in
    let did = c.in_ok-does in
    told_at pure_nodes a.fate a.self.now (doing_of a.doing) a.line c.does.new.self did.field-0 c.tell.result a.lines.now c.tell.new.lines did.ensures c.tell.ensures.sends c.tell.ensures.lines
