use Rattle.std.proofs.Common.{refl, ap}
use Rattle.op_executions.specs.declared.server.Done.{Done}
use Rattle.op_replay_nodes.proofs.became.stepped.Goals as goal

pub returns : goal.returns
returns g c =
    let did = c.in-Ok.ensures in
    record {
      now = c.in_ok-armed_node.field-0;
      state = refl;
      same = c.in_ok-armed_node.ensures;
      sends_are = ap (λ (d : Done). d.sends) did;
      told_are = ap (λ (d : Done). d.told) did;
      due = c.is_stop.ensures;
    }
