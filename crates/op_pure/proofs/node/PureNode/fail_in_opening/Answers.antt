use Rattle.std.proofs.Common.{refl}
use Rattle.op_runs.specs.World.{Faulted}
use Rattle.op_pure.specs.Nodes.{node_of}
use Rattle.op_pure.specs.declared.node.Status.TheVariants as status
use Rattle.op_pure.proofs.NodesDone.{failed_opening, no_opening}
use Rattle.op_pure.proofs.node.PureNode.fail_in_opening.Goals as goal

pub returns-in-Failed : goal.returns-in-Failed
returns-in-Failed c finds_after line =
    let old = c.args.self.now in
    let f = c.in-Failed in
    failed_opening old (node_of old (status.Failed f.field-0 c.args.count f.field-2)) f.field-0 f.kept c.args.count f.field-2 finds_after line c.requires f.is refl

pub returns-in_default : goal.returns-in_default
returns-in_default c finds_after line = no_opening c.args.self.now (Faulted c.args.count) finds_after line c.requires (λ w x found. refl) c.in_default.not-Failed
