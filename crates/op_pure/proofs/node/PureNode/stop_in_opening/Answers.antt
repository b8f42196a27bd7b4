use Rattle.op_runs.specs.World.{Stopped}
use Rattle.std.proofs.Common.{refl}
use Rattle.op_pure.proofs.NodesDone.{no_opening, stopped_opening}
use Rattle.op_pure.proofs.node.PureNode.stop_in_opening.Goals as goal

pub returns-in-Failed : goal.returns-in-Failed
returns-in-Failed c finds_after line =
    let f = c.in-Failed in
    stopped_opening c.args.self.now c.stop.new.self f.field-0 f.field-1 f.field-2 c.new.result finds_after line c.requires f.is c.stop.ensures

pub returns-in_default : goal.returns-in_default
returns-in_default c finds_after line = no_opening c.args.self.now Stopped finds_after line c.requires (λ w x found. refl) c.in_default.not-Failed
