use Rattle.op_drill.proofs.DrillTexts.{members_in_range, report_of}
use Rattle.op_drill.proofs.drilling.drilled.Goals as goal

pub lockstep-requires : goal.lockstep-requires
lockstep-requires c = members_in_range c.args.scenario c.in_ok-members.members c.in_ok-members.ensures

pub returns-in-Ok : goal.returns-in-Ok
returns-in-Ok c = report_of c.args.scenario c.args.rounds _ _ _ c.in_ok-members.ensures c.links-links.ensures c.in-Ok.ensures.report
