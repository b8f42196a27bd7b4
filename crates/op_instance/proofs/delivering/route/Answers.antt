use Rattle.op_types.specs.Roles.{role_of}
use Rattle.op_instance.proofs.RowsApply.{stages_within}
use Rattle.op_instance.proofs.delivering.route.Goals as goal

pub on_promise_part-requires-clause-stages : goal.on_promise_part-requires-clause-stages
on_promise_part-requires-clause-stages c = stages_within c.args.member.now.part.now.conf (role_of c.args.role.now) c.requires.sound.stages
