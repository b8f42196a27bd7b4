use Rattle.std.proofs.Common.{ℕ, List, map, ap, sym, ◌∙◌}
use Rattle.op_types.specs.Joinings.{Held}
use Rattle.op_types.specs.RoleStates as state
use Rattle.op_types.specs.RoleStates.{without_stage}
use Rattle.op_types.specs.declared.role.Stage.{Stage}
use Rattle.op_types.specs.declared.role.Role as role
use Rattle.op_types.specs.Roles.{Preparing, stage_view, preparing_of, role_of, if_preparing}
use Rattle.op_types.proofs.Staged.{view_without}
use Rattle.op_types.proofs.turn.drop_parts.Goals as goal

pub returns-in-Preparing : goal.returns-in-Preparing
returns-in-Preparing c =
    let r = c.in-Preparing.preparing in
    let views = ap (λ (l : List Stage). map stage_view l) c.remove_stages.ensures.items ∙ view_without r.stages.items c.args.from in
    ap (λ (l : List (ℕ × Held)). let s : state.Preparing = record (preparing_of r) { stages = l } in Preparing s) views
    ∙ sym (ap (λ (o : role.Role). if_preparing (λ r. without_stage r c.args.from) (role_of o)) c.in-Preparing.is)
