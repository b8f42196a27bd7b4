use Rattle.std.proofs.Common.{Some, refl, sym, ap, ◌∙◌}
use Rattle.op_serve.specs.Folders.{has_no_name, is_to_begin, has_begun, is_nobodys, is_others, is_unreadable}
use Rattle.op_serve.proofs.folder.may_begin.Goals as goal

pub returns-in_default : goal.returns-in_default
returns-in_default g c = has_no_name c.in_default.is refl

pub returns-in-Err : goal.returns-in-Err
returns-in-Err g c = is_unreadable c.in-Err.field-0 (record { name = c.as_slice.result.now; named = c.in-Some.is ∙ ap Some (sym c.as_slice.ensures); claims = rw c.in-Err.is at c.asked.ensures; only = refl })

pub returns-in-Nobodys : goal.returns-in-Nobodys
returns-in-Nobodys g c = is_nobodys (record { name = c.as_slice.result.now; named = c.in-Some.is ∙ ap Some (sym c.as_slice.ensures); claims = rw (c.in-Ok.is, c.in-Nobodys.is) at c.asked.ensures; only = refl })

pub returns-in-Others : goal.returns-in-Others
returns-in-Others g c = is_others c.in-Others.id c.in-Others.name (record { name = c.as_slice.result.now; named = c.in-Some.is ∙ ap Some (sym c.as_slice.ensures); claims = rw (c.in-Ok.is, c.in-Others.is) at c.asked.ensures; only = refl })

pub returns-in-New : goal.returns-in-New
returns-in-New g c = is_to_begin c.in-New.at (record { name = c.as_slice.result.now; named = c.in-Some.is ∙ ap Some (sym c.as_slice.ensures); claims = rw (c.in-Ok.is, c.in-New.is) at c.asked.ensures; only = refl })

pub returns-in-Begun : goal.returns-in-Begun
returns-in-Begun g c = has_begun _ (record { name = c.as_slice.result.now; named = c.in-Some.is ∙ ap Some (sym c.as_slice.ensures); claims = rw (c.in-Ok.is, c.in-Begun.is) at c.asked.ensures; only = refl }) c.has_areas.ensures
