use Rattle.std.proofs.Common.{codes, refl, sym, inr}
use Rattle.toml.proofs.Views.{table_get}
use Rattle.toml.specs.View.{table_view}
use Rattle.op_setup.proofs.KeyValues.{mirror_found}
use Rattle.op_setup.proofs.toml_keys.mirror.is_mirrored.Goals as goal

pub returns-in-Some : goal.returns-in-Some
returns-in-Some c =
    let found = table_get c.get.result (codes "mirror") c.args.table.now.entries c.get.ensures.value in
    mirror_found (table_view c.args.table.now) _ _ (sym (rw c.in-Some.is at found)) c.as_bool.ensures

pub returns-in-None : goal.returns-in-None
returns-in-None c =
    let found = table_get c.get.result (codes "mirror") c.args.table.now.entries c.get.ensures.value in
    inr (sym (rw c.in-None.is at found), refl)
