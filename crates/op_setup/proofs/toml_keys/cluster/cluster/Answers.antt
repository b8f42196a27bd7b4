use Rattle.std.proofs.Common.{Some, codes, sym, ap, ◌∙◌}
use Rattle.toml.proofs.Views.{table_get}
use Rattle.toml.specs.View.{table_view, view}
use Rattle.op_setup.proofs.KeyValues.{no_cluster}
use Rattle.op_setup.proofs.toml_keys.cluster.cluster.Goals as goal

pub returns-in_default : goal.returns-in_default
returns-in_default c =
    let found = table_get c.get.result (codes "cluster") c.args.table.now.entries c.get.ensures.value in
    sym (rw c.in_default.is at found)

pub returns-in_default-2 : goal.returns-in_default-2
returns-in_default-2 c =
    let found = table_get c.get.result (codes "cluster") c.args.table.now.entries c.get.ensures.value in
    let none = rw c.in_default-2.is at c.in_ok-name.ensures in
    no_cluster (table_view c.args.table.now) (view c.in-Some.value.now) (sym (rw c.in-Some.is at found)) none

pub returns : goal.returns
returns c =
    let found = table_get c.get.result (codes "cluster") c.args.table.now.entries c.get.ensures.value in
    let is = rw c.in-Some-2.is at c.in_ok-name.ensures in
    (sym (rw c.in-Some.is at found) ∙ ap Some is.0, is.1)
