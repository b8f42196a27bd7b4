use Rattle.toml.specs.View.{table_view}
use Rattle.op_setup.specs.Settings.{IsToml}
use Rattle.op_setup.proofs.Readings.{told, ok_of_text, bad_of_text}
use Rattle.op_setup.proofs.toml_keys.settings.Goals as goal

pub returns-clause-always : goal.returns-clause-always
returns-clause-always c =
    let toml : IsToml c.args.text.now (table_view c.in-Some.table) = rw c.in-Some.is at c.in_ok-table.ensures.found in
    told _ _ c.set.result (ok_of_text _ _ _ toml c.set.result c.set.ensures.found) (bad_of_text _ _ _ toml c.set.result c.set.ensures.bad)
