use Rattle.std.proofs.Common.{◌≡◌, map, drop, ◌++◌}
use Rattle.toml.specs.View.{view}
use Rattle.op_types.specs.Ranges.{AreRising}
use Rattle.op_setup.specs.Settings.{id_data}
use Rattle.op_setup.proofs.RisingIds.{last_of}
use Rattle.op_setup.proofs.toml_keys.observers.rising_ids.Given as goal

abbrev pub invariant-loop-value : goal.invariant-loop-value
invariant-loop-value l = record {
  so_far : map id_data l.ids ++ map view (drop l.value-index l.values) ≡ map view l.values;
  rising : AreRising 0 l.ids;
  last : last_of 0 l.ids ≡ l.last;
}
