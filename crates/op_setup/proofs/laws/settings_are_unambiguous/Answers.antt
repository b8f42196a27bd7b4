use Rattle.op_setup.proofs.Readings.{one_settings, one_cause, apart}
use Rattle.op_setup.proofs.laws.settings_are_unambiguous.Goals as goal

pub returns : goal.returns
returns c = record { one = one_settings; first = one_cause; apart = apart }
