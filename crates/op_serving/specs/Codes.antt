-- How a table of askers is told from another by a proof.
use Rattle.std.specs.FinMap as map
use Rattle.std.specs.Coded.{Coded, coded×, coded_bool, coded_ℕ}
use Rattle.op_serving.specs.State.{Askers}

abbrev pub askers_code : Coded Askers
askers_code = map.code (coded× coded_bool (coded× coded_ℕ coded_ℕ)) coded_ℕ
