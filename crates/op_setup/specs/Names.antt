-- The name of a cluster that stands in place.
use Rattle.std.specs.Prelude.{ℕ, List, take}
use Rattle.op_setup.specs.declared.cluster_name.ClusterName.{ClusterName}

-- its bytes; the places behind them mean nothing
abbrev pub name_bytes : ClusterName → List ℕ
name_bytes n = take n.len n.bytes
