use Rattle.std.proofs.Common.{◌≡◌, Some, nat_cmp}
use Rattle.std.specs.List.{All}
use Rattle.std.specs.BTreeMap.{get, IsOrdered}
use Rattle.std.specs.String.{string_cmp}
use Rattle.toml.specs.View.{members_view}
use Rattle.op_setup.proofs.PeerRows.{HaveRows, AreRead}
use Rattle.op_setup.proofs.toml_keys.peers.by_id.Given as goal

abbrev pub invariant-loop-key : goal.invariant-loop-key
invariant-loop-key l = record {
  ordered : IsOrdered nat_cmp l.by_id;
  there : All (λ row. get string_cmp l.rows row.0 ≡ Some row.1) l.key-iterator;
  have : HaveRows (members_view l.rows.entries) l.by_id;
  read : AreRead (members_view l.rows.entries) l.by_id (members_view l.key-iterator);
}
