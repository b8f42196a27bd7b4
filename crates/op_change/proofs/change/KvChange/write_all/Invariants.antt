use Rattle.std.proofs.Common.{◌≡◌, length}
use Rattle.op_spec.specs.Service.{all_written}
use Rattle.op_change.specs.Over.{pairs_over, clients_over}
use Rattle.op_change.proofs.change.KvChange.write_all.Given as goal

abbrev pub invariant-writes : goal.invariant-writes
invariant-writes l = record {
  pairs : all_written (pairs_over l.below.pairs l.self) l.left ≡ all_written (pairs_over l.below.pairs l.initial.self) l.writes;
  clients : clients_over l.below.clients l.self ≡ clients_over l.below.clients l.initial.self;
}

abbrev pub decreases-writes : goal.decreases-writes
decreases-writes l = length l.left
