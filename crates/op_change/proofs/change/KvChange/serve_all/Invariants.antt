use Rattle.std.proofs.Common.{◌≡◌, ◌++◌, take}
use Rattle.op_spec.specs.Service.{all_after}
use Rattle.op_change.specs.Over.{service_over, answers_of}
use Rattle.op_change.proofs.change.KvChange.serve_all.Given as goal

abbrev pub invariant-entries : goal.invariant-entries
invariant-entries l = record {
  change : service_over l.below l.self ≡ all_after (service_over l.below l.initial.self) (take l.entry-index l.entries);
  answers : l.answers ≡ l.initial.answers ++ answers_of (service_over l.below l.initial.self) (take l.entry-index l.entries);
}
