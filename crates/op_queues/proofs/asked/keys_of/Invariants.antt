use Rattle.std.proofs.Common.{◌≡◌, take, map, zip, length, All}
use Rattle.op_serving.specs.Inputs.{key_of}
use Rattle.op_serving.specs.Ranges.{KeyAtInRange}
use Rattle.op_queues.proofs.asked.keys_of.Given as goal

abbrev pub invariant-loop-conn : goal.invariant-loop-conn
invariant-loop-conn l = record {
  is : l.keys ≡ take (length l.yielded) (zip l.who (map key_of l.commands));
  len : length l.keys ≡ length l.yielded;
  range : All KeyAtInRange l.keys;
}
