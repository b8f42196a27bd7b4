use Rattle.std.proofs.Common.{◌≡◌, ◌++◌, map, decimal, string_bytes, take, drop, length}
use Rattle.op_types.specs.Limits.{most_members}
use Rattle.op_types.specs.Ranges.{AreRising}
use Rattle.op_setup.proofs.RisingIds.{last_of}
use Rattle.op_setup.proofs.member_ids.members.Given as goal

abbrev pub invariant-loop-word : goal.invariant-loop-word
invariant-loop-word l = record {
  count : l.count ≡ l.word-index;
  room : length l.ids ≡ most_members;
  so_far : map decimal (take l.count l.ids) ++ map string_bytes (drop l.word-index l.words) ≡ map string_bytes l.words;
  rising : AreRising 0 (take l.count l.ids);
  last : last_of 0 (take l.count l.ids) ≡ l.last;
}
