use Rattle.std.proofs.Common.{◌≡◌, ◌^◌, ◌<◌, drop}
use Rattle.std.specs.Str.Parse.{AllDigits, digits_value_after, digits_value}
use Rattle.op_text.proofs.numbers.value_of.Given as goal

abbrev pub invariant-loop-byte : goal.invariant-loop-byte
invariant-loop-byte l = record {
  fits : l.value < 2 ^ 64;
  value : digits_value_after 10 l.value (drop l.byte-index l.word) ≡ digits_value 10 l.word;
  whole : AllDigits 10 (drop l.byte-index l.word) → AllDigits 10 l.word;
  rest : AllDigits 10 l.word → AllDigits 10 (drop l.byte-index l.word);
}
