use Rattle.std.proofs.Common.{◌≡◌, ◌≤◌, ◌-◌, length, take}
use Rattle.op_sched.specs.declared.reading.words.TheConstants.{MOST_WORDS}
use Rattle.op_sched.specs.Grammar.{words_of}
use Rattle.op_sched.proofs.WordLists.{AreSplitTo}
use Rattle.op_sched.proofs.reading.words.split_words.Given as goal

abbrev pub invariant-loop-count : goal.invariant-loop-count
invariant-loop-count l = record {
  few : l.count ≤ MOST_WORDS;
  places : length l.words ≡ MOST_WORDS;
  split : AreSplitTo (λ x. x.now) MOST_WORDS l.words l.count (words_of l.rest) (take MOST_WORDS (words_of l.line));
}

abbrev pub decreases-loop-count : goal.decreases-loop-count
decreases-loop-count l = MOST_WORDS - l.count
