use Rattle.std.proofs.Common.{rules, tests, ◌≡◌, ◌+◌, [], sym, ◌∙◌, arith}
use Rattle.std.proofs.lemmas.Iterator.{YieldsList-from_slice}
use Rattle.std.proofs.lemmas.Iterator.Search.{position_from_yields_List}
use Rattle.std.proofs.lemmas.List.{length-set}
use Rattle.op_text.proofs.Rests.{rest_of}
use Rattle.op_sched.specs.declared.reading.words.TheConstants.{MOST_WORDS}
use Rattle.op_sched.specs.Grammar.{words_of}
use Rattle.op_sched.proofs.FirstParts.{one_part, part_and_more}
use Rattle.op_sched.proofs.WordLists.{is_space, word_end, word_put, all_put}
use Rattle.op_sched.proofs.reading.words.split_words.Goals as goal

pub loop-count-preserved : goal.loop-count-preserved
loop-count-preserved c =
    let rest = c.loop-count.rest.now in
    let at : c.position.result ≡ word_end rest = position_from_yields_List _ _ _ _ c.position.ensures.ran (YieldsList-from_slice rest cc) (λ x b q k. search (rules, tests)) in
    let first = part_and_more is_space rest c.in-Some.end (sym at ∙ c.in-Some.is) in
    record {
      few = omega arith;
      places = rw length-set c.loop-count.invariant.places;
      split = word_put (λ x. x.now) MOST_WORDS c.loop-count.words c.loop-count.count _ (words_of rest) _ _ (omega arith) c.loop-count-test.true (rw (rest_of (c.in-Some.end + 1) rest) first.0) c.loop-count.invariant.split;
    }

pub returns-in_default-clause-split : goal.returns-in_default-clause-split
returns-in_default-clause-split c =
    let rest = c.loop-count.rest.now in
    let at : c.position.result ≡ word_end rest = position_from_yields_List _ _ _ _ c.position.ensures.ran (YieldsList-from_slice rest cc) (λ x b q k. search (rules, tests)) in
    all_put (λ x. x.now) MOST_WORDS _ (c.loop-count.count + 1) _
    (word_put (λ x. x.now) MOST_WORDS c.loop-count.words c.loop-count.count c.loop-count.rest (words_of rest) [] _ (omega arith) c.loop-count-test.true (one_part is_space rest (sym at ∙ c.in_default.is)) c.loop-count.invariant.split)
