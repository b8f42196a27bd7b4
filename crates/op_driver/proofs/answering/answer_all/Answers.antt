use Rattle.std.proofs.Common.{◌≡◌, ◌-◌, ◌||◌, ◌==◌, ◌++◌, ◌∷◌, [], Bool, length, All, IfOk, None, if◌then◌else◌, vec_len, subst, sym, ap, ◌∙◌, rules}
use Rattle.std.proofs.lemmas.List.Elements.{All-take}
use Rattle.std.proofs.lemmas.List.Sorted.{All-permutation}
use Rattle.op_serving.specs.Ranges.{GivenInRange}
use Rattle.op_driver.specs.Answering.{Answer}
use Rattle.op_driver.proofs.Telling.{hands_none, hands_more, hands_all, range_if}
use Rattle.op_driver.proofs.answering.answer_all.Goals as goal

abbrev InRange : Answer → Type 0
InRange r = IfOk r GivenInRange

pub answers-init : goal.answers-init
answers-init c = record {
  hands = hands_none c.args.wanted c.reverse.ensures.items;
  range = All-permutation InRange c.args.results.now.items c.reverse.new.self.items c.reverse.ensures.permutation c.requires.given;
  wanted = c.requires.wanted;
  room = c.reverse.ensures.capacity;
}

pub answers-preserved : goal.answers-preserved
answers-preserved c =
    let i = c.answers.invariant in
    let split : c.answers.results.items ≡ c.pop.new.self.items ++ c.in-Some.result ∷ [] = c.in-Some.ensures.items in
    let empty : c.is_empty.result ≡ (length c.pop.new.self.items == 0) = search rules in
    let asked = c.take_if-asked.ensures.taken ∙ ap (λ (b : Bool). if b then c.answers.wanted else None) empty in
    let later = c.take_if-asked.ensures.left ∙ ap (λ (b : Bool). if b then None else c.answers.wanted) empty in
    record {
      hands = hands_more c.in-Some.result i.hands split asked later (ap (λ b. c.answers.failed || b) c.is_fault-fails.ensures) c.answer.ensures;
      range = subst (All InRange) (sym c.pop.ensures.rest) (All-take InRange (vec_len c.answers.results - 1) c.answers.results.items i.range);
      wanted = range_if c.is_empty.result c.answers.wanted c.take_if-asked.ensures.left i.wanted;
      room = c.pop.ensures.capacity ∙ i.room;
    }

pub returns-clause-does : goal.returns-clause-does
returns-clause-does c = hands_all c.answers.invariant.hands (search rules)
