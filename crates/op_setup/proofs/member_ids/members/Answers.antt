use Rattle.std.proofs.Common.{◌≡◌, ℕ, ◌+◌, ◌<◌, ◌≤◌, List, ◌∷◌, ◌++◌, [], map, take, drop, set, length, decimal, string_bytes, sym, ap, ◌∙◌, subst, arith, append-nil}
use Rattle.std.proofs.lemmas.List.{drop_all, drop_more, length-set, length-take-le, take_more_set}
use Rattle.std.proofs.lemmas.Grind.{common_steps}
use Rattle.op_types.specs.Limits.{most_members}
use Rattle.op_types.specs.Ranges.{AreRising}
use Rattle.op_setup.specs.Requests.{AreMembers, AreMembersOf}
use Rattle.op_setup.proofs.Words.{at_error}
use Rattle.op_setup.proofs.RisingIds.{decimal_tells, last_of, last_of-push, rising-push, no_ids, map_push}
use Rattle.op_setup.proofs.member_ids.members.Goals as goal

pub returns-in_default-clause-found : goal.returns-in_default-clause-found
returns-in_default-clause-found c = λ ids h.
    let k = c.loop-word.word-index in
    let here : map string_bytes (drop k c.args.words.now) ≡ string_bytes c.word-item.result ∷ map string_bytes (drop (k + 1) c.args.words.now) =
    ap (map string_bytes) (drop_more c.args.words.now k c.word-item.result c.loop-word-test.true ∙ ap (λ v. v ∷ drop (k + 1) c.args.words.now) (sym c.word-item.is)) in
    let so_far = take c.loop-word.count c.loop-word.ids in
    let split = ap (λ ws. map decimal so_far ++ ws) (sym here) ∙ c.loop-word.invariant.so_far in
    let none = rw c.in_default.is at c.id_above.ensures in
    let last : last_of 0 so_far ≡ c.loop-word.last = c.loop-word.invariant.last in
    no_ids decimal decimal_tells so_far (string_bytes c.word-item.result) _ _ split c.loop-word.invariant.rising
    (λ id p. none id (p.0, (let Q : ℕ → Type 0 = λ n. n < id in subst Q last p.1), (omega (arith, p.1), p.2))) ids h.written h.in_range.rising

pub loop-word-preserved : goal.loop-word-preserved
loop-word-preserved c =
    let k = c.loop-word.word-index in
    let here : map string_bytes (drop k c.args.words.now) ≡ string_bytes c.word-item.result ∷ map string_bytes (drop (k + 1) c.args.words.now) =
    ap (map string_bytes) (drop_more c.args.words.now k c.word-item.result c.loop-word-test.true ∙ ap (λ v. v ∷ drop (k + 1) c.args.words.now) (sym c.word-item.is)) in
    let so_far = take c.loop-word.count c.loop-word.ids in
    let split = ap (λ ws. map decimal so_far ++ ws) (sym here) ∙ c.loop-word.invariant.so_far in
    let id = c.in-Some.id in
    let found = rw c.in-Some.is at c.id_above.ensures in
    let one : take (c.loop-word.count + 1) (set c.loop-word.ids c.loop-word.count id) ≡ so_far ++ id ∷ [] = take_more_set c.loop-word.ids c.loop-word.count id (omega arith) in
    let last : last_of 0 so_far ≡ c.loop-word.last = c.loop-word.invariant.last in
    let above : last_of 0 so_far < id = (let Q : ℕ → Type 0 = λ n. n < id in subst Q (sym last) found.1) in
    rw one (record {
      count = omega arith;
      room = length-set c.loop-word.ids c.loop-word.count id ∙ c.loop-word.invariant.room;
      so_far = map_push decimal so_far id (string_bytes c.word-item.result) _ _ found.0 split;
      rising = rising-push 0 so_far id c.loop-word.invariant.rising above found.2.1;
      last = last_of-push 0 so_far id;
    })

-- where all words are read, they are these members'
read_all : {A : Type 0} (now : A → List ℕ) (ws : List A) (ids : List ℕ) (n i : ℕ) → n ≡ i → length ids ≡ most_members → 1 ≤ length ws → length ws ≤ most_members → length ws ≡ i → map decimal (take n ids) ++ map now (drop i ws) ≡ map now ws → AreRising 0 (take n ids)
    → AreMembersOf (map now ws) (take n ids)
read_all now ws ids n i same room some few end split rising =
    let none = rw (drop_all i ws (omega (arith, end))) at split in
    let count : length (take n ids) ≡ n = length-take-le n ids (omega (arith, same, room, few, end)) in
    record {
      in_range = record { some = omega (arith, count, same, some, end); few = omega (arith, count, same, few, end); rising = rising };
      written = sym none ∙ append-nil (map decimal (take n ids));
    }

pub returns-clause-found : goal.returns-clause-found
returns-clause-found c =
    let h = c.loop-word.invariant in
    let some : 1 ≤ length c.args.words.now = grind (arith, common_steps) in
    rw c.in_ok-from_slice.ensures (read_all string_bytes c.args.words.now c.loop-word.ids c.loop-word.count c.loop-word.word-index h.count h.room some (omega arith) (omega arith) h.so_far h.rising)

pub returns-in_err-from_slice-clause-memory : goal.returns-in_err-from_slice-clause-memory
returns-in_err-from_slice-clause-memory c =
    let h = c.loop-word.invariant in
    let some : 1 ≤ length c.args.words.now = grind (arith, common_steps) in
    let all : AreMembers (map string_bytes c.args.words.now) =
    (take c.loop-word.count c.loop-word.ids, read_all string_bytes c.args.words.now c.loop-word.ids c.loop-word.count c.loop-word.word-index h.count h.room some (omega arith) (omega arith) h.so_far h.rising) in
    at_error _ _ all
