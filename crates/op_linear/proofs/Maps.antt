-- A service's pairs are a map: an operation makes of both the same, and is answered the same.
use Rattle.std.proofs.Common.{◌≡◌, ℕ, Bool, true, false, cond, List, [], ◌∷◌, fold, Some, None, refl, sym, ◌∙◌, ap, bytes_eq}
use Rattle.std.specs.Ordering.{nat_cmp}
use Rattle.std.specs.Cmp.Lexicographic.{slice_cmp}
use Rattle.std.specs.List.Sorted.{IsStrictlySortedBy}
use Rattle.std.specs.Map.{keys_of, remove_entry}
use Rattle.std.specs.BTreeMap.{insert_entry, is_at}
use Rattle.std.proofs.lemmas.Cmp.{nat_list_cmp_total, nat_list_eq_equiv}
use Rattle.std.proofs.lemmas.Map.Text.{is_eq-slice_cmp}
use Rattle.op_types.specs.declared.answers.Answer.TheVariants as answer
use Rattle.op_types.specs.declared.log.Op.{Op}
use Rattle.op_types.specs.declared.log.Op.TheVariants as op
use Rattle.op_types.specs.declared.writes.Write.{Write}
use Rattle.op_types.specs.declared.writes.Write.TheVariants as write
use Rattle.op_spec.specs.Service.{Pairs, value_at, is_value, told_value, pairs_written, all_written, pairs_after, effect_answer}
use Rattle.op_overlay.proofs.Entries.{rises-insert_entry, find-insert_entry}
use Rattle.op_overlay.proofs.Deletes.{rises-remove_entry, find-remove_entry}
use Rattle.op_linear.specs.Linearizable.{Map, empty_map, map_with, map_written, map_after, map_answer}

-- The map has the pairs' values, and the pairs are in order.
pub record Agrees (m : Map) (pairs : Pairs) : Type 0 where
  pub values : (key : List ℕ) → m key ≡ value_at key pairs
  pub rises : IsStrictlySortedBy (slice_cmp nat_cmp) (keys_of pairs)

pub agrees_empty : Agrees empty_map []
unfolding IsStrictlySortedBy
agrees_empty = record { values = λ key. refl; rises = tt }

with_value : (m : Map) (pairs : Pairs) (key value : List ℕ) → Agrees m pairs → Agrees (map_with key (Some value) m) (insert_entry (slice_cmp nat_cmp) pairs key value)
with_value m pairs key value a = record {
  values = λ q. ap (λ z. cond (bytes_eq key q) (Some value) z) (a.values q)
      ∙ ap (λ b. cond b (Some value) (value_at q pairs)) (nat_list_eq_equiv.symm key q ∙ sym (is_eq-slice_cmp q key))
      ∙ sym (find-insert_entry nat_list_cmp_total pairs key value q);
  rises = rises-insert_entry nat_list_cmp_total pairs key value a.rises;
}

without_value : (m : Map) (pairs : Pairs) (key : List ℕ) → Agrees m pairs → Agrees (map_with key None m) (remove_entry (is_at (slice_cmp nat_cmp key)) pairs)
without_value m pairs key a = record {
  values = λ q. ap (λ z. cond (bytes_eq key q) None z) (a.values q)
      ∙ ap (λ b. cond b None (value_at q pairs)) (sym (is_eq-slice_cmp key q))
      ∙ sym (find-remove_entry nat_list_cmp_total key pairs q a.rises);
  rises = rises-remove_entry nat_list_cmp_total (is_at (slice_cmp nat_cmp key)) pairs a.rises;
}

written_alike : (w : Write) (m : Map) (pairs : Pairs) → Agrees m pairs → Agrees (map_written m w) (pairs_written pairs w)
written_alike (write.Put key value) m pairs a = with_value m pairs key value a
written_alike (write.Del key) m pairs a = without_value m pairs key a

all_alike : (ws : List Write) (m : Map) (pairs : Pairs) → Agrees m pairs → Agrees (fold map_written m ws) (all_written pairs ws)
all_alike [] m pairs a = a
all_alike (w ∷ ws) m pairs a = all_alike ws (map_written m w) (pairs_written pairs w) (written_alike w m pairs a)

pub agrees_after : (o : Op) (m : Map) (pairs : Pairs) → Agrees m pairs → Agrees (map_after o m) (pairs_after o pairs)
agrees_after (op.Put key value) m pairs a = with_value m pairs key value a
agrees_after (op.Del key) m pairs a = without_value m pairs key a
agrees_after (op.Get key) m pairs a = a
agrees_after (op.Cas key old new) m pairs a = by (is_value old (m key)) (is_value old (value_at key pairs)) (ap (λ z. is_value old z) (a.values key))
  where
    by : (b c : Bool) → b ≡ c → Agrees (cond b (map_with key (Some new) m) m) (cond c (insert_entry (slice_cmp nat_cmp) pairs key new) pairs)
    by true true e = with_value m pairs key new a
    by false false e = a
    by true false e = absurd cc
    by false true e = absurd cc
agrees_after (op.Many ws) m pairs a = all_alike ws m pairs a
agrees_after (op.Forget client) m pairs a = a

pub answers_alike : (o : Op) (m : Map) (pairs : Pairs) → Agrees m pairs → effect_answer o pairs ≡ map_answer o m
answers_alike (op.Put key value) m pairs a = refl
answers_alike (op.Del key) m pairs a = refl
answers_alike (op.Get key) m pairs a = ap (λ z. told_value z) (sym (a.values key))
answers_alike (op.Cas key old new) m pairs a =
    ap (λ z. cond (is_value old z) answer.Done (told_value z)) (sym (a.values key))
answers_alike (op.Many ws) m pairs a = refl
answers_alike (op.Forget client) m pairs a = refl
