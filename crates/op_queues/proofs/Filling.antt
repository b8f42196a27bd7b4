-- Sessions for which no more bytes wait than may.
use Rattle.std.proofs.Common.{◌≡◌, ◌≤◌, ℕ, [], ◌∷◌, true, false, length, Option, Some, None, is_some, All, IfSome, refl, sym, ◌∙◌, ap, arith}
use Rattle.std.specs.List.Sorted.{IsStrictlySortedBy}
use Rattle.std.specs.Map.{keys_of, values_of}
use Rattle.std.specs.Ordering.{nat_cmp}
use Rattle.std.proofs.lemmas.Bool.{ltb-false, le-ltb}
use Rattle.std.proofs.lemmas.Cmp.{eq_by_cmp_equiv, nat_cmp_total}
use Rattle.std.proofs.lemmas.Map.Keys.{IsDistinct-from_sorted}
use Rattle.std.proofs.lemmas.Map.Views.{All-values_from_lookup, IfSome-lookup_from_All, All-values-insert_entry, All-values-set_value}
use Rattle.std.specs.BTreeMap.{is_at, insert_entry}
use Rattle.op_conns.proofs.Numbers.{is_at_one}
use Rattle.op_fields.specs.Form.{encoded}
use Rattle.op_serving.specs.declared.kind.Kind.{Kind}
use Rattle.op_serving.specs.declared.kind.Kind.TheVariants.{Unknown, Peer, Client}
use Rattle.op_serving.specs.declared.session.Session.{Session}
use Rattle.op_serving.specs.State.{Table, find, set, most_waiting, is_overfull}
use Rattle.op_serving.specs.Turns.{hello, made_session}
use Rattle.op_queues.specs.Filling.{IsThin, first_over}

pub not_overfull : (x : Session) → is_overfull (Some x) ≡ false → IsThin x
not_overfull x e = ltb-false most_waiting (length x.queue) e

-- a new one has its hello waiting at most
hello_short : (me : ℕ) → length (hello me) ≤ most_waiting
unfolding hello encoded
hello_short me = omega arith

pub made_thin : (kind : Kind) (me : ℕ) → IsThin (made_session kind me)
made_thin Unknown me = omega arith
made_thin (Peer q h) me = hello_short me
made_thin Client me = omega arith

pub found_thin : (c : ℕ) (t : Table Session) → All IsThin (values_of t) → IfSome (find c t) IsThin
found_thin c t all = IfSome-lookup_from_All IsThin (is_at (nat_cmp c)) t all

pub set_thin : (c : ℕ) (x : Session) (t : Table Session) → All IsThin (values_of t) → IsThin x → All IsThin (values_of (set c x t))
set_thin c x t all h = All-values-set_value (is_at (nat_cmp c)) IsThin t x all h

pub put_thin : (c : ℕ) (x : Session) (t : Table Session) → All IsThin (values_of t) → IsThin x → All IsThin (values_of (insert_entry nat_cmp t c x))
put_thin c x t all h = All-values-insert_entry nat_cmp c x IsThin t all h

pub thin_found : (t : Table Session) → All IsThin (values_of t) → (c : ℕ) → is_overfull (find c t) ≡ false
thin_found t all c = by_session (find c t) (found_thin c t all)
  where
    by_session : (o : Option Session) → IfSome o IsThin → is_overfull o ≡ false
    by_session None h = refl
    by_session (Some x) h = le-ltb most_waiting (length x.queue) h

-- none of the keys of a table is found for which more wait
pub none_first : (w t : Table Session) (c : ℕ) → first_over w (keys_of t) ≡ None → is_some (find c t) ≡ true → is_overfull (find c w) ≡ false
none_first w [] c e h = absurd cc
none_first w (d ∷ t) c e h = grind (arith, is_at_one c d.0, none_first w t c)

pub none_over : (t : Table Session) → IsStrictlySortedBy nat_cmp (keys_of t) → first_over t (keys_of t) ≡ None → All IsThin (values_of t)
none_over t s e =
    All-values_from_lookup (eq_by_cmp_equiv nat_cmp_total) IsThin t (IsDistinct-from_sorted nat_cmp (keys_of t) s) (λ c. by_session c (find c t) refl)
  where
    by_session : (c : ℕ) (o : Option Session) → find c t ≡ o → IfSome o IsThin
    by_session c None is = tt
    by_session c (Some x) is = not_overfull x (sym (ap is_overfull is) ∙ none_first t t c e (ap is_some is))
