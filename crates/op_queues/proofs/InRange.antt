-- What is found in the tables is in range.
use Rattle.std.proofs.Common.{ℕ, [], ◌∷◌, Option, Some, None, is_some, option_map, sym, IfSome, IsTrue, All, subst, inl, inr, arith}
use Rattle.std.specs.BTreeMap.{is_at, insert_entry}
use Rattle.std.specs.Map.{keys_of, values_of}
use Rattle.std.specs.Ordering.{nat_cmp}
use Rattle.std.proofs.lemmas.Map.Views.{IfSome-lookup_from_All, All-keys-insert_entry, All-values-insert_entry, All-values-set_value}
use Rattle.std.proofs.lemmas.Bool.{cases_Bool}
use Rattle.std.proofs.lemmas.List.Elements.{All-tail}
use Rattle.std.proofs.lemmas.Map.{keys-set_value}
use Rattle.op_conns.proofs.Numbers.{is_at_one}
use Rattle.op_types.specs.Ranges.{IsPid}
use Rattle.op_serving.specs.State.{Table, find, set}
use Rattle.op_serving.specs.Ranges.{KindInRange, SessionInRange}
use Rattle.op_serving.specs.declared.session.Session.{Session}

pub found_in_range : (c : ℕ) (t : Table Session) → All SessionInRange (values_of t) → IfSome (find c t) SessionInRange
found_in_range c t all = IfSome-lookup_from_All SessionInRange (is_at (nat_cmp c)) t all

pub set_session : (c : ℕ) (x : Session) (t : Table Session) → All SessionInRange (values_of t) → SessionInRange x → All SessionInRange (values_of (set c x t))
set_session c x t all h = All-values-set_value (is_at (nat_cmp c)) SessionInRange t x all h

pub put_session : (c : ℕ) (x : Session) (t : Table Session) → All SessionInRange (values_of t) → SessionInRange x
    → All SessionInRange (values_of (insert_entry nat_cmp t c x))
put_session c x t all h = All-values-insert_entry nat_cmp c x SessionInRange t all h

pub set_known : (q : ℕ) (conn : Option ℕ) (t : Table (Option ℕ)) → All IsPid (keys_of t) → All IsPid (keys_of (set q conn t))
set_known q conn t all = subst (All IsPid) (sym (keys-set_value (is_at (nat_cmp q)) t conn)) all

pub put_known : (q : ℕ) (conn : Option ℕ) (t : Table (Option ℕ)) → All IsPid (keys_of t) → IsPid q → All IsPid (keys_of (insert_entry nat_cmp t q conn))
put_known q conn t all h = All-keys-insert_entry nat_cmp q conn IsPid t all h

-- a peer is a server
pub peer_in_range : (q : ℕ) (t : Table (Option ℕ)) → All IsPid (keys_of t) → IsTrue (is_some (find q t)) → IsPid q
peer_in_range q [] all h = absurd cc
peer_in_range q (d ∷ t) all h = elim (cases_Bool (is_at (nat_cmp q) d.0)) [
  | inl e ↦ (let first : IsPid d.0 = all 0 d.0 (omega arith) in subst IsPid (sym (is_at_one q d.0 e)) first)
  | inr e ↦ peer_in_range q t (All-tail IsPid d.0 (keys_of t) all) (rw e at h)
]

-- a session that is found has a peer in range, if it has one
pub kind_in_range : (c : ℕ) (t : Table Session) → All SessionInRange (values_of t) → IfSome (option_map (λ x. x.kind) (find c t)) KindInRange
kind_in_range c t all = some_kind (find c t) (found_in_range c t all)
  where
    some_kind : (o : Option Session) → IfSome o SessionInRange → IfSome (option_map (λ x. x.kind) o) KindInRange
    some_kind None h = tt
    some_kind (Some x) h = h
