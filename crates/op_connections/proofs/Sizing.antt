-- How many sessions may end yet, and how many Downs are to be given: a session that ends leaves one Down at most.
use Rattle.std.proofs.Common.{◌≡◌, ◌≤◌, ◌+◌, ◌∷◌, [], ℕ, Bool, true, false, List, length, Option, Some, None, option_map, ◌==◌, nat_lt, if◌then◌else◌, refl, ap, inl, inr, arith}
use Rattle.std.proofs.lemmas.Bool.{cases_Bool}
use Rattle.std.proofs.lemmas.List.{length-append}
use Rattle.std.proofs.lemmas.Map.Entries.{length-keys_of}
use Rattle.std.specs.BTreeMap.{is_at}
use Rattle.std.specs.Ordering.{nat_cmp}
use Rattle.op_serving.specs.declared.kind.Kind.{Kind}
use Rattle.op_serving.specs.declared.kind.Kind.TheVariants.{Unknown, Peer, Client}
use Rattle.op_serving.specs.declared.mark.Mark.{Mark}
use Rattle.op_serving.specs.declared.session.Session.{Session}
use Rattle.op_serving.specs.State.{Table, Loop, find, without, down_of, left_at, left_by}
use Rattle.op_serving.specs.Losses.{most_marks, mark_at, noted, stopped_if, marked, lost_one, is_due, settle, size}
use Rattle.op_serving.specs.Fates.{Fate}
use Rattle.op_serving.specs.Inputs.{loop_taking}
use Rattle.op_serving.specs.Room.{Frame}
use Rattle.op_connections.proofs.Queueing.{Queues}
use Rattle.op_connections.proofs.Walking.{taking_holds}

-- ---- a session ends

module _ {X : Type 0} where
  fewer : (c : ℕ) (t : Table X) → length (without c t) ≤ length t
  fewer c [] = omega arith
  fewer c (e ∷ t) = let k = fewer c t in elim (cases_Bool (is_at (nat_cmp c) e.0)) [
    | inl h ↦ rw h (omega (arith, k))
    | inr h ↦ rw h (omega (arith, k))
  ]

  one_less : (c : ℕ) (x : X) (t : Table X) → find c t ≡ Some x → length (without c t) + 1 ≤ length t
  one_less c x [] there = absurd cc
  one_less c x (e ∷ t) there = elim (cases_Bool (is_at (nat_cmp c) e.0)) [
    | inl h ↦ rw h (let k = fewer c t in omega (arith, k))
    | inr h ↦ rw h (let k = one_less c x t (rw h at there) in omega (arith, k))
  ]

one_down : (k : Kind) → length (down_of k) ≤ 1
one_down Unknown = omega arith
one_down (Peer q h) = by_written (h == 0)
  where
    by_written : (b : Bool) → length (if b then q ∷ [] else []) ≤ 1
    by_written true = omega arith
    by_written false = omega arith
one_down Client = omega arith

size_over : (c : ℕ) (o : Option Session) (s : Loop) → find c s.sessions ≡ o → size (left_at c (option_map (λ x. x.kind) o) s) ≤ size s
size_over c None s there = omega arith
size_over c (Some x) s there = omega (arith, length-append s.downs (down_of x.kind), one_down x.kind, one_less c x s.sessions there)

pub size_left : (c : ℕ) (s : Loop) → size (left_by c s) ≤ size s
size_left c s = size_over c (find c s.sessions) s refl

-- ---- losses

size_stopped : (b : Bool) (s : Loop) → size (stopped_if b s) ≤ size s
size_stopped true s = omega arith
size_stopped false s = omega arith

size_marked : (conn : Option ℕ) (s : Loop) → size (marked conn s) ≤ size s
size_marked conn s = size_stopped (nat_lt (length s.lost + 1) most_marks) (noted (mark_at s.place conn) s)

size_one : (o : Option ℕ) (s : Loop) → size (lost_one o s) ≤ size s
size_one None s = omega arith
size_one (Some c) s = omega (arith, size_left c (marked (Some c) s), size_marked (Some c) s)

pub size_settle : (ms : List Mark) (s : Loop) → size (settle ms s) ≤ size s
size_settle [] s = omega arith
size_settle (m ∷ ms) s = elim (cases_Bool (is_due m s)) [
  | inl h ↦ rw h (let a = size_settle ms (lost_one m.conn s) in let b = size_one m.conn s in omega (arith, a, b))
  | inr h ↦ rw h (omega arith)
]

-- an input is taken
pub size_taking : (f : Fate) (s : Loop) → size (loop_taking f s) ≤ size s
size_taking f s = taking_holds (λ t. size t ≤ size s) f s (omega arith) (size_marked None s)

-- ---- what is queued ends none

pub size_queues : (c : ℕ) (s : Loop) (fs : List Frame) (t : Loop) → Queues c s fs t → size t ≡ size s
size_queues c s fs t q = omega (arith, ap length q.downs, length-keys_of t.sessions, length-keys_of s.sessions, ap length q.keys)
