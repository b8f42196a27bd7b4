-- Inputs are counted: it is the same turn, happening and frame, no session ends, and one input less may come of each.
use Rattle.std.proofs.Common.{◌≡◌, ◌<◌, ◌≤◌, ◌+◌, ◌∷◌, [], ℕ, Bool, List, length, map, drop, None, nat_lt, if◌then◌else◌, inl, inr, ap, refl, sym, subst, arith}
use Rattle.std.proofs.lemmas.Bool.{cases_Bool}
use Rattle.std.proofs.lemmas.List.{length-append, length-map}
use Rattle.op_types.specs.declared.log.Command.{Command}
use Rattle.op_serving.specs.State.{Table, Loop, counted}
use Rattle.op_serving.specs.Inputs.{as_delivery, as_one, all_gathered, releases}
use Rattle.op_serving.specs.Losses.{most_marks, last_count, mark_at, noted, marked, size, Stays}
use Rattle.op_serving.specs.Counts.{most_inputs}
use Rattle.op_queues.proofs.Counting.{most_counted, most_marked, most_releases}
use Rattle.op_queues.proofs.Settling.{stopped_place, stays_same, stays_then}
use Rattle.op_queues.proofs.Sizes.{size_marked}
use Rattle.op_driver.specs.Answering.{Answer, is_lost, counting, counting_all}

pub most_counting : (r : Answer) (s : Loop) → most_inputs (counting r s) ≤ most_inputs s + 1
most_counting r s = elim (cases_Bool (is_lost r)) [
  | inl h ↦ rw h (omega (arith, most_counted (marked None s), most_marked None s))
  | inr h ↦ rw h (most_counted s)
]

pub size_counting : (r : Answer) (s : Loop) → size (counting r s) ≤ size s
size_counting r s = elim (cases_Bool (is_lost r)) [ inl h ↦ rw h (size_marked None s) | inr h ↦ rw h (omega arith) ]

stays_counted : (s : Loop) → Stays s (counted s)
stays_counted s = record { turn = refl; at = refl; frames = refl }

pub stays_counting : (r : Answer) (s : Loop) → Stays s (counting r s)
stays_counting r s = elim (cases_Bool (is_lost r)) [
  | inl h ↦ rw h (stays_then (stays_same (stopped_place (nat_lt (length s.lost + 1) most_marks) (noted (mark_at s.place None) s))) (stays_counted (marked None s)))
  | inr h ↦ rw h (stays_counted s)
]

-- several
abbrev goes : Answer → List Answer → Loop → Bool → Loop
goes r rs s b = if b then counting r s else counting_all rs (counting r s)

pub most_counting_all : (rs : List Answer) (s : Loop) → most_inputs (counting_all rs s) ≤ most_inputs s + length rs
most_counting_all [] s = omega arith
most_counting_all (r ∷ rs) s = elim (cases_Bool (is_lost r)) [
  | inl h ↦ omega (arith, ap (λ b. most_inputs (goes r rs s b)) h, most_counting r s)
  | inr h ↦ omega (arith, ap (λ b. most_inputs (goes r rs s b)) h, most_counting_all rs (counting r s), most_counting r s)
]

pub stays_counting_all : (rs : List Answer) (s : Loop) → Stays s (counting_all rs s)
stays_counting_all [] s = stays_same refl
stays_counting_all (r ∷ rs) s = elim (cases_Bool (is_lost r)) [
  | inl h ↦ subst (λ b. Stays s (goes r rs s b)) (sym h) (stays_counting r s)
  | inr h ↦ subst (λ b. Stays s (goes r rs s b)) (sym h) (stays_then (stays_counting r s) (stays_counting_all rs (counting r s)))
]

-- ---- one after the other

-- so many of these were counted
pub record Counts (rs : List Answer) (i : ℕ) (s t : Loop) : Type 0 where
  pub is : counting_all rs s ≡ counting_all (drop i rs) t
  pub lost : t.lost ≡ s.lost
  pub grows : s.place.inputs ≤ t.place.inputs
  pub short : 0 < i → s.place.inputs ≤ last_count

-- ---- what was gathered is let go

few_as_one : (gs : Table Command) → length (as_one gs) ≤ length gs
few_as_one [] = omega arith
few_as_one (p ∷ gs) = omega arith

-- commands are one input
pub most_released : (s : Loop) → most_inputs (releases s) + length (all_gathered s) ≤ most_inputs s
most_released s = omega (arith, most_releases s, few_as_one s.gathered, length-append (map as_delivery s.brought) (as_one s.gathered), length-map s.brought as_delivery)
