-- How many sessions may end yet, and how many Downs are to be given: a session that ends leaves one Down at most.
use Rattle.std.proofs.Common.{◌≡◌, ◌≤◌, ◌∷◌, [], ℕ, List, Option, Some, None, inl, inr, arith}
use Rattle.std.proofs.lemmas.Bool.{cases_Bool}
use Rattle.op_types.specs.declared.answers.Outcome.{Outcome}
use Rattle.op_types.specs.declared.answers.Refusal.{Refusal}
use Rattle.op_types.specs.declared.answers.Refusal.TheVariants.{StorageFailed}
use Rattle.op_types.specs.declared.events.Input.{Input}
use Rattle.op_serving.specs.declared.mark.Mark.{Mark}
use Rattle.op_serving.specs.declared.wanted.Wanted.{Wanted}
use Rattle.op_serving.specs.Cores.{Standing, gives, given_again}
use Rattle.op_serving.specs.Fates.{Fate, done, finds, faults, shares, damaged, lost}
use Rattle.op_serving.specs.Handing.{is_read, keys_that_wait, said_at_once, said_of_denial, proposed, excused}
use Rattle.op_serving.specs.Inputs.{loop_after}
use Rattle.op_serving.specs.Losses.{lost_one, is_due, settle, size}
use Rattle.op_serving.specs.State.{Loop}
use Rattle.op_queues.proofs.Counting.{size_lost}
use Rattle.op_queues.proofs.Settling.{Quiet, quiet_same, quiet_then}
use Rattle.op_queues.proofs.Asking.{quiet_asked}
use Rattle.op_queues.proofs.Sending.{quiet_told_all, quiet_handed}
use Rattle.op_queues.proofs.Failing.{quiet_given_up}
pub use Rattle.op_queues.proofs.Counting.{size_marked}

size_one : (o : Option ℕ) (s : Loop) → size (lost_one o s) ≤ size s
size_one None s = omega arith
size_one (Some c) s = size_lost c s

pub size_settle : (ms : List Mark) (s : Loop) → size (settle ms s) ≤ size s
size_settle [] s = omega arith
size_settle (m ∷ ms) s = elim (cases_Bool (is_due m s)) [
  | inl h ↦ rw h (let a = size_settle ms (lost_one m.conn s) in let b = size_one m.conn s in omega (arith, a, b))
  | inr h ↦ rw h (omega arith)
]

-- what is handed out ends none
quiet_proposed : (w : Option Wanted) (o : Option Outcome) → Quiet (proposed w o)
quiet_proposed None o = quiet_same
quiet_proposed (Some w) o = quiet_then (quiet_asked (is_read w) (keys_that_wait w o)) (quiet_told_all (said_at_once w o))

quiet_excused : (w : Option Wanted) (why : Option Refusal) → Quiet (excused w why)
quiet_excused None why = quiet_same
quiet_excused (Some w) why = quiet_told_all (said_of_denial w why)

quiet_after : (a : Option Wanted) (i : Input) (f : Fate) (n : Standing) → Quiet (loop_after a i f n)
quiet_after a i done n = quiet_then (quiet_proposed a (gives n i).outcome) (quiet_handed (gives n i))
quiet_after a i (finds d) n = quiet_then (quiet_proposed a None) (quiet_handed (given_again n d))
quiet_after a i (faults k) n = quiet_then (quiet_given_up k) (quiet_excused a (Some (StorageFailed k)))
quiet_after a i (shares k) n = quiet_excused a (Some (StorageFailed k))
quiet_after a i damaged n = quiet_same
quiet_after a i lost n = quiet_excused a None

pub size_loop_after : (a : Option Wanted) (i : Input) (f : Fate) (n : Standing) (s : Loop) → size (loop_after a i f n s) ≡ size s
size_loop_after a i f n s = (quiet_after a i f n).ends s
