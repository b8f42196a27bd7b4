-- What comes behind the spares: observers, if a line names them, and what comes after these.
use Rattle.std.proofs.Common.{◌≡◌, ℕ, List, [], ◌∷◌, Result, Ok, Err, sym, subst, ◌∙◌, inl, inr}
use Rattle.std.specs.Result.{IfOk}
use Rattle.op_sched.specs.Courses.{course_in}
use Rattle.op_sched.specs.Failing.{IfBadLine}
use Rattle.op_sched.specs.Grammar.{AreAfterObservers, AreAfterSpares, IsObserverLine}
use Rattle.op_sched.specs.declared.reading.Course.{Course}
use Rattle.op_sched.specs.declared.schedule.SchedFail.{SchedFail}
use Rattle.op_sched.specs.declared.schedule.SchedFail.TheVariants.{BadLine, NoMemory}

-- a first line names these observers, and the others come after it
pub behind_observers : (members spares observers : List ℕ) (line : ℕ × List ℕ) (lines all : List (ℕ × List ℕ)) → all ≡ line ∷ lines → IsObserverLine members spares line.1 observers
    → (r : Result Course SchedFail) → IfOk r (λ c. c.observers ≡ observers) → IfOk r (λ c. AreAfterObservers lines c.is_mirrored c.events) → IfOk r (λ c. AreAfterSpares members spares all (course_in c))
behind_observers members spares observers line lines all found names (Ok c) same after =
    subst (λ (l : List (ℕ × List ℕ)). AreAfterSpares members spares l (course_in c)) (sym found) (inl (subst (λ (os : List ℕ). IsObserverLine members spares line.1 os) (sym same) names, after))
behind_observers members spares observers line lines all found names (Err e) same after = tt

-- there are none
pub behind_none : (members spares observers : List ℕ) (all : List (ℕ × List ℕ)) → observers ≡ [] → (r : Result Course SchedFail) → IfOk r (λ c. c.observers ≡ observers) → IfOk r (λ c. AreAfterObservers all c.is_mirrored c.events)
    → IfOk r (λ c. AreAfterSpares members spares all (course_in c))
behind_none members spares observers all none (Ok c) same after = inr (same ∙ none, after)
behind_none members spares observers all none (Err e) same after = tt

-- a bad line of those after them is one of all
pub bad_behind : (r : Result Course SchedFail) (P Q : ℕ → Type 0) → ((n : ℕ) → P n → Q n) → IfBadLine r P → IfBadLine r Q
bad_behind (Ok c) P Q more bad = tt
bad_behind (Err (BadLine n)) P Q more bad = more n bad
bad_behind (Err NoMemory) P Q more bad = tt
