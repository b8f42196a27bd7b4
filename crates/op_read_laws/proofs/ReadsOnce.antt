-- A read comes once.
use Rattle.std.proofs.Common.{◌≡◌, ◌<◌, ℕ, List, ◌∷◌, ◌++◌, length, take, Some, refl, sym, ap, ◌∙◌, subst, arith, slice_get, length-append, append_assoc}
use Rattle.op_runs.specs.World as product
use Rattle.op_runs.specs.Run.{Execution, first_execution, execution_of}
use Rattle.op_runs.specs.Fresh.{stepping, Comes}
use Rattle.op_laws.specs.Runs.{RunInRange}
use Rattle.op_read_laws.specs.Once.{EveryReadComesOnce}
use Rattle.op_read_laws.proofs.Moments.{Followed}
use Rattle.op_read_laws.proofs.Holding.{Came, WasAsked, new_number}
use Rattle.op_read_laws.proofs.ReadsFresh.{holds_at, followed, got_behind, take_front}

-- in every run
pub every_read_comes_once : EveryReadComesOnce
every_read_comes_once members spares hs k before middle after g h x is first second =
    let range = subst (RunInRange members spares) is k in
    let early : List product.Happening = before ++ g ∷ middle in
    let run : List product.Happening = early ++ h ∷ after in
    let r : Followed = followed members spares run range in
    let t : Execution = first_execution members spares in
    let i : ℕ = length before in
    let j : ℕ = length early in
    let split : run ≡ before ++ g ∷ (middle ++ h ∷ after) = append_assoc before (g ∷ middle) (h ∷ after) in
    let at_i : slice_get run i ≡ Some g = ap (λ (l : List product.Happening). slice_get l i) split ∙ got_behind before g (middle ++ h ∷ after) in
    let at_j : slice_get run j ≡ Some h = got_behind early h after in
    let front_i : take i run ≡ before = ap (take i) split ∙ take_front before (g ∷ (middle ++ h ∷ after)) in
    let front_j : take j run ≡ early = take_front early (h ∷ after) in
    let came_i : Came r x i = record { happening = g; is = at_i; comes = subst (λ (l : List product.Happening). Comes x (stepping (execution_of t l).world g)) (sym front_i) first } in
    let came_j : Came r x j = record { happening = h; is = at_j; comes = subst (λ (l : List product.Happening). Comes x (stepping (execution_of t l).world h)) (sym front_j) second } in
    let less : i < j = omega (arith, length-append before (g ∷ middle)) in
    let was : WasAsked r j x.pid x.conf x.ballot x.asked.number = record { at = i; before = less; read = x.asked; number_is = refl; came = came_i } in
    new_number r j (holds_at r j) x.pid x.conf x.ballot x.asked.number was x.asked came_j refl
