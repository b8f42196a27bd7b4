-- A spawner in memory.
use Rattle.std.specs.Prelude.{◌≡◌, ◌++◌, ◌==◌, ℕ, not, List, [], ◌∷◌, filter, Option, Result, Ok, Err, if◌then◌else◌}
use Rattle.std.specs.List.{list_any}
use Rattle.op_outside.specs.Spawners.{ChildCall, Started, EndedWith}
use Rattle.op_outside.specs.declared.spawner.ChildFail.{ChildFail}
use Rattle.op_memory.specs.Fakes.{first_or, one_more, fails_next, faults_after}
use Rattle.op_memory.specs.declared.fake_spawner.KeptChild.{KeptChild}
use Rattle.op_memory.specs.declared.fake_spawner.KeptChild.TheVariants as kept

-- a call that was kept, as the trait tells it
abbrev pub child_call : KeptChild → ChildCall
child_call (kept.Started id input done) = Started id input.items done
child_call (kept.Ended id status) = EndedWith id status

-- the statuses that ends give next, the numbers of the calls that fail, how many calls were made and how many
-- failed, which ids run, and the calls that are told
pub record SpawnerState : Type 0 where
  pub statuses : List ℕ
  pub fails : List ℕ
  pub calls : ℕ
  pub faults : ℕ
  pub running : List ℕ
  pub told : Option (List ChildCall)

-- an end fails where the script says so or the id doesn't run; after the script the status is 0
abbrev pub end_of : ℕ → SpawnerState → Result ℕ ChildFail
end_of id s = if fails_next s.calls s.fails then Err record {} else
    if list_any (λ other. other == id) s.running then Ok (first_or 0 s.statuses) else Err record {}

-- after a call: one more was made, and one more failed where it failed
pub record Called {T : Type 0} (old new : SpawnerState) (result : Result T ChildFail) : Type 0 where
  pub fails : new.fails ≡ old.fails
  pub calls : new.calls ≡ one_more old.calls
  pub faults : new.faults ≡ faults_after old.faults result

-- which ids run after a start
abbrev pub running_after_start : {T : Type 0} → ℕ → List ℕ → Result T ChildFail → List ℕ
running_after_start id running (Ok x) = running ++ id ∷ []
running_after_start id running (Err e) = running

-- and after an end
abbrev pub running_after_end : {T : Type 0} → ℕ → List ℕ → Result T ChildFail → List ℕ
running_after_end id running (Ok x) = filter (λ other. not (other == id)) running
running_after_end id running (Err e) = running
