-- What a run tells of reads is fresh.
use Rattle.std.specs.Prelude.{◌≡◌, ℕ, List, [], ◌∷◌, ◌++◌}
use Rattle.op_types.specs.declared.answers.Answer.{Answer}
use Rattle.op_types.specs.declared.answers.Answer.TheVariants as answer
use Rattle.op_runs.specs.declared.summary.Line.{Line}
use Rattle.op_runs.specs.declared.summary.Line.TheVariants as line
use Rattle.op_spec.specs.Machine.{IsAmong}
use Rattle.op_runs.specs.World.{Happening}
use Rattle.op_runs.specs.Run.{Execution, first_execution, execution_of}
use Rattle.op_runs.specs.Fresh.{ReadAt, CameFresh}
use Rattle.op_laws.specs.Runs.{RunInRange}

-- a read's value, or that its key has none: it isn't given up
abbrev pub IsGiven : Answer → Type 0
IsGiven (answer.Value value) = Unit {0}
IsGiven answer.Absent = Unit {0}
IsGiven _ = ⊥

-- one of these happenings tells this line, of a read that came at that node in it or before it and is fresh
pub record ToldFresh (t : Execution) (hs : List Happening) (pid client seq : ℕ) (a : Answer) : Type 0 where
  pub before : List Happening
  pub tells : Happening
  pub after : List Happening
  pub place : hs ≡ before ++ tells ∷ after
  pub new : List Line
  pub lines : (execution_of t (before ++ tells ∷ [])).world.lines ≡ (execution_of t before).world.lines ++ new
  pub told : IsAmong new (line.Read pid client seq a)
  pub read : ReadAt
  pub pid_is : read.pid ≡ pid
  pub client_is : read.asked.read.client ≡ client
  pub seq_is : read.asked.read.seq ≡ seq
  pub fresh : CameFresh t (before ++ tells ∷ []) (execution_of t (before ++ tells ∷ [])).machine read a

-- so is each line of a run that tells what a read gave
abbrev pub LinesAreFresh : List ℕ → List ℕ → List Happening → Type 0
LinesAreFresh members spares hs =
    (pid client seq : ℕ) (a : Answer) → IsGiven a
    → IsAmong (execution_of (first_execution members spares) hs).world.lines (line.Read pid client seq a)
    → ToldFresh (first_execution members spares) hs pid client seq a

-- so are those of every run
abbrev pub EveryLineIsFresh : Type 0
EveryLineIsFresh =
    (members spares : List ℕ) (hs : List Happening) → RunInRange members spares hs
    → LinesAreFresh members spares hs
