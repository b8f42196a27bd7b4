-- The laws of every run, said of one.
use Rattle.std.specs.Prelude.{◌≡◌, ◌<◌, ℕ, nat_eq, false, List, ◌∷◌, ◌++◌, None, All}
use Rattle.std.specs.Set.{is_member}
use Rattle.op_runs.specs.World.{World, Happening, node_at}
use Rattle.op_runs.specs.Fresh.{ReadsAreFresh}
use Rattle.op_runs.specs.Run.{Execution, first_execution, execution_with, execution_of, Meets}
use Rattle.op_runs.specs.Replies.{RepliesAreServed}
use Rattle.op_runs.specs.Summary.{summary_of}
use Rattle.op_laws.specs.Alone.{DecidesAlone, AnswersAlone}
use Rattle.op_laws.specs.Closes.{ClosesWhole}
use Rattle.op_laws.specs.Elected.{TwoMoments, until_second, RisesBetween}
use Rattle.op_laws.specs.Exchange.{ExchangesDecide}
use Rattle.op_laws.specs.Known.{TrimsAreKnown, MessagesAreTrue}
use Rattle.op_laws.specs.Led.{LeadsOnceIn}
use Rattle.op_read_laws.specs.Once.{ReadsComeOnce}
use Rattle.op_read_laws.specs.Told.{LinesAreFresh}
use Rattle.op_bounds.specs.Owners.{OwnsNoBallot}
use Rattle.op_spec.specs.Machine.{Leads}
use Rattle.op_watch_laws.specs.Laws.{ObserverStands, ShownAreTrue, NoneFalls, IsApart, PromisesNoneOf}
use Rattle.op_watch_laws.specs.Learning.{watched_of, watched_with}

-- what a run of these members and spares has come to after these happenings
abbrev pub reached : List ℕ → List ℕ → List Happening → Execution
reached members spares hs = execution_of (first_execution members spares) hs

-- what holds of each happening of a run, in what the run has come to before it
abbrev pub AtEach : (Execution → Happening → Type 0) → List ℕ → List ℕ → List Happening → Type 0
AtEach P members spares run =
    (early : List Happening) (h : Happening) (late : List Happening) → run ≡ early ++ h ∷ late
    → P (reached members spares early) h

-- what holds of each two moments of a run
abbrev pub OfEachTwo : (List ℕ → List ℕ → TwoMoments → Type 0) → List ℕ → List ℕ → List Happening → Type 0
OfEachTwo P members spares run =
    (m : TwoMoments) (late : List Happening) → run ≡ until_second m ++ m.second ∷ late → P members spares m

-- in a happening no observer goes back
abbrev pub KeepsWatch : Execution → Happening → Type 0
KeepsWatch t h = NoneFalls t.world.observers (execution_with t h).world.observers

-- no node has promised a ballot of an id that neither these members nor the nodes have
abbrev pub PromisesNoOther : List ℕ → World → Type 0
PromisesNoOther members w =
    (q : ℕ) → 0 < q → is_member nat_eq members q ≡ false → node_at w.nodes q ≡ None
    → All (λ n. PromisesNoneOf q n.state.durable.part) w.nodes

-- whatever happens is finitely many steps of the list machine, also where observers know what they have
-- decided
abbrev pub LearnsAlways : List ℕ → List ℕ → List Happening → Type 0
LearnsAlways members spares run =
    (early : List Happening) (h : Happening) (late : List Happening) → run ≡ early ++ h ∷ late
    → let t = watched_of (first_execution members spares) early in Leads t.machine (watched_with t h).machine

-- what holds of observers, in what a run of these members has come to
pub record KeepsObservers (members : List ℕ) (t : Execution) : Type 0 where
  -- each stands for a decided prefix, and serves that
  pub stand : All (ObserverStands members t.machine.lists) t.world.observers
  -- each message to one that was ever sent is true
  pub shown : ShownAreTrue members t
  -- each has an id that no node and none of these members has
  pub apart : All (IsApart members t.world) t.world.observers
  -- no ballot of theirs is promised
  pub unowned : PromisesNoOther members t.world

-- where stop-signs name nodes alone: no ballot of an observer's id is promised, accepted or told
abbrev pub NoneOwnsBallots : World → Type 0
NoneOwnsBallots w = All (λ n. OwnsNoBallot w n.pid) w.observers

-- what holds of these members' and spares' run over these happenings
pub record KeepsTheLaws (members spares : List ℕ) (run : List Happening) : Type 0 where
  -- it meets the list machine
  pub meets : Meets members spares run
  -- each client that is answered is answered by the lists that are reported
  pub served : RepliesAreServed (summary_of members (reached members spares run))
  -- nothing is trimmed that a member of that configuration never knew
  pub trims : TrimsAreKnown (reached members spares run)
  -- every message that was sent is true
  pub messages : MessagesAreTrue members (reached members spares run)
  -- wherever an exchange is in the run, it decides
  pub exchanges : (early hs late : List Happening) → run ≡ early ++ hs ++ late
      → ExchangesDecide (reached members spares early) hs
  -- so does one with whose last answer the leader closes its configuration
  pub closes : AtEach ClosesWhole members spares run
  -- what comes at a leader that is a majority alone is decided, and its clients are answered
  pub alone : AtEach DecidesAlone members spares run
  pub answers : AtEach AnswersAlone members spares run
  -- the ballots that a node elects in a configuration rise between two starts, and none is led twice
  pub rises : OfEachTwo RisesBetween members spares run
  pub leads : OfEachTwo LeadsOnceIn members spares run
  -- each read that is answered came before, in one happening, and has all that was decided anywhere by then
  pub fresh : ReadsAreFresh members spares run
  pub once : ReadsComeOnce members spares run
  -- so has each line that tells what a read gave
  pub told : LinesAreFresh members spares run
  -- each observer stands for what is decided, none ever goes back, and what they know is learnt
  pub observers : KeepsObservers members (reached members spares run)
  pub watch : AtEach KeepsWatch members spares run
  pub learns : LearnsAlways members spares run
