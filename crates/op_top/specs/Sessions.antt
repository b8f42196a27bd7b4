-- A run of the program: what it leaves outside, and the line that tells how it ended.
use Rattle.std.specs.Prelude.{◌≡◌, ℕ, List}
use Rattle.op_outside.specs.declared.disk.Disk.{Ghosts}
use Rattle.op_outside.specs.Seen.{StreamSeen, Tells}
use Rattle.op_serving.specs.declared.mark.Mark.{Mark}
use Rattle.op_status.specs.Statuses.{status_line}
use Rattle.op_status.specs.declared.status.Status.{Status}
use Rattle.op_status.specs.declared.status.Status.TheVariants as status
use Rattle.op_top.specs.Tasks.{Outside, Does, DoesNothing}

-- a run of these words that ended with this status
pub record Ends {D : Type 0} (disk : Ghosts D) (words : List (List ℕ)) (old new : Outside D)
    (err0 err1 : StreamSeen) (s : Status) (lost : List Mark) : Type 0 where
  pub does : Does disk words old new s lost
  pub told : Tells err0 err1 (status_line s)

-- a run without memory for its words: nothing is done but the line that tells it
pub record EndsWithoutWords {D : Type 0} (old new : Outside D) (err0 err1 : StreamSeen) (s : Status)
    (lost : List Mark) : Type 0 where
  pub ended : s ≡ status.NoMemory
  pub nothing : DoesNothing old new lost
  pub told : Tells err0 err1 (status_line s)
