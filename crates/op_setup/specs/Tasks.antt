-- What the words of the command line ask.
use Rattle.std.specs.Prelude.{◌≡◌, ◌≤◌, ◌<◌, ◌^◌, ℕ, List, [], ◌∷◌, map, codes, decimal, nat_eq, Bool}
use Rattle.std.specs.List.{starts_with, list_any}
use Rattle.op_types.specs.Ranges.{CommandInRange, IsPid, MembersInRange, ReadInRange}
use Rattle.op_types.specs.declared.log.Op.{Op}
use Rattle.op_types.specs.declared.events.Request.{Request}
use Rattle.op_types.specs.declared.events.Request.TheVariants as request
use Rattle.op_gen.specs.Scenarios.{name_of}
use Rattle.op_text.specs.Operations.{OpIsOfBytes, op_name, operands, read_words}
use Rattle.op_text.specs.Percent.{AreBytes}
use Rattle.op_setup.specs.Addresses.{AddrInRange, addr_text}
use Rattle.op_setup.specs.declared.tasks.Task.{Task}
use Rattle.op_setup.specs.declared.tasks.Task.TheVariants.{Node, Replay, Call, Cluster, Drill, DrillLinks}

-- the words of a client's operation, as in a schedule but for the server
abbrev pub op_words : ℕ → ℕ → Op → List (List ℕ)
op_words client seq op = op_name op ∷ decimal client ∷ decimal seq ∷ operands op

-- the words of a request
abbrev pub request_words : Request → List (List ℕ)
request_words (request.Command c) = op_words c.client c.seq c.op
request_words (request.Stop members) = codes "stop" ∷ map decimal members
request_words request.Trim = codes "trim" ∷ []
request_words (request.Read r) = codes "read" ∷ read_words r
request_words request.Status = codes "status" ∷ []
request_words request.End = codes "end" ∷ []

-- the greatest number of events of a drill
abbrev pub most_events : ℕ
most_events = 1000000

-- the greatest number of rounds of a drill of links
abbrev pub most_rounds : ℕ
most_rounds = 1000

-- the words that ask for a task
abbrev pub task_words : Task → List (List ℕ)
task_words (Node id) = codes "node" ∷ decimal id ∷ []
task_words Replay = codes "replay" ∷ []
task_words (Call addr request) = codes "call" ∷ addr_text addr ∷ request_words request
task_words Cluster = codes "cluster" ∷ []
task_words (Drill seed events) = codes "drill" ∷ decimal seed ∷ decimal events ∷ []
task_words (DrillLinks scenario rounds) =
    codes "drill" ∷ codes "--links" ∷ name_of scenario ∷ decimal rounds ∷ []

-- the request's parts are in range
abbrev pub RequestInRange : Request → Type 0
RequestInRange (request.Command c) = CommandInRange c × OpIsOfBytes c.op
RequestInRange (request.Stop members) = MembersInRange members
RequestInRange request.Trim = Unit {0}
RequestInRange (request.Read r) = ReadInRange r × AreBytes r.key
RequestInRange request.Status = Unit {0}
RequestInRange request.End = Unit {0}

-- the task's parts are in range
abbrev pub TaskInRange : Task → Type 0
TaskInRange (Node id) = IsPid id
TaskInRange Replay = Unit {0}
TaskInRange (Call addr request) = AddrInRange addr × RequestInRange request
TaskInRange Cluster = Unit {0}
TaskInRange (Drill seed events) = (seed < 2 ^ 64) × (1 ≤ events) × (events ≤ most_events)
TaskInRange (DrillLinks scenario rounds) = (1 ≤ rounds) × (rounds ≤ most_rounds)

-- the words are this request's
pub record IsRequestOf (words : List (List ℕ)) (r : Request) : Type 0 where
  pub in_range : RequestInRange r
  pub written : words ≡ request_words r

-- the words are some request's
abbrev pub IsRequest : List (List ℕ) → Type 0
IsRequest words = (r : Request) × IsRequestOf words r

-- the words ask for this task
pub record IsTaskOf (words : List (List ℕ)) (t : Task) : Type 0 where
  pub in_range : TaskInRange t
  pub written : words ≡ task_words t

-- the words ask for some task
abbrev pub IsTask : List (List ℕ) → Type 0
IsTask words = (t : Task) × IsTaskOf words t

-- the word begins with `-`
abbrev pub is_flag : List ℕ → Bool
is_flag word = starts_with nat_eq word (codes "-")

-- some word does
abbrev pub has_flag : List (List ℕ) → Bool
has_flag words = list_any is_flag words

-- the task drills links, and no other has a word that begins with `-`
abbrev pub DrillsLinks : Task → Type 0
DrillsLinks (DrillLinks scenario rounds) = Unit {0}
DrillsLinks _ = ⊥
