-- Linearizable, in the sense of Herlihy and Wing: there is one order of all operations, each between its call
-- and its return, in which a plain map gives every answer.
use Rattle.std.specs.Prelude.{◌≡◌, ◌++◌, ◌∷◌, [], ℕ, List, Option, Some, None, if◌then◌else◌, bytes_eq, fold}
use Rattle.op_types.specs.declared.answers.Answer.{Answer}
use Rattle.op_types.specs.declared.answers.Answer.TheVariants as answer
use Rattle.op_types.specs.declared.log.Command.{Command}
use Rattle.op_types.specs.declared.log.Op.{Op}
use Rattle.op_types.specs.declared.log.Op.TheVariants as op
use Rattle.op_types.specs.declared.read.Read.{Read}
use Rattle.op_types.specs.declared.writes.Write.{Write}
use Rattle.op_types.specs.declared.writes.Write.TheVariants as write
use Rattle.op_spec.specs.Machine.{IsAmong}
use Rattle.op_spec.specs.Service.{is_value, told_value}

-- ---- a map

-- the value of each key, if it has one
abbrev pub Map : Type 0
Map = List ℕ → Option (List ℕ)

-- no key has a value
abbrev pub empty_map : Map
empty_map key = None

-- the map, but for the value of one key
abbrev pub map_with : List ℕ → Option (List ℕ) → Map → Map
map_with key value m k = if bytes_eq key k then value else m k

-- the map after one of several writes
abbrev pub map_written : Map → Write → Map
map_written m (write.Put key value) = map_with key (Some value) m
map_written m (write.Del key) = map_with key None m

-- the map after an operation: several writes are one step of it, and who is forgotten leaves it as it is
abbrev pub map_after : Op → Map → Map
map_after (op.Put key value) m = map_with key (Some value) m
map_after (op.Del key) m = map_with key None m
map_after (op.Get key) m = m
map_after (op.Cas key old new) m = if is_value old (m key) then map_with key (Some new) m else m
map_after (op.Many writes) m = fold map_written m writes
map_after (op.Forget client) m = m

-- what an operation is answered: that it is done, or the value that its key has, or that this has none
abbrev pub map_answer : Op → Map → Answer
map_answer (op.Put key value) m = answer.Done
map_answer (op.Del key) m = answer.Done
map_answer (op.Get key) m = told_value (m key)
map_answer (op.Cas key old new) m = if is_value old (m key) then answer.Done else told_value (m key)
map_answer (op.Many writes) m = answer.Done
map_answer (op.Forget client) m = answer.Done

-- an answer that a map may give: not that the client went on to a later number, or that the call was given up
abbrev pub IsResult : Answer → Type 0
IsResult answer.Stale = ⊥
IsResult (answer.Dropped why) = ⊥
IsResult _ = Unit {0}

-- ---- a history of calls and returns

-- what a client calls: a command, or a read, which no log holds
pub data ClientCall : Type 0 where
  commands : Command → ClientCall
  reads : Read → ClientCall

-- its operation: a read is a get
abbrev pub op_of : ClientCall → Op
op_of (commands c) = c.op
op_of (reads r) = op.Get r.key

-- an event at a client: it calls an operation, or an operation returns to it with an answer
pub data ClientEvent : Type 0 where
  calls : ClientCall → ClientEvent
  returns : ClientCall → Answer → ClientEvent

-- in the order of time
abbrev pub History : Type 0
History = List ClientEvent

-- ---- linearizable

-- no call stands twice in an order
abbrev pub AreApart : List ClientCall → Type 0
AreApart [] = Unit {0}
AreApart (x ∷ xs) = (IsAmong xs x → ⊥) × AreApart xs

-- one stands before the other
abbrev pub StandsBefore : List ClientCall → ClientCall → ClientCall → Type 0
StandsBefore order x y =
    (first rest : List ClientCall) × (order ≡ first ++ rest) × IsAmong first x × IsAmong rest y

-- each that has returned has the answer of the map that all before it have made of this one
abbrev pub MapAnswers : History → Map → List ClientCall → Type 0
MapAnswers h m [] = Unit {0}
MapAnswers h m (x ∷ xs) =
    ((a : Answer) → IsAmong h (returns x a) → a ≡ map_answer (op_of x) m)
    × MapAnswers h (map_after (op_of x) m) xs

-- There is a linearization: an order of calls that has each which returned, and any of the others. An empty
-- map gives the answers; and a call that had returned before another one was made stands before that.
pub record Linearizable (h : History) : Type 0 where
  pub order : List ClientCall
  pub apart : AreApart order
  pub called : (x : ClientCall) → IsAmong order x → IsAmong h (calls x)
  pub completed : (x : ClientCall) (a : Answer) → IsAmong h (returns x a) → IsAmong order x
  pub answers : MapAnswers h empty_map order
  pub in_time : (early late : History) → h ≡ early ++ late → (x y : ClientCall) (a : Answer)
      → IsAmong early (returns x a) → IsAmong late (calls y) → IsAmong order y → StandsBefore order x y
