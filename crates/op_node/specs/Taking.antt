-- Steps that are taken one after the other in memory, and stored together.
use Rattle.std.specs.Prelude.{◌≡◌, ◌≢◌, ◌<◌, ◌++◌, ℕ, List, [], length, vec_len, vec_capacity, Option, Some, None, Result, Ok, Err, OnOk, IfErr, IsOk}
use Rattle.op_types.specs.Changes.{Applies, durable_after}
use Rattle.op_types.specs.declared.changes.Change.{Change}
use Rattle.op_types.specs.declared.durable.Durable.{Durable}
use Rattle.op_types.specs.declared.events.Input.{Input}
use Rattle.op_outside.specs.Causes.{FailsOnlyOnFault}
use Rattle.op_outside.specs.Disks.{DiskState, Costs}
use Rattle.op_record.specs.Forms.{step_text, body}
use Rattle.op_record.specs.declared.body.Rec.TheVariants.{Step}
use Rattle.op_record.specs.Ranges.{BatchInRange}
use Rattle.op_journal.specs.Areas.{frame_space}
use Rattle.op_journal.specs.Calls.{append_calls}
use Rattle.op_journal.specs.declared.fail.DiskFault.{DiskFault}
use Rattle.op_types.specs.declared.given.Given.{Given}
use Rattle.op_store.specs.Failing.{faults}
use Rattle.op_store.specs.Stored.{KeepBoth, other, chosen_disk}
use Rattle.op_store.specs.Stores.{Represents, Commits, IsReady, Passes, disks_of}
use Rattle.op_store.specs.declared.store.Store.{Store}
use Rattle.op_node.specs.Nodes.{NodeState, node_of, gives, stores, after_input}
use Rattle.op_node.specs.Steps.{Steps}
use Rattle.op_node.specs.declared.bound.Bound.{Bound}
use Rattle.op_node.specs.declared.bound.Bound.TheVariants.{Kept, Passed}
use Rattle.op_node.specs.declared.fail.StepFail.TheVariants.{DiskFail}
use Rattle.op_node.specs.declared.node.Node.{Node}
use Rattle.op_node.specs.declared.record.Record.{Record}

-- ---- the record of the steps that were taken

-- these changes are laid out behind the space before a body, but for their count, and there is room to close
-- the record
pub record LaysOut (changes : List Change) (r : Record) : Type 0 where
  pub space : List ℕ
  pub long : length space ≡ frame_space
  pub bytes : r.bytes.items ≡ space ++ step_text 0 changes
  pub count : r.count ≡ length changes
  pub range : BatchInRange changes
  pub room : vec_len r.bytes < vec_capacity r.bytes

-- a record with no more changes than this has room for those of any step
abbrev pub most_before_step : ℕ
most_before_step = 223

-- it has what was changed since this durable state, and the node is ahead by that
pub record LeadsFrom (d : Durable) (changes : List Change) (r : Record) (n : NodeState) : Type 0 where
  pub laid : LaysOut changes r
  pub applies : Applies d changes
  pub ahead : durable_after d changes ≡ n.state.durable

-- ---- a step is taken

module _ {D : Type 0} where
  -- it gives out what the table gives, and the node goes on, which has not stored it
  pub record Takes (x : Input) (old new : Node D) (g : Given) : Type 0 where
    pub given : g ≡ gives (node_of old) x
    pub node : node_of new ≡ after_input (node_of old) x
    pub applies : Applies (node_of old).state.durable (stores (node_of old) x)
    pub store : new.store ≡ old.store

  -- there was no memory for it
  pub record TakesNone (old new : Node D) : Type 0 where
    pub node : node_of new ≡ node_of old
    pub store : new.store ≡ old.store

-- ---- what was taken is stored

-- the count of faults with which a node fails, if it does
abbrev pub count_told : Result Bound DiskFault → Option ℕ
count_told (Ok x) = None
count_told (Err fault) = Some fault.count

module _ {D : Type 0} (state : D → DiskState) (d : Durable) (changes : List Change) (old new : Store D) where
  -- They are stored as those of one step, with a checkpoint where one is due, or there was no memory for it.
  abbrev pub StoresAs : Result Bound DiskFault → Type 0
  StoresAs (Ok Kept) = Steps {T = Unit {0}} state d changes old new (Ok tt)
  StoresAs (Ok Passed) = Passes old (body.text (Step changes))
      × (other old.is_second new.first new.second ≡ other old.is_second old.first old.second)
  StoresAs (Err fault) = Steps {T = Unit {0}} state d changes old new (Err (DiskFail fault.count))

-- What storing these changes at once does to the store of a node that stored this durable state before them:
-- a crash at any moment of it leaves the state before all of them, or behind all of them.
pub record StoresAtOnce {D : Type 0} (state : D → DiskState) (d : Durable) (changes : List Change)
    (old new : Store D) (result : Result Bound DiskFault) : Type 0 where
  pub commits : Represents state d old → Commits state d changes old new result
  -- one append's calls of the chosen area's disk
  pub calls : changes ≢ [] → Costs append_calls (chosen_disk old.is_second (disks_of state old))
      (chosen_disk old.is_second (disks_of state new)) result
  pub idle : changes ≡ [] → (new ≡ old) × IsOk result  -- with nothing to store no call is made
  pub ready : IsReady old → OnOk result (IsReady new)
  pub cause : FailsOnlyOnFault (faults (disks_of state old)) (faults (disks_of state new)) result
  pub told : IfErr result (λ e. e.count ≡ faults (disks_of state new))
  pub kept : KeepBoth (disks_of state old) (disks_of state new)
  pub step : StoresAs state d changes old new result
