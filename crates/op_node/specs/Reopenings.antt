-- A node that failed, and is opened again in place.
use Rattle.std.specs.Prelude.{◌≡◌, ◌⊎◌, ℕ, Bool, false, List, Option, Some, None, Result, IfOk, OnErr, IsErrOf}
use Rattle.op_types.specs.declared.durable.Durable.{Durable}
use Rattle.op_types.specs.declared.messages.Msg.{Msg}
use Rattle.op_record.specs.Ranges.{DurableInRange}
use Rattle.op_protocol.specs.Starting.{state_after_restart}
use Rattle.op_runs.specs.World.{state_after_reopening, sends_as}
use Rattle.op_outside.specs.Disks.{DiskState, MayLeave}
use Rattle.op_store.specs.Stored.{Disks, IsStored, Obey}
use Rattle.op_store.specs.Stores.{disks_of}
use Rattle.op_store.specs.Openings.{Opened, refused_by}
use Rattle.op_store.specs.declared.fail.StoreFail.{StoreFail}
use Rattle.op_store.specs.declared.fail.StoreFail.TheVariants.{DiskFault, Damaged, NewerVersion, NoMemory}
use Rattle.op_node.specs.Nodes.{NodeState, node_of}
use Rattle.op_node.specs.Openings.{kept_from, RefusesNode}
use Rattle.op_node.specs.declared.node.Node.{Node}

-- ---- what the disks of a node store that failed

-- two disks with these bytes store the one durable state or the other
abbrev pub IsOneOf : Durable → Durable → List ℕ → List ℕ → Type 0
IsOneOf before after first second = IsStored before first second ⊎ IsStored after first second

-- Of these disks a read gives the durable state of before a step, or the one of after it, and so does what
-- a crash may leave of them.
pub record StoreOneOf (before after : Durable) (disks : Disks) : Type 0 where
  pub obey : Obey disks
  pub read : IsOneOf before after disks.first.content disks.second.content
  pub left : (x y : List ℕ) → MayLeave disks.first x → MayLeave disks.second y → IsOneOf before after x y

-- ---- an opening

-- what it sends that is opened again with what it takes of this durable state
abbrev pub reopening_sends : Durable → NodeState → List (ℕ × Msg)
reopening_sends d n = sends_as n.kind n.me (kept_from n.kind n.me d)

-- the node, opened again with what it takes of this durable state: its clients wait still
abbrev pub reopened_with : Durable → NodeState → NodeState
reopened_with d n =
    record n { state = state_after_reopening n.me n.state (kept_from n.kind n.me d); failed = None }

-- the same as after a restart: nobody waits
abbrev pub restarted_with : Durable → NodeState → NodeState
restarted_with d n =
    record n { state = state_after_restart n.me (kept_from n.kind n.me d); failed = None }

-- The count of faults that a node keeps whose opening is refused: the new one, where a call of a disk failed.
abbrev pub count_kept : Option ℕ → StoreFail → Option ℕ
count_kept failed (DiskFault count) = Some count
count_kept failed (Damaged area at) = failed
count_kept failed (NewerVersion area version) = failed
count_kept failed NoMemory = failed

module _ {D : Type 0} (state : D → DiskState) where
  -- The disks store this durable state, or nothing, and then that which the node kept, and the node is
  -- opened with it. It sends what it does after a restart.
  pub record Reopens (d : Durable) (is_new : Bool) (old new : Node D) (sends : List (ℕ × Msg)) : Type 0 where
    pub opened : Opened state (node_of old).state.durable (disks_of state old.store) new.store d is_new
    pub range : DurableInRange d
    pub node : node_of new ≡ reopened_with d (node_of old)
    pub sends_are : sends ≡ reopening_sends d (node_of old)

  -- The same, but that it begins as after a restart.
  pub record Restarts (d : Durable) (is_new : Bool) (old new : Node D) (sends : List (ℕ × Msg)) : Type 0 where
    pub opened : Opened state (node_of old).state.durable (disks_of state old.store) new.store d is_new
    pub range : DurableInRange d
    pub node : node_of new ≡ restarted_with d (node_of old)
    pub sends_are : sends ≡ reopening_sends d (node_of old)

  -- An opening that is refused, as that of a node that is down: it has failed still, in its state of before.
  pub record RefusesAgain (old new : Node D) (cause : StoreFail) : Type 0 where
    pub disks : RefusesNode state (node_of old).state.durable old.store.first old.store.second
        (refused_by new.store cause)
    pub node : node_of new ≡ record (node_of old) { failed = count_kept (node_of old).failed cause }

  -- Of disks that store one of two durable states an opening finds one, no damage and no newer version. Where
  -- it is refused the next one does so.
  pub record FindsOneOf (before after : Durable) (old new : Node D)
      (result : Result (List (ℕ × Msg)) StoreFail) : Type 0 where
    pub found : IfOk result (λ sends.
        Reopens before false old new sends ⊎ Reopens after false old new sends)
    pub left : OnErr result (StoreOneOf before after (disks_of state new.store))
    pub undamaged : (area at : ℕ) → IsErrOf result (Damaged area at) → ⊥
    pub not_newer : (area version : ℕ) → IsErrOf result (NewerVersion area version) → ⊥
