-- The life of a node that is served, as the theorem of a cluster has it: what a run of it is, what it leaves
-- on the disks, and how the next one begins.
use Rattle.std.specs.Prelude.{◌≡◌, ◌⊎◌, ◌++◌, [], ℕ, Bool, false, List, Some, None}
use Rattle.op_types.specs.declared.durable.Durable.{Durable}
use Rattle.op_outside.specs.Disks.{MayLeave}
use Rattle.op_runs.specs.Possible.{kind_in}
use Rattle.op_runs.specs.World.{Kind}
use Rattle.op_store.specs.Stored.{Disks}
use Rattle.op_node.specs.Nodes.{NodeState}
use Rattle.op_node.specs.Openings.{TakesWhole}
use Rattle.op_node.specs.Reopenings.{StoreOneOf}
use Rattle.op_serving.specs.Cores.{Standing}
use Rattle.op_serving.specs.Inputs.{Deed}
use Rattle.op_serving.specs.Reopenings.{Unstored, all_stored}
use Rattle.op_cluster_laws.specs.Traces.{ends, opens, Lived, stands, lived_by, first_as, first_life}
use Rattle.op_cluster_laws.specs.Clusters.{IsLife, MayOpen}

-- where a node stands that was opened when its disks had failed so often
abbrev pub opened_at : NodeState → ℕ → Standing
opened_at n count =
    record { kind = n.kind; me = n.me; state = n.state; failed = None; faults = count }

-- such a node, and what it has done since
abbrev pub life_of : NodeState → ℕ → List Deed → Lived
life_of n count deeds = record {
  first = opened_at n count;
  unstored = all_stored n.state;
  deeds = deeds;
  inside = [];
  left = None;
}

-- the same, once it ends
abbrev pub life_ended : NodeState → ℕ → List Deed → Lived
life_ended n count deeds = lived_by (life_of n count deeds) ends

-- A life is over: its disks store what the node had stored before the inputs that were to be stored together
-- as one of them failed, or what is behind these, and so does what a crash leaves of them. Where none has
-- failed both are all that it has stored. The node takes either whole.
pub record Leaves (l : Lived) (disks : Disks) : Type 0 where
  pub left : Unstored
  pub is : l.left ≡ Some left
  pub stored : StoreOneOf left.before.durable left.ahead.durable disks
  pub whole : TakesWhole (stands l).kind (stands l).me left.before.durable
      × TakesWhole (stands l).kind (stands l).me left.ahead.durable

-- each first part of these deeds is a life of the node so far, and these disks are what all of it leaves
pub record Lives (n : NodeState) (count : ℕ) (deeds : List Deed) (disks : Disks) : Type 0 where
  pub lives : (first later : List Deed) → deeds ≡ first ++ later → IsLife (life_of n count first)
  pub leaves : Leaves (life_ended n count deeds) disks

-- ---- the next life

-- disks of which a read gives what one gave of these, or what a crash left of them
abbrev pub MayFollow : Disks → Disks → Type 0
MayFollow old new = ((new.first.content ≡ old.first.content) × (new.second.content ≡ old.second.content))
    ⊎ (MayLeave old.first new.first.content × MayLeave old.second new.second.content)

-- What an opening found is what the life before may leave, the node takes it whole, and its next life begins
-- as the theorem of a cluster has it.
pub record IsNext (l : Lived) (d : Durable) (is_new : Bool) (n : NodeState) (count : ℕ) : Type 0 where
  pub there : is_new ≡ false
  pub may : MayOpen l.left d
  pub whole : TakesWhole (stands l).kind (stands l).me d
  pub next : life_of n count [] ≡ lived_by l (opens d count)

-- An opening over disks that store nothing: the node takes what it begins with whole, and that is its first
-- life, and the same as an opening that finds what a node of the world stores at its start.
pub record IsFirst (kind : Kind) (id : ℕ) (members : List ℕ) (d : Durable) (n : NodeState) (count : ℕ)
    : Type 0 where
  pub is : d ≡ (first_as kind members id).state.durable
  pub whole : TakesWhole kind id d
  pub first : (observers : List ℕ) (faulted : ℕ → ℕ) → kind_in observers id ≡ kind → faulted id ≡ count
      → life_of n count [] ≡ first_life members observers faulted id
  pub again : (l : Lived) → (stands l).kind ≡ kind → (stands l).me ≡ id
      → life_of n count [] ≡ lived_by l (opens d count)
