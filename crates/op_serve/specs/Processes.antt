-- Processes of one node, one after the other, each of which ends by itself.
use Rattle.std.specs.Prelude.{◌++◌, ◌∷◌, [], ℕ, List, map}
use Rattle.op_outside.specs.Disks.{DiskState}
use Rattle.op_store.specs.Stored.{Disks}
use Rattle.op_node.specs.Nodes.{NodeState}
use Rattle.op_runs.specs.World.{Kind}
use Rattle.op_serving.specs.Inputs.{Deed}
use Rattle.op_cluster_laws.specs.Traces.{Event, does, ends, opens, Lived, lived_by}
use Rattle.op_cluster_laws.specs.Clusters.{IsLife, MayHappen}
use Rattle.op_serve.specs.Lives.{Lives, MayFollow}
use Rattle.op_serve.specs.Nodes.{Around, IsOpened, ObeyIn, IsOwn, disks_in, faults_of}

-- at each moment of these events it is a life, and each of them may happen
abbrev pub Lasts : Lived → List Event → Type 0
Lasts l [] = IsLife l
Lasts l (e ∷ es) = IsLife l × MayHappen l e × Lasts (lived_by l e) es

module _ {D : Type 0} (state : D → DiskState) where
  -- A process that opened the node and ended by itself: what was around it before, once the node was open,
  -- and at its end; and what it did, of which `serve_as` says that.
  pub record Process (kind : Kind) (id : ℕ) (members : List ℕ) : Type 0 where
    pub old : Around D
    pub mid : Around D
    pub new : Around D
    pub node : NodeState
    pub opened : IsOpened state kind id members old mid node
    pub obey : ObeyIn state old
    pub deeds : List Deed
    pub did : IsOwn state kind id old opened.durable
        → Lives node (faults_of state mid) deeds (disks_in state new)

  module _ {kind : Kind} {id : ℕ} {members : List ℕ} where
    -- each finds what the one before left on its disks, or what a crash left of that
    abbrev pub Follow : Disks → List (Process kind id members) → Type 0
    Follow disks [] = Unit {0}
    Follow disks (p ∷ ps) = MayFollow disks (disks_in state p.old) × Follow (disks_in state p.new) ps

    -- what happens at the node: what this one does, its end, and then this
    abbrev pub events_of : Process kind id members → List Event → List Event
    events_of p es = map does p.deeds ++ ends ∷ es

    -- and behind it what the next ones do, each opened first
    abbrev pub events_then : List (Process kind id members) → List Event
    events_then [] = []
    events_then (p ∷ ps) = opens p.opened.durable (faults_of state p.mid) ∷ events_of p (events_then ps)
