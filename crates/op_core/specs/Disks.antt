-- The disks of a node that is served, and what each step of it, and all that it stores together, is to them.
use Rattle.std.specs.Prelude.{◌≡◌, ◌≢◌, List, [], ◌∷◌, None}
use Rattle.op_outside.specs.Disks.{DiskState}
use Rattle.op_store.specs.Stored.{KeepBoth}
use Rattle.op_store.specs.Stores.{disks_of}
use Rattle.op_node.specs.Nodes.{node_of, IsRepresented}
use Rattle.op_node.specs.Openings.{TakesWhole}
use Rattle.op_node.specs.Reopenings.{StoreOneOf}
use Rattle.op_serving.specs.Cores.{Standing}
use Rattle.op_serving.specs.Fates.{Came, after_fate, after_all}
use Rattle.op_serving.specs.Reopenings.{Unstored, unstored_after, FindsOneOf}
use Rattle.op_core.specs.NodeCores.{standing_of}
use Rattle.op_core.specs.declared.node_core.NodeCore.{NodeCore}

-- each opening of these inputs finds what was stored before or behind those for which a disk had failed
abbrev pub FindEach : Standing → Unstored → List Came → Type 0
FindEach n u [] = Unit {0}
FindEach n u (c ∷ cs) =
    FindsOneOf u c.1 × FindEach (after_fate n c.0 c.1) (unstored_after n c.0 c.1 u) cs

-- what the disks may hold behind these inputs
abbrev pub unstored_after_all : Standing → Unstored → List Came → Unstored
unstored_after_all n u [] = u
unstored_after_all n u (c ∷ cs) =
    unstored_after_all (after_fate n c.0 c.1) (unstored_after n c.0 c.1 u) cs

module _ {D : Type 0} (state : D → DiskState) where
  -- A node's disks, where this is what they may hold since one failed: they stand for what the node has
  -- stored or, where it has failed, for one of the two. Each of these is the node's own.
  pub record Stores (u : Unstored) (c : NodeCore D) : Type 0 where
    pub up : (node_of c.node).failed ≡ None → IsRepresented state c.node
    pub failed : (node_of c.node).failed ≢ None →
        StoreOneOf u.before.durable u.ahead.durable (disks_of state c.node.store)
    pub whole : (node_of c.node).failed ≡ None →
        TakesWhole (node_of c.node).kind (node_of c.node).me (node_of c.node).state.durable
    pub before_whole : TakesWhole (node_of c.node).kind (node_of c.node).me u.before.durable
    pub ahead_whole : TakesWhole (node_of c.node).kind (node_of c.node).me u.ahead.durable

  -- What inputs that are stored together are to them, of which this came: each is itself. Where they stood
  -- so, each opening finds what was stored before or behind those that failed, and they still stand so.
  pub record StepStores (old : NodeCore D) (cs : List Came) (new : NodeCore D) : Type 0 where
    pub kept : KeepBoth (disks_of state old.node.store) (disks_of state new.node.store)
    pub node : standing_of state new ≡ after_all (standing_of state old) cs
    pub found : (u : Unstored) → Stores u old → FindEach (standing_of state old) u cs
    pub stored : (u : Unstored) → Stores u old → Stores (unstored_after_all (standing_of state old) u cs) new
