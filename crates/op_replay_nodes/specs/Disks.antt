-- The areas of a node: armed, opened, closed, and what a stop leaves of them.
use Rattle.std.specs.Prelude.{◌≡◌, ℕ, List}
use Rattle.op_types.specs.declared.durable.Durable.{Durable}
use Rattle.op_outside.specs.Disks.{DiskState}
use Rattle.op_areas.specs.Areas.{OpensOn}
use Rattle.op_areas.specs.Media.{HoldNoMore, HoldWhatIsLeft}
use Rattle.op_store.specs.Stores.{disks_of}
use Rattle.op_node.specs.Nodes.{node_of, IsSoundNode, IsRepresented}
use Rattle.op_node.specs.Reopenings.{IsOneOf, StoreOneOf}
use Rattle.op_node.specs.declared.node.Node.{Node}
use Rattle.op_replay_nodes.specs.declared.disks.Areas.{Areas}
use Rattle.op_replay_nodes.specs.declared.disks.Areas.TheVariants.{Opened, Failed}
use Rattle.op_replay_nodes.specs.declared.node_state.DownNode.{DownNode}

-- the node goes on as it is, over areas that store what they stored
pub record StaysNode {D : Type 0} (state : D → DiskState) (n m : Node D) : Type 0 where
  pub node : node_of m ≡ node_of n
  pub sound : IsSoundNode n → IsSoundNode m
  pub represented : IsRepresented state n → IsRepresented state m
  pub stores : (before after : Durable) → StoreOneOf before after (disks_of state n.store)
      → StoreOneOf before after (disks_of state m.store)

module _ {C : Type 0} (holds : C → List ℕ → Type 0) where
  -- whatever these copies of two areas hold is the one durable state or the other
  abbrev pub HoldOneOf : Durable → Durable → C → C → Type 0
  HoldOneOf before after first second =
      (x y : List ℕ) → holds first x → holds second y → IsOneOf before after x y

  -- a node stays down: it had stored the same, and its copies hold no more than before
  pub record StaysDown (old new : DownNode C) : Type 0 where
    pub shown_is : new.shown ≡ old.shown
    pub first_left : HoldNoMore holds old.first new.first
    pub second_left : HoldNoMore holds old.second new.second

-- a node that is down had stored this, and its copies hold what a crash leaves of these areas
pub record IsClosedAs {D C : Type 0} (state : D → DiskState) (holds : C → List ℕ → Type 0)
    (shown : Durable) (first second : D) (down : DownNode C) : Type 0 where
  pub shown_is : down.shown ≡ shown
  pub first_left : HoldWhatIsLeft holds (state first) down.first
  pub second_left : HoldWhatIsLeft holds (state second) down.second

-- two areas are opened on these copies, or these are closed again, and hold no more than before
abbrev pub AreOpened : {D C : Type 0} → (D → DiskState) → (C → List ℕ → Type 0) → C → C → Areas D C → Type 0
AreOpened state holds first second (Opened a b) =
    OpensOn holds first (state a) × OpensOn holds second (state b)
AreOpened state holds first second (Failed c d) = HoldNoMore holds first c × HoldNoMore holds second d
