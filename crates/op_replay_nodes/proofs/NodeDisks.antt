-- The areas of a node: armed, opened, closed, and what a stop leaves of them.
use Rattle.std.proofs.Common.{◌≡◌, ℕ, List, sym, ap, subst, ◌∙◌, inl}
use Rattle.op_types.specs.declared.durable.Durable.{Durable}
use Rattle.op_outside.specs.Disks.{DiskState, IsAtRest}
use Rattle.op_memory.specs.MemDisks.{BeginsAnew}
use Rattle.op_areas.specs.Areas.{OpensOn}
use Rattle.op_areas.specs.Media.{HoldNoMore}
use Rattle.op_store.specs.Stored.{RestsAs, disks_with}
use Rattle.op_store.specs.Stores.{Represents, disks_of}
use Rattle.op_store.specs.declared.store.Store.{Store}
use Rattle.op_store.proofs.CommitCrashes.{open_stored, image_stored, rests_first, rests_second}
use Rattle.op_server.specs.Seats.{kind_of, me_of, state_of}
use Rattle.op_node.specs.Nodes.{NodeState, node_of, rest_of, IsSoundNode}
use Rattle.op_node.specs.Reopenings.{IsOneOf, StoreOneOf}
use Rattle.op_node.specs.declared.node.Node.{Node}
use Rattle.op_node.specs.declared.rest.Rest.{Rest}
use Rattle.op_replay_nodes.specs.Disks.{HoldOneOf, IsClosedAs, StaysDown, StaysNode}
use Rattle.op_replay_nodes.specs.declared.node_state.DownNode.{DownNode}

-- the node of what it is without its disks
abbrev node_in : Rest → NodeState
node_in r = record { kind = kind_of r.seat; me = me_of r.seat; state = state_of r.seat; failed = r.failed }

-- ---- areas

module _ {D : Type 0} (state : D → DiskState) where
  -- those of a node that represent what it has stored
  module _ (d : Durable) (s : Store D) (r : Represents state d s) where
    pub first_rests : IsAtRest (state s.first)
    first_rests = rests_first d s.is_second s.generation s.end s.base s.is_closed (disks_of state s) r

    pub second_rests : IsAtRest (state s.second)
    second_rests = rests_second d s.is_second s.generation s.end s.base s.is_closed (disks_of state s) r

    -- they store that alone
    pub stores_one : StoreOneOf d d (disks_of state s)
    stores_one = record {
      obey = (first_rests.obeys, second_rests.obeys);
      read = inl (open_stored d s.is_second s.generation s.end s.base s.is_closed (disks_of state s) r);
      left = λ x y one two. inl (image_stored d s.is_second s.generation s.end s.base s.is_closed (disks_of state s) r x y one two);
    }

  -- areas that begin anew store what they did
  anew_stores : (before after : Durable) (a b c d : D) → BeginsAnew (state a) (state c) → BeginsAnew (state b) (state d) → StoreOneOf before after (disks_with state a b) → StoreOneOf before after (disks_with state c d)
  anew_stores before after a b c d first second s = record {
    obey = (first.model.1 s.obey.0, second.model.1 s.obey.1);
    read = subst (λ (y : List ℕ). IsOneOf before after (state c).content y) (sym second.content) (subst (λ (x : List ℕ). IsOneOf before after x (state b).content) (sym first.content) s.read);
    left = λ x y one two. s.left x y ((first.images x).0 one) ((second.images y).0 two);
  }

  pub same_node : (n m : Node D) → rest_of m ≡ rest_of n → node_of m ≡ node_of n
  same_node n m same = ap node_in same

  -- the node resumed over areas that begin anew
  pub stays_anew : (n m : Node D) (first second : D) → rest_of m ≡ rest_of n → m.store.first ≡ first → m.store.second ≡ second
      → BeginsAnew (state n.store.first) (state first) → BeginsAnew (state n.store.second) (state second)
      → (IsSoundNode n → IsSoundNode m)
      → ((d : Durable) → Represents state d n.store → RestsAs (state n.store.first) (state first) → RestsAs (state n.store.second) (state second) → Represents state d m.store)
      → StaysNode state n m
  stays_anew n m first second same one two anew anew_second sound represents =
      let node = same_node n m same in
      record {
        node = node;
        sound = sound;
        represented = λ r.
            let d = (node_of n).state.durable in
            let rests_one : RestsAs (state n.store.first) (state first) = record { rests = anew.rests (first_rests d n.store r); same = anew.content } in
            let rests_two : RestsAs (state n.store.second) (state second) = record { rests = anew_second.rests (second_rests d n.store r); same = anew_second.content } in
            subst (λ (e : Durable). Represents state e m.store) (ap (λ (k : NodeState). k.state.durable) (sym node)) (represents d r rests_one rests_two);
        stores = λ before after s.
            subst (λ (y : D). StoreOneOf before after (disks_with state m.store.first y)) (sym two)
            (subst (λ (x : D). StoreOneOf before after (disks_with state x second)) (sym one)
            (anew_stores before after n.store.first n.store.second first second anew anew_second s));
      }

  -- a node that made no call
  pub stays_stored : (n m : Node D) → node_of m ≡ node_of n → m.store ≡ n.store → IsSoundNode m → StaysNode state n m
  stays_stored n m node store sound = record {
    node = node;
    sound = λ _. sound;
    represented = λ r. subst (λ (s : Store D). Represents state (node_of m).state.durable s) (sym store) (subst (λ (k : NodeState). Represents state k.state.durable n.store) (sym node) r);
    stores = λ before after s. subst (λ (x : Store D). StoreOneOf before after (disks_of state x)) (sym store) s;
  }

-- ---- closed copies

module _ {C : Type 0} (holds : C → List ℕ → Type 0) where
  -- what those hold that hold no more
  pub still_held : (before after : Durable) (a b c d : C) → HoldNoMore holds a c → HoldNoMore holds b d → HoldOneOf holds before after a b → HoldOneOf holds before after c d
  still_held before after a b c d first second s x y one two = s x y (first x one) (second y two)

  pub down_holds : (before after : Durable) (old new : DownNode C) → StaysDown holds old new → HoldOneOf holds before after old.first old.second → HoldOneOf holds before after new.first new.second
  down_holds before after old new stays s = still_held before after old.first old.second new.first new.second stays.first_left stays.second_left s

module _ {D C : Type 0} (state : D → DiskState) (holds : C → List ℕ → Type 0) where
  -- the copies of a node that is closed hold what its areas stored
  pub closed_holds : (before after shown : Durable) (first second : D) (d : DownNode C) → IsClosedAs state holds shown first second d → StoreOneOf before after (disks_with state first second) → HoldOneOf holds before after d.first d.second
  closed_holds before after shown first second d closed s x y one two = s.left x y (closed.first_left x one) (closed.second_left y two)

  -- areas that are opened store what their copies held
  pub opened_stores : (before after : Durable) (first second : C) (a b : D) → OpensOn holds first (state a) → OpensOn holds second (state b) → HoldOneOf holds before after first second → StoreOneOf before after (disks_with state a b)
  opened_stores before after first second a b one two s = record {
    obey = (one.obeys, two.obeys);
    read = s (state a).content (state b).content one.read two.read;
    left = λ x y k l. s x y (one.left x k) (two.left y l);
  }

  -- what a stop leaves of a node that was closed
  pub left_closed : (shown : Durable) (first second : D) (mid down : DownNode C) → IsClosedAs state holds shown first second mid → StaysDown holds mid down → IsClosedAs state holds shown first second down
  left_closed shown first second mid down closed left = record {
    shown_is = left.shown_is ∙ closed.shown_is;
    first_left = λ x k. closed.first_left x (left.first_left x k);
    second_left = λ x k. closed.second_left x (left.second_left x k);
  }
