-- What a node has trimmed is known to every member of that configuration.
use Rattle.std.proofs.Common.{◌≡◌, ℕ, ◌-◌, List, Option, Some, None, refl, sym, ap, subst, All}
use Rattle.op_types.specs.Joinings.{Base as StoredBase}
use Rattle.op_types.specs.declared.durable.Part.{Part as StoredPart}
use Rattle.op_types.specs.declared.durable.Closed.{Closed as StoredClosed}
use Rattle.op_types.specs.declared.durable.Joining.{Joining as StoredJoining}
use Rattle.op_types.specs.declared.durable.Durable.{Durable}
use Rattle.op_types.specs.declared.log.Entry.{Entry}
use Rattle.op_spec.specs.Machine.{Machine}
use Rattle.op_runs.specs.World.{Node}
use Rattle.op_runs.specs.Run.{Execution, first_execution, execution_of}
use Rattle.op_configurations.specs.Servers.{Part, Closed, Base, Joining, State}
use Rattle.op_configurations.specs.Worlds as worlds
use Rattle.op_configurations.specs.Worlds.{machine_of}
use Rattle.op_configurations.specs.Laws.{TrimsLow}
use Rattle.op_laws.specs.Known.{AllKnow, TrimmedIsKnown, EveryTrimIsKnown}
use Rattle.op_configurations.specs.Stored.{HoldsIfPart, HoldsIfClosed, HoldsIfBase, HoldsIfJoining, Holds}
use Rattle.op_configurations.proofs.Fronts.{none_some, some_same}
use Rattle.op_configurations.proofs.Standing.{trims_known}
use Rattle.op_refinement.proofs.Worlds.{state_of}
use Rattle.op_refinement.proofs.Beside.{NodeRel, IsBeside}
use Rattle.op_refinement.proofs.NodeLists.{All-each, Each-map}
use Rattle.op_refinement.proofs.Machines.{node_holds}
use Rattle.op_refinement.proofs.EveryRun.{every_run_is_beside}

-- the same of equal members, configurations and places
known_as : (m : Machine) (olds members : List ℕ) (c conf x y : ℕ) → olds ≡ members → c ≡ conf → x ≡ y → AllKnow m members conf y → AllKnow m olds c x
known_as m olds members c conf x y a b e k =
    subst (λ (l : List ℕ). AllKnow m l c x) (sym a) (subst (λ (n : ℕ). AllKnow m members n x) (sym b) (subst (AllKnow m members conf) (sym e) k))

module _ (m : Machine) (lists : ℕ → List Entry) (d : Durable) (st : State) (h : Holds lists d st) (t : TrimsLow m st) where
  part_known : (o : Option StoredPart) (y : Option Part) → st.part ≡ y → HoldsIfPart lists o y → (p : StoredPart) → o ≡ Some p → AllKnow m p.members p.conf p.trimmed
  part_known None y e k p i = absurd (none_some p i)
  part_known (Some q) None e k p i = absurd k
  part_known (Some q) (Some pt) e k p i =
      subst (λ (x : StoredPart). AllKnow m x.members x.conf x.trimmed) (some_same q p i) (known_as m q.members pt.members q.conf pt.conf q.trimmed (pt.node).trimmed k.members k.conf k.trimmed (t.part pt e))

  closed_known : (o : Option StoredClosed) (y : Option Closed) → st.closed ≡ y → HoldsIfClosed lists o y → (l : StoredClosed) → o ≡ Some l → AllKnow m l.olds l.conf l.trimmed
  closed_known None y e k l i = absurd (none_some l i)
  closed_known (Some q) None e k l i = absurd k
  closed_known (Some q) (Some c) e k l i =
      subst (λ (x : StoredClosed). AllKnow m x.olds x.conf x.trimmed) (some_same q l i) (known_as m q.olds c.olds q.conf c.conf q.trimmed c.trimmed k.olds k.conf k.trimmed (t.closed c e))

  base_known : (j : StoredJoining) (y : Joining) → st.joining ≡ Some y → j.olds ≡ y.olds → j.conf ≡ y.conf → (o : Option StoredBase) (p : Option Base) → y.base ≡ p → HoldsIfBase lists y.conf o p → (b : StoredBase) → o ≡ Some b → AllKnow m j.olds (j.conf - 1) b.0
  base_known j y e olds conf None p has k b i = absurd (none_some b i)
  base_known j y e olds conf (Some q) None has k b i = absurd k
  base_known j y e olds conf (Some q) (Some c) has k b i =
      subst (λ (x : StoredBase). AllKnow m j.olds (j.conf - 1) x.0) (some_same q b i) (known_as m j.olds y.olds (j.conf - 1) (y.conf - 1) q.0 c.at olds (ap (λ (n : ℕ). n - 1) conf) k.0 (t.base y c e has))

  joining_known : (o : Option StoredJoining) (y : Option Joining) → st.joining ≡ y → HoldsIfJoining lists o y → (j : StoredJoining) (b : StoredBase) → o ≡ Some j → j.base ≡ Some b → AllKnow m j.olds (j.conf - 1) b.0
  joining_known None y e k j b i has = absurd (none_some j i)
  joining_known (Some q) None e k j b i has = absurd k
  joining_known (Some q) (Some y) e k j b i has =
      subst (λ (x : StoredJoining). x.base ≡ Some b → AllKnow m x.olds (x.conf - 1) b.0) (some_same q j i) (λ here. base_known q y e k.olds k.conf q.base y.base refl k.base b here) has

  trims_low : TrimmedIsKnown m d
  trims_low = record {
    part = λ p i. part_known d.part st.part refl h.part p i;
    closed = λ l i. closed_known d.closed st.closed refl h.closed l i;
    base = λ j b i has. joining_known d.joining st.joining refl h.joining j b i has;
  }

-- of every node, in a world beside a run
beside_known : (first : List ℕ) (ks : List worlds.Happening) (t : Execution) → IsBeside first ks t → All (λ n. TrimmedIsKnown t.machine n.state.durable) t.world.nodes
beside_known first ks t b =
    subst (λ (m : Machine). All (λ n. TrimmedIsKnown m n.state.durable) t.world.nodes) (sym b.machine)
    (All-each (λ (n : Node). TrimmedIsKnown (machine_of first ks) n.state.durable) t.world.nodes
    (Each-map (NodeRel first ks t.world.messages) (λ (n : Node). TrimmedIsKnown (machine_of first ks) n.state.durable)
    (λ n k. trims_low (machine_of first ks) (machine_of first ks).lists n.state.durable (state_of first ks n.pid) (node_holds first ks t.world.messages n k) (trims_known first ks n.pid)) t.world.nodes b.nodes))

-- after every run, what is trimmed at a node is known to every member of that configuration
pub every_trim_is_known : EveryTrimIsKnown
every_trim_is_known members spares hs k =
    let r = every_run_is_beside members spares k.first k.others hs k.happenings in
    beside_known members r.0 (execution_of (first_execution members spares) hs) r.1
