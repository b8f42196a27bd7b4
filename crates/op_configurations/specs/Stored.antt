-- A stored state holds a server's state: a base and a tail in place of the whole log.
use Rattle.std.specs.Prelude.{◌≡◌, ℕ, ◌-◌, ◌<◌, ◌≤◌, length, List, [], ◌∷◌, ◌++◌, take, drop, Option, Some, None}
use Rattle.op_types.specs.declared.log.Entry.{Entry}
use Rattle.op_types.specs.declared.durable.Part.{Part as StoredPart}
use Rattle.op_types.specs.declared.durable.Closed.{Closed as StoredClosed}
use Rattle.op_types.specs.declared.durable.Joining.{Joining as StoredJoining}
use Rattle.op_types.specs.declared.durable.Durable.{Durable}
use Rattle.op_types.specs.Joinings.{Base as StoredBase, held_at}
use Rattle.op_spec.specs.Service.{service_of, base_bytes}
use Rattle.op_spec.specs.Ledger as ledger
use Rattle.op_spec.specs.Machine.{Machine, IsSame}
use Rattle.op_spec.specs.Stands as model
use Rattle.op_spec.specs.Stands.{lists_through}
use Rattle.op_configurations.specs.Servers.{Part, Closed, Base, Joining, State, latest}
use Rattle.op_configurations.specs.Worlds.{Happening, run, state_of, start, machine_of, machine_showing, actor, proposed_by}

-- the tail stands behind what was trimmed, and the base for that and for all lists before
pub record HoldsPart (lists : ℕ → List Entry) (d : StoredPart) (pt : Part) : Type 0 where
  pub conf : d.conf ≡ pt.conf
  pub members : d.members ≡ pt.members
  pub trimmed : d.trimmed ≡ (pt.node).trimmed
  pub decided : d.decided ≡ (pt.node).decided
  pub tail : d.tail.items ≡ drop (pt.node).trimmed (pt.node).log
  pub base : d.base ≡ base_bytes (service_of (lists_through lists (pt.conf - 1)
      ++ take (pt.node).trimmed (pt.node).log))

pub record HoldsClosed (lists : ℕ → List Entry) (d : StoredClosed) (k : Closed) : Type 0 where
  pub conf : d.conf ≡ k.conf
  pub olds : d.olds ≡ k.olds
  pub next : d.next ≡ k.next
  pub trimmed : d.trimmed ≡ k.trimmed
  pub tail : d.tail ≡ drop k.trimmed k.list
  pub base : d.base ≡ base_bytes (service_of (lists_through lists (k.conf - 1) ++ take k.trimmed k.list))

abbrev pub HoldsIfPart : (ℕ → List Entry) → Option StoredPart → Option Part → Type 0
HoldsIfPart lists None None = Unit {0}
HoldsIfPart lists (Some d) (Some pt) = HoldsPart lists d pt
HoldsIfPart lists _ _ = ⊥

abbrev pub HoldsIfClosed : (ℕ → List Entry) → Option StoredClosed → Option Closed → Type 0
HoldsIfClosed lists None None = Unit {0}
HoldsIfClosed lists (Some d) (Some k) = HoldsClosed lists d k
HoldsIfClosed lists _ _ = ⊥

-- the bytes of a base of the list before a configuration
abbrev pub HoldsIfBase : (ℕ → List Entry) → ℕ → Option StoredBase → Option Base → Type 0
HoldsIfBase lists conf None None = Unit {0}
HoldsIfBase lists conf (Some d) (Some b) =
    (d.0 ≡ b.at) × (d.1 ≡ base_bytes (service_of (lists_through lists (conf - 1 - 1) ++ b.front)))
HoldsIfBase lists conf _ _ = ⊥

pub record HoldsJoining (lists : ℕ → List Entry) (d : StoredJoining) (j : Joining) : Type 0 where
  pub conf : d.conf ≡ j.conf
  pub members : d.members ≡ j.members
  pub olds : d.olds ≡ j.olds
  pub len : d.len ≡ j.len
  pub donors : d.donors ≡ j.donors
  pub base : HoldsIfBase lists j.conf d.base j.base
  pub held : (n : ℕ) → held_at d.held.items n ≡ j.held n

abbrev pub HoldsIfJoining : (ℕ → List Entry) → Option StoredJoining → Option Joining → Type 0
HoldsIfJoining lists None None = Unit {0}
HoldsIfJoining lists (Some d) (Some j) = HoldsJoining lists d j
HoldsIfJoining lists _ _ = ⊥

pub record Holds (lists : ℕ → List Entry) (d : Durable) (st : State) : Type 0 where
  pub part : HoldsIfPart lists d.part st.part
  pub closed : HoldsIfClosed lists d.closed st.closed
  pub joining : HoldsIfJoining lists d.joining st.joining

-- what holds a server's state stands
abbrev pub StoredStands : Type 0
StoredStands =
    (first : List ℕ) (hs : List Happening) (p : ℕ) (d : Durable)
    → Holds (machine_of first hs).lists d (state_of first hs p)
    → model.Stands first (machine_of first hs).lists d

-- and it holds that state whatever happens elsewhere: the lists before its configuration never change again
abbrev pub HoldsOn : Type 0
HoldsOn =
    (first : List ℕ) (early late : List Happening) (p : ℕ) (d : Durable)
    → Holds (machine_of first early).lists d (state_of first early p)
    → Holds (machine_of first (early ++ late)).lists d (state_of first early p)

-- the lists before a server's latest configuration are fixed
abbrev pub BeforeIsFixed : Type 0
BeforeIsFixed =
    (first : List ℕ) (early late : List Happening) (p c : ℕ) → 0 < c → c < latest (state_of first early p)
    → (machine_of first early).lists c ≡ (machine_of first (early ++ late)).lists c

-- what a stored state shows is what the server's state that it holds shows, where the machine's lists reach
-- over what is trimmed
abbrev pub ShowsSame : Type 0
ShowsSame =
    (first : List ℕ) (hs : List Happening) (p : ℕ) (d : Durable) (m : Machine)
    → Holds (machine_of first hs).lists d (state_of first hs p)
    → ((pt : Part) → (state_of first hs p).part ≡ Some pt → (pt.node).trimmed ≤ length (m.lists pt.conf))
    → ((k : Closed) → (state_of first hs p).closed ≡ Some k → k.trimmed ≤ length (m.lists k.conf))
    → IsSame (ledger.machine_showing m p d) (machine_showing m p (state_of first hs p))

-- so the run's machine is the ledger that the stored states show: after each happening, the server at which
-- it is shows its stored state
abbrev pub LedgerSame : Type 0
LedgerSame =
    (first : List ℕ) (early : List Happening) (h : Happening) (p : ℕ) (d : Durable)
    → actor (run early (start first)) h ≡ Some p
    → Holds (machine_of first (early ++ h ∷ [])).lists d (state_of first (early ++ h ∷ []) p)
    → let before : Machine = proposed_by (machine_of first early) (run early (start first)) h in
    IsSame (ledger.machine_showing before p d) (machine_of first (early ++ h ∷ []))
