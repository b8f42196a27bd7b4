-- A chain, its state in the step table, and what its steps need.
use Rattle.std.specs.Prelude.{◌≡◌, ◌≤◌, ℕ, [], Option, Some, None, IfSome}
use Rattle.op_types.specs.Limits.{last_conf}
use Rattle.op_types.specs.Ranges.{IsMember}
use Rattle.op_types.specs.Changes.{EndsNowhere}
use Rattle.op_types.specs.Rooms.{IsAtRest, no_needs, with_room}
use Rattle.op_types.specs.declared.ballot.Ballot.{Ballot}
use Rattle.op_types.specs.declared.durable.Durable.{Durable}
use Rattle.op_types.specs.declared.durable.Part.{Part}
use Rattle.op_types.specs.declared.events.Input.{Input}
use Rattle.op_record.specs.Ranges.{BatchInRange}
use Rattle.op_spec.specs.Service.{Pairs, Service, new_service}
use Rattle.op_protocol.specs.State.{State, Volatile}
use Rattle.op_protocol.specs.Rows.{table_plan}
use Rattle.op_protocol.specs.Starting.{first_volatile}
use Rattle.op_instance.specs.Memory.{volatile_of}
use Rattle.op_kv.specs.Bases.{IsBase}
use Rattle.op_instance.specs.Sound.{IsNode, IfListFits, IfJoiningFits}
use Rattle.op_plans.specs.Positions.{FitsPositions}
use Rattle.op_chain.specs.Bringing.{HasBase}
use Rattle.op_chain.specs.declared.chain.Chain.{Chain}

-- the state of the step table that a chain keeps, without reads; the room that its log has is left out
abbrev pub state_of : Chain → State
state_of c =
    record {
      durable = with_room no_needs c.durable;
      volatile = volatile_of c.volatile;
      service = c.service.service;
      waiting = c.waiting.waiting;
      reads = None;
    }

-- the base of a part, and the one that a node holds that joins, are bases
pub record HaveBases (d : Durable) : Type 0 where
  pub part : IfSome d.part (λ p. IsBase p.base)
  pub joining : IfSome d.joining HasBase

-- what a chain keeps in memory is of what it has stored, and each base that it has to read is one
pub record IsSoundChain (c : Chain) : Type 0 where
  pub node : IsNode c.me c.durable c.volatile
  pub bases : HaveBases c.durable

-- the same server in the same state
pub record IsSame (old new : Chain) : Type 0 where
  pub me : new.me ≡ old.me
  pub state : state_of new ≡ state_of old
  pub sound : IsSoundChain new

-- the chain can plan this step: what the step stores is in range
pub record Admits (c : Chain) (x : Input) : Type 0 where
  pub sound : IsSoundChain c
  pub range : BatchInRange (table_plan c.me (state_of c) x).batch

-- the ballots of a node with a part: its own, its leader's as far as it knows, and the one that it promised
abbrev pub ballots_in : Volatile → Option Part → Option (Ballot × Ballot × Ballot)
ballots_in v None = None
ballots_in v (Some p) = Some (v.own, v.leader, p.promised)

-- the pairs of the service of a node with a part
abbrev pub pairs_in : Service → Option Part → Option Pairs
pairs_in s None = None
pairs_in s (Some p) = Some s.pairs

-- ---- openings

-- A server of this id can be a member with this part: it is one of its members, the configuration has a
-- number, the positions fit, and the log has no stop-sign in the last configuration.
pub record IsPartFor (me : ℕ) (p : Part) : Type 0 where
  pub conf : p.conf ≤ last_conf
  pub member : IsMember p.members me
  pub positions : FitsPositions p
  pub log : EndsNowhere p.conf p.tail.items

-- a part, if there is one, is for this server
abbrev pub IfPartFor : ℕ → Option Part → Type 0
IfPartFor me None = Unit {0}
IfPartFor me (Some p) = IsPartFor me p

-- a server of this id can be opened with this; one without a part waits to be named by a configuration
pub record CanOpen (me : ℕ) (d : Durable) : Type 0 where
  pub part : IfPartFor me d.part
  pub closed : IfListFits d.closed
  pub joining : IfJoiningFits me d.joining
  pub bases : HaveBases d
  pub rest : IsAtRest d

-- the state of a node at its first start, which has stored this
abbrev pub first_state : ℕ → Durable → State
first_state me d =
    record { durable = d; volatile = first_volatile me; service = new_service; waiting = []; reads = None }
