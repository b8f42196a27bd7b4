-- An observer, its state in the step table, and what its steps need.
use Rattle.std.specs.Prelude.{◌≡◌, ℕ, [], None, IfSome}
use Rattle.op_types.specs.Ballots.{no_ballot}
use Rattle.op_types.specs.Rooms.{IsAtRest, no_needs, with_room}
use Rattle.op_types.specs.declared.durable.Durable.{Durable}
use Rattle.op_types.specs.declared.durable.Part.{Part}
use Rattle.op_types.specs.declared.events.Input.{Input}
use Rattle.op_record.specs.Ranges.{BatchInRange}
use Rattle.op_spec.specs.Service.{new_service}
use Rattle.op_kv.specs.Bases.{IsBase}
use Rattle.op_protocol.specs.State.{State, Volatile}
use Rattle.op_protocol.specs.Starting.{first_volatile}
use Rattle.op_protocol.specs.Watching.{watch_plan}
use Rattle.op_plans.specs.Positions.{FitsPositions}
use Rattle.op_watch.specs.declared.stage.BaseStage.{BaseStage}
use Rattle.op_observer.specs.declared.observer.Observer.{Observer}

-- what it keeps in memory, as the step table has it: it takes no part in elections
abbrev pub volatile_of : ℕ → BaseStage → Volatile
volatile_of me t = record (first_volatile me) { pieces = t.pieces; pieces_conf = t.conf }

-- the state of the step table that it keeps: nobody waits, and nobody reads; the room that its log has is
-- left out
abbrev pub state_of : Observer → State
state_of o =
    record {
      durable = with_room no_needs o.durable;
      volatile = volatile_of o.me o.stage;
      service = o.service.service;
      waiting = [];
      reads = None;
    }

-- the positions of its part fit
pub record IsSoundObserver (o : Observer) : Type 0 where
  pub part : IfSome o.durable.part FitsPositions

-- the same observer in the same state
pub record IsSame (old new : Observer) : Type 0 where
  pub me : new.me ≡ old.me
  pub state : state_of new ≡ state_of old
  pub sound : IsSoundObserver new

-- the observer can plan this step: what the step stores is in range
pub record Admits (o : Observer) (x : Input) : Type 0 where
  pub sound : IsSoundObserver o
  pub range : BatchInRange (watch_plan o.me (state_of o) x).batch

-- ---- openings

-- an observer can have this part: it has promised nothing, its positions fit, and it begins at a base
pub record IsWatchedPart (p : Part) : Type 0 where
  pub promised : p.promised ≡ no_ballot
  pub positions : FitsPositions p
  pub base : IsBase p.base

-- an observer can be opened with this
pub record CanWatch (d : Durable) : Type 0 where
  pub part : IfSome d.part IsWatchedPart
  pub rest : IsAtRest d

-- the state of an observer at its first start, which has stored this
abbrev pub begun_state : ℕ → Durable → State
begun_state me d =
    record { durable = d; volatile = first_volatile me; service = new_service; waiting = []; reads = None }
