-- What an event of a schedule makes of a world of nodes.
use Rattle.std.specs.Prelude.{◌≡◌, ◌+◌, ◌<◌, ℕ, Bool, true, false, List, length, All, Option, Some, None, get_or, set}
use Rattle.op_types.specs.declared.log.Entry.{Entry}
use Rattle.op_runs.specs.declared.events.Event.{Event}
use Rattle.op_runs.specs.declared.events.What.TheVariants as what
use Rattle.op_runs.specs.World.{Happening, Deed, deed_of, done_event}
use Rattle.op_runs.specs.Possible.{is_possible, most_proposals, proposals_of, WhatInRange}
use Rattle.op_runs.specs.Run.{Execution, execution_with, execution_of}
use Rattle.op_runs.specs.Schedules.{DiskPlan, DiskPlans, Nothing, Seated, seated_at, Becomes, CallsDisks, MayEnd, awaiting, is_lost, plan_for, plans_after, plans_by, plans_with}
use Rattle.op_executions.specs.Worlds.{named_of, place_of}
use Rattle.op_executions.specs.declared.world.ServerWorld.{ServerWorld}
use Rattle.op_areas.specs.Media.{Medium}
use Rattle.op_replay_nodes.specs.Became.{GoesOnPlanned}
use Rattle.op_world.specs.Plans.{ArePlanned}
use Rattle.op_world.specs.Worlds.{Parts, Shows}
use Rattle.op_replay_nodes.specs.declared.awaited.Planned.{Planned}
use Rattle.op_replay_nodes.specs.declared.node_state.WorldNode.{WorldNode}

-- ---- a world without its kind of area

-- what contracts see of a world of these servers and lists
abbrev pub parts_of : {D C : Type 0} → ServerWorld (WorldNode D C) → List (List Entry) → Parts D C
parts_of w lists =
    record {
      members = w.members;
      ids = named_of w;
      nodes = w.servers.items;
      messages = w.messages.items;
      lines = w.lines;
      lists = lists;
      proposed = w.proposed;
    }

-- so much more was proposed, at the same members and ids
pub record IsCounted {D C : Type 0} (old : Parts D C) (more : ℕ) (new : Parts D C) : Type 0 where
  pub members : new.members ≡ old.members
  pub ids : new.ids ≡ old.ids
  pub proposed : new.proposed ≡ old.proposed + more
  pub few : new.proposed < most_proposals

-- the event can come, and is counted
pub record CanCome {D C : Type 0} (old : Parts D C) (e : Event) (new : Parts D C) : Type 0 where
  pub possible : is_possible old.ids (length old.messages) e.what ≡ true
  pub counted : IsCounted old (proposals_of e.what) new

-- it can't, and is refused as the event of this number
abbrev pub IsBadEvent : {D C : Type 0} → Parts D C → Event → ℕ → Type 0
IsBadEvent old e index = (index ≡ 0) × (is_possible old.ids (length old.messages) e.what ≡ false)

module _ {D C : Type 0} (M : Medium D C) where
  -- what a world becomes by an event that shows this, where this is planned for the nodes' disks
  pub record EventComes (old : Parts D C) (e : Event) (t : Execution) (plans : DiskPlans)
      (new : Parts D C) : Type 0 where
    pub happenings : List Happening
    pub becomes : Becomes M.is_mirrored t.world plans e happenings
    pub range : All (λ h. WhatInRange h.event.what) happenings
    pub shows : Shows M new (execution_of t happenings)
    pub planned : ArePlanned new.nodes (plans_after t.world plans e.what)

  -- ---- one happening. Only what is inside the crate speaks of this

  -- what the world becomes by one happening, in which something is done at the server of this place
  pub record Happens (old : Parts D C) (e : Event) (t : Execution) (plans : DiskPlans) (place : ℕ)
      (new : Parts D C) : Type 0 where
    pub happening : Happening
    pub event : happening.event ≡ e
    pub deed : Deed
    pub does : deed_of t.world.messages e.what ≡ Some deed
    pub seated : Seated
    pub there : seated_at t.world deed.pid ≡ Some seated
    pub is_due : Bool
    pub server : (d : WorldNode D C) → ((get_or new.nodes place d).pid ≡ deed.pid)
        × ((get_or new.nodes place d).is_due ≡ is_due)
    pub comes : let now : DiskPlan = plan_for seated.node.status deed.doing (plans deed.pid) in
        MayEnd now.awaited (is_lost M.is_mirrored now) (CallsDisks seated deed.doing) happening.fate is_due
    pub planned : ArePlanned new.nodes (plans_by (Some deed) t.world plans)
    pub shows : Shows M new (execution_with t happening)

  -- the same, where nothing is done: the world stays as it is
  abbrev pub HappensAt : Parts D C → Event → Execution → DiskPlans → Option ℕ → Parts D C → Type 0
  HappensAt old e t plans None new = (deed_of t.world.messages e.what ≡ None) × (new ≡ old)
  HappensAt old e t plans (Some place) new = Happens old e t plans place new

  -- what it becomes where the server at this place stops
  pub record StopsAt (old : Parts D C) (place line : ℕ) (t : Execution) (plans : DiskPlans)
      (new : Parts D C) : Type 0 where
    pub shows : (d : WorldNode D C) → Shows M new (execution_with t
        (done_event (record { line = line; what = what.Crash (get_or old.nodes place d).pid })))
    pub planned : (d : WorldNode D C) → let pid = (get_or old.nodes place d).pid in
        ArePlanned new.nodes (plans_with plans pid (awaiting (plans pid) Nothing))

  -- only the server of this id is another one then: this is planned for its disks beside what was
  pub record IsPlannedAt (pid : ℕ) (planned : Planned) (old new : ServerWorld (WorldNode D C)) : Type 0 where
    pub members : new.members ≡ old.members
    pub ids : named_of new ≡ named_of old
    pub messages : new.messages ≡ old.messages
    pub lines : new.lines ≡ old.lines
    pub proposed : new.proposed ≡ old.proposed
    pub server : WorldNode D C
    pub goes_on : (d : WorldNode D C)
        → GoesOnPlanned M planned (get_or old.servers.items (place_of old.ids.items pid) d) server
    pub servers : new.servers.items ≡ set old.servers.items (place_of old.ids.items pid) server
