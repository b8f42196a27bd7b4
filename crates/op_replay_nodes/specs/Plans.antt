-- What is planned for the disks of a node, and what may come of it.
use Rattle.std.specs.Prelude.{◌==◌, ◌&&◌, ◌||◌, ℕ, Bool, true, false, not, Option, Some, None, if◌then◌else◌}
use Rattle.op_runs.specs.declared.events.What.{What}
use Rattle.op_runs.specs.declared.events.What.TheVariants as what
use Rattle.op_runs.specs.Schedules.{Awaited, Nothing, Stop, Failure}
use Rattle.op_replay_nodes.specs.declared.awaited.Awaited as code
use Rattle.op_replay_nodes.specs.declared.awaited.Awaited.TheVariants as told
use Rattle.op_replay_nodes.specs.declared.awaited.Planned.{Planned}
use Rattle.op_replay_nodes.specs.declared.awaited.Planned.TheVariants as planned
use Rattle.op_replay_nodes.specs.declared.plan.Killed.{Killed}
use Rattle.op_replay_nodes.specs.declared.plan.Plan.{Plan}

-- ---- what awaits a node

-- what awaits it, whichever call and image it is of
abbrev pub awaited_of : code.Awaited → Awaited
awaited_of told.Nothing = Nothing
awaited_of (told.Stop call image) = Stop
awaited_of (told.Failure call) = Failure

-- whether the node is to stop
abbrev pub is_stop : code.Awaited → Bool
is_stop told.Nothing = false
is_stop (told.Stop call image) = true
is_stop (told.Failure call) = false

-- ---- which disks are killed

-- whether an area is lost, where each is mirrored or not
abbrev pub lost_in : Bool → Killed → Bool
lost_in false k = k.first || k.second
lost_in true k = (k.first && k.third) || (k.second && k.fourth)

-- this disk is killed too
abbrev pub killed_with : ℕ → Killed → Killed
killed_with disk k =
    if disk == 1 then record k { first = true } else
    if disk == 2 then record k { second = true } else
    if disk == 3 then record k { third = true } else record k { fourth = true }

-- ---- what may come of a plan

-- nothing awaits the node, and no area is lost
abbrev pub is_quiet : Bool → Plan → Bool
is_quiet mirrored p =
    elim p.awaited [
      | told.Nothing ↦ not (lost_in mirrored p.killed)
      | told.Stop call image ↦ false
      | told.Failure call ↦ false
    ]

-- a call may fail
abbrev pub lets_fail : Bool → Plan → Bool
lets_fail mirrored p =
    elim p.awaited [
      | told.Nothing ↦ lost_in mirrored p.killed
      | told.Stop call image ↦ lost_in mirrored p.killed
      | told.Failure call ↦ true
    ]

-- ---- what an event plans

-- what is planned from this event on, and for which node
abbrev pub told_by : What → Option (ℕ × Planned)
told_by (what.CrashAt pid call image) = Some (pid, planned.Awaits (told.Stop call image))
told_by (what.Fail pid call) = Some (pid, planned.Awaits (told.Failure call))
told_by (what.Kill pid disk) = Some (pid, planned.Kills disk)
told_by _ = None

-- the plan then
abbrev pub plan_with : Planned → Plan → Plan
plan_with (planned.Awaits awaited) p = record p { awaited = awaited }
plan_with (planned.Kills disk) p = record p { killed = killed_with disk p.killed }

-- nothing is planned
abbrev pub nothing_planned : Plan
nothing_planned =
    record {
      awaited = told.Nothing;
      killed = record { first = false; second = false; third = false; fourth = false };
    }
