-- What a drill of links answers.
use Rattle.std.specs.Prelude.{ℕ, Bool, false, List, []}
use Rattle.op_runs.specs.declared.events.Event.{Event}
use Rattle.op_runs.specs.declared.events.What.{What}
use Rattle.op_runs.specs.declared.events.What.TheVariants as what
use Rattle.op_runs.specs.declared.summary.Summary.{Summary}
use Rattle.op_runs.specs.Possible.{WhatInRange}
use Rattle.op_runs.specs.Run.{Execution, execution_of}
use Rattle.op_gen.specs.Links.{Links}
use Rattle.op_runs.specs.World.{Sent, all_done}
use Rattle.op_lockstep.specs.Lockstep.{is_linked_request, is_sent_reply, links_drill}
use Rattle.op_lockstep.specs.Reach.{EachLockstepReaches}
use Rattle.op_world.specs.Plans.{ArePlanned}
use Rattle.op_runs.specs.Schedules.{no_plans}
use Rattle.op_world.specs.Runs.{IsReportOfRun}
use Rattle.op_world.specs.Worlds.{Parts}
use Rattle.op_world.specs.declared.world.lockstep.Delivered.{Delivered}
use Rattle.op_world.specs.declared.world.lockstep.Delivered.TheVariants as delivered

-- this is reported of the drill of these links at these members
pub record IsReportOfDrill (members : List ℕ) (links : Links) (rounds : ℕ) (s : Summary) : Type 0 where
  -- it is the report of the drill's events
  pub run : IsReportOfRun members [] [] false (links_drill members links rounds) s
  -- wherever three lockstep rounds are in them, whoever alone hears a majority takes its own ballot for the
  -- leader's
  pub reaches : EachLockstepReaches members [] (all_done (links_drill members links rounds))

-- ---- what follows. Only what is inside the crate speaks of this

-- what a run has come to after these events, each done
abbrev pub followed : Execution → List Event → Execution
followed t events = execution_of t (all_done events)

-- which messages are delivered
abbrev pub is_delivered : Delivered → Sent → Bool
is_delivered (delivered.Requests links) m = is_linked_request links.now.pairs.now m
is_delivered delivered.Replies m = is_sent_reply m

-- nothing is planned for any disk
abbrev pub IsCalm : {D C : Type 0} → Parts D C → Type 0
IsCalm w = ArePlanned w.nodes no_plans

-- it opens no node, tells of no stop and no failure in a call of a disk, and kills none
abbrev pub OpensNothing : What → Type 0
OpensNothing (what.CrashAt pid call image) = ⊥
OpensNothing (what.Fail pid call) = ⊥
OpensNothing (what.Kill pid disk) = ⊥
OpensNothing (what.Start pid) = ⊥
OpensNothing _ = Unit {0}

-- such an event, in range
abbrev pub IsQuiet : Event → Type 0
IsQuiet e = WhatInRange e.what × OpensNothing e.what
