-- What is planned for the disks of all nodes, as the code keeps it, beside the plans of the definitions.
use Rattle.std.specs.Prelude.{◌≡◌, ◌==◌, ℕ, List, [], ◌∷◌, if◌then◌else◌}
use Rattle.op_runs.specs.Schedules.{DiskPlan, DiskPlans, awaiting, killing, is_killed}
use Rattle.op_replay_nodes.specs.Plans.{awaited_of, nothing_planned}
use Rattle.op_replay_nodes.specs.declared.awaited.Planned.{Planned}
use Rattle.op_replay_nodes.specs.declared.awaited.Planned.TheVariants as planned
use Rattle.op_replay_nodes.specs.declared.node_state.WorldNode.{WorldNode}
use Rattle.op_replay_nodes.specs.declared.plan.Plan.{Plan}

-- what the definitions plan from an event on
abbrev pub disk_plan_with : Planned → DiskPlan → DiskPlan
disk_plan_with (planned.Awaits awaited) plan = awaiting plan (awaited_of awaited)
disk_plan_with (planned.Kills disk) plan = killing plan disk

-- the code keeps this plan
pub record IsPlan (p : Plan) (plan : DiskPlan) : Type 0 where
  pub awaited : plan.awaited ≡ awaited_of p.awaited
  pub first : is_killed plan 1 ≡ p.killed.first
  pub second : is_killed plan 2 ≡ p.killed.second
  pub third : is_killed plan 3 ≡ p.killed.third
  pub fourth : is_killed plan 4 ≡ p.killed.fourth

-- what is planned for the node of this id
abbrev pub plan_at : {D C : Type 0} → List (WorldNode D C) → ℕ → Plan
plan_at [] pid = nothing_planned
plan_at (n ∷ nodes) pid = if pid == n.pid then n.plan else plan_at nodes pid

-- these plans are kept of the nodes
abbrev pub ArePlanned : {D C : Type 0} → List (WorldNode D C) → DiskPlans → Type 0
ArePlanned nodes plans = (pid : ℕ) → IsPlan (plan_at nodes pid) (plans pid)
