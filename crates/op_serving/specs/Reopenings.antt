-- What the openings of a node that failed find, over disks that obey the model of a disk.
use Rattle.std.specs.Prelude.{◌≡◌, ◌⊎◌, [], ◌∷◌, List, Some, None}
use Rattle.op_types.specs.declared.events.Input.{Input}
use Rattle.op_protocol.specs.State.{State, state_after}
use Rattle.op_runs.specs.World.{plan_as}
use Rattle.op_serving.specs.Cores.{Standing, plan_at}
use Rattle.op_serving.specs.Fates.{Fate, finds, faults, shares, damaged, after_fate}
use Rattle.op_serving.specs.Inputs.{Deed, enters}

-- What a node's disks may hold since one failed: its state before the first of the inputs that were to be
-- stored together then, or its state behind them all.
pub record Unstored : Type 0 where
  pub before : State
  pub ahead : State

-- of a node that is up, all is stored
abbrev pub all_stored : State → Unstored
all_stored s = record { before = s; ahead = s }

-- so it is after an input with this fate; where they fail again, nothing more is stored
abbrev pub unstored_after : Standing → Input → Fate → Unstored → Unstored
unstored_after n i (faults k) u = elim n.failed [
  | None ↦ record { before = n.state; ahead = state_after n.state (plan_at n i) }
  | Some f ↦ u
]
unstored_after n i (shares k) u = record u { ahead = state_after u.ahead (plan_as n.kind n.me u.ahead i) }
unstored_after n i f u = u

-- An opening finds what was stored before the inputs for which they failed, or all that these were to store;
-- it finds no damage.
abbrev pub FindsOneOf : Unstored → Fate → Type 0
FindsOneOf u (finds d) = (d ≡ u.before.durable) ⊎ (d ≡ u.ahead.durable)
FindsOneOf u damaged = ⊥
FindsOneOf u f = Unit {0}

-- each opening of these deeds finds one of the two
abbrev pub FindStored : Standing → Unstored → List Deed → Type 0
FindStored n u [] = Unit {0}
FindStored n u (enters who i f ∷ ds) =
    FindsOneOf u f × FindStored (after_fate n i f) (unstored_after n i f u) ds
FindStored n u (_ ∷ ds) = FindStored n u ds

-- what the disks may hold behind these deeds
abbrev pub unstored_behind : Standing → Unstored → List Deed → Unstored
unstored_behind n u [] = u
unstored_behind n u (enters who i f ∷ ds) =
    unstored_behind (after_fate n i f) (unstored_after n i f u) ds
unstored_behind n u (_ ∷ ds) = unstored_behind n u ds
