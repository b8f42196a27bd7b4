-- Every run of members and spares in range, of happenings in range, meets the list machine.
use Rattle.std.proofs.Common.{List, [], ◌∷◌, ◌++◌, ◌≡◌, ◌+◌, ℕ, All, arith}
use Rattle.std.proofs.lemmas.List.Elements.{All-nil, All-cons, All-head, All-tail}
use Rattle.op_types.specs.Ranges.{MembersInRange, CommandInRange}
use Rattle.op_types.specs.declared.log.Command.{Command}
use Rattle.op_protocol.specs.Rows.{entries_of}
use Rattle.op_runs.specs.Possible.{WhatInRange}
use Rattle.op_runs.specs.declared.events.What.{What}
use Rattle.op_runs.specs.declared.events.What.TheVariants as what
use Rattle.op_runs.specs.World.{Happening}
use Rattle.op_runs.specs.Possible.{proposals_in, SparesInRange, HappeningsInRange}
use Rattle.op_runs.specs.Run.{Execution, first_execution, execution_with, execution_of, Meets}
use Rattle.op_configurations.specs.Worlds as worlds
use Rattle.op_refinement.proofs.View.{Each}
use Rattle.op_refinement.proofs.Beside.{IsBeside}
use Rattle.op_refinement.proofs.Happening.{EventIsFine}
use Rattle.op_refinement.proofs.Runs.{Along, Track, runs_meet, runs_beside, runs_along, runs_track}
use Rattle.op_refinement.proofs.Services.{IsFit}
use Rattle.op_refinement.proofs.Reading.{fit_runs}
use Rattle.op_refinement.proofs.StepsGoing.{steps_go}
use Rattle.op_refinement.proofs.Ids.{ids_low, ids_apart}

commands_fit : (cs : List Command) → All CommandInRange cs → Each IsFit (entries_of cs)
commands_fit [] k = tt
commands_fit (c ∷ cs) k = (All-head CommandInRange c cs k, commands_fit cs (All-tail CommandInRange c cs k))

event_fit : (w : What) → WhatInRange w → EventIsFine IsFit w
event_fit (what.Tick p) k = tt
event_fit (what.Commands p cs) k = commands_fit cs (k.1).each
event_fit (what.Stop p members) k = λ s. tt
event_fit (what.Trim p) k = tt
event_fit (what.Read p r) k = tt
event_fit (what.Deliver i) k = tt
event_fit (what.Up p q) k = tt
event_fit (what.Down p q) k = tt
event_fit (what.Crash p) k = tt
event_fit (what.CrashAt p call image) k = tt
event_fit (what.Fail p call) k = tt
event_fit (what.Kill p disk) k = tt
event_fit (what.Start p) k = tt
event_fit (what.Show p) k = tt
event_fit (what.Ballots p) k = tt

events_fit : (hs : List Happening) → All (λ h. WhatInRange h.event.what) hs → Each (λ h. EventIsFine IsFit h.event.what) hs
events_fit [] k = tt
events_fit (h ∷ hs) k = (event_fit h.event.what (All-head (λ x. WhatInRange x.event.what) h hs k), events_fit hs (All-tail (λ x. WhatInRange x.event.what) h hs k))

-- every run meets the list machine
pub every_run_meets : (members spares : List ℕ) → MembersInRange members → SparesInRange members spares → (hs : List Happening) → HappeningsInRange hs → Meets members spares hs
every_run_meets members spares m s hs k = runs_meet steps_go IsFit fit_runs members spares (ids_low members spares m s) (ids_apart members spares m s) hs k.few (events_fit hs k.each)

-- and after it the world is beside a run of the pure machine
pub every_run_is_beside : (members spares : List ℕ) → MembersInRange members → SparesInRange members spares → (hs : List Happening) → HappeningsInRange hs
    → (ks : List worlds.Happening) × IsBeside members ks (execution_of (first_execution members spares) hs)
every_run_is_beside members spares m s hs k = runs_beside steps_go IsFit fit_runs members spares (ids_low members spares m s) (ids_apart members spares m s) hs k.few (events_fit hs k.each)

-- what holds at the start, and stays where a run goes on beside the pure machine, holds after every run
pub every_step : (members spares : List ℕ) → MembersInRange members → SparesInRange members spares → (hs : List Happening) → HappeningsInRange hs
    → (P : Execution → Type 0) → P (first_execution members spares) → ((t : Execution) (h : Happening) → Along members t h (execution_with t h) → P t → P (execution_with t h))
    → P (execution_of (first_execution members spares) hs)
every_step members spares m s hs k P start step =
    runs_along steps_go IsFit fit_runs members spares (ids_low members spares m s) (ids_apart members spares m s) hs k.few (events_fit hs k.each) P start step

fits_front : (early hs : List Happening) → Each (λ h. EventIsFine IsFit h.event.what) (early ++ hs) → Each (λ h. EventIsFine IsFit h.event.what) early × Each (λ h. EventIsFine IsFit h.event.what) hs
fits_front [] hs k = (tt, k)
fits_front (h ∷ early) hs k = let r = fits_front early hs k.1 in ((k.0, r.0), r.1)

sum_of : (early hs : List Happening) → proposals_in (early ++ hs) ≡ proposals_in early + proposals_in hs
sum_of [] hs = omega arith
sum_of (h ∷ early) hs = omega (arith, sum_of early hs)

-- what begins a run in range is in range
pub range_front : (early hs : List Happening) → HappeningsInRange (early ++ hs) → HappeningsInRange early
range_front early hs k = record { few = omega (arith, sum_of early hs, k.few); each = each_front early k.each }
  where
    each_front : (early : List Happening) → All (λ h. WhatInRange h.event.what) (early ++ hs) → All (λ h. WhatInRange h.event.what) early
    each_front [] e = All-nil (λ h. WhatInRange h.event.what)
    each_front (h ∷ early) e =
        All-cons (λ x. WhatInRange x.event.what) h early (All-head (λ x. WhatInRange x.event.what) h (early ++ hs) e) (each_front early (All-tail (λ x. WhatInRange x.event.what) h (early ++ hs) e))

-- each run is followed by happenings of the pure machine, number by number, from each moment on
pub every_track : (members spares : List ℕ) → MembersInRange members → SparesInRange members spares → (early hs : List Happening) → HappeningsInRange (early ++ hs)
    → Track members (execution_of (first_execution members spares) early) hs
every_track members spares m s early hs k =
    let f = fits_front early hs (events_fit (early ++ hs) k.each) in
    runs_track steps_go IsFit fit_runs members spares (ids_low members spares m s) (ids_apart members spares m s) early hs (omega (arith, sum_of early hs, k.few)) f.0 f.1
