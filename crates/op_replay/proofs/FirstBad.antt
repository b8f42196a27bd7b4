-- The first event of a run that can't come: it is there, and its line is one of the schedule's.
use Rattle.std.proofs.Common.{◌≡◌, ℕ, Bool, List, [], ◌∷◌, map, length, ◌<◌, Some, get_or, refl, ap, ◌∙◌, inl, inr}
use Rattle.std.specs.Prelude.{slice_get}
use Rattle.std.specs.Option.{option_map}
use Rattle.std.proofs.lemmas.Option.{slice_get-map, get_or_from_slice_get, slice_get_within}
use Rattle.op_runs.specs.declared.events.Event.{Event}
use Rattle.op_runs.specs.World.{World, run_of}
use Rattle.op_runs.specs.Possible.{Named, named_ids}
use Rattle.op_runs.specs.Schedules.{DiskPlans, no_plans, plans_after, started_world, FailsFrom, IsFirstRefused}
use Rattle.op_replay.specs.Replay.{IsLineOfFirstBad}

there_from : (mirrored : Bool) (ids : Named) (w : World) (plans : DiskPlans) (events : List Event) (i : ℕ) → FailsFrom mirrored ids w plans events i → (e : Event) × (slice_get events i ≡ Some e)
there_from mirrored ids w plans [] i bad = absurd bad
there_from mirrored ids w plans (e ∷ es) i (inl bad) = (e, rw bad.0 refl)
there_from mirrored ids w plans (e ∷ es) i (inr bad) = let rest = there_from mirrored ids (run_of w bad.3) (plans_after w plans e.what) es bad.0 bad.5 in (rest.0, rw bad.1 rest.1)

there : (members spares observers : List ℕ) (mirrored : Bool) (events : List Event) (i : ℕ) → IsFirstRefused members spares observers mirrored events i → (e : Event) × (slice_get events i ≡ Some e)
there members spares observers mirrored events i bad = there_from mirrored (named_ids members spares observers) (started_world members spares observers) no_plans events i bad

-- ---- among the lines of all events

line_there : (members spares observers : List ℕ) (mirrored : Bool) (events : List Event) (lines : List ℕ) (i : ℕ) → lines ≡ map (λ e. e.line) events → (bad : IsFirstRefused members spares observers mirrored events i) → slice_get lines i ≡ Some (there members spares observers mirrored events i bad).0.line
line_there members spares observers mirrored events lines i all bad =
    ap (λ (xs : List ℕ). slice_get xs i) all
    ∙ slice_get-map (λ (e : Event). e.line) events i
    ∙ ap (option_map (λ (e : Event). e.line)) (there members spares observers mirrored events i bad).1

-- its number is one of theirs
pub bad_within : (members spares observers : List ℕ) (mirrored : Bool) (events : List Event) (lines : List ℕ) (i : ℕ) → lines ≡ map (λ e. e.line) events → IsFirstRefused members spares observers mirrored events i → i < length lines
bad_within members spares observers mirrored events lines i all bad = slice_get_within lines i (there members spares observers mirrored events i bad).0.line (line_there members spares observers mirrored events lines i all bad)

-- the line of its number is its own
pub bad_line : (members spares observers : List ℕ) (mirrored : Bool) (events : List Event) (lines : List ℕ) (i line : ℕ) → lines ≡ map (λ e. e.line) events → IsFirstRefused members spares observers mirrored events i → line ≡ get_or lines i line → IsLineOfFirstBad members spares observers mirrored events line
bad_line members spares observers mirrored events lines i line all bad at =
    let event = there members spares observers mirrored events i bad in
    record { index = i; event = event.0; first = bad; there = event.1; line_is = at ∙ get_or_from_slice_get lines i event.0.line line (line_there members spares observers mirrored events lines i all bad) }
