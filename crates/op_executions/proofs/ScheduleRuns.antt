-- A run of a schedule's events, one after the other, behind the beginnings of its observers.
use Rattle.std.proofs.Common.{◌≡◌, ◌+◌, ℕ, suc, Bool, true, false, List, [], ◌∷◌, ◌++◌, length, refl, sym, ap, subst, ◌∙◌, inl, inr, arith, append_assoc, length-append}
use Rattle.std.proofs.lemmas.List.{append-nil}
use Rattle.op_runs.specs.declared.events.Event.{Event}
use Rattle.op_runs.specs.World.{World, Happening, first_world, run_of}
use Rattle.op_runs.specs.Possible.{is_possible_in, named_ids}
use Rattle.op_runs.specs.Schedules.{DiskPlans, no_plans, Becomes, plans_after, RunsFrom, FailsFrom, observers_begun, started_world, IsRunOf, IsFirstRefused}
use Rattle.op_laws.proofs.Reached.{run_append}

-- These events became these happenings behind the observers' beginnings, which came to this world, with what is planned for its
-- servers' disks: what more events become from here on comes behind them.
pub record ComesTo (members spares observers : List ℕ) (mirrored : Bool) (w : World) (plans : DiskPlans) (events : List Event) (hs : List Happening) : Type 0 where
  pub world : w ≡ run_of (first_world members spares) (observers_begun observers ++ hs)
  pub runs : (more : List Event) (later : List Happening) → RunsFrom mirrored (named_ids members spares observers) w plans more later
      → RunsFrom mirrored (named_ids members spares observers) (started_world members spares observers) no_plans (events ++ more) (hs ++ later)
  pub fails : (more : List Event) (i : ℕ) → FailsFrom mirrored (named_ids members spares observers) w plans more i → IsFirstRefused members spares observers mirrored (events ++ more) (length events + i)

module _ (members spares observers : List ℕ) (mirrored : Bool) where
  -- how these events run from the start
  abbrev Runs : List Event → List Happening → Type 0
  Runs events hs = RunsFrom mirrored (named_ids members spares observers) (started_world members spares observers) no_plans events hs

  abbrev Fails : List Event → ℕ → Type 0
  Fails events i = IsFirstRefused members spares observers mirrored events i

  pub comes_first : ComesTo members spares observers mirrored (started_world members spares observers) no_plans [] []
  comes_first = record {
    world = ap (λ (hs : List Happening). run_of (first_world members spares) hs) (sym (append-nil (observers_begun observers)));
    runs = λ more later run. run;
    fails = λ more i bad. let whole : i ≡ 0 + i = omega arith in subst (λ (j : ℕ). Fails more j) whole bad;
  }

  module _ (w : World) (plans : DiskPlans) (events : List Event) (hs : List Happening) (c : ComesTo members spares observers mirrored w plans events hs) where
    -- one event more
    pub comes_next : (e : Event) (now : List Happening) → is_possible_in (named_ids members spares observers) w e ≡ true → Becomes mirrored w plans e now
        → ComesTo members spares observers mirrored (run_of w now) (plans_after w plans e.what) (events ++ e ∷ []) (hs ++ now)
    comes_next e now can becomes = record {
      world = ap (λ (x : World). run_of x now) c.world ∙ sym (run_append (first_world members spares) (observers_begun observers ++ hs) now)
          ∙ ap (λ (xs : List Happening). run_of (first_world members spares) xs) (append_assoc (observers_begun observers) hs now);
      runs = λ more later run.
          subst (λ (xs : List Happening). Runs ((events ++ e ∷ []) ++ more) xs) (sym (append_assoc hs now later))
          (subst (λ (es : List Event). Runs es (hs ++ (now ++ later))) (sym (append_assoc events (e ∷ []) more))
          (c.runs (e ∷ more) (now ++ later) (now, later, refl, can, becomes, run)));
      fails = λ more i bad.
          let same : length events + suc i ≡ length (events ++ e ∷ []) + i = omega (arith, length-append events (e ∷ [])) in
          subst (λ (j : ℕ). Fails ((events ++ e ∷ []) ++ more) j) same
          (subst (λ (es : List Event). Fails es (length events + suc i)) (sym (append_assoc events (e ∷ []) more)) (c.fails (e ∷ more) (suc i) (inr (i, refl, can, now, becomes, bad))));
    }

    -- no event more
    pub comes_whole : IsRunOf members spares observers mirrored events (observers_begun observers ++ hs)
    comes_whole = (
      hs,
      refl,
      subst (λ (es : List Event). Runs es hs) (append-nil events) (subst (λ (xs : List Happening). Runs (events ++ []) xs) (append-nil hs) (c.runs [] [] refl)),
    )

    -- an event that can't come, and whatever stands behind it
    pub comes_refused : (e : Event) (rest : List Event) → is_possible_in (named_ids members spares observers) w e ≡ false → IsFirstRefused members spares observers mirrored (events ++ e ∷ rest) (length events)
    comes_refused e rest cannot =
        let same : length events + 0 ≡ length events = omega arith in
        subst (λ (j : ℕ). Fails (events ++ e ∷ rest) j) same (c.fails (e ∷ rest) 0 (inl (refl, cannot)))
