-- The events of a drill, drawn one at a time.
use Rattle.std.proofs.Common.{◌≡◌, ◌⊎◌, ℕ, Bool, ◌+◌, ◌<◌, true, List, [], ◌∷◌, ◌++◌, length, All, refl, sym, ap, subst, ◌∙◌, inl, inr, arith, append_assoc, length-append}
use Rattle.std.proofs.lemmas.Bool.{false≢true}
use Rattle.std.proofs.lemmas.List.{append-nil, map-append}
use Rattle.std.proofs.lemmas.List.Elements.{All-nil, All-cons, All-head, All-tail}
use Rattle.op_types.specs.Ranges.{IsMember, MembersInRange}
use Rattle.op_spec.specs.Machine.{IsAmong}
use Rattle.op_spec.proofs.Safety.{IsAmong-is_member}
use Rattle.op_runs.specs.declared.events.Event.{Event}
use Rattle.op_runs.specs.declared.summary.Summary.{Summary}
use Rattle.op_runs.specs.World.{World, Sent, Happening, first_world, world_after, run_of, done_event, all_done, deed_of}
use Rattle.op_runs.specs.Run.{Execution, first_execution, execution_of}
use Rattle.op_runs.specs.Possible.{is_possible, is_possible_in, most_proposals, proposals_of, ObserversInRange, SparesInRange, WhatInRange}
use Rattle.op_areas.specs.Media.{Medium}
use Rattle.op_runs.specs.Schedules.{DiskPlans, no_plans, plans_after, Becomes, TellsNoFault}
use Rattle.op_runs.specs.Summary.{summary_of}
use Rattle.op_gen.specs.declared.generator.Gen.{Gen}
use Rattle.op_gen.specs.Draws.{drill_members, drill_spares, drill_ids, drill_mirrored, gen_of, event_drawn, DrawnFrom, AreDrawn}
use Rattle.op_laws.proofs.Reached.{world_of_run}
use Rattle.op_executions.specs.PlainRuns.{ArePlain}
use Rattle.op_executions.proofs.PlainRuns.{StopsBetween, NothingIsPlanned, first_plain, stays_plain, nothing_after, done_one, is_done, same_deed}
use Rattle.op_world.specs.Events.{EventComes}
use Rattle.op_world.specs.Runs.{IsReportOfDrawn}
use Rattle.op_world.specs.Worlds.{Parts, Shows}
use Rattle.op_executions.proofs.Behind.{no_observers}
use Rattle.op_world.proofs.Runs.{Ran, ran_first, ran_next, whether_plain, plain_report, other_report}

-- ---- the drill's servers

pub drill_range : MembersInRange drill_members
drill_range = record { some = omega arith; few = omega arith; rising = (omega arith, omega arith, (omega arith, omega arith, (omega arith, omega arith, tt))) }

-- a spare is no member
no_member : (q : ℕ) → IsAmong drill_spares q → IsMember drill_members q → ⊥
no_member q (inl four) member = absurd (false≢true (subst (λ (x : ℕ). IsMember drill_members x) (sym four) member))
no_member q (inr (inl five)) member = absurd (false≢true (subst (λ (x : ℕ). IsMember drill_members x) (sym five) member))
no_member q (inr (inr none)) member = none

pub drill_beside : SparesInRange drill_members drill_spares
drill_beside = record {
  rising = (omega arith, omega arith, (omega arith, omega arith, tt));
  apart = λ q spare. no_member q (IsAmong-is_member drill_spares q spare);
}

pub drill_alone : ObserversInRange drill_members drill_spares []
drill_alone = no_observers drill_members drill_spares

-- ---- lists

all_front : (P : Event → Type 0) (xs ys : List Event) → All P (xs ++ ys) → All P xs
all_front P [] ys all = All-nil P
all_front P (x ∷ xs) ys all = All-cons P x xs (All-head P x (xs ++ ys) all) (all_front P xs ys (All-tail P x (xs ++ ys) all))

all_back : (P : Event → Type 0) (xs ys : List Event) → All P (xs ++ ys) → All P ys
all_back P [] ys all = all
all_back P (x ∷ xs) ys all = all_back P xs ys (All-tail P x (xs ++ ys) all)

-- ---- events that are drawn

-- what is drawn from here on comes behind these events and happenings
abbrev DrawsOn : ℕ → World → DiskPlans → Gen → List Event → List Happening → Type 0
DrawsOn seed w plans g events hs =
    (more : List Event) (later : List Happening) → DrawnFrom w plans g more later → DrawnFrom (first_world drill_members drill_spares) no_plans (gen_of seed) (events ++ more) (hs ++ later)

-- the same where they tell of no stop and no failure in a call of a disk, and each is done
pub record DrawsPlainly (seed : ℕ) (w : World) (plans : DiskPlans) (g : Gen) (events : List Event) : Type 0 where
  pub stops : StopsBetween w
  pub nothing : NothingIsPlanned plans
  pub draws : DrawsOn seed w plans g events (all_done events)

-- so many events were drawn, and became these happenings
pub record IsDrawn (seed count : ℕ) (g : Gen) (t : Execution) (plans : DiskPlans) (proposed : ℕ) : Type 0 where
  pub events : List Event
  pub happenings : List Happening
  pub many : length events ≡ count
  pub numbered : g.number ≡ count + 1
  pub draws : DrawsOn seed t.world plans g events happenings
  pub plainly : ArePlain events → DrawsPlainly seed t.world plans g events
  pub ran : Ran drill_members drill_spares [] drill_mirrored t plans events happenings proposed

pub drawn_first : (seed : ℕ) (g : Gen) (proposed : ℕ) → g ≡ gen_of seed → proposed ≡ 0 → IsDrawn seed 0 g (first_execution drill_members drill_spares) no_plans proposed
drawn_first seed g proposed is none =
    let first : World = first_world drill_members drill_spares in
    let draws : DrawsOn seed first no_plans g [] [] = λ more later drawn. subst (λ (h : Gen). DrawnFrom first no_plans h more later) is drawn in
    record {
      events = [];
      happenings = [];
      many = refl;
      numbered = ap (λ (h : Gen). h.number) is;
      draws = draws;
      plainly = λ plain. record { stops = first_plain drill_members drill_spares; nothing = λ pid. refl; draws = draws };
      ran = ran_first drill_members drill_spares [] drill_mirrored proposed none;
    }

module _ {D C : Type 0} (M : Medium D C) (unmirrored : M.is_mirrored ≡ drill_mirrored) (seed count : ℕ) (g : Gen) (old new : Parts D C) (t : Execution) (plans : DiskPlans) (e : Event) (proposed more : ℕ) (d : IsDrawn seed count g t plans proposed) (show : Shows M old t) (drawn : e ≡ (event_drawn (length old.messages) g).0)
    (can : is_possible drill_ids (length old.messages) e.what ≡ true) (comes : EventComes M old e t plans new) where
  abbrev now : List Happening
  now = comes.happenings

  abbrev next_gen : Gen
  next_gen = (event_drawn (length old.messages) g).1

  -- the world's messages are those that are drawn from
  seen : length old.messages ≡ length t.world.messages
  seen = ap (λ (ms : List Sent). length ms) (sym show.messages)

  drawn_there : e ≡ (event_drawn (length t.world.messages) g).0
  drawn_there = drawn ∙ ap (λ (n : ℕ). (event_drawn n g).0) seen

  possible : is_possible_in drill_ids t.world e ≡ true
  possible = ap (λ (n : ℕ). is_possible drill_ids n e.what) (sym seen) ∙ can

  -- what is drawn later, in the world that the happenings come to
  drawn_later : (w : World) (es : List Event) (later : List Happening) → (execution_of t now).world ≡ w → DrawnFrom (execution_of t now).world (plans_after t.world plans e.what) next_gen es later
      → DrawnFrom w (plans_after t.world plans e.what) (event_drawn (length t.world.messages) g).1 es later
  drawn_later w es later is rest =
      subst (λ (n : ℕ). DrawnFrom w (plans_after t.world plans e.what) (event_drawn n g).1 es later) seen
      (subst (λ (x : World). DrawnFrom x (plans_after t.world plans e.what) next_gen es later) is rest)

  becomes : Becomes drill_mirrored t.world plans e now
  becomes = subst (λ (b : Bool). Becomes b t.world plans e now) unmirrored comes.becomes

  draws_next : DrawsOn seed (execution_of t now).world (plans_after t.world plans e.what) next_gen (d.events ++ e ∷ []) (d.happenings ++ now)
  draws_next es later rest =
      subst (λ (xs : List Happening). DrawnFrom (first_world drill_members drill_spares) no_plans (gen_of seed) ((d.events ++ e ∷ []) ++ es) xs) (sym (append_assoc d.happenings now later))
      (subst (λ (xs : List Event). DrawnFrom (first_world drill_members drill_spares) no_plans (gen_of seed) xs (d.happenings ++ (now ++ later))) (sym (append_assoc d.events (e ∷ []) es))
      (d.draws (e ∷ es) (now ++ later) (now, later, refl, drawn_there, becomes, drawn_later (run_of t.world now) es later (world_of_run t now) rest)))

  plainly_next : ArePlain (d.events ++ e ∷ []) → DrawsPlainly seed (execution_of t now).world (plans_after t.world plans e.what) next_gen (d.events ++ e ∷ [])
  plainly_next plain =
      let before : ArePlain d.events = all_front (λ (x : Event). TellsNoFault x.what) d.events (e ∷ []) plain in
      let here : TellsNoFault e.what = All-head (λ (x : Event). TellsNoFault x.what) e [] (all_back (λ (x : Event). TellsNoFault x.what) d.events (e ∷ []) plain) in
      let p = d.plainly before in
      let one = done_one drill_mirrored drill_ids t.world plans e now p.nothing here possible becomes in
      let w : World = world_after t.world (done_event e) in
      let same : run_of t.world now ≡ w = ap (λ (xs : List Happening). run_of t.world xs) one.is ∙ same_deed (deed_of t.world.messages e.what) e one.finds_after t.world p.stops in
      let world : (execution_of t now).world ≡ w = world_of_run t now ∙ same in
      record {
        stops = subst StopsBetween (sym world) (stays_plain (deed_of t.world.messages e.what) e t.world p.stops);
        nothing = nothing_after t.world plans e.what here p.nothing;
        draws = λ es later rest.
            let first : World = first_world drill_members drill_spares in
            subst (λ (hs : List Happening). DrawnFrom first no_plans (gen_of seed) ((d.events ++ e ∷ []) ++ es) (hs ++ later)) (sym (map-append done_event d.events (e ∷ [])))
            (subst (λ (xs : List Happening). DrawnFrom first no_plans (gen_of seed) ((d.events ++ e ∷ []) ++ es) xs) (sym (append_assoc (all_done d.events) (done_event e ∷ []) later))
            (subst (λ (xs : List Event). DrawnFrom first no_plans (gen_of seed) xs (all_done d.events ++ (done_event e ∷ [] ++ later))) (sym (append_assoc d.events (e ∷ []) es))
            (p.draws (e ∷ es) (done_event e ∷ [] ++ later)
            (done_event e ∷ [], later, refl, drawn_there, is_done drill_mirrored drill_ids t.world plans e p.nothing here possible, drawn_later w es later world rest))));
      }

  pub drawn_next : WhatInRange e.what → more ≡ proposed + proposals_of e.what → more < most_proposals → IsDrawn seed (count + 1) next_gen (execution_of t now) (plans_after t.world plans e.what) more
  drawn_next fit sum few = record {
    events = d.events ++ e ∷ [];
    happenings = d.happenings ++ now;
    many = let long = length-append d.events (e ∷ []) in let before = d.many in omega (arith, long, before);
    numbered = ap (λ (n : ℕ). n + 1) d.numbered;
    draws = draws_next;
    plainly = plainly_next;
    ran = subst (λ (b : Bool). Ran drill_members drill_spares [] b (execution_of t now) (plans_after t.world plans e.what) (d.events ++ e ∷ []) (d.happenings ++ now) more) unmirrored
        (ran_next M drill_members drill_spares [] old new t plans d.events d.happenings e proposed more
        (subst (λ (b : Bool). Ran drill_members drill_spares [] b t plans d.events d.happenings proposed) (sym unmirrored) d.ran) comes possible fit sum few);
  }

-- where all are drawn, their run is reported
pub drawn_end : (seed count : ℕ) (g : Gen) (t : Execution) (plans : DiskPlans) (proposed : ℕ) (s : Summary) → IsDrawn seed count g t plans proposed → s ≡ summary_of drill_members t → IsReportOfDrawn seed count s
drawn_end seed count g t plans proposed s d left = by (whether_plain d.events)
  where
    whole : (hs : List Happening) → DrawsOn seed t.world plans g d.events hs → AreDrawn seed count d.events hs
    whole hs draws = (
      d.many,
      subst (λ (es : List Event). DrawnFrom (first_world drill_members drill_spares) no_plans (gen_of seed) es hs) (append-nil d.events)
          (subst (λ (xs : List Happening). DrawnFrom (first_world drill_members drill_spares) no_plans (gen_of seed) (d.events ++ []) xs) (append-nil hs) (draws [] [] refl)),
    )

    by : ArePlain d.events ⊎ (ArePlain d.events → ⊥) → IsReportOfDrawn seed count s
    by (inl plain) =
        record { events = d.events; report = plain_report drill_members drill_spares [] drill_range drill_beside drill_alone drill_mirrored t plans d.events d.happenings proposed s d.ran left plain; drawn = whole (all_done d.events) (d.plainly plain).draws }
    by (inr other) =
        record { events = d.events; report = other_report drill_members drill_spares [] drill_range drill_beside drill_alone drill_mirrored t plans d.events d.happenings proposed s d.ran left other; drawn = whole d.happenings d.draws }
