-- A run of events, one after the other, and what is reported of it.
use Rattle.std.proofs.Common.{◌≡◌, ◌⊎◌, ℕ, suc, Bool, true, false, ◌+◌, ◌<◌, List, [], ◌∷◌, ◌++◌, length, Option, Some, None, All, refl, sym, ap, subst, ◌∙◌, inl, inr, arith, append_assoc, length-append}
use Rattle.std.proofs.lemmas.List.{append-nil, map-append}
use Rattle.std.proofs.lemmas.List.Elements.{All-nil, All-cons, All-head, All-tail, All-append, All-push}
use Rattle.op_types.specs.Ranges.{MembersInRange}
use Rattle.op_runs.specs.declared.events.Event.{Event}
use Rattle.op_runs.specs.declared.events.What.{What}
use Rattle.op_runs.specs.declared.events.What.TheVariants as what
use Rattle.op_runs.specs.declared.summary.Summary.{Summary}
use Rattle.op_runs.specs.World.{World, Sent, Deed, Doing, Happening, Fate, Done, deed_of, done_event, all_done}
use Rattle.op_runs.specs.Run.{Execution, first_execution, execution_of}
use Rattle.op_runs.specs.Possible.{Named, ObserversInRange, is_possible, is_possible_in, most_proposals, named_ids, WhatInRange, SparesInRange, proposals_in, proposals_of}
use Rattle.op_areas.specs.Media.{Medium}
use Rattle.op_runs.specs.Schedules.{DiskPlan, DiskPlans, Seated, no_plans, plans_after, happening_of, happenings_of, seated_at, observers_begun, stop_after, BecomesAt, BecomesBy, Becomes, IsRunOf, IsFirstRefused, TellsNoFault}
use Rattle.op_runs.specs.Summary.{summary_of}
use Rattle.op_laws.proofs.Reached.{world_of_run, execution_append}
use Rattle.op_executions.specs.Laws.{reached}
use Rattle.op_executions.specs.PlainRuns.{ArePlain}
use Rattle.op_executions.proofs.Behind.{Fit, NamesServers, behind_in_range, behind_owns, proposals_more}
use Rattle.op_executions.proofs.Deeds.{names_of}
use Rattle.op_executions.proofs.Laws.{keeps_the_laws}
use Rattle.op_executions.proofs.PlainRuns.{plain_runs_are_done, plain_events_can_be_done}
use Rattle.op_executions.proofs.ScheduleRuns.{ComesTo, comes_first, comes_next, comes_whole, comes_refused}
use Rattle.op_world.specs.Events.{EventComes}
use Rattle.op_world.specs.Runs.{IsReportOfRun}
use Rattle.op_world.specs.Worlds.{Parts, Shows}

-- ---- how much an event's happenings propose

none_proposed : (messages : List Sent) (x : What) → deed_of messages x ≡ None → proposals_of x ≡ 0
none_proposed messages (what.Commands p cs) none = absurd (cc)
none_proposed messages (what.Stop p members) none = absurd (cc)
none_proposed messages x none = refl

pub one_proposed : (e : Event) (f : Fate) (b : Bool) (hs : List Happening) → hs ≡ happening_of e f b ∷ [] → proposals_in hs ≡ proposals_of e.what
one_proposed e f b hs is = let same : proposals_in hs ≡ proposals_of e.what + 0 = ap proposals_in is in omega (arith, same)

ends_proposed : (e : Event) (pid : ℕ) (f : Fate) (due b : Bool) → proposals_in (happenings_of e pid f due b) ≡ proposals_of e.what
ends_proposed e pid f true b = omega arith
ends_proposed e pid f false b = omega arith

at_proposed : (m : Bool) (o : Option Seated) (plan : DiskPlan) (d : Doing) (e : Event) (hs : List Happening) → BecomesAt m o plan d e hs → proposals_in hs ≡ proposals_of e.what
at_proposed m None plan d e hs becomes = one_proposed e Done false hs becomes
at_proposed m (Some n) plan d e hs becomes = ap proposals_in becomes.3.1 ∙ ends_proposed e n.node.pid becomes.0 becomes.1 becomes.2

pub becomes_proposed : (m : Bool) (w : World) (plans : DiskPlans) (e : Event) (hs : List Happening) → Becomes m w plans e hs → proposals_in hs ≡ proposals_of e.what
becomes_proposed m w plans e hs becomes = by (deed_of w.messages e.what) refl becomes
  where
    by : (o : Option Deed) → deed_of w.messages e.what ≡ o → BecomesBy m o w plans e hs → proposals_in hs ≡ proposals_of e.what
    by None is k = ap proposals_in k ∙ sym (none_proposed w.messages e.what is)
    by (Some x) is k = at_proposed m (seated_at w x.pid) (plans x.pid) x.doing e hs k

-- ---- whom an event's happenings name

module _ (P : What → Type 0) (e : Event) (here : P e.what) (stops : (p : ℕ) → P (what.Crash p)) where
  abbrev Holds : Happening → Type 0
  Holds h = P h.event.what

  one_holds : (f : Fate) (b : Bool) → All Holds (happening_of e f b ∷ [])
  one_holds f b = All-cons Holds (happening_of e f b) [] here (All-nil Holds)

  ends_hold : (pid : ℕ) (f : Fate) (due b : Bool) → All Holds (happenings_of e pid f due b)
  ends_hold pid f true b = All-cons Holds (happening_of e f b) (stop_after e pid ∷ []) here (All-cons Holds (stop_after e pid) [] (stops pid) (All-nil Holds))
  ends_hold pid f false b = one_holds f b

  at_holds : (m : Bool) (o : Option Seated) (plan : DiskPlan) (d : Doing) (hs : List Happening) → BecomesAt m o plan d e hs → All Holds hs
  at_holds m None plan d hs becomes = subst (λ (gs : List Happening). All Holds gs) (sym becomes) (one_holds Done false)
  at_holds m (Some n) plan d hs becomes = subst (λ (gs : List Happening). All Holds gs) (sym becomes.3.1) (ends_hold n.node.pid becomes.0 becomes.1 becomes.2)

  by_holds : (m : Bool) (w : World) (plans : DiskPlans) (o : Option Deed) (hs : List Happening) → BecomesBy m o w plans e hs → All Holds hs
  by_holds m w plans None hs becomes = subst (λ (gs : List Happening). All Holds gs) (sym becomes) (All-nil Holds)
  by_holds m w plans (Some x) hs becomes = at_holds m (seated_at w x.pid) (plans x.pid) x.doing hs becomes

  -- what holds of the event, and of each stop, holds of what it becomes
  pub becomes_holds : (m : Bool) (w : World) (plans : DiskPlans) (hs : List Happening) → Becomes m w plans e hs → All Holds hs
  becomes_holds m w plans hs becomes = by_holds m w plans (deed_of w.messages e.what) hs becomes

-- ---- a run so far

-- these events became these happenings, which came to this run, with these plans; so much was proposed
pub record Ran (members spares observers : List ℕ) (mirrored : Bool) (t : Execution) (plans : DiskPlans) (events : List Event) (hs : List Happening) (proposed : ℕ) : Type 0 where
  pub comes : ComesTo members spares observers mirrored t.world plans events hs
  pub is : t ≡ reached members spares (observers_begun observers ++ hs)
  pub events_fit : All (λ e. WhatInRange e.what) events
  pub events_name : All (λ e. NamesServers members spares observers e.what) events
  pub fit : All (λ h. WhatInRange h.event.what) hs
  pub name : All (λ h. NamesServers members spares observers h.event.what) hs
  pub events_counted : proposals_in (all_done events) ≡ proposed
  pub counted : proposals_in hs ≡ proposed
  pub few : proposed < most_proposals

pub ran_first : (members spares observers : List ℕ) (mirrored : Bool) (proposed : ℕ) → proposed ≡ 0 → Ran members spares observers mirrored (reached members spares (observers_begun observers)) no_plans [] [] proposed
ran_first members spares observers mirrored proposed none = record {
  comes = subst (λ (w : World). ComesTo members spares observers mirrored w no_plans [] []) (sym (world_of_run (first_execution members spares) (observers_begun observers))) (comes_first members spares observers mirrored);
  is = ap (λ (hs : List Happening). reached members spares hs) (sym (append-nil (observers_begun observers)));
  events_fit = All-nil (λ (e : Event). WhatInRange e.what);
  events_name = All-nil (λ (e : Event). NamesServers members spares observers e.what);
  fit = All-nil (λ (h : Happening). WhatInRange h.event.what);
  name = All-nil (λ (h : Happening). NamesServers members spares observers h.event.what);
  events_counted = sym none;
  counted = sym none;
  few = omega (arith, none);
}

-- one event more
pub ran_next : {D C : Type 0} (M : Medium D C) (members spares observers : List ℕ) (old new : Parts D C) (t : Execution) (plans : DiskPlans) (events : List Event) (hs : List Happening) (e : Event) (proposed more : ℕ) → Ran members spares observers M.is_mirrored t plans events hs proposed
    → (c : EventComes M old e t plans new) → is_possible_in (named_ids members spares observers) t.world e ≡ true → WhatInRange e.what → more ≡ proposed + proposals_of e.what → more < most_proposals
    → Ran members spares observers M.is_mirrored (execution_of t c.happenings) (plans_after t.world plans e.what) (events ++ e ∷ []) (hs ++ c.happenings) more
ran_next M members spares observers old new t plans events hs e proposed more r c can fit sum few =
    let now : List Happening = c.happenings in
    let names : NamesServers members spares observers e.what = names_of (named_ids members spares observers) (length t.world.messages) e.what can in
    let said : proposals_in now ≡ proposals_of e.what = becomes_proposed M.is_mirrored t.world plans e now c.becomes in
    record {
      comes = subst (λ (w : World). ComesTo members spares observers M.is_mirrored w (plans_after t.world plans e.what) (events ++ e ∷ []) (hs ++ now)) (sym (world_of_run t now))
          (comes_next members spares observers M.is_mirrored t.world plans events hs r.comes e now can c.becomes);
      is = ap (λ (u : Execution). execution_of u now) r.is ∙ sym (execution_append (first_execution members spares) (observers_begun observers ++ hs) now)
          ∙ ap (λ (gs : List Happening). reached members spares gs) (append_assoc (observers_begun observers) hs now);
      events_fit = All-push (λ (x : Event). WhatInRange x.what) events e r.events_fit fit;
      events_name = All-push (λ (x : Event). NamesServers members spares observers x.what) events e r.events_name names;
      fit = All-append (λ (h : Happening). WhatInRange h.event.what) hs now r.fit c.range;
      name = All-append (λ (h : Happening). NamesServers members spares observers h.event.what) hs now r.name
          (becomes_holds (λ (x : What). NamesServers members spares observers x) e names (λ p. tt) M.is_mirrored t.world plans now c.becomes);
      events_counted =
          let whole : proposals_in (all_done (events ++ e ∷ [])) ≡ proposals_in (all_done events) + proposals_in (done_event e ∷ []) =
          ap proposals_in (map-append done_event events (e ∷ [])) ∙ proposals_more (all_done events) (done_event e ∷ []) in
          let one : proposals_in (done_event e ∷ []) ≡ proposals_of e.what = one_proposed e Done false (done_event e ∷ []) refl in
          let before = r.events_counted in
          omega (arith, whole, one, before, sum);
      counted = let whole = proposals_more hs now in let before = r.counted in omega (arith, whole, said, before, sum);
      few = few;
    }

-- ---- what a run leaves

-- whether no event tells of a stop or a failure in a call of a disk
one_plain : (x : What) → TellsNoFault x ⊎ (TellsNoFault x → ⊥)
one_plain (what.CrashAt p call image) = inr (λ no. no)
one_plain (what.Fail p call) = inr (λ no. no)
one_plain (what.Kill p disk) = inr (λ no. no)
one_plain x = inl tt

pub whether_plain : (events : List Event) → ArePlain events ⊎ (ArePlain events → ⊥)
whether_plain [] = inl (All-nil (λ (e : Event). TellsNoFault e.what))
whether_plain (e ∷ events) = by (one_plain e.what) (whether_plain events)
  where
    by : TellsNoFault e.what ⊎ (TellsNoFault e.what → ⊥) → ArePlain events ⊎ (ArePlain events → ⊥) → ArePlain (e ∷ events) ⊎ (ArePlain (e ∷ events) → ⊥)
    by (inl here) (inl rest) = inl (All-cons (λ x. TellsNoFault x.what) e events here rest)
    by (inl here) (inr not) = inr (λ all. not (All-tail (λ (x : Event). TellsNoFault x.what) e events all))
    by (inr not) rest = inr (λ all. not (All-head (λ (x : Event). TellsNoFault x.what) e events all))

-- what holds of each event holds of each happening where it is done
pub all_of : (P : What → Type 0) (events : List Event) → All (λ e. P e.what) events → All (λ h. P h.event.what) (all_done events)
all_of P [] k = All-nil (λ (h : Happening). P h.event.what)
all_of P (e ∷ events) k =
    All-cons (λ (h : Happening). P h.event.what) (done_event e) (all_done events) (All-head (λ (x : Event). P x.what) e events k) (all_of P events (All-tail (λ (x : Event). P x.what) e events k))

pub all_in_range : (events : List Event) → All (λ e. WhatInRange e.what) events → All (λ h. WhatInRange h.event.what) (all_done events)
all_in_range events k = all_of WhatInRange events k

module _ (members spares observers : List ℕ) (m : MembersInRange members) (sp : SparesInRange members spares) (o : ObserversInRange members spares observers) where
  -- what these happenings leave, where they are a run of the events
  abbrev report : (mirrored : Bool) (events : List Event) (s : Summary) (hs : List Happening) → IsRunOf members spares observers mirrored events (observers_begun observers ++ hs) → Fit members spares observers hs → s ≡ summary_of members (reached members spares (observers_begun observers ++ hs))
      → (ArePlain events → observers_begun observers ++ hs ≡ observers_begun observers ++ all_done events) → IsReportOfRun members spares observers mirrored events s
  report mirrored events s hs run k left plain = record {
    happenings = observers_begun observers ++ hs;
    run = run;
    left = left;
    laws = keeps_the_laws members spares (observers_begun observers ++ hs) (behind_in_range members spares observers m sp o hs k);
    owns = behind_owns members spares observers m sp o hs k;
    plain = plain;
  }

  -- where each event is done
  abbrev pub done_report : (mirrored : Bool) (events : List Event) (s : Summary) → IsRunOf members spares observers mirrored events (observers_begun observers ++ all_done events) → All (λ e. WhatInRange e.what) events
      → All (λ e. NamesServers members spares observers e.what) events → proposals_in (all_done events) < most_proposals → s ≡ summary_of members (reached members spares (observers_begun observers ++ all_done events))
      → IsReportOfRun members spares observers mirrored events s
  done_report mirrored events s run each names few left =
      report mirrored events s (all_done events) run (record { each = all_in_range events each; name = all_of (λ (x : What). NamesServers members spares observers x) events names; few = few }) left (λ _. refl)

  module _ (mirrored : Bool) (t : Execution) (plans : DiskPlans) (events : List Event) (hs : List Happening) (proposed : ℕ) (s : Summary) (r : Ran members spares observers mirrored t plans events hs proposed) (left : s ≡ summary_of members t) where
    abbrev run : IsRunOf members spares observers mirrored events (observers_begun observers ++ hs)
    run = comes_whole members spares observers mirrored t.world plans events hs r.comes

    -- where each event is done
    abbrev pub plain_report : ArePlain events → IsReportOfRun members spares observers mirrored events s
    plain_report plain =
        done_report mirrored events s (plain_events_can_be_done members spares observers mirrored events (observers_begun observers ++ hs) plain run) r.events_fit r.events_name
        (let is = r.events_counted in let small = r.few in omega (arith, is, small))
        (left ∙ ap (λ (x : Execution). summary_of members x) (r.is ∙ plain_runs_are_done members spares observers mirrored events (observers_begun observers ++ hs) plain run))

    abbrev pub other_report : (ArePlain events → ⊥) → IsReportOfRun members spares observers mirrored events s
    other_report other =
        report mirrored events s hs run (record { each = r.fit; name = r.name; few = let is = r.counted in let small = r.few in omega (arith, is, small) }) (left ∙ ap (λ (x : Execution). summary_of members x) r.is)
        (λ plain. absurd (other plain))

    pub report_of : IsReportOfRun members spares observers mirrored events s
    report_of = by (whether_plain events)
      where
        by : ArePlain events ⊎ (ArePlain events → ⊥) → IsReportOfRun members spares observers mirrored events s
        by (inl plain) = plain_report plain
        by (inr other) = other_report other

-- ---- a schedule, whose events are there from the beginning

-- so many came, and these are left
pub record Continues (members spares observers : List ℕ) (mirrored : Bool) (t : Execution) (plans : DiskPlans) (left events : List Event) (index proposed : ℕ) : Type 0 where
  pub done : List Event
  pub happenings : List Happening
  pub whole : done ++ left ≡ events
  pub count : index ≡ length done
  pub ran : Ran members spares observers mirrored t plans done happenings proposed
  pub range : All (λ e. WhatInRange e.what) left
  pub size : index + length left ≡ length events

pub continues_first : (members spares observers : List ℕ) (mirrored : Bool) (left events : List Event) (proposed : ℕ) → left ≡ events → All (λ e. WhatInRange e.what) events → proposed ≡ 0
    → Continues members spares observers mirrored (reached members spares (observers_begun observers)) no_plans left events 0 proposed
continues_first members spares observers mirrored left events proposed all range none = record {
  done = [];
  happenings = [];
  whole = all;
  count = refl;
  ran = ran_first members spares observers mirrored proposed none;
  range = subst (λ (es : List Event). All (λ e. WhatInRange e.what) es) (sym all) range;
  size = let same : length left ≡ length events = ap (λ (es : List Event). length es) all in omega (arith, same);
}

pub range_next : (members spares observers : List ℕ) (mirrored : Bool) (t : Execution) (plans : DiskPlans) (left rest events : List Event) (e : Event) (index proposed : ℕ) → Continues members spares observers mirrored t plans left events index proposed → left ≡ e ∷ rest → WhatInRange e.what
range_next members spares observers mirrored t plans left rest events e index proposed c first = All-head (λ (f : Event). WhatInRange f.what) e rest (subst (λ (es : List Event). All (λ f. WhatInRange f.what) es) first c.range)

pub continues_next : {D C : Type 0} (M : Medium D C) (members spares observers : List ℕ) (old new : Parts D C) (t : Execution) (plans : DiskPlans) (left rest events : List Event) (e : Event) (index proposed more : ℕ) → Continues members spares observers M.is_mirrored t plans left events index proposed → left ≡ e ∷ rest
    → (c : EventComes M old e t plans new) → is_possible_in (named_ids members spares observers) t.world e ≡ true → more ≡ proposed + proposals_of e.what → more < most_proposals
    → Continues members spares observers M.is_mirrored (execution_of t c.happenings) (plans_after t.world plans e.what) rest events (index + 1) more
continues_next M members spares observers old new t plans left rest events e index proposed more c first comes can sum few = record {
  done = c.done ++ e ∷ [];
  happenings = c.happenings ++ comes.happenings;
  whole = append_assoc c.done (e ∷ []) rest ∙ ap (λ (es : List Event). c.done ++ es) (sym first) ∙ c.whole;
  count = let long = length-append c.done (e ∷ []) in let before = c.count in omega (arith, long, before);
  ran = ran_next M members spares observers old new t plans c.done c.happenings e proposed more c.ran comes can (range_next members spares observers M.is_mirrored t plans left rest events e index proposed c first) sum few;
  range = All-tail (λ (f : Event). WhatInRange f.what) e rest (subst (λ (es : List Event). All (λ f. WhatInRange f.what) es) first c.range);
  size = let one : length left ≡ suc (length rest) = ap (λ (es : List Event). length es) first in let all = c.size in omega (arith, one, all);
}

pub bad_here : (members spares observers : List ℕ) (mirrored : Bool) (t : Execution) (plans : DiskPlans) (left rest events : List Event) (e : Event) (index proposed : ℕ) → Continues members spares observers mirrored t plans left events index proposed → left ≡ e ∷ rest
    → is_possible_in (named_ids members spares observers) t.world e ≡ false → IsFirstRefused members spares observers mirrored events index
bad_here members spares observers mirrored t plans left rest events e index proposed c first cannot =
    let whole : c.done ++ e ∷ rest ≡ events = ap (λ (es : List Event). c.done ++ es) (sym first) ∙ c.whole in
    subst (λ (i : ℕ). IsFirstRefused members spares observers mirrored events i) (sym c.count)
    (subst (λ (es : List Event). IsFirstRefused members spares observers mirrored es (length c.done)) whole (comes_refused members spares observers mirrored t.world plans c.done c.happenings c.ran.comes e rest cannot))

pub continues_end : (members spares observers : List ℕ) → MembersInRange members → SparesInRange members spares → ObserversInRange members spares observers → (mirrored : Bool) (t : Execution) (plans : DiskPlans) (left events : List Event) (index proposed : ℕ) (s : Summary)
    → Continues members spares observers mirrored t plans left events index proposed → left ≡ [] → s ≡ summary_of members t → IsReportOfRun members spares observers mirrored events s
continues_end members spares observers m sp o mirrored t plans left events index proposed s c none is =
    let whole : c.done ≡ events = sym (append-nil c.done) ∙ ap (λ (es : List Event). c.done ++ es) (sym none) ∙ c.whole in
    subst (λ (es : List Event). IsReportOfRun members spares observers mirrored es s) whole (report_of members spares observers m sp o mirrored t plans c.done c.happenings proposed s c.ran is)

-- whether an event can come, as the code's world tells it
pub possible_seen : {D C : Type 0} (M : Medium D C) (ids : Named) (w : Parts D C) (t : Execution) (e : Event) (b : Bool) → Shows M w t → w.ids ≡ ids → is_possible w.ids (length w.messages) e.what ≡ b → is_possible_in ids t.world e ≡ b
possible_seen M ids w t e b show same is =
    ap (λ (ms : List Sent). is_possible ids (length ms) e.what) show.messages ∙ ap (λ (ns : Named). is_possible ns (length w.messages) e.what) (sym same) ∙ is
