-- Lockstep rounds of the code's world.
use Rattle.std.proofs.Common.{◌≡◌, ℕ, suc, ◌+◌, ◌<◌, Bool, true, false, List, [], ◌∷◌, ◌++◌, length, map, take, get_or, Option, Some, None, All, IfSome, Result, Ok, Err, slice_get, refl, sym, ap, ◌∙◌, subst, arith}
use Rattle.std.proofs.lemmas.List.{map-append, take_more}
use Rattle.std.proofs.lemmas.List.Elements.{All-nil, All-cons, All-append, All-head, All-tail}
use Rattle.op_types.specs.Ranges.{IsMember, IsPid, MembersInRange}
use Rattle.op_types.specs.declared.events.Input.TheVariants as input
use Rattle.op_runs.specs.declared.events.Event.{Event}
use Rattle.op_runs.specs.declared.events.What.{What}
use Rattle.op_runs.specs.declared.events.What.TheVariants as what
use Rattle.op_runs.specs.declared.summary.Summary.{Summary}
use Rattle.op_gen.specs.Links.{Links, all_links}
use Rattle.op_runs.specs.World.{World, Sent, Happening, Done, Steps, Stops, Opens, Tells, ThePairs, TheBallots, deed_of, delivery, first_world, world_after, done_event, all_done}
use Rattle.op_runs.specs.Run.{Execution, first_execution, execution_with, execution_of}
use Rattle.op_runs.specs.Possible.{Named, named_ids, is_possible, is_possible_in, most_proposals, ArePossibleFrom, WhatInRange, SparesInRange, proposals_in}
use Rattle.op_areas.specs.Media.{Medium}
use Rattle.op_runs.specs.Schedules.{DiskPlan, DiskPlans, no_plans, plans_after, happening_of, RunsFrom, TellsNoFault}
use Rattle.op_runs.specs.Summary.{run_summary, summary_of}
use Rattle.op_lockstep.specs.Lockstep.{event_of, after_events, ticks, ballots, deliveries, is_linked_request, is_sent_reply, ticked, asking, asked, answering, round, lockstep, first_rounds, linked_world, links_drill}
use Rattle.op_lockstep.proofs.Drills.{drill_quiet}
use Rattle.op_lockstep.proofs.Reached.{every_lockstep_reaches}
use Rattle.op_executions.specs.Failing.{IfBadEvent}
use Rattle.op_executions.specs.declared.fail.RunFail.{RunFail}
use Rattle.op_executions.specs.declared.fail.RunFail.TheVariants as run_fail
use Rattle.op_executions.proofs.Bounds.{member_ids}
use Rattle.op_executions.proofs.ServerIds.{members_known}
use Rattle.op_executions.proofs.PlainRuns.{NothingIsPlanned, done_one, is_done, nothing_after}
use Rattle.op_world.specs.Plans.{plan_at, IsPlan}
use Rattle.op_world.specs.Drills.{IsCalm, IsQuiet, IsReportOfDrill, OpensNothing, followed}
use Rattle.op_world.specs.Events.{EventComes}
use Rattle.op_world.specs.Worlds.{Parts, IsWorld, Shows}
use Rattle.op_world.proofs.Events.{same_done}
use Rattle.op_world.proofs.LockstepEvents.{Follows, follows_here, followed_append, followed_world, ticks_possible, ballots_possible, deliveries_possible, one_more_round, drill_possible, names_from, drill_proposes_nothing}
use Rattle.op_executions.proofs.Behind.{no_observers}
use Rattle.op_world.proofs.Runs.{done_report}

-- ---- lists of events

-- one event more, of the next id
pub more_events : (f : ℕ → Event) (ps : List ℕ) (i d : ℕ) (es new : List Event) (e : Event) → i < length ps → es ≡ map f (take i ps) → e ≡ f (get_or ps i d) → new ≡ es ++ e ∷ [] → new ≡ map f (take (i + 1) ps)
more_events f ps i d es new e low before is more =
    more ∙ ap (λ (l : List Event). l ++ e ∷ []) before ∙ ap (λ (x : Event). map f (take i ps) ++ x ∷ []) is
    ∙ sym (map-append f (take i ps) (get_or ps i d ∷ [])) ∙ ap (λ (l : List ℕ). map f l) (sym (take_more ps i d low))

pub more_quiet : (es new : List Event) (e : Event) → All IsQuiet es → IsQuiet e → new ≡ es ++ e ∷ [] → All IsQuiet new
more_quiet es new e before here more = subst (λ (l : List Event). All IsQuiet l) (sym more) (All-append IsQuiet es (e ∷ []) before (All-cons IsQuiet e [] here (All-nil IsQuiet)))

mapped_ids : (f : ℕ → Event) → ((p : ℕ) → IsPid p → IsQuiet (f p)) → (ps : List ℕ) → All IsPid ps → All IsQuiet (map f ps)
mapped_ids f h [] each = All-nil IsQuiet
mapped_ids f h (p ∷ ps) each = All-cons IsQuiet (f p) (map f ps) (h p (All-head IsPid p ps each)) (mapped_ids f h ps (All-tail IsPid p ps each))

-- those behind the first
pub rest_quiet : (left rest : List Event) (e : Event) → left ≡ e ∷ rest → All IsQuiet left → All IsQuiet rest
rest_quiet left rest e first all = All-tail IsQuiet e rest (subst (λ (l : List Event). All IsQuiet l) first all)

pub first_quiet : (left rest : List Event) (e : Event) → left ≡ e ∷ rest → All IsQuiet left → IsQuiet e
first_quiet left rest e first all = All-head IsQuiet e rest (subst (λ (l : List Event). All IsQuiet l) first all)

-- ---- an event that opens nothing

opens_nothing : (messages : List Sent) (x : What) → OpensNothing x → IfSome (deed_of messages x) (λ d. d.doing ≡ Opens → ⊥)
opens_nothing messages (what.Tick p) quiet = λ e. let no : Steps input.Tick ≡ Opens = e in cc
opens_nothing messages (what.Commands p cs) quiet = λ e. let no : Steps (input.Commands cs) ≡ Opens = e in cc
opens_nothing messages (what.Stop p ms) quiet = λ e. let no : Steps (input.Stop ms) ≡ Opens = e in cc
opens_nothing messages (what.Trim p) quiet = λ e. let no : Steps input.TrimNow ≡ Opens = e in cc
opens_nothing messages (what.Read p r) quiet = λ e. let no : Steps (input.Read r) ≡ Opens = e in cc
opens_nothing messages (what.Deliver i) quiet = by (slice_get messages i)
  where
    by : (o : Option Sent) → IfSome (delivery o) (λ d. d.doing ≡ Opens → ⊥)
    by None = tt
    by (Some m) = λ e. let no : Steps (input.Deliver m.from m.message) ≡ Opens = e in cc
opens_nothing messages (what.Up p q) quiet = λ e. let no : Steps (input.Up q) ≡ Opens = e in cc
opens_nothing messages (what.Down p q) quiet = λ e. let no : Steps (input.Down q) ≡ Opens = e in cc
opens_nothing messages (what.Crash p) quiet = λ e. let no : Stops ≡ Opens = e in cc
opens_nothing messages (what.CrashAt p call image) quiet = absurd quiet
opens_nothing messages (what.Fail p call) quiet = absurd quiet
opens_nothing messages (what.Kill p disk) quiet = absurd quiet
opens_nothing messages (what.Start p) quiet = absurd quiet
opens_nothing messages (what.Show p) quiet = λ e. let no : Tells ThePairs ≡ Opens = e in cc
opens_nothing messages (what.Ballots p) quiet = λ e. let no : Tells TheBallots ≡ Opens = e in cc

tells_no_fault : (x : What) → OpensNothing x → TellsNoFault x
tells_no_fault (what.CrashAt p call image) quiet = absurd quiet
tells_no_fault (what.Fail p call) quiet = absurd quiet
tells_no_fault (what.Kill p disk) quiet = absurd quiet
tells_no_fault x quiet = tt

-- where nothing awaits any node it is done
pub quiet_comes : {D C : Type 0} (M : Medium D C) (ids : Named) (old new : Parts D C) (e : Event) (t : Execution) → OpensNothing e.what → is_possible_in ids t.world e ≡ true → EventComes M old e t no_plans new
    → Shows M new (execution_with t (done_event e)) × IsCalm new
quiet_comes M ids old new e t quiet can c =
    let plain : TellsNoFault e.what = tells_no_fault e.what quiet in
    let nothing : NothingIsPlanned no_plans = λ pid. refl in
    let one = done_one M.is_mirrored ids t.world no_plans e c.happenings nothing plain can c.becomes in
    let h : Happening = happening_of e Done one.finds_after in
    let same : execution_of t c.happenings ≡ execution_with t (done_event e) =
    ap (λ (hs : List Happening). execution_of t hs) one.is ∙ same_done M t h (opens_nothing t.world.messages e.what quiet) refl in (
      subst (λ (u : Execution). Shows M new u) same c.shows,
      λ pid. subst (λ (p : DiskPlan). IsPlan (plan_at new.nodes pid) p) (nothing_after t.world no_plans e.what plain nothing pid) (c.planned pid),
    )

-- ---- a run of such events

runs_done : (mirrored : Bool) (ids : Named) (w : World) (plans : DiskPlans) (events : List Event) → NothingIsPlanned plans → All IsQuiet events → ArePossibleFrom ids w events → RunsFrom mirrored ids w plans events (all_done events)
runs_done mirrored ids w plans [] none each can = refl
runs_done mirrored ids w plans (e ∷ events) none each can =
    let plain : TellsNoFault e.what = tells_no_fault e.what (All-head IsQuiet e events each).1 in (
      done_event e ∷ [],
      all_done events,
      refl,
      can.0,
      is_done mirrored ids w plans e none plain can.0,
      runs_done mirrored ids (world_after w (done_event e)) (plans_after w plans e.what) events (nothing_after w plans e.what plain none) (All-tail IsQuiet e events each) can.1,
    )

-- ---- events that can come

-- the members are among the ids
pub all_known : {D C : Type 0} (M : Medium D C) (w : Parts D C) → IsWorld M w → (p : ℕ) → IsMember w.members p → IsMember w.ids.servers p
all_known M w i p h = subst (λ (ids : Named). IsMember ids.servers p) (sym i.ids) (members_known w.members i.spares i.observers p h)

pub ticks_follow : {D C : Type 0} (M : Medium D C) (w v : Parts D C) → IsWorld M w → (x : World) (es : List Event) (ms : List ℕ) → es ≡ ticks ms → ms ≡ w.members → v.ids ≡ w.ids → ArePossibleFrom v.ids x es
ticks_follow M w v i x es ms are same ids =
    subst (λ (ps : Named). ArePossibleFrom ps x es) (sym ids) (subst (λ (l : List Event). ArePossibleFrom w.ids x l) (sym (are ∙ ap (λ (ps : List ℕ). ticks ps) same)) (ticks_possible w.ids w.members (all_known M w i) x))

pub ballots_follow : {D C : Type 0} (M : Medium D C) (w v : Parts D C) → IsWorld M w → (x : World) (es : List Event) (ms : List ℕ) → es ≡ ballots ms → ms ≡ w.members → v.ids ≡ w.ids → ArePossibleFrom v.ids x es
ballots_follow M w v i x es ms are same ids =
    subst (λ (ps : Named). ArePossibleFrom ps x es) (sym ids) (subst (λ (l : List Event). ArePossibleFrom w.ids x l) (sym (are ∙ ap (λ (ps : List ℕ). ballots ps) same)) (ballots_possible w.ids w.members (all_known M w i) x))

pub deliveries_follow : (ids : Named) (x : World) (es : List Event) (test : Sent → Bool) (since : ℕ) (messages : List Sent) → es ≡ deliveries test since messages → x.messages ≡ messages → ArePossibleFrom ids x es
deliveries_follow ids x es test since messages are same =
    subst (λ (l : List Event). ArePossibleFrom ids x l) (sym (are ∙ ap (λ (l : List Sent). deliveries test since l) (sym same))) (deliveries_possible ids test since x)

-- ---- refusals

-- what follows of a refusal that is passed on
pub passed_on : (T U : Type 0) (f : RunFail) (P Q : ℕ → Type 0) → ((i : ℕ) → P i → Q i) → IfBadEvent {T = T} (Err f) P → IfBadEvent {T = U} (Err f) Q
passed_on T U (run_fail.BadEvent index) P Q more bad = more index bad
passed_on T U run_fail.NoMemory P Q more bad = tt

-- the same of a whole result
pub bad_weaker : {T : Type 0} (r : Result T RunFail) (P Q : ℕ → Type 0) → ((i : ℕ) → P i → Q i) → IfBadEvent r P → IfBadEvent r Q
bad_weaker (Ok x) P Q more bad = tt
bad_weaker {T} (Err f) P Q more bad = passed_on T T f P Q more bad

-- the next event of those that follow isn't refused
pub not_refused : {D C : Type 0} (M : Medium D C) (w : Parts D C) (ids : Named) (t u : Execution) (left rest events : List Event) (e : Event) → w.ids ≡ ids → Shows M w u → Follows ids t u left events → left ≡ e ∷ rest
    → is_possible w.ids (length w.messages) e.what ≡ false → ⊥
not_refused M w ids t u left rest events e same s f first refused =
    let can : is_possible_in ids u.world e ≡ true = follows_here ids t u left rest events e f first in
    let seen : is_possible_in ids u.world e ≡ is_possible w.ids (length w.messages) e.what =
    ap (λ (ms : List Sent). is_possible ids (length ms) e.what) s.messages ∙ ap (λ (ps : Named). is_possible ps (length w.messages) e.what) (sym same) in
    let wrong : true ≡ false = sym can ∙ seen ∙ refused in absurd (cc)

-- ---- ticks, and then ballots

pub told_shown : {D C : Type 0} (M : Medium D C) (old mid : Parts D C) (ts bs : List Event) (ms : List ℕ) → ts ≡ ticks ms → bs ≡ ballots ms → ms ≡ old.members → ((t : Execution) → Shows M old t → Shows M mid (followed t ts)) → (t : Execution) → Shows M old t
    → (new : Parts D C) → ((u : Execution) → Shows M mid u → Shows M new (followed u bs)) → Shows M new (followed (followed t (ticks old.members)) (ballots old.members))
told_shown M old mid ts bs ms ts_are bs_are same h1 t s new h2 =
    let e1 : ts ≡ ticks old.members = ts_are ∙ ap (λ (ps : List ℕ). ticks ps) same in
    let e2 : bs ≡ ballots old.members = bs_are ∙ ap (λ (ps : List ℕ). ballots ps) same in
    let u : Execution = followed t (ticks old.members) in
    let s1 : Shows M mid u = subst (λ (es : List Event). Shows M mid (followed t es)) e1 (h1 t s) in
    subst (λ (es : List Event). Shows M new (followed u es)) e2 (h2 u s1)

-- ---- a round

module _ {D C : Type 0} (M : Medium D C) (old mid late : Parts D C) (links : Links) (ts qs rs : List Event) (ms : List ℕ) (n m : ℕ)
    (ts_are : ts ≡ ticks ms) (same : ms ≡ old.members)
    (qs_are : qs ≡ deliveries (is_linked_request links) n mid.messages) (n_is : n ≡ length old.messages)
    (rs_are : rs ≡ deliveries is_sent_reply m late.messages) (m_is : m ≡ length mid.messages)
    (h1 : (t : Execution) → Shows M old t → Shows M mid (followed t ts))
    (h2 : (t : Execution) → Shows M mid t → Shows M late (followed t qs))
    (t : Execution) (s : Shows M old t) where
  e1 : ts ≡ ticks old.members
  e1 = ts_are ∙ ap (λ (ps : List ℕ). ticks ps) same

  abbrev t1 : Execution
  t1 = followed t (ticks old.members)

  w1 : t1.world ≡ ticked old.members t.world
  w1 = followed_world t (ticks old.members)

  s1 : Shows M mid t1
  s1 = subst (λ (es : List Event). Shows M mid (followed t es)) e1 (h1 t s)

  e2 : qs ≡ asking old.members links t.world
  e2 =
      qs_are
      ∙ ap (λ (k : ℕ). deliveries (is_linked_request links) k mid.messages) (n_is ∙ ap (λ (l : List Sent). length l) (sym s.messages))
      ∙ ap (λ (l : List Sent). deliveries (is_linked_request links) (length t.world.messages) l) (sym s1.messages)
      ∙ ap (λ (u : World). deliveries (is_linked_request links) (length t.world.messages) u.messages) w1

  abbrev t2 : Execution
  t2 = followed t1 (asking old.members links t.world)

  w2 : t2.world ≡ asked old.members links t.world
  w2 = followed_world t1 (asking old.members links t.world) ∙ ap (λ (u : World). after_events u (asking old.members links t.world)) w1

  s2 : Shows M late t2
  s2 = subst (λ (es : List Event). Shows M late (followed t1 es)) e2 (h2 t1 s1)

  e3 : rs ≡ answering old.members links t.world
  e3 =
      rs_are
      ∙ ap (λ (k : ℕ). deliveries is_sent_reply k late.messages) (m_is ∙ ap (λ (l : List Sent). length l) (sym s1.messages) ∙ ap (λ (u : World). length u.messages) w1)
      ∙ ap (λ (l : List Sent). deliveries is_sent_reply (length (ticked old.members t.world).messages) l) (sym s2.messages)
      ∙ ap (λ (u : World). deliveries is_sent_reply (length (ticked old.members t.world).messages) u.messages) w2

  pub round_shown : (new : Parts D C) → ((u : Execution) → Shows M late u → Shows M new (followed u rs)) → Shows M new (followed t (round old.members links t.world))
  round_shown new h3 =
      let asks : List Event = asking old.members links t.world in
      let replies : List Event = answering old.members links t.world in
      let parts : followed t (round old.members links t.world) ≡ followed t2 replies = followed_append t (ticks old.members ++ asks) replies ∙ ap (λ (u : Execution). followed u replies) (followed_append t (ticks old.members) asks) in
      subst (λ (u : Execution). Shows M new u) (sym parts) (subst (λ (es : List Event). Shows M new (followed t2 es)) e3 (h3 t2 s2))

  pub round_range : All IsQuiet ts → All IsQuiet qs → All IsQuiet rs → All IsQuiet (round old.members links t.world)
  round_range a b c =
      All-append IsQuiet (ticks old.members ++ asking old.members links t.world) (answering old.members links t.world)
      (All-append IsQuiet (ticks old.members) (asking old.members links t.world) (subst (All IsQuiet) e1 a) (subst (All IsQuiet) e2 b)) (subst (All IsQuiet) e3 c)

-- ---- rounds

-- so many rounds from here on, in range
pub record AreDone {D C : Type 0} (M : Medium D C) (ms : List ℕ) (links : Links) (k : ℕ) (t : Execution) (w : Parts D C) : Type 0 where
  pub shows : Shows M w (followed t (lockstep ms links k t.world))
  pub range : All IsQuiet (lockstep ms links k t.world)

pub no_rounds : {D C : Type 0} (M : Medium D C) (ms : List ℕ) (links : Links) (t : Execution) (w : Parts D C) → Shows M w t → AreDone M ms links 0 t w
unfolding lockstep
no_rounds M ms links t w s = record { shows = s; range = All-nil IsQuiet }

pub more_rounds : {D C : Type 0} (M : Medium D C) (ms ns : List ℕ) (links : Links) (k : ℕ) (t : Execution) (w v : Parts D C) → ns ≡ ms → AreDone M ms links k t w
    → ((u : Execution) → Shows M w u → Shows M v (followed u (round ns links u.world))) → ((u : Execution) → Shows M w u → All IsQuiet (round ns links u.world)) → AreDone M ms links (k + 1) t v
more_rounds M ms ns links k t w v same done shows range =
    let before : List Event = lockstep ms links k t.world in
    let u : Execution = followed t before in
    let world : u.world ≡ after_events t.world before = followed_world t before in
    let next : suc k ≡ k + 1 = omega arith in
    let all : lockstep ms links (k + 1) t.world ≡ before ++ round ms links u.world =
    ap (λ (i : ℕ). lockstep ms links i t.world) (sym next) ∙ one_more_round ms links k t.world ∙ ap (λ (x : World). before ++ round ms links x) (sym world) in
    let last : round ns links u.world ≡ round ms links u.world = ap (λ (ps : List ℕ). round ps links u.world) same in
    record {
      shows = subst (λ (es : List Event). Shows M v (followed t es)) (sym all)
          (subst (λ (x : Execution). Shows M v x) (sym (followed_append t before (round ms links u.world))) (subst (λ (es : List Event). Shows M v (followed u es)) last (shows u done.shows)));
      range = subst (All IsQuiet) (sym all) (All-append IsQuiet before (round ms links u.world) done.range (subst (All IsQuiet) last (range u done.shows)));
    }

-- ---- a drill

pub drill_report : {D C : Type 0} (M : Medium D C) (members : List ℕ) → MembersInRange members → (links all : Links) (rounds : ℕ) (new linked late told : Parts D C) (s : Summary)
    → Shows M new (first_execution members []) → new.members ≡ members → all ≡ all_links members
    → ((t : Execution) → Shows M new t → AreDone M new.members all 3 t linked) → linked.members ≡ new.members
    → ((t : Execution) → Shows M linked t → AreDone M linked.members links rounds t late) → late.members ≡ linked.members
    → ((t : Execution) → Shows M late t → Shows M told (followed (followed t (ticks late.members)) (ballots late.members))) → told.members ≡ late.members
    → ((t : Execution) → Shows M told t → s ≡ summary_of told.members t)
    → IsReportOfDrill members links rounds s
unfolding links_drill
drill_report M members range links all rounds new linked late told s s0 m0 all_is h1 m1 h2 m2 h3 m3 h4 =
    let t0 : Execution = first_execution members [] in
    let events : List Event = links_drill members links rounds in
    let at_linked : linked.members ≡ members = m1 ∙ m0 in
    let at_late : late.members ≡ members = m2 ∙ at_linked in
    let at_told : told.members ≡ members = m3 ∙ at_late in
    let fs : List Event = first_rounds members in
    let d1 : AreDone M members (all_links members) 3 t0 linked =
    subst (λ (ms : List ℕ). AreDone M ms (all_links members) 3 t0 linked) m0 (subst (λ (l : Links). AreDone M new.members l 3 t0 linked) all_is (h1 t0 s0)) in
    let t1 : Execution = followed t0 fs in
    let w1 : t1.world ≡ linked_world members = followed_world t0 fs in
    let ls : List Event = lockstep members links rounds (linked_world members) in
    let d2 : AreDone M members links rounds t1 late = subst (λ (ms : List ℕ). AreDone M ms links rounds t1 late) at_linked (h2 t1 d1.shows) in
    let t2 : Execution = followed t1 ls in
    let ls_are : lockstep members links rounds t1.world ≡ ls = ap (λ (x : World). lockstep members links rounds x) w1 in
    let s2 : Shows M late t2 = subst (λ (es : List Event). Shows M late (followed t1 es)) ls_are d2.shows in
    let s3 : Shows M told (followed (followed t2 (ticks members)) (ballots members)) = subst (λ (ms : List ℕ). Shows M told (followed (followed t2 (ticks ms)) (ballots ms))) at_late (h3 t2 s2) in
    let parts : followed t0 events ≡ followed (followed t2 (ticks members)) (ballots members) =
    followed_append t0 (fs ++ ls ++ ticks members) (ballots members)
    ∙ ap (λ (u : Execution). followed u (ballots members)) (followed_append t0 (fs ++ ls) (ticks members) ∙ ap (λ (u : Execution). followed u (ticks members)) (followed_append t0 fs ls)) in
    let left : s ≡ run_summary members [] [] events =
    h4 (followed t0 events) (subst (λ (u : Execution). Shows M told u) (sym parts) s3) ∙ ap (λ (ms : List ℕ). summary_of ms (followed t0 events)) at_told in
    let ids = member_ids members range in
    let each : All IsQuiet events =
    All-append IsQuiet (fs ++ ls ++ ticks members) (ballots members)
    (All-append IsQuiet (fs ++ ls) (ticks members) (All-append IsQuiet fs ls d1.range (subst (All IsQuiet) ls_are d2.range)) (ids_mapped (λ p. event_of (what.Tick p)) members ids (λ p k. (k, tt))))
    (ids_mapped (λ p. event_of (what.Ballots p)) members ids (λ p k. (k, tt))) in
    let can = drill_possible members links rounds in
    let few : proposals_in (all_done events) < most_proposals = omega (arith, drill_proposes_nothing members links rounds) in
    record {
      run = done_report members [] [] range none_beside (no_observers members []) false events s
          (all_done events, refl, runs_done false (named_ids members [] []) (first_world members []) no_plans events (λ pid. refl) each can)
          (All-weaker events each) (names_from (named_ids members [] []) (first_world members []) events can) few left;
      reaches = every_lockstep_reaches members [] range (all_done events) (drill_quiet members links rounds);
    }
  where
    ids_mapped : (f : ℕ → Event) (ps : List ℕ) → All IsPid ps → ((p : ℕ) → IsPid p → IsQuiet (f p)) → All IsQuiet (map f ps)
    ids_mapped f ps each h = mapped_ids f h ps each

    All-weaker : (es : List Event) → All IsQuiet es → All (λ e. WhatInRange e.what) es
    All-weaker [] each = All-nil (λ e. WhatInRange e.what)
    All-weaker (e ∷ es) each = All-cons (λ x. WhatInRange x.what) e es (All-head IsQuiet e es each).0 (All-weaker es (All-tail IsQuiet e es each))

    none_beside : SparesInRange members []
    none_beside = record { rising = tt; apart = λ q h. absurd (cc) }
