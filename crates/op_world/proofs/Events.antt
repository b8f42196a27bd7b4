-- What an event of a schedule makes of a world: one happening, or two where the node stops after it.
use Rattle.std.proofs.Common.{◌≡◌, ◌<◌, ◌+◌, ℕ, zero, suc, Bool, true, false, ◌||◌, eqb, nat_eq, List, [], ◌∷◌, length, get_or, Option, Some, None, All, IfSome, Result, Ok, Err, refl, sym, ap, subst, ◌∙◌, arith}
use Rattle.std.proofs.lemmas.Bool.{cond-true, cond-false, eqb-true, eq-eqb}
use Rattle.std.proofs.lemmas.List.Elements.{All-nil, All-cons}
use Rattle.std.specs.Prelude.{OnOk}
use Rattle.std.specs.Set.{is_member}
use Rattle.op_types.specs.Ranges.{IsMember, IsPid}
use Rattle.op_types.specs.declared.log.Entry.{Entry}
use Rattle.op_runs.specs.declared.events.Event.{Event}
use Rattle.op_runs.specs.declared.events.What.{What}
use Rattle.op_runs.specs.declared.events.What.TheVariants as what
use Rattle.op_runs.specs.Possible.{Named, ObserversInRange, named_ids, kind_if, is_possible, WhatInRange}
use Rattle.op_runs.specs.World.{Kind, Votes, Observes, world_by_status_as, world_by_fate_as, world_beginning, world_at_observer, world_observed, World, Node, NodeStatus, Up, Down, Failed, Fate, Done, Happening, Doing, Steps, Stops, Opens, Tells, Deed, deed_of, node_at, done_event, world_at_node, world_with}
use Rattle.op_runs.specs.Run.{Execution, execution_with, machine_showing_all, machine_proposing_by}
use Rattle.op_runs.specs.Schedules.{Seated, seated, seated_at, Nothing, DiskPlan, DiskPlans, MayEnd, no_plans, plans_with, awaiting, is_lost, plan_for, is_awaited, drops, happening_of, happenings_of, stop_after, CallsDisks, BecomesAt, BecomesBy, Becomes, plans_by, plans_after}
use Rattle.op_bounds.specs.Laws.{HappeningInRange}
use Rattle.op_laws.specs.Runs.{RunInRange}
use Rattle.op_executions.specs.Failing.{IfBadEvent}
use Rattle.op_executions.specs.declared.fail.RunFail.{RunFail}
use Rattle.op_executions.specs.declared.fail.RunFail.TheVariants as run_fail
use Rattle.op_executions.specs.Laws.{reached}
use Rattle.op_executions.specs.Worlds.{KeepsServers, Happened, HappenedAt, place_of}
use Rattle.op_executions.specs.Worlds as worlds
use Rattle.op_executions.specs.declared.world.ServerWorld.{ServerWorld}
use Rattle.op_executions.proofs.Bounds.{servers_are_ids}
use Rattle.op_executions.proofs.Servers.{pids-set, all_set, shown_set}
use Rattle.op_executions.proofs.Worlds.{place_in}
use Rattle.op_replay_nodes.specs.Plans.{told_by}
use Rattle.op_world.specs.Plans.{plan_at, disk_plan_with, ArePlanned, IsPlan}
use Rattle.op_replay_nodes.specs.declared.plan.Plan.{Plan}
use Rattle.op_world.specs.Events.{parts_of, IsPlannedAt, CanCome, IsBadEvent, EventComes, Happens, HappensAt, StopsAt}
use Rattle.op_replay_nodes.specs.Nodes.{IsKept, kind_of, area_nodes}
use Rattle.op_world.specs.Worlds.{Parts, Shows, ShowsSeated, ShowSeated, ShowServers, IsWorld}
use Rattle.op_replay_nodes.specs.declared.awaited.Planned.{Planned}
use Rattle.op_replay_nodes.specs.declared.awaited.Planned.TheVariants as planned
use Rattle.op_replay_nodes.specs.declared.node_state.WorldNode.{WorldNode}
use Rattle.op_world.proofs.Plans.{ids_of, get_any, planned_at, planned_set, planned_with, planned_more, planned_again, PlansInRange, awaited_drops, due_awaited, may_nothing}
use Rattle.op_replay_nodes.proofs.Happenings.{stays_shown, stays_kept}
use Rattle.op_world.proofs.Deeds.{servers_show}
use Rattle.op_areas.specs.Media.{Medium}

module _ {D C : Type 0} (M : Medium D C) where
  -- ---- whichever state an opening is said to find, where nothing is opened

  same_status : (k : Kind) (s : NodeStatus) (d : Doing) (h : Happening) (w : World) (n : Node) → (d ≡ Opens → ⊥) → h.fate ≡ Done → world_by_status_as k s d h w n ≡ world_by_status_as k s d (done_event h.event) w n
  same_status k Up (Steps x) h w n closed done = ap (λ (f : Fate). world_by_fate_as k f h.event.line w n x) done
  same_status k Up Stops h w n closed done = refl
  same_status k Up Opens h w n closed done = absurd (closed refl)
  same_status k Up (Tells t) h w n closed done = refl
  same_status k (Down after) (Steps x) h w n closed done = refl
  same_status k (Down after) Stops h w n closed done = refl
  same_status k (Down after) Opens h w n closed done = absurd (closed refl)
  same_status k (Down after) (Tells t) h w n closed done = refl
  same_status k (Failed count after) (Steps x) h w n closed done = refl
  same_status k (Failed count after) Stops h w n closed done = refl
  same_status k (Failed count after) Opens h w n closed done = absurd (closed refl)
  same_status k (Failed count after) (Tells t) h w n closed done = refl

  same_observer : (o : Option Node) (x : Deed) (h : Happening) (w : World) → (x.doing ≡ Opens → ⊥) → h.fate ≡ Done → world_at_observer o x h w ≡ world_at_observer o x (done_event h.event) w
  same_observer None x h w closed done = ap (λ (f : Fate). world_beginning x.doing f x.pid w) done
  same_observer (Some n) x h w closed done = same_status Observes n.status x.doing h w n closed done

  same_observed : (o : Option Deed) (h : Happening) (w : World) → IfSome o (λ x. x.doing ≡ Opens → ⊥) → h.fate ≡ Done → world_observed o h w ≡ world_observed o (done_event h.event) w
  same_observed None h w closed done = refl
  same_observed (Some x) h w closed done = same_observer (node_at w.observers x.pid) x h w closed done

  same_node : (o : Option Node) (d : Doing) (h : Happening) (w : World) → IfSome (deed_of w.messages h.event.what) (λ x. x.doing ≡ Opens → ⊥) → (d ≡ Opens → ⊥) → h.fate ≡ Done → world_at_node o d h w ≡ world_at_node o d (done_event h.event) w
  same_node None d h w shut closed done =
      ap (λ (u : World). let z : World = record u { nodes = w.nodes; members = w.members } in z) (same_observed (deed_of w.messages h.event.what) h w shut done)
  same_node (Some n) d h w shut closed done = same_status Votes n.status d h w n closed done

  -- a run after a happening of this event, with this world
  abbrev with_world : Execution → Event → World → Execution
  with_world t e w = record { world = w; machine = machine_showing_all (machine_proposing_by t.machine t.world.nodes (deed_of t.world.messages e.what)) w.nodes }

  pub same_done : (t : Execution) (h : Happening) → IfSome (deed_of t.world.messages h.event.what) (λ d. d.doing ≡ Opens → ⊥) → h.fate ≡ Done → execution_with t h ≡ execution_with t (done_event h.event)
  same_done t h closed done = ap (λ (w : World). with_world t h.event w) (by (deed_of t.world.messages h.event.what) closed)
    where
      by : (o : Option Deed) → IfSome o (λ d. d.doing ≡ Opens → ⊥) → world_with o h t.world ≡ world_with o (done_event h.event) t.world
      by None k = refl
      by (Some d) k = same_node (node_at t.world.nodes d.pid) d.doing h t.world closed k done

  -- ---- an event that does something

  at_pid : (xs : List Node) (pid : ℕ) (n : Node) → node_at xs pid ≡ Some n → n.pid ≡ pid
  at_pid [] pid n there = absurd (cc)
  at_pid (x ∷ xs) pid n there = by (eqb x.pid pid) refl (λ later. at_pid xs pid n later)
    where
      by : (b : Bool) → eqb x.pid pid ≡ b → (node_at xs pid ≡ Some n → n.pid ≡ pid) → n.pid ≡ pid
      by true h rest = let same : Some x ≡ Some n = sym (cond-true (eqb x.pid pid) (Some x) (node_at xs pid) h) ∙ there in let is : x ≡ n = cc in ap (λ (y : Node). y.pid) (sym is) ∙ eqb-true x.pid pid h
      by false h rest = rest (sym (cond-false (eqb x.pid pid) (Some x) (node_at xs pid) h) ∙ there)

  seated_by : (a b : Option Node) (pid : ℕ) (s : Seated) → ((n : Node) → a ≡ Some n → n.pid ≡ pid) → ((n : Node) → b ≡ Some n → n.pid ≡ pid) → seated a b ≡ Some s → s.node.pid ≡ pid
  seated_by (Some n) b pid s voter observer is =
      let it : Seated = record { kind = Votes; node = n } in let same : it ≡ s = cc in ap (λ (x : Seated). x.node.pid) (sym same) ∙ voter n refl
  seated_by None (Some n) pid s voter observer is =
      let it : Seated = record { kind = Observes; node = n } in let same : it ≡ s = cc in ap (λ (x : Seated). x.node.pid) (sym same) ∙ observer n refl
  seated_by None None pid s voter observer is = absurd (cc)

  -- the server of an id has it
  seated_pid : (w : World) (pid : ℕ) (s : Seated) → seated_at w pid ≡ Some s → s.node.pid ≡ pid
  seated_pid w pid s there = seated_by (node_at w.nodes pid) (node_at w.observers pid) pid s (at_pid w.nodes pid) (at_pid w.observers pid) there

  -- what is planned after it
  after_deed : (w : World) (plans : DiskPlans) (x : What) (d : Deed) → deed_of w.messages x ≡ Some d → plans_by (Some d) w plans ≡ plans_after w plans x
  after_deed w plans (what.CrashAt p call image) d does = absurd (cc)
  after_deed w plans (what.Fail p call) d does = absurd (cc)
  after_deed w plans (what.Kill p disk) d does = absurd (cc)
  after_deed w plans x d does = ap (λ (o : Option Deed). plans_by o w plans) (sym does)

  module _ (old new : Parts D C) (e : Event) (t : Execution) (plans : DiskPlans) (k : ℕ) (h : Happens M old e t plans k new) where
    becomes_at : (due : Bool) → h.is_due ≡ due → Becomes M.is_mirrored t.world plans e (happenings_of e h.seated.node.pid h.happening.fate due h.happening.finds_after)
    becomes_at due is =
        subst (λ (o : Option Deed). BecomesBy M.is_mirrored o t.world plans e (happenings_of e h.seated.node.pid h.happening.fate due h.happening.finds_after)) (sym h.does)
        (subst (λ (o : Option Seated). BecomesAt M.is_mirrored o (plans h.deed.pid) h.deed.doing e (happenings_of e h.seated.node.pid h.happening.fate due h.happening.finds_after)) (sym h.there) (
          h.happening.fate,
          due,
          h.happening.finds_after,
          (
            subst (λ (b : Bool). let now : DiskPlan = plan_for h.seated.node.status h.deed.doing (plans h.deed.pid) in MayEnd now.awaited (is_lost M.is_mirrored now) (CallsDisks h.seated h.deed.doing) h.happening.fate b) is h.comes,
            refl,
          ),
        ))

    -- the happening is that of the event
    happening_is : h.happening ≡ happening_of e h.happening.fate h.happening.finds_after
    happening_is = ap (λ (z : Event). let g : Happening = record { event = z; fate = h.happening.fate; finds_after = h.happening.finds_after } in g) h.event

    in_range : (hs : List Happening) → WhatInRange e.what → All (λ g. WhatInRange g.event.what) hs → All (λ g. WhatInRange g.event.what) (happening_of e h.happening.fate h.happening.finds_after ∷ hs)
    in_range hs fit rest = All-cons (λ g. WhatInRange g.event.what) (happening_of e h.happening.fate h.happening.finds_after) hs fit rest

    -- it becomes that happening
    pub one_comes : WhatInRange e.what → h.is_due ≡ false → EventComes M old e t plans new
    one_comes fit due = record {
      happenings = happening_of e h.happening.fate h.happening.finds_after ∷ [];
      range = in_range [] fit (All-nil (λ (g : Happening). WhatInRange g.event.what));
      becomes = becomes_at false due;
      shows = subst (λ (g : Happening). Shows M new (execution_with t g)) happening_is h.shows;
      planned = subst (λ (ps : DiskPlans). ArePlanned new.nodes ps) (after_deed t.world plans e.what h.deed h.does) h.planned;
    }

    -- and a stop, where that is due
    pub two_come : WhatInRange e.what → IsPid h.deed.pid → h.is_due ≡ true → (end : Parts D C) → ((d : WorldNode D C) → (get_or new.nodes k d).pid ≡ h.deed.pid) → (WorldNode D C)
        → StopsAt M new k e.line (execution_with t h.happening) (plans_by (Some h.deed) t.world plans) end → EventComes M old e t plans end
    two_come fit is_pid due end pid some stops =
        let here : h.deed.pid ≡ h.seated.node.pid = sym (seated_pid t.world h.deed.pid h.seated h.there) in
        let may = subst (λ (b : Bool). let now : DiskPlan = plan_for h.seated.node.status h.deed.doing (plans h.deed.pid) in MayEnd now.awaited (is_lost M.is_mirrored now) (CallsDisks h.seated h.deed.doing) h.happening.fate b) due h.comes in
        let awaited : is_awaited h.seated.node.status h.deed.doing ≡ true = due_awaited (is_awaited h.seated.node.status h.deed.doing) M.is_mirrored (plans h.deed.pid) _ h.happening.fate may in
        let dropped : drops h.deed.doing (seated_at t.world h.deed.pid) ≡ true = ap (λ (o : Option Seated). drops h.deed.doing o) h.there ∙ awaited_drops h.seated h.deed.doing awaited in
        let next : plans_by (Some h.deed) t.world plans ≡ plans_with plans h.deed.pid (awaiting (plans h.deed.pid) Nothing) =
        cond-true (drops h.deed.doing (seated_at t.world h.deed.pid)) (plans_with plans h.deed.pid (awaiting (plans h.deed.pid) Nothing)) plans dropped in
        let stop : ℕ → Happening = λ p. done_event (record { line = e.line; what = what.Crash p }) in
        record {
          happenings = happening_of e h.happening.fate h.happening.finds_after ∷ stop_after e h.seated.node.pid ∷ [];
          range = in_range (stop_after e h.seated.node.pid ∷ []) fit
              (All-cons (λ (g : Happening). WhatInRange g.event.what) (stop_after e h.seated.node.pid) [] (subst IsPid here is_pid) (All-nil (λ (g : Happening). WhatInRange g.event.what)));
          becomes = becomes_at true due;
          shows = subst (λ (g : Happening). Shows M end (execution_with (execution_with t g) (stop h.seated.node.pid))) happening_is
              (subst (λ (p : ℕ). Shows M end (execution_with (execution_with t h.happening) (stop p))) (pid some ∙ here) (stops.shows some));
          planned = subst (λ (ps : DiskPlans). ArePlanned end.nodes ps) (sym next ∙ after_deed t.world plans e.what h.deed h.does) (dropped_twice (stops.planned some) next);
        }
      where
        dropped_twice : (let q : ℕ = (get_or new.nodes k some).pid in ArePlanned end.nodes (plans_with (plans_by (Some h.deed) t.world plans) q (awaiting (plans_by (Some h.deed) t.world plans q) Nothing)))
            → plans_by (Some h.deed) t.world plans ≡ plans_with plans h.deed.pid (awaiting (plans h.deed.pid) Nothing) → ArePlanned end.nodes (plans_with plans h.deed.pid (awaiting (plans h.deed.pid) Nothing))
        dropped_twice all next =
            let ps : DiskPlans = plans_with plans h.deed.pid (awaiting (plans h.deed.pid) Nothing) in
            planned_again end.nodes plans h.deed.pid
            (subst (λ (q : ℕ). ArePlanned end.nodes (plans_with ps q (awaiting (ps q) Nothing))) (pid some)
            (subst (λ (qs : DiskPlans). let q : ℕ = (get_or new.nodes k some).pid in ArePlanned end.nodes (plans_with qs q (awaiting (qs q) Nothing))) next all))

  -- ---- a stop after it

  stops_unawaited : (s : NodeStatus) → is_awaited s Stops ≡ false
  stops_unawaited Up = refl
  stops_unawaited (Down after) = refl
  stops_unawaited (Failed count after) = refl

  -- the event that says so
  abbrev pub stop_event : ℕ → ℕ → Event
  stop_event line pid = record { line = line; what = what.Crash pid }

  pub stopped_at : (old new : Parts D C) (line pid place : ℕ) (o : Option ℕ) (t : Execution) (plans : DiskPlans) → HappensAt M old (stop_event line pid) t plans o new → ((d : WorldNode D C) → (get_or old.nodes place d).pid ≡ pid) → StopsAt M old place line t plans new
  stopped_at old new line pid place None t plans h is = absurd (let no : Some _ ≡ None = h.0 in cc)
  stopped_at old new line pid place (Some k) t plans h is =
      let does : Some (record { pid = pid; doing = Stops }) ≡ Some h.deed = h.does in
      let here : record { pid = pid; doing = Stops } ≡ h.deed = cc in
      let doing : h.deed.doing ≡ Stops = ap (λ (d : Deed). d.doing) (sym here) in
      let unawaited : is_awaited h.seated.node.status h.deed.doing ≡ false = ap (λ (d : Doing). is_awaited h.seated.node.status d) doing ∙ stops_unawaited h.seated.node.status in
      let done : h.happening.fate ≡ Done = may_nothing (is_awaited h.seated.node.status h.deed.doing) M.is_mirrored (plans h.deed.pid) _ h.happening.fate h.is_due unawaited h.comes in
      let same : execution_with t h.happening ≡ execution_with t (done_event (stop_event line pid)) =
      same_done t h.happening (subst (λ (o : Option Deed). IfSome o (λ d. d.doing ≡ Opens → ⊥)) (sym (ap (λ (e : Event). deed_of t.world.messages e.what) h.event ∙ h.does)) (λ opens. let no : Stops ≡ Opens = sym doing ∙ opens in cc)) done
      ∙ ap (λ (e : Event). execution_with t (done_event e)) h.event in
      record {
        shows = λ d. subst (λ (p : ℕ). Shows M new (execution_with t (done_event (stop_event line p)))) (sym (is d)) (subst (λ (u : Execution). Shows M new u) same h.shows);
        planned = λ d. subst (λ (p : ℕ). ArePlanned new.nodes (plans_with plans p (awaiting (plans p) Nothing))) (sym (is d))
            (subst (λ (x : Deed). ArePlanned new.nodes (plans_by (Some x) t.world plans)) (sym here) h.planned);
      }

  -- it can come: the node is one of the world's
  member_at : (nodes : List (WorldNode D C)) (k : ℕ) (d : WorldNode D C) → k < length nodes → is_member nat_eq (ids_of nodes) (get_or nodes k d).pid ≡ true
  member_at [] k d there = absurd (omega arith)
  member_at (n ∷ nodes) zero d there = ap (λ (b : Bool). b || is_member nat_eq (ids_of nodes) n.pid) (eq-eqb n.pid n.pid refl)
  member_at (n ∷ nodes) (suc k) d there =
      or_later (eqb (get_or nodes k d).pid n.pid) (is_member nat_eq (ids_of nodes) (get_or nodes k d).pid) (member_at nodes k d (let less : k < length nodes = omega arith in less))
    where
      or_later : (a b : Bool) → b ≡ true → (a || b) ≡ true
      or_later true b is = refl
      or_later false b is = is

  pub stop_possible : (w : Parts D C) (k : ℕ) (d : WorldNode D C) → IsWorld M w → k < length w.nodes → IsMember w.ids.servers (get_or w.nodes k d).pid
  stop_possible w k d i there = subst (λ (ids : List ℕ). is_member nat_eq ids (get_or w.nodes k d).pid ≡ true) i.pids (member_at w.nodes k d there)

  pub stop_in_range : (w : Parts D C) (pid : ℕ) → IsWorld M w → IsMember w.ids.servers pid → IsPid pid
  stop_in_range w pid i member =
      servers_are_ids w.members i.spares i.observers (i.range).first (i.range).others i.observers_are pid (subst (λ (ids : Named). IsMember ids.servers pid) i.ids member)

  -- ---- an event that does nothing by itself

  after_none : (w : World) (plans : DiskPlans) (x : What) → deed_of w.messages x ≡ None → told_by x ≡ None → plans ≡ plans_after w plans x
  after_none w plans (what.CrashAt p call image) does none = absurd (cc)
  after_none w plans (what.Fail p call) does none = absurd (cc)
  after_none w plans (what.Kill p disk) does none = absurd (cc)
  after_none w plans x does none = ap (λ (o : Option Deed). plans_by o w plans) (sym does)

  after_told : (w : World) (plans : DiskPlans) (x : What) (pid : ℕ) (c : Planned) → told_by x ≡ Some (pid, c) → plans_with plans pid (disk_plan_with c (plans pid)) ≡ plans_after w plans x
  after_told w plans (what.CrashAt p call image) pid c is = by pid c is
    where
      by : (q : ℕ) (y : Planned) → told_by (what.CrashAt p call image) ≡ Some (q, y) → plans_with plans q (disk_plan_with y (plans q)) ≡ plans_after w plans (what.CrashAt p call image)
      by q y same =
          let first : Option (ℕ × Planned) → ℕ = λ o. elim o [ None ↦ p | Some z ↦ z.0 ] in
          let second : Option (ℕ × Planned) → Planned = λ o. elim o [ None ↦ planned.Kills 0 | Some z ↦ z.1 ] in
          ap (λ (r : ℕ). plans_with plans r (disk_plan_with y (plans r))) (sym (ap first same)) ∙ ap (λ (z : Planned). plans_with plans p (disk_plan_with z (plans p))) (sym (ap second same))
  after_told w plans (what.Fail p call) pid c is =
      let first : Option (ℕ × Planned) → ℕ = λ o. elim o [ None ↦ p | Some z ↦ z.0 ] in
      let second : Option (ℕ × Planned) → Planned = λ o. elim o [ None ↦ planned.Kills 0 | Some z ↦ z.1 ] in
      ap (λ (r : ℕ). plans_with plans r (disk_plan_with c (plans r))) (sym (ap first is)) ∙ ap (λ (z : Planned). plans_with plans p (disk_plan_with z (plans p))) (sym (ap second is))
  after_told w plans (what.Kill p disk) pid c is =
      let first : Option (ℕ × Planned) → ℕ = λ o. elim o [ None ↦ p | Some z ↦ z.0 ] in
      let second : Option (ℕ × Planned) → Planned = λ o. elim o [ None ↦ planned.Kills 0 | Some z ↦ z.1 ] in
      ap (λ (r : ℕ). plans_with plans r (disk_plan_with c (plans r))) (sym (ap first is)) ∙ ap (λ (z : Planned). plans_with plans p (disk_plan_with z (plans p))) (sym (ap second is))
  after_told w plans x pid c is = absurd (cc)

  -- a disk that is killed is one
  told_range : (x : What) (pid : ℕ) (c : Planned) → told_by x ≡ Some (pid, c) → WhatInRange x → PlansInRange c
  told_range (what.CrashAt p call image) pid c is fit =
      let second : Option (ℕ × Planned) → Planned = λ o. elim o [ None ↦ planned.Kills 0 | Some z ↦ z.1 ] in subst PlansInRange (ap second is) tt
  told_range (what.Fail p call) pid c is fit =
      let second : Option (ℕ × Planned) → Planned = λ o. elim o [ None ↦ planned.Kills 0 | Some z ↦ z.1 ] in subst PlansInRange (ap second is) tt
  told_range (what.Kill p disk) pid c is fit =
      let second : Option (ℕ × Planned) → Planned = λ o. elim o [ None ↦ planned.Kills 0 | Some z ↦ z.1 ] in subst PlansInRange (ap second is) fit.1
  told_range x pid c is fit = absurd (cc)

  pub none_comes : (old new : Parts D C) (e : Event) (t : Execution) (plans : DiskPlans) → HappensAt M old e t plans None new → told_by e.what ≡ None → Shows M old t → ArePlanned old.nodes plans → EventComes M old e t plans new
  none_comes old new e t plans h none show planned = record {
    happenings = [];
    range = All-nil (λ (g : Happening). WhatInRange g.event.what);
    becomes = subst (λ (o : Option Deed). BecomesBy M.is_mirrored o t.world plans e []) (sym h.0) refl;
    shows = subst (λ (w : Parts D C). Shows M w t) (sym h.1) show;
    planned = subst (λ (ps : DiskPlans). ArePlanned new.nodes ps) (after_none t.world plans e.what h.0 none) (subst (λ (w : Parts D C). ArePlanned w.nodes plans) (sym h.1) planned);
  }

  -- the server at the place of an id has it
  place_pid : (nodes : List (WorldNode D C)) (pid : ℕ) (d : WorldNode D C) → place_of (ids_of nodes) pid < length nodes → (get_or nodes (place_of (ids_of nodes) pid) d).pid ≡ pid
  place_pid [] pid d there = absurd (omega arith)
  place_pid (n ∷ nodes) pid d there = by (eqb n.pid pid) refl (λ later. place_pid nodes pid d later)
    where
      by : (b : Bool) → eqb n.pid pid ≡ b → (place_of (ids_of nodes) pid < length nodes → (get_or nodes (place_of (ids_of nodes) pid) d).pid ≡ pid) → (get_or (n ∷ nodes) (place_of (ids_of (n ∷ nodes)) pid) d).pid ≡ pid
      by true h rest =
          ap (λ (k : ℕ). (get_or (n ∷ nodes) k d).pid) (cond-true (eqb n.pid pid) 0 (1 + place_of (ids_of nodes) pid) h) ∙ eqb-true n.pid pid h
      by false h rest =
          let k = place_of (ids_of nodes) pid in
          let next : suc k ≡ 1 + k = omega arith in
          let place : place_of (ids_of (n ∷ nodes)) pid ≡ suc k = cond-false (eqb n.pid pid) 0 (1 + k) h ∙ sym next in
          let later : k < length nodes = omega (arith, there, place) in
          ap (λ (j : ℕ). (get_or (n ∷ nodes) j d).pid) place ∙ rest later

  -- something is planned for a server's disks
  module _ (w new : ServerWorld (WorldNode D C)) (lists : List (List Entry)) (pid : ℕ) (c : Planned) (told_so : IsPlannedAt M pid c w new) (keeps : KeepsServers (area_nodes M) w) (member : IsMember w.ids.items pid) where
    abbrev place : ℕ
    place = place_of w.ids.items pid

    abbrev is : WorldNode D C
    is = told_so.server

    abbrev was : WorldNode D C
    was = get_or w.servers.items place is

    there : place < length w.servers.items
    there = place_in (area_nodes M) w keeps pid member

    same : (x : WorldNode D C) → get_or w.servers.items place x ≡ was
    same x = get_any w.servers.items place x is there

    armed_seats : (xs : List Seated) → ShowSeated M w.servers.items xs → ShowSeated M new.servers.items xs
    armed_seats xs shown =
        subst (λ (ns : List (WorldNode D C)). ShowSeated M ns xs) (sym told_so.servers)
        (shown_set (area_nodes M) w.servers.items xs place is
        (λ x y s.
        let z : ShowsSeated M was y = subst (λ (n : WorldNode D C). ShowsSeated M n y) (same x) s in
        let g = told_so.goes_on is in
        record {
          kind = z.kind ∙ ap kind_if (sym g.observes);
          node = record { pid = z.node.pid ∙ sym g.pid; state = stays_shown M was.state is.state g.state y.node z.node.state };
        })
        shown)

    pub armed_servers : (nodes observers : List Node) → ShowServers M w.servers.items nodes observers → ShowServers M new.servers.items nodes observers
    armed_servers nodes observers show = record { seats = show.seats; shown = armed_seats show.seats show.shown; nodes_are = show.nodes_are; observers_are = show.observers_are }

    pub armed_keeps : KeepsServers (area_nodes M) new
    armed_keeps = record {
      pids = ap (λ (ns : List (WorldNode D C)). ids_of ns) told_so.servers ∙ pids-set (area_nodes M) w.servers.items place is (λ x. ap (λ (n : WorldNode D C). n.pid) (same x) ∙ sym (told_so.goes_on is).pid) ∙ keeps.pids ∙ ap (λ (n : Named). n.servers) (sym told_so.ids);
      kept = subst (λ (ns : List (WorldNode D C)). All (area_nodes M).is_kept ns) (sym told_so.servers) (all_set (area_nodes M) (area_nodes M).is_kept w.servers.items place is
          (subst (λ (b : Bool). IsKept M (kind_if b) is.pid is.state) (sym (told_so.goes_on is).observes)
          (subst (λ (p : ℕ). IsKept M (kind_of was) p is.state) (sym (told_so.goes_on is).pid) (stays_kept M (kind_of was) was.pid was.state is.state (told_so.goes_on is).state (keeps.kept place is there)))) keeps.kept);
    }

    pub armed_shows : (t : Execution) → Shows M (parts_of w lists) t → Shows M (parts_of new lists) t
    armed_shows t show = record {
      servers = armed_servers t.world.nodes t.world.observers show.servers;
      messages = show.messages ∙ ap (λ v. v.items) (sym told_so.messages);
      lines = show.lines ∙ sym told_so.lines;
      lists = show.lists;
    }

    pub armed_kept : IsWorld M (parts_of w lists) → IsWorld M (parts_of new lists)
    armed_kept i = record {
      spares = i.spares;
      observers = i.observers;
      happenings = i.happenings;
      observers_are = subst (λ (ms : List ℕ). ObserversInRange ms i.spares i.observers) (sym told_so.members) i.observers_are;
      range = subst (λ (ms : List ℕ). RunInRange ms i.spares i.happenings) (sym told_so.members) i.range;
      ids = told_so.ids ∙ i.ids ∙ ap (λ (ms : List ℕ). named_ids ms i.spares i.observers) (sym told_so.members);
      known = subst (λ (ids : Named). All (HappeningInRange (IsMember ids.servers)) i.happenings) (sym told_so.ids) i.known;
      pids = armed_keeps.pids;
      proposed = told_so.proposed ∙ i.proposed;
      kept = armed_keeps.kept;
      shows = subst (λ (ms : List ℕ). Shows M (parts_of new lists) (reached ms i.spares i.happenings)) (sym told_so.members) (armed_shows (reached w.members i.spares i.happenings) i.shows);
    }

    armed_planned : (plans : DiskPlans) → PlansInRange c → ArePlanned w.servers.items plans → ArePlanned new.servers.items (plans_with plans pid (disk_plan_with c (plans pid)))
    armed_planned plans fit planned =
        planned_with w.servers.items new.servers.items plans pid is.plan (disk_plan_with c (plans pid)) (ap plan_at told_so.servers ∙ planned_set w.servers.items pid place is at there ((told_so.goes_on is).pid ∙ pid_was))
        (subst (λ (p : Plan). IsPlan p (disk_plan_with c (plans pid))) (sym (told_so.goes_on is).plan_is) (planned_more c was.plan (plans pid) fit (subst (λ (p : Plan). IsPlan p (plans pid)) plan_was (planned pid)))) planned
      where
        at : place ≡ place_of (ids_of w.servers.items) pid
        at = ap (λ (ids : List ℕ). place_of ids pid) (sym keeps.pids)

        there_too : place_of (ids_of w.servers.items) pid < length w.servers.items
        there_too = subst (λ (k : ℕ). k < length w.servers.items) at there

        pid_was : was.pid ≡ pid
        pid_was = ap (λ (k : ℕ). (get_or w.servers.items k is).pid) at ∙ place_pid w.servers.items pid is there_too

        plan_was : plan_at w.servers.items pid ≡ was.plan
        plan_was = planned_at w.servers.items pid is there_too ∙ ap (λ (k : ℕ). (get_or w.servers.items k is).plan) (sym at)

    pub armed_comes : (e : Event) (t : Execution) (plans : DiskPlans) → deed_of t.world.messages e.what ≡ None → told_by e.what ≡ Some (pid, c) → WhatInRange e.what → Shows M (parts_of w lists) t → ArePlanned w.servers.items plans
        → EventComes M (parts_of w lists) e t plans (parts_of new lists)
    armed_comes e t plans does tells fit show planned = record {
      happenings = [];
      range = All-nil (λ (g : Happening). WhatInRange g.event.what);
      becomes = subst (λ (o : Option Deed). BecomesBy M.is_mirrored o t.world plans e []) (sym does) refl;
      shows = armed_shows t show;
      planned = subst (λ (ps : DiskPlans). ArePlanned new.servers.items ps) (after_told t.world plans e.what pid c tells) (armed_planned plans (told_range e.what pid c tells fit) planned);
    }

  -- ---- one happening of the servers

  -- nothing was done: the world stays as it is
  pub none_happens : (w new : ServerWorld (WorldNode D C)) (lists : List (List Entry)) (e : Event) (o : Option ℕ) → o ≡ None → ((x : World) → worlds.Shows (area_nodes M) w x → HappenedAt (area_nodes M) x e tt o w new) → (t : Execution) (plans : DiskPlans) → Shows M (parts_of w lists) t
      → HappensAt M (parts_of w lists) e t plans None (parts_of new lists)
  none_happens w new lists e o is happened t plans show =
      let h : HappenedAt (area_nodes M) t.world e tt None w new = subst (λ (p : Option ℕ). HappenedAt (area_nodes M) t.world e tt p w new) is (happened t.world (servers_show M w lists t show)) in
      (h.0, ap (λ (x : ServerWorld (WorldNode D C)). parts_of x lists) h.1)

  pub none_kept : (w new : ServerWorld (WorldNode D C)) (lists : List (List Entry)) (e : Event) (o : Option ℕ) → o ≡ None → ((x : World) → worlds.Shows (area_nodes M) w x → HappenedAt (area_nodes M) x e tt o w new) → IsWorld M (parts_of w lists) → IsWorld M (parts_of new lists)
  none_kept w new lists e o is happened i =
      let h = none_happens w new lists e o is happened (reached w.members i.spares i.happenings) no_plans i.shows in
      subst (IsWorld M) (sym h.1) i

  -- something was
  pub some_happened : (w new : ServerWorld (WorldNode D C)) (e : Event) (o : Option ℕ) (k : ℕ) → o ≡ Some k → ((x : World) → worlds.Shows (area_nodes M) w x → HappenedAt (area_nodes M) x e tt o w new) → (x : World) → worlds.Shows (area_nodes M) w x → Happened (area_nodes M) x e tt k w new
  some_happened w new e o k is happened x show = subst (λ (p : Option ℕ). HappenedAt (area_nodes M) x e tt p w new) is (happened x show)

  -- ---- an event

  -- an event that can come isn't bad
  pub never_bad : (T U : Type 0) (f : RunFail) (old : Parts D C) (e : Event) → is_possible old.ids (length old.messages) e.what ≡ true → IfBadEvent {T = T} (Err f) (IsBadEvent old e) → IfBadEvent {T = U} (Err f) (λ _. ⊥)
  never_bad T U (run_fail.BadEvent index) old e can bad = let no : true ≡ false = sym can ∙ bad.1 in absurd (cc)
  never_bad T U run_fail.NoMemory old e can bad = tt

  pub ok_weaker : {T E : Type 0} (r : Result T E) (P Q : Type 0) → (P → Q) → OnOk r P → OnOk r Q
  ok_weaker (Ok x) P Q f p = f p
  ok_weaker (Err e) P Q f p = tt

  module _ (old new : Parts D C) (e : Event) (t : Execution) (plans : DiskPlans) (o : Option ℕ) (k : ℕ) (is : o ≡ Some k) (h : HappensAt M old e t plans o new) where
    here : Happens M old e t plans k new
    here = subst (λ (p : Option ℕ). HappensAt M old e t plans p new) is h

    -- it becomes one happening
    pub not_due_comes : WhatInRange e.what → (s : WorldNode D C) → s ≡ get_or new.nodes k s → s.is_due ≡ false → EventComes M old e t plans new
    not_due_comes fit s at quiet = one_comes old new e t plans k here fit (sym (here.server s).1 ∙ ap (λ (n : WorldNode D C). n.is_due) (sym at) ∙ quiet)

  -- it becomes two, of which the second is a stop
  pub due_comes : (old mid new : Parts D C) (e : Event) (t : Execution) (plans : DiskPlans) (o : Option ℕ) (k : ℕ) → o ≡ Some k → HappensAt M old e t plans o mid → IsWorld M mid → k < length mid.nodes → WhatInRange e.what → (s : WorldNode D C) → s ≡ get_or mid.nodes k s → s.is_due ≡ true
      → ((u : Execution) (ps : DiskPlans) → Shows M mid u → ArePlanned mid.nodes ps → StopsAt M mid k e.line u ps new) → EventComes M old e t plans new
  due_comes old mid new e t plans o k is h i there fit s at due stops =
      let g : Happens M old e t plans k mid = subst (λ (p : Option ℕ). HappensAt M old e t plans p mid) is h in
      let pid : (get_or mid.nodes k s).pid ≡ g.deed.pid = (g.server s).0 in
      two_come old mid e t plans k g fit (subst IsPid pid (stop_in_range mid (get_or mid.nodes k s).pid i (stop_possible mid k s i there))) (sym (g.server s).1 ∙ ap (λ (n : WorldNode D C). n.is_due) (sym at) ∙ due) new
      (λ d. (g.server d).0) s (stops (execution_with t g.happening) (plans_by (Some g.deed) t.world plans) g.shows g.planned)

  -- a node that is told of is one of the world's
  told_member : (ids : Named) (sent : ℕ) (x : What) (pid : ℕ) (c : Planned) → told_by x ≡ Some (pid, c) → is_possible ids sent x ≡ true → IsMember ids.servers pid
  told_member ids sent (what.CrashAt p call image) pid c is can =
      let first : Option (ℕ × Planned) → ℕ = λ o. elim o [ None ↦ p | Some z ↦ z.0 ] in
      subst (λ (q : ℕ). IsMember ids.servers q) (ap first is) can
  told_member ids sent (what.Fail p call) pid c is can =
      let first : Option (ℕ × Planned) → ℕ = λ o. elim o [ None ↦ p | Some z ↦ z.0 ] in
      subst (λ (q : ℕ). IsMember ids.servers q) (ap first is) can
  told_member ids sent (what.Kill p disk) pid c is can =
      let first : Option (ℕ × Planned) → ℕ = λ o. elim o [ None ↦ p | Some z ↦ z.0 ] in
      subst (λ (q : ℕ). IsMember ids.servers q) (ap first is) can
  told_member ids sent x pid c is can = absurd (cc)

  -- something is planned for a node's disks
  module _ (old : Parts D C) (w new : ServerWorld (WorldNode D C)) (lists : List (List Entry)) (e : Event) (pid : ℕ) (c : Planned) (tells : told_by e.what ≡ Some (pid, c)) (i : IsWorld M (parts_of w lists)) (can : CanCome old e (parts_of w lists)) where
    keeps : KeepsServers (area_nodes M) w
    keeps = record { pids = i.pids; kept = i.kept }

    pub told_known : IsMember w.ids.items pid
    told_known = subst (λ (ids : Named). IsMember ids.servers pid) (sym can.counted.ids) (told_member old.ids (length old.messages) e.what pid c tells can.possible)

    pub told_comes : WhatInRange e.what → (o : Option ℕ) → o ≡ None → (t : Execution) (plans : DiskPlans) → Shows M old t → ArePlanned old.nodes plans → HappensAt M old e t plans o (parts_of w lists) → IsPlannedAt M pid c w new → EventComes M old e t plans (parts_of new lists)
    told_comes fit o none t plans show planned h awaits =
        let g : HappensAt M old e t plans None (parts_of w lists) = subst (λ (p : Option ℕ). HappensAt M old e t plans p (parts_of w lists)) none h in
        subst (λ (x : Parts D C). EventComes M x e t plans (parts_of new lists)) g.1
        (armed_comes w new lists pid c awaits keeps told_known e t plans g.0 tells fit (subst (λ (x : Parts D C). Shows M x t) (sym g.1) show) (subst (λ (x : Parts D C). ArePlanned x.nodes plans) (sym g.1) planned))

    pub told_kept : IsPlannedAt M pid c w new → IsWorld M (parts_of new lists)
    told_kept awaits = armed_kept w new lists pid c awaits keeps told_known i
