-- What an event makes of a world with its lists.
use Rattle.std.proofs.Common.{◌≡◌, ◌⊎◌, ◌&&◌, ◌<◌, ◌+◌, ℕ, Bool, true, false, List, [], ◌∷◌, ◌++◌, length, get_or, Option, Some, None, All, IfSome, if◌then◌else◌, refl, sym, ap, subst, ◌∙◌, arith, ⊎_elim}
use Rattle.std.proofs.lemmas.List.{append-nil}
use Rattle.std.proofs.lemmas.List.Elements.{All-nil, All-cons, All-head, All-tail}
use Rattle.std.proofs.Math.ListN.{length-set}
use Rattle.op_types.specs.Ranges.{IsMember}
use Rattle.op_types.specs.declared.durable.Durable.{Durable}
use Rattle.op_types.specs.declared.log.Entry.{Entry}
use Rattle.op_runs.specs.declared.events.Event.{Event}
use Rattle.op_runs.specs.World.{Kind, Votes, Observes, World, Node, Happening, Up, Down, Failed, Doing, Steps, Stops, Opens, Tells, first_world, run_of, deed_of, node_at, plan_as, world_after}
use Rattle.op_runs.specs.Run.{Execution, first_execution, execution_with, machine_proposing_by}
use Rattle.op_runs.specs.Possible.{Named, kind_if, is_possible, most_proposals, proposals_of, WhatInRange}
use Rattle.op_runs.specs.Schedules.{Nothing, Seated, observers_begun, seated, seated_at, DiskPlan, DiskPlans, MayEnd, plan_for, plans_by, plans_with, awaiting, is_lost, is_awaited, drops, CallsDisks}
use Rattle.op_spec.specs.Ledger.{decided_entries}
use Rattle.op_spec.specs.Machine.{Machine}
use Rattle.op_protocol.specs.State.{State}
use Rattle.op_bounds.specs.Laws.{WorldInRange, HappeningInRange}
use Rattle.op_laws.proofs.Reached.{world_of_run, execution_append}
use Rattle.op_refinement.proofs.EveryRun.{every_run_meets}
use Rattle.op_executions.specs.Laws.{reached}
use Rattle.op_executions.specs.Worlds.{Happened, HasRun, KeepsServers, also, named_of, nodes_with, place_of, seated_as}
use Rattle.op_executions.specs.Worlds as worlds
use Rattle.op_executions.specs.declared.world.ServerWorld.{ServerWorld}
use Rattle.op_executions.proofs.Bounds.{world_in_range}
use Rattle.op_executions.proofs.Deeds.{node_found}
use Rattle.op_executions.proofs.Worlds.{run_on}
use Rattle.op_replay_nodes.specs.declared.node_state.NodeState.{NodeState}
use Rattle.op_replay_nodes.specs.declared.node_state.NodeState.TheVariants as node
use Rattle.op_replay_nodes.specs.declared.node_state.WorldNode.{WorldNode}
use Rattle.op_replay_nodes.specs.Plans.{awaited_of, lost_in}
use Rattle.op_world.specs.Plans.{plan_at, ArePlanned, IsPlan}
use Rattle.op_replay_nodes.specs.declared.plan.Plan.{Plan}
use Rattle.op_world.specs.Events.{parts_of, Happens}
use Rattle.op_world.specs.Ledgers.{list_at, NodeShowsMore, ServerShowsMore, ShowsMoreIf}
use Rattle.op_replay_nodes.specs.Nodes.{IsShown, IsKept, CallsAt, is_awaited_at, drops_at, kind_of, area_nodes}
use Rattle.op_world.specs.Worlds.{Parts, Shows, ShowsSeated, ShowSeated, IsWorld}
use Rattle.op_world.proofs.Plans.{ids_of, get_any, keeping, planned_at, planned_set, planned_with, planned_still, plan_dropped, plan_stays, awaited_there, dropped_there, may_if, may_planned}
use Rattle.op_replay_nodes.proofs.Happenings.{batch_there}
use Rattle.op_world.proofs.Begun.{lists_begun}
use Rattle.op_world.proofs.Ledgers.{HasNoMore, HaveNoMore, proposing_lists, shown_list, none_shows, showing_list, one_shows, sound_end, sound_no_more}
use Rattle.op_areas.specs.Media.{Medium}

module _ {D C : Type 0} (M : Medium D C) where
  -- ---- what a world shows

  -- the run that is kept
  abbrev pub run_kept : (w : Parts D C) → IsWorld M w → Execution
  run_kept w i = reached w.members i.spares i.happenings

  -- the world is in range, as its run is
  pub in_range : (w : Parts D C) (i : IsWorld M w) → WorldInRange (IsMember w.ids.servers) (run_kept w i).world
  in_range w i =
      let known = subst (λ (ids : Named). All (HappeningInRange (IsMember ids.servers)) i.happenings) i.ids i.known in
      let ran : WorldInRange (IsMember w.ids.servers) (run_of (first_world w.members i.spares) i.happenings) =
      subst (λ (ids : Named). WorldInRange (IsMember ids.servers) (run_of (first_world w.members i.spares) i.happenings)) (sym i.ids)
      (world_in_range w.members i.spares i.observers (i.range).first (i.range).others i.observers_are i.happenings known) in
      subst (λ (x : World). WorldInRange (IsMember w.ids.servers) x) (sym (world_of_run (first_execution w.members i.spares) i.happenings)) ran

  -- what a node has stored is what all that it shows have
  same_stored : (z : NodeState D C) (x y : Node) → IsShown M z x.state x.status → IsShown M z y.state y.status → x.state.durable ≡ y.state.durable
  same_stored (node.Up n) x y a b = ap (λ (s : State). s.durable) (a.0 ∙ sym b.0)
  same_stored (node.Failed n) x y a b = ap (λ (s : State). s.durable) (a.state ∙ sym b.state)
  same_stored (node.Down d) x y a b = a.durable ∙ sym b.durable

  -- of a node that votes, one after the other
  more_also : (conf : ℕ) (l : List Entry) (j k : Kind) (x y : Node) (xs ys : List Node) → j ≡ k → x.state.durable ≡ y.state.durable → HaveNoMore conf l (also Votes j x xs) → (HaveNoMore conf l xs → HaveNoMore conf l ys)
      → HaveNoMore conf l (also Votes k y ys)
  more_also conf l Votes Votes x y xs ys same stored each rest =
      All-cons (λ z. HasNoMore conf l z.state.durable) y ys (subst (λ (d : Durable). HasNoMore conf l d) stored (All-head (λ (z : Node). HasNoMore conf l z.state.durable) x xs each))
      (rest (All-tail (λ (z : Node). HasNoMore conf l z.state.durable) x xs each))
  more_also conf l Votes Observes x y xs ys same stored each rest = absurd (cc)
  more_also conf l Observes Votes x y xs ys same stored each rest = absurd (cc)
  more_also conf l Observes Observes x y xs ys same stored each rest = rest each

  no_more_there : (conf : ℕ) (l : List Entry) (nodes : List (WorldNode D C)) (xs ys : List Seated) → ShowSeated M nodes xs → ShowSeated M nodes ys → HaveNoMore conf l (seated_as Votes xs) → HaveNoMore conf l (seated_as Votes ys)
  no_more_there conf l [] xs [] a b each = All-nil (λ n. HasNoMore conf l n.state.durable)
  no_more_there conf l [] xs (y ∷ ys) a b each = absurd b
  no_more_there conf l (n ∷ nodes) xs [] a b each = absurd b
  no_more_there conf l (n ∷ nodes) [] (y ∷ ys) a b each = absurd a
  no_more_there conf l (n ∷ nodes) (x ∷ xs) (y ∷ ys) a b each =
      more_also conf l x.kind y.kind x.node y.node (seated_as Votes xs) (seated_as Votes ys) ((a.0).kind ∙ sym (b.0).kind) (same_stored n.state x.node y.node (a.0).node.state (b.0).node.state) each
      (no_more_there conf l nodes xs ys a.1 b.1)

  -- no node that is shown has more than the lists
  no_more : (w : Parts D C) → IsWorld M w → (t : Execution) → Shows M w t → (conf : ℕ) → HaveNoMore conf (t.machine.lists conf) t.world.nodes
  no_more w i t show conf =
      let u : Execution = run_kept w i in
      let meets = every_run_meets w.members i.spares (i.range).first (i.range).others i.happenings (i.range).happenings in
      let each = sound_no_more w.members u (sound_end w.members (first_execution w.members i.spares) i.happenings meets.0 meets.1) conf in
      let same : u.machine.lists conf ≡ t.machine.lists conf = i.shows.lists conf ∙ sym (show.lists conf) in
      let l : List Entry = t.machine.lists conf in
      let ours = i.shows.servers in
      let theirs = show.servers in
      let mine : HaveNoMore conf l (seated_as Votes ours.seats) = subst (λ (ns : List Node). HaveNoMore conf l ns) ours.nodes_are (subst (λ (es : List Entry). HaveNoMore conf es u.world.nodes) same each) in
      subst (λ (ns : List Node). HaveNoMore conf l ns) (sym theirs.nodes_are) (no_more_there conf l w.nodes ours.seats theirs.seats ours.shown theirs.shown mine)

  -- ---- a run of the servers

  -- the servers show its world
  pub servers_show : (w : ServerWorld (WorldNode D C)) (lists : List (List Entry)) (t : Execution) → Shows M (parts_of w lists) t → worlds.Shows (area_nodes M) w t.world
  servers_show w lists t show = record { servers = show.servers; messages = show.messages; lines = show.lines }

  -- they have come so far by the same happenings
  pub has_run : (w : ServerWorld (WorldNode D C)) (lists : List (List Entry)) (i : IsWorld M (parts_of w lists)) → HasRun (area_nodes M) w i.spares i.observers i.happenings
  has_run w lists i = record {
    range = i.range;
    observers_are = i.observers_are;
    ids = i.ids;
    known = i.known;
    proposed = i.proposed;
    servers = record { pids = i.pids; kept = i.kept };
    shows = subst (λ (x : World). worlds.Shows (area_nodes M) w x) (world_of_run (first_execution w.members i.spares) i.happenings) (servers_show w lists (reached w.members i.spares i.happenings) i.shows);
  }

  -- ---- the lists after an event

  -- one that isn't up adds nothing
  adds_nothing : (x y : Node) (old new : List (List Entry)) (conf : ℕ) → new ≡ old → (y.status ≡ Up → ⊥) → (y.status ≡ Up) ⊎ (y.state.durable ≡ x.state.durable) → HasNoMore conf (list_at old conf) x.state.durable
      → list_at old conf ++ decided_entries y.state.durable conf (length (list_at old conf)) ≡ list_at new conf
  adds_nothing x y old new conf more down stays none =
      let l : List Entry = list_at old conf in
      let same : y.state.durable ≡ x.state.durable = ⊎_elim (λ (up : y.status ≡ Up). absurd (down up)) (λ (s : y.state.durable ≡ x.state.durable). s) stays in
      ap (λ (d : Durable). l ++ decided_entries d conf (length l)) same ∙ ap (λ (es : List Entry). l ++ es) (none (length l) (omega arith)) ∙ append-nil l ∙ ap (λ (ls : List (List Entry)). list_at ls conf) (sym more)

  -- what the node adds to a list is what it shows then
  list_after : (state : NodeState D C) (x y : Node) (old new : List (List Entry)) (conf : ℕ) → NodeShowsMore old state new → IsShown M state y.state y.status → (y.status ≡ Up) ⊎ (y.state.durable ≡ x.state.durable)
      → HasNoMore conf (list_at old conf) x.state.durable → list_at old conf ++ decided_entries y.state.durable conf (length (list_at old conf)) ≡ list_at new conf
  list_after (node.Up n) x y old new conf more show stays none =
      ap (λ (s : State). list_at old conf ++ decided_entries s.durable conf (length (list_at old conf))) show.0 ∙ sym (more conf)
  list_after (node.Failed n) x y old new conf more show stays none =
      adds_nothing x y old new conf more (λ up. let down : Failed show.count show.after ≡ Up = sym show.status_is ∙ up in cc) stays none
  list_after (node.Down d) x y old new conf more show stays none = adds_nothing x y old new conf more (λ up. let down : Down show.after ≡ Up = sym show.status_is ∙ up in cc) stays none

  -- what happened at a server of this kind, which was shown in this world
  module _ (old : ServerWorld (WorldNode D C)) (lists : List (List Entry)) (i : IsWorld M (parts_of old lists)) (t : Execution) (show : Shows M (parts_of old lists) t) (e : Event) (k : ℕ) (new : ServerWorld (WorldNode D C)) (h : Happened (area_nodes M) t.world e tt k old new) where
    abbrev proposing : Machine
    proposing = machine_proposing_by t.machine t.world.nodes (deed_of t.world.messages h.happening.event.what)

    -- the lists are those that the nodes show then
    shown_then : (conf : ℕ) → (execution_with t h.happening).machine.lists conf ≡ shown_list conf (t.machine.lists conf) (nodes_with h.old.kind t.world.nodes h.node)
    shown_then conf =
        showing_list conf proposing (world_after t.world h.happening).nodes
        ∙ ap (λ (f : ℕ → List Entry). shown_list conf (f conf) (world_after t.world h.happening).nodes) (proposing_lists t.machine t.world.nodes (deed_of t.world.messages h.happening.event.what))
        ∙ ap (λ (xs : List Node). shown_list conf (t.machine.lists conf) xs) h.nodes

    -- a node is one of them
    node_there : (a b : Option Node) (s : Seated) → s.kind ≡ Votes → seated a b ≡ Some s → a ≡ Some s.node
    node_there (Some n) b s votes is = let it : Seated = record { kind = Votes; node = n } in let same : it ≡ s = cc in ap (λ (z : Seated). Some z.node) same
    node_there None (Some n) s votes is = let it : Seated = record { kind = Observes; node = n } in let same : it ≡ s = cc in let wrong : Observes ≡ Votes = ap (λ (z : Seated). z.kind) same ∙ votes in absurd (cc)
    node_there None None s votes is = absurd (cc)

    module _ (s : WorldNode D C) (at : s ≡ get_or new.servers.items k s) (more_lists : List (List Entry)) (conf : ℕ) where
      shown_there : ShowsSeated M s (record h.old { node = h.node })
      shown_there = subst (λ (z : WorldNode D C). ShowsSeated M z (record h.old { node = h.node })) (sym at) (h.server.is s)

      -- where it is a node, that adds what it has stored
      node_adds : h.old.kind ≡ Votes → NodeShowsMore lists s.state more_lists → (execution_with t h.happening).machine.lists conf ≡ list_at more_lists conf
      node_adds votes more =
          let each = no_more (parts_of old lists) i t show conf in
          let found : node_at t.world.nodes h.node.pid ≡ Some h.old.node = node_there (node_at t.world.nodes h.node.pid) (node_at t.world.observers h.node.pid) h.old votes h.there in
          let none : HasNoMore conf (list_at lists conf) h.old.node.state.durable =
          subst (λ (l : List Entry). HasNoMore conf l h.old.node.state.durable) (show.lists conf)
          (subst (λ (o : Option Node). IfSome o (λ z. HasNoMore conf (t.machine.lists conf) z.state.durable)) found (node_found (λ z. HasNoMore conf (t.machine.lists conf) z.state.durable) t.world.nodes h.node.pid each)) in
          shown_then conf
          ∙ ap (λ (j : Kind). shown_list conf (t.machine.lists conf) (nodes_with j t.world.nodes h.node)) votes
          ∙ one_shows conf (t.machine.lists conf) t.world.nodes h.old.node h.node found each
          ∙ ap (λ (l : List Entry). l ++ decided_entries h.node.state.durable conf (length l)) (show.lists conf)
          ∙ list_after s.state h.old.node h.node lists more_lists conf more shown_there.node.state h.stored none

      -- where it observes, the lists stay
      none_adds : h.old.kind ≡ Observes → more_lists ≡ lists → (execution_with t h.happening).machine.lists conf ≡ list_at more_lists conf
      none_adds observes more =
          shown_then conf
          ∙ ap (λ (j : Kind). shown_list conf (t.machine.lists conf) (nodes_with j t.world.nodes h.node)) observes
          ∙ none_shows conf (t.machine.lists conf) t.world.nodes (no_more (parts_of old lists) i t show conf)
          ∙ show.lists conf ∙ ap (λ (ls : List (List Entry)). list_at ls conf) (sym more)

      lists_after : ServerShowsMore lists s more_lists → (execution_with t h.happening).machine.lists conf ≡ list_at more_lists conf
      lists_after more = by s.observes refl more
        where
          by : (b : Bool) → s.observes ≡ b → ShowsMoreIf b lists s.state more_lists → (execution_with t h.happening).machine.lists conf ≡ list_at more_lists conf
          by true is m = none_adds (shown_there.kind ∙ ap kind_if is) m
          by false is m = node_adds (shown_there.kind ∙ ap kind_if is) m

  -- ---- the world after an event

  -- the event happened at these servers, and the one at this place showed what it has stored then
  pub record IsEventDone (w : ServerWorld (WorldNode D C)) (lists : List (List Entry)) (e : Event) (k : ℕ) (s : WorldNode D C) (new : ServerWorld (WorldNode D C)) (more : List (List Entry)) : Type 0 where
    pub happened : (x : World) → worlds.Shows (area_nodes M) w x → Happened (area_nodes M) x e tt k w new
    pub place : k < length new.servers.items
    pub at : s ≡ get_or new.servers.items k s
    pub lists_are : ServerShowsMore lists s more
    pub servers : KeepsServers (area_nodes M) new
    pub same : (new.members ≡ w.members) × (named_of new ≡ named_of w)
    pub proposed : (new.proposed ≡ w.proposed + proposals_of e.what) × (new.proposed < most_proposals)
    pub possible : is_possible (named_of w) (length w.messages.items) e.what ≡ true

  -- a step of a node that is shown calls its disks where it has something to store
  calls_there : (old : WorldNode D C) (x : Seated) (d : Doing) → IsKept M (kind_of old) old.pid old.state → ShowsSeated M old x → is_awaited_at old.state d ≡ true → CallsAt old.state d → CallsDisks x d
  calls_there old x (Steps i) kept shown awaited calls = by old.state kept shown.node.state awaited calls
    where
      by : (s : NodeState D C) → IsKept M (kind_of old) old.pid s → IsShown M s x.node.state x.node.status → is_awaited_at s (Steps i) ≡ true → CallsAt s (Steps i) → CallsDisks x (Steps i)
      by (node.Up m) k shows a c = λ none.
          c (sym (batch_there M (kind_of old) old.pid m i k x.node shown.node.pid shows.0) ∙ ap (λ (j : Kind). (plan_as j x.node.pid x.node.state i).batch) (sym shown.kind) ∙ none)
      by (node.Failed m) k shows a c = absurd (let no : false ≡ true = a in cc)
      by (node.Down z) k shows a c = absurd (let no : false ≡ true = a in cc)
  calls_there old x Stops kept shown awaited calls = tt
  calls_there old x Opens kept shown awaited calls = tt
  calls_there old x (Tells t) kept shown awaited calls = tt

  module _ (w : ServerWorld (WorldNode D C)) (lists : List (List Entry)) (i : IsWorld M (parts_of w lists)) (e : Event) (k : ℕ) (s : WorldNode D C) (new : ServerWorld (WorldNode D C)) (more : List (List Entry)) (d : IsEventDone w lists e k s new more) where
    module _ (t : Execution) (show : Shows M (parts_of w lists) t) (h : Happened (area_nodes M) t.world e tt k w new) where
      -- the server at the place, before and after
      abbrev was : WorldNode D C
      was = get_or w.servers.items k s

      abbrev is : WorldNode D C
      is = get_or new.servers.items k s

      shows_now : Shows M (parts_of new more) (execution_with t h.happening)
      shows_now = record { servers = h.shows.servers; messages = h.shows.messages; lines = h.shows.lines; lists = λ conf. lists_after w lists i t show e k new h s d.at more conf d.lists_are }

      -- the place is among the servers of before too
      there : k < length w.servers.items
      there =
          let same : length new.servers.items ≡ length w.servers.items = ap (λ (ns : List (WorldNode D C)). length ns) (h.server.others s) ∙ length-set {A = (WorldNode D C)} w.servers.items k is in
          omega (arith, same, d.place)

      at_place : k ≡ place_of (ids_of w.servers.items) h.deed.pid
      at_place = h.at ∙ ap (λ (ids : List ℕ). place_of ids h.deed.pid) (sym i.pids)

      pid_is : is.pid ≡ h.deed.pid
      pid_is = sym (h.server.is s).node.pid ∙ h.pid

      found : seated_at t.world h.deed.pid ≡ Some h.old
      found = ap (λ (p : ℕ). seated_at t.world p) (sym h.pid) ∙ h.there

      plan_was : plan_at w.servers.items h.deed.pid ≡ was.plan
      plan_was = subst (λ (j : ℕ). plan_at w.servers.items h.deed.pid ≡ (get_or w.servers.items j s).plan) (sym at_place)
          (planned_at w.servers.items h.deed.pid s (subst (λ (j : ℕ). j < length w.servers.items) at_place there))

      plans_now : plan_at new.servers.items ≡ keeping (plan_at w.servers.items) h.deed.pid is.plan
      plans_now = ap plan_at (h.server.others s) ∙ planned_set w.servers.items h.deed.pid k is at_place there pid_is

      module _ (plans : DiskPlans) (planned : ArePlanned w.servers.items plans) where
        plan : IsPlan was.plan (plans h.deed.pid)
        plan = subst (λ (p : Plan). IsPlan p (plans h.deed.pid)) plan_was (planned h.deed.pid)

        comes_now : let now : DiskPlan = plan_for h.old.node.status h.deed.doing (plans h.deed.pid) in MayEnd now.awaited (is_lost M.is_mirrored now) (CallsDisks h.old h.deed.doing) h.happening.fate is.is_due
        comes_now =
            let shown = h.server.was s in
            let lets = h.lets s in
            let calls = calls_there was h.old h.deed.doing (i.kept k s there) shown in
            may_planned M.is_mirrored (is_awaited h.old.node.status h.deed.doing) was.plan (plans h.deed.pid) (CallsDisks h.old h.deed.doing) h.happening.fate is.is_due plan
            (subst (λ (b : Bool). MayEnd (if b then awaited_of was.plan.awaited else Nothing) (b && lost_in M.is_mirrored was.plan.killed) (CallsDisks h.old h.deed.doing) h.happening.fate is.is_due)
            (awaited_there M was.state h.old.node.state h.old.node.status h.deed.doing shown.node.state)
            (may_if (is_awaited_at was.state h.deed.doing) (awaited_of was.plan.awaited) (lost_in M.is_mirrored was.plan.killed) (CallsAt was.state h.deed.doing) (CallsDisks h.old h.deed.doing) h.happening.fate is.is_due calls lets.comes))

        planned_now : ArePlanned new.servers.items (plans_by (Some h.deed) t.world plans)
        planned_now =
            let drop : Bool = drops h.deed.doing (seated_at t.world h.deed.pid) in
            let dropped : drops_at was.state h.deed.doing ≡ drop =
            (dropped_there M) was.state h.old h.deed.doing (h.server.was s).node.state ∙ ap (λ (o : Option Seated). drops h.deed.doing o) (sym found) in
            by_drop drop ((h.lets s).left ∙ ap (λ (b : Bool). if b then Nothing else awaited_of was.plan.awaited) dropped)
          where
            by_drop : (b : Bool) → awaited_of is.plan.awaited ≡ (if b then Nothing else awaited_of was.plan.awaited)
                → ArePlanned new.servers.items (if b then plans_with plans h.deed.pid (awaiting (plans h.deed.pid) Nothing) else plans)
            by_drop true left =
                planned_with w.servers.items new.servers.items plans h.deed.pid is.plan (awaiting (plans h.deed.pid) Nothing) plans_now (plan_dropped was.plan is.plan (plans h.deed.pid) plan left (h.lets s).killed) planned
            by_drop false left = planned_still w.servers.items new.servers.items plans h.deed.pid is.plan plans_now (plan_stays was.plan is.plan (plans h.deed.pid) plan left (h.lets s).killed) planned

        pub event_happens : Happens M (parts_of w lists) e t plans k (parts_of new more)
        event_happens = record {
          happening = h.happening;
          event = h.event;
          deed = h.deed;
          does = h.does;
          seated = h.old;
          there = found;
          is_due = is.is_due;
          server = λ x. (same_pid x, same_due x);
          comes = comes_now;
          planned = planned_now;
          shows = shows_now;
        }
          where
            any : (x : WorldNode D C) → get_or new.servers.items k x ≡ is
            any x = get_any new.servers.items k x s d.place

            same_pid : (x : WorldNode D C) → (get_or new.servers.items k x).pid ≡ h.deed.pid
            same_pid x = ap (λ (n : WorldNode D C). n.pid) (any x) ∙ pid_is

            same_due : (x : WorldNode D C) → (get_or new.servers.items k x).is_due ≡ is.is_due
            same_due x = ap (λ (n : WorldNode D C). n.is_due) (any x)

    pub event_comes : (t : Execution) (plans : DiskPlans) → Shows M (parts_of w lists) t → ArePlanned w.servers.items plans → Happens M (parts_of w lists) e t plans k (parts_of new more)
    event_comes t plans show planned = event_happens t show (d.happened t.world (servers_show w lists t show)) plans planned

    -- what happened to a world, and the run of the servers then
    abbrev HasHappened : World → Type 0
    HasHappened x = (h : Happened (area_nodes M) x e tt k w new) × HasRun (area_nodes M) new i.spares i.observers (i.happenings ++ h.happening ∷ [])

    pub event_kept : WhatInRange e.what → IsWorld M (parts_of new more)
    event_kept fit =
        let run = has_run w lists i in
        let x : World = run_of (first_world w.members i.spares) i.happenings in
        let t : Execution = reached w.members i.spares i.happenings in
        let g : Happened (area_nodes M) x e tt k w new = d.happened x run.shows in
        let there : HasHappened x = (g, run_on (area_nodes M) w new i.spares i.observers i.happenings e tt k run fit d.possible g d.servers d.same.0 d.same.1 d.proposed.0 d.proposed.1) in
        let here : HasHappened t.world = subst HasHappened (sym (world_of_run (first_execution w.members i.spares) i.happenings)) there in
        let all : List Happening = i.happenings ++ here.0.happening ∷ [] in
        let on : HasRun (area_nodes M) new i.spares i.observers all = here.1 in
        record {
          spares = i.spares;
          observers = i.observers;
          happenings = all;
          range = on.range;
          observers_are = on.observers_are;
          ids = on.ids;
          known = on.known;
          pids = on.servers.pids;
          proposed = on.proposed;
          kept = on.servers.kept;
          shows = subst (λ (ms : List ℕ). Shows M (parts_of new more) (reached ms i.spares all)) (sym d.same.0)
              (subst (λ (z : Execution). Shows M (parts_of new more) z) (sym (execution_append (first_execution w.members i.spares) i.happenings (here.0.happening ∷ [])))
              (shows_now t i.shows here.0));
        }

  -- ---- the start

  pub first_shows : (w : ServerWorld (WorldNode D C)) (lists : List (List Entry)) (spares observers : List ℕ) → HasRun (area_nodes M) w spares observers (observers_begun observers) → lists ≡ [] → Shows M (parts_of w lists) (reached w.members spares (observers_begun observers))
  first_shows w lists spares observers run none =
      let t : Execution = reached w.members spares (observers_begun observers) in
      let show : worlds.Shows (area_nodes M) w t.world = subst (λ (x : World). worlds.Shows (area_nodes M) w x) (sym (world_of_run (first_execution w.members spares) (observers_begun observers))) run.shows in
      record {
        servers = show.servers;
        messages = show.messages;
        lines = show.lines;
        lists = λ conf. lists_begun w.members spares observers run.range run.observers_are conf ∙ ap (λ (ls : List (List Entry)). list_at ls conf) (sym none);
      }

  pub first_kept : (w : ServerWorld (WorldNode D C)) (lists : List (List Entry)) (spares observers : List ℕ) → HasRun (area_nodes M) w spares observers (observers_begun observers) → lists ≡ [] → IsWorld M (parts_of w lists)
  first_kept w lists spares observers run none = record {
    spares = spares;
    observers = observers;
    happenings = observers_begun observers;
    range = run.range;
    observers_are = run.observers_are;
    ids = run.ids;
    known = run.known;
    pids = run.servers.pids;
    proposed = run.proposed;
    kept = run.servers.kept;
    shows = first_shows w lists spares observers run none;
  }
