-- A world at its start, and after an event: it is of a run of one happening more.
use Rattle.std.proofs.Common.{◌≡◌, ◌<◌, ◌+◌, ℕ, zero, suc, true, nat_eq, List, [], ◌∷◌, ◌++◌, length, map, get_or, set, Option, Some, None, option_map, All, IfSome, refl, sym, ap, subst, ◌∙◌, arith}
use Rattle.std.proofs.lemmas.List.{length-map}
use Rattle.std.proofs.lemmas.List.Elements.{All-push}
use Rattle.std.specs.Set.{is_member}
use Rattle.op_types.specs.Ranges.{AreRising, IsMember, MembersInRange}
use Rattle.op_types.specs.declared.messages.Msg.{Msg}
use Rattle.op_runs.specs.declared.events.Event.{Event}
use Rattle.op_runs.specs.declared.summary.Line.{Line}
use Rattle.op_runs.specs.Possible.{Named, ObserversInRange, named_ids, server_ids, is_possible, most_proposals, proposals_of, proposals_in, SparesInRange, WhatInRange}
use Rattle.op_runs.specs.Schedules.{Seated, seated, seated_at, observers_begun}
use Rattle.op_runs.specs.World as runs
use Rattle.op_runs.specs.World.{Votes, Observes, World, Node, Sent, Happening, Deed, first_world, node_ids, run_of, deed_of, node_at, sent_by, world_after, world_with, world_at_node, world_observed, world_at_observer, world_by_status_as, world_telling_more, world_with_as}
use Rattle.op_bounds.specs.Messages.{AreIds}
use Rattle.op_bounds.specs.Laws.{SentInRange, NodeInRange, ObserverInRange, WorldInRange, HappeningInRange, WhatNamesKnown}
use Rattle.op_bounds.proofs.Known.{rising_ids}
use Rattle.op_laws.specs.Runs.{RunInRange}
use Rattle.op_laws.proofs.Reached.{run_append}
use Rattle.op_executions.specs.Deeds.{doing_of, deed_shown}
use Rattle.op_executions.specs.Servers.{Kind, ShowsNode, ServerInRange, IsPossibleDeed, CanDo, IsNodeDone, IsDoneAt, servers_as}
use Rattle.op_executions.specs.Worlds.{Shows, ShowsSeated, ShowSeated, AreFirst, KeepsServers, HasRun, IsRun, ServerBecomes, Happened, HappenedAt, first_seated, named_of, place_of, seated_as}
use Rattle.op_executions.specs.declared.deed.Deed as deed
use Rattle.op_executions.specs.declared.world.ServerWorld.{ServerWorld}
use Rattle.op_executions.proofs.Beginning.{HaveBegun, have_begun, begun_in_range, begun_known, begun_propose_none}
use Rattle.op_executions.proofs.Bounds.{world_in_range, servers_are_ids, observers_known}
use Rattle.op_executions.proofs.Deeds.{VotersAreServers, deed_found, node_found, possible_names, proposals_push}
use Rattle.op_executions.proofs.Seated.{ArePut, pids_in, puts, own_found, observer_found, seated_found, seat_in, with_seat}
use Rattle.op_executions.proofs.ServerIds.{kept, servers_rising}
use Rattle.op_executions.proofs.Servers.{place_there, pids, pids_shown, shown, shown_with, pids-set, all_set, set_there}
use Rattle.op_executions.proofs.Watching.{Watches, all_watch}

-- what an event does, as the messages that the code has say it
pub does : {S : Type 0} (w : ServerWorld S) (e : Event) (messages : List Sent) → messages ≡ w.messages.items → (o : Option deed.Deed) → deed_of messages e.what ≡ option_map deed_shown o → (d : deed.Deed) → o ≡ Some d
    → deed_of w.messages.items e.what ≡ Some (deed_shown d)
does w e messages same o is d some = ap (λ (ms : List Sent). deed_of ms e.what) (sym same) ∙ is ∙ ap (λ (x : Option deed.Deed). option_map deed_shown x) some

-- ---- a server of a world

-- those of its kind
own_servers : (k : runs.Kind) (x : World) (seats : List Seated) → x.nodes ≡ seated_as Votes seats → x.observers ≡ seated_as Observes seats → servers_as k x ≡ seated_as k seats
own_servers Votes x seats nodes observers = nodes
own_servers Observes x seats nodes observers = observers

-- it is in range, as its world is
range_as : (k : runs.Kind) (ids : List ℕ) (x : World) (pid : ℕ) (n : Node) → WorldInRange (IsMember ids) x → All Watches x.observers → node_at (servers_as k x) pid ≡ Some n → ServerInRange ids k n
range_as Votes ids x pid n range watch there = subst (λ (o : Option Node). IfSome o (NodeInRange (IsMember ids))) there (node_found (NodeInRange (IsMember ids)) x.nodes pid range.nodes)
range_as Observes ids x pid n range watch there =
    let found = subst (λ (o : Option Node). IfSome o Watches) there (node_found Watches x.observers pid watch) in
    record { range = subst (λ (o : Option Node). IfSome o (ObserverInRange (IsMember ids))) there (node_found (ObserverInRange (IsMember ids)) x.observers pid range.observers); stored = found.0; found = found.1 }

-- what is done at it is what happens in the world
server_moves : (k : runs.Kind) (x : World) (n : Node) (d : Deed) (h : Happening) (y : Node) (sent : List Sent) (told : List Line) → deed_of x.messages h.event.what ≡ Some d → node_at (servers_as k x) d.pid ≡ Some n → (k ≡ Observes → node_at x.nodes d.pid ≡ None)
    → world_by_status_as k n.status d.doing h x n ≡ world_telling_more (world_with_as k x y) sent told → world_after x h ≡ world_telling_more (world_with_as k x y) sent told
server_moves Votes x n d h y sent told does there none moves =
    ap (λ (o : Option Deed). world_with o h x) does ∙ ap (λ (o : Option Node). world_at_node o d.doing h x) there ∙ moves
server_moves Observes x n d h y sent told does there none moves =
    ap (λ (o : Option Deed). world_with o h x) does
    ∙ ap (λ (o : Option Node). world_at_node o d.doing h x) (none refl)
    ∙ ap (λ (o : Option Deed). let z : World = record (world_observed o h x) { nodes = x.nodes; members = x.members } in z) does
    ∙ ap (λ (o : Option Node). let z : World = record (world_at_observer o d h x) { nodes = x.nodes; members = x.members } in z) there
    ∙ ap (λ (u : World). let z : World = record u { nodes = x.nodes; members = x.members } in z) moves

-- what a world tells then
told_messages : (k : runs.Kind) (x : World) (y : Node) (sent : List Sent) (told : List Line) → (world_telling_more (world_with_as k x y) sent told).messages ≡ x.messages ++ sent
told_messages Votes x y sent told = refl
told_messages Observes x y sent told = refl

told_lines : (k : runs.Kind) (x : World) (y : Node) (sent : List Sent) (told : List Line) → (world_telling_more (world_with_as k x y) sent told).lines ≡ x.lines ++ told
told_lines Votes x y sent told = refl
told_lines Observes x y sent told = refl

module _ {S F : Type 0} (K : Kind S F) where
  -- ---- the start

  pub starts : (w : ServerWorld S) (members spares observers : List ℕ) → w.members ≡ members → MembersInRange members → SparesInRange members spares → ObserversInRange members spares observers → w.voters.items ≡ node_ids members spares → w.ids.items ≡ node_ids w.voters.items observers
      → w.messages.items ≡ [] → w.lines ≡ [] → w.proposed ≡ 0 → AreFirst K members w.ids.items observers w.servers.items → HasRun K w spares observers (observers_begun observers)
  starts w members spares observers is m s o voters ids none quiet unproposed first = record {
    range = record {
      first = subst (λ (ms : List ℕ). MembersInRange ms) (sym is) m;
      others = subst (λ (ms : List ℕ). SparesInRange ms spares) (sym is) s;
      happenings = begun_in_range observers o.rising;
    };
    observers_are = subst (λ (ms : List ℕ). ObserversInRange ms spares observers) (sym is) o;
    ids = ap (λ (vs : List ℕ). let n : Named = record { servers = w.ids.items; voters = vs } in n) voters
        ∙ ap (λ (vs : List ℕ). let n : Named = record { servers = vs; voters = node_ids members spares } in n) all
        ∙ ap (λ (ms : List ℕ). named_ids ms spares observers) (sym is);
    known = subst (λ (vs : List ℕ). All (HappeningInRange (IsMember vs)) (observers_begun observers)) (sym all)
        (begun_known (IsMember (server_ids members spares observers)) observers (rising_ids 0 observers o.rising) (observers_known members spares observers m s o));
    proposed = unproposed ∙ sym (begun_propose_none observers);
    servers = record { pids = first.pids; kept = first.kept };
    shows = subst (λ (ms : List ℕ). Shows K w (run_of (first_world ms spares) (observers_begun observers))) (sym is) shows_first;
  }
    where
      all : w.ids.items ≡ server_ids members spares observers
      all = ids ∙ ap (λ (vs : List ℕ). node_ids vs observers) voters

      have : HaveBegun members observers (server_ids members spares observers) (run_of (first_world members spares) (observers_begun observers))
      have = have_begun members spares observers m s o

      shows_first : Shows K w (run_of (first_world members spares) (observers_begun observers))
      shows_first = record {
        servers = record {
          seats = map (first_seated members observers) (server_ids members spares observers);
          shown = subst (λ (vs : List ℕ). ShowSeated K w.servers.items (map (first_seated members observers) vs)) all first.shown;
          nodes_are = have.nodes;
          observers_are = have.observers;
        };
        messages = have.messages ∙ sym none;
        lines = have.lines ∙ sym quiet;
      }

  -- ---- a deed of a world of some run

  -- whatever stands for what isn't there
  at_any : (servers : List S) (k : ℕ) (a b : S) → k < length servers → get_or servers k a ≡ get_or servers k b
  at_any [] k a b h = absurd (omega arith)
  at_any (n ∷ servers) zero a b h = refl
  at_any (n ∷ servers) (suc k) a b h = at_any servers k a b (let less : k < length servers = omega arith in less)

  pub in_place : (servers : List S) (pid : ℕ) → is_member nat_eq (pids K servers) pid ≡ true → place_of (pids K servers) pid < length servers
  in_place servers pid member =
      let there : place_of (pids K servers) pid < length (pids K servers) = place_there (pids K servers) pid member in
      let same : length (pids K servers) ≡ length servers = length-map servers K.pid_of in
      omega (arith, there, same)

  module _ (w : ServerWorld S) (spares observers : List ℕ) (hs : List Happening) (run : HasRun K w spares observers hs) where
    abbrev all_ids : List ℕ
    all_ids = server_ids w.members spares observers

    ids_are : w.ids.items ≡ all_ids
    ids_are = ap (λ (n : Named). n.servers) run.ids

    -- they rise
    pub ids_rise : AreRising 0 w.ids.items
    ids_rise = subst (λ (ids : List ℕ). AreRising 0 ids) (sym ids_are) (servers_rising w.members spares observers (run.range).first (run.range).others run.observers_are)

    pub voters_are : VotersAreServers (named_of w)
    voters_are = subst (λ (n : Named). VotersAreServers n) (sym run.ids) (λ q h. kept (node_ids w.members spares) observers q h)

    -- the world is in range, as its run is
    pub in_range : WorldInRange (IsMember w.ids.items) (run_of (first_world w.members spares) hs)
    in_range =
        let known = subst (λ (ids : List ℕ). All (HappeningInRange (IsMember ids)) hs) ids_are run.known in
        subst (λ (ids : List ℕ). WorldInRange (IsMember ids) (run_of (first_world w.members spares) hs)) (sym ids_are)
        (world_in_range w.members spares observers (run.range).first (run.range).others run.observers_are hs known)

    -- what a possible event does is done at a server, and begins with something in range: the messages are in range, as
    -- those of the run
    pub possible_deed : (e : Event) → is_possible (named_of w) (length w.messages.items) e.what ≡ true → WhatInRange e.what → (d : deed.Deed) → deed_of w.messages.items e.what ≡ Some (deed_shown d) → IsPossibleDeed w.ids.items d
    possible_deed e can fit d is =
        let each : All (SentInRange (IsMember w.ids.items)) w.messages.items = subst (λ (ms : List Sent). All (SentInRange (IsMember w.ids.items)) ms) run.shows.messages in_range.messages in
        deed_found (named_of w) w.messages.items (length w.messages.items) e.what voters_are each can fit d is

    -- a deed can be done at its server: the world is of a run, and in range
    pub can_do : (d : deed.Deed) (s : S) → s ≡ get_or w.servers.items (place_of w.ids.items d.pid) s → IsPossibleDeed w.ids.items d → CanDo K s (doing_of d.doing)
    can_do d s at can =
        let x : World = run_of (first_world w.members spares) hs in
        let sv = run.shows.servers in
        let member : is_member nat_eq (pids K w.servers.items) d.pid ≡ true = ap (λ (ms : List ℕ). is_member nat_eq ms d.pid) run.servers.pids ∙ can.pid in
        let place : place_of (pids K w.servers.items) d.pid ≡ place_of w.ids.items d.pid = ap (λ (ms : List ℕ). place_of ms d.pid) run.servers.pids in
        let k = place_of (pids K w.servers.items) d.pid in
        let here : s ≡ get_or w.servers.items k s = subst (λ (j : ℕ). s ≡ get_or w.servers.items j s) (sym place) at in
        let there : k < length w.servers.items = in_place w.servers.items d.pid member in
        let one = shown K w.servers.items sv.seats d.pid sv.shown member in
        let seat : Seated = one.seat in
        let found : node_at (servers_as seat.kind x) d.pid ≡ Some seat.node =
        ap (λ (ns : List Node). node_at ns d.pid) (own_servers seat.kind x sv.seats sv.nodes_are sv.observers_are) ∙ own_found sv.seats d.pid seat one.found in
        let kind : seat.kind ≡ K.kind_of s = (one.shows s).kind ∙ ap K.kind_of (sym here) in
        record {
          ids = w.ids.items;
          are_ids = subst (λ (ids : List ℕ). AreIds (IsMember ids)) (sym ids_are) (servers_are_ids w.members spares observers (run.range).first (run.range).others run.observers_are);
          kept = subst (λ (v : S). K.is_kept v) (sym here) (run.servers.kept k s there);
          node = seat.node;
          shown = subst (λ (v : S). ShowsNode K v seat.node) (sym here) (one.shows s).node;
          range = subst (λ (j : runs.Kind). ServerInRange w.ids.items j seat.node) kind (range_as seat.kind w.ids.items x d.pid seat.node in_range (all_watch w.members spares hs run.range) found);
          doing = can.doing;
        }

  -- ---- the server of an event's deed

  -- the place of an id
  pub place_in : (w : ServerWorld S) → KeepsServers K w → (pid : ℕ) → IsMember w.ids.items pid → place_of w.ids.items pid < length w.servers.items
  place_in w keeps pid member =
      let same : place_of (pids K w.servers.items) pid ≡ place_of w.ids.items pid = ap (λ (ms : List ℕ). place_of ms pid) keeps.pids in
      subst (λ (k : ℕ). k < length w.servers.items) same (in_place w.servers.items pid (ap (λ (ms : List ℕ). is_member nat_eq ms pid) keeps.pids ∙ member))

  -- the deed is one of the server at this place, where it can be done
  pub record HasPlace (w : ServerWorld S) (d : deed.Deed) (k : ℕ) : Type 0 where
    pub deed : IsPossibleDeed w.ids.items d
    pub place : k ≡ place_of w.ids.items d.pid
    pub there : k < length w.servers.items
    pub at : (s : S) → s ≡ get_or w.servers.items k s → s ≡ get_or w.servers.items (place_of w.ids.items d.pid) s
    pub can : (s : S) → s ≡ get_or w.servers.items k s → CanDo K s (doing_of d.doing)

  pub has_place : (w : ServerWorld S) → IsRun K w → (e : Event) → is_possible (named_of w) (length w.messages.items) e.what ≡ true → WhatInRange e.what
      → (messages : List Sent) → messages ≡ w.messages.items → (o : Option deed.Deed) → deed_of messages e.what ≡ option_map deed_shown o → (d : deed.Deed) → o ≡ Some d
      → (ids : List ℕ) → ids ≡ w.ids.items → (k : ℕ) → k ≡ place_of ids d.pid → HasPlace w d k
  has_place w run e can fit messages same o is d some ids ids_are k at = record {
    deed = possible;
    place = place;
    there = subst (λ (j : ℕ). j < length w.servers.items) (sym place) (place_in w run.run.servers d.pid possible.pid);
    at = there;
    can = λ s here. can_do w run.spares run.observers run.happenings run.run d s (there s here) possible;
  }
    where
      possible : IsPossibleDeed w.ids.items d
      possible = possible_deed w run.spares run.observers run.happenings run.run e can fit d (does w e messages same o is d some)

      place : k ≡ place_of w.ids.items d.pid
      place = at ∙ ap (λ (ms : List ℕ). place_of ms d.pid) ids_are

      there : (s : S) → s ≡ get_or w.servers.items k s → s ≡ get_or w.servers.items (place_of w.ids.items d.pid) s
      there s here = subst (λ (j : ℕ). s ≡ get_or w.servers.items j s) place here

  pub rises_in : (w : ServerWorld S) → IsRun K w → AreRising 0 w.ids.items
  rises_in w run = ids_rise w run.spares run.observers run.happenings run.run

  -- ---- the world after a deed

  -- this server was done so, and this is what its world became
  pub record IsDeedDone (w : ServerWorld S) (d : deed.Deed) (f : F) (line : ℕ) (s m : S) (sends : List (ℕ × Msg)) (told : List Line) (new : ServerWorld S) : Type 0 where
    pub member : IsMember w.ids.items d.pid
    pub at : s ≡ get_or w.servers.items (place_of w.ids.items d.pid) s
    pub done : IsDoneAt K f s (doing_of d.doing) line m sends told
    pub servers_are : new.servers.items ≡ set w.servers.items (place_of w.ids.items d.pid) m
    pub messages_are : new.messages.items ≡ w.messages.items ++ sent_by d.pid sends
    pub lines_are : new.lines ≡ w.lines ++ told
    pub ids_are : named_of new ≡ named_of w

  module _ (w : ServerWorld S) (keeps : KeepsServers K w) (d : deed.Deed) (f : F) (line : ℕ) (s m : S) (sends : List (ℕ × Msg)) (told : List Line) (new : ServerWorld S) (t : IsDeedDone w d f line s m sends told new) where
    abbrev place : ℕ
    place = place_of (pids K w.servers.items) d.pid

    member : is_member nat_eq (pids K w.servers.items) d.pid ≡ true
    member = ap (λ (ms : List ℕ). is_member nat_eq ms d.pid) keeps.pids ∙ t.member

    same_place : place ≡ place_of w.ids.items d.pid
    same_place = ap (λ (ms : List ℕ). place_of ms d.pid) keeps.pids

    here : s ≡ get_or w.servers.items place s
    here = subst (λ (j : ℕ). s ≡ get_or w.servers.items j s) (sym same_place) t.at

    there : place < length w.servers.items
    there = in_place w.servers.items d.pid member

    servers_now : new.servers.items ≡ set w.servers.items place m
    servers_now = t.servers_are ∙ ap (λ (j : ℕ). set w.servers.items j m) (sym same_place)

    -- the server at this place before, and after
    old_there : (k : ℕ) → k ≡ place_of w.ids.items d.pid → (v : S) → get_or w.servers.items k v ≡ s
    old_there k at v = ap (λ (j : ℕ). get_or w.servers.items j v) (at ∙ sym same_place) ∙ at_any w.servers.items place v s there ∙ sym here

    new_there : (k : ℕ) → k ≡ place_of w.ids.items d.pid → (v : S) → get_or new.servers.items k v ≡ m
    new_there k at v = ap (λ (ns : List S). get_or ns k v) servers_now ∙ ap (λ (j : ℕ). get_or (set w.servers.items place m) j v) (at ∙ sym same_place) ∙ set_there K w.servers.items place m v there

    -- so only that server has become another one
    becomes : (k : ℕ) → k ≡ place_of w.ids.items d.pid → (x : Seated) (y : Node) → ShowsSeated K s x → ShowsNode K m y → ServerBecomes K w.servers.items new.servers.items k x y
    becomes k at x y before after = record {
      was = λ v. subst (λ (z : S). ShowsSeated K z x) (sym (old_there k at v)) before;
      is = λ v. subst (λ (z : S). ShowsSeated K z (record x { node = y })) (sym (new_there k at v)) (record { kind = before.kind ∙ sym t.done.kind; node = after });
      others = λ v. t.servers_are ∙ ap (λ (j : ℕ). set w.servers.items j m) (sym at) ∙ ap (λ (z : S). set w.servers.items k z) (sym (new_there k at v));
    }

    pub deed_happened : AreRising 0 w.ids.items → (e : Event) → e.line ≡ line → deed_of w.messages.items e.what ≡ Some (deed_shown d) → (k : ℕ) → k ≡ place_of w.ids.items d.pid → (x : World) → Shows K w x → Happened K x e f k w new
    deed_happened rise e at does k at_place x show =
        let sv = show.servers in
        let one = shown K w.servers.items sv.seats d.pid sv.shown member in
        let seat : Seated = one.seat in
        let shows : ShowsNode K s seat.node = subst (λ (v : S). ShowsNode K v seat.node) (sym here) (one.shows s).node in
        let kind : seat.kind ≡ K.kind_of s = (one.shows s).kind ∙ ap K.kind_of (sym here) in
        let pid_is : K.pid_of s ≡ d.pid = ap (λ (v : S). K.pid_of v) here ∙ one.is s in
        let after = t.done.after seat.node shows in
        let h : Happening = record { event = e; fate = after.fate; finds_after = after.finds_after } in
        let y : Node = after.node in
        let done : IsNodeDone seat.kind seat.node (doing_of d.doing) after.fate after.finds_after line y sends told =
        subst (λ (j : runs.Kind). IsNodeDone j seat.node (doing_of d.doing) after.fate after.finds_after line y sends told) (sym kind) after.done in
        let at_pid : seat.node.pid ≡ d.pid = shows.pid ∙ pid_is in
        let rises : AreRising 0 (pids_in sv.seats) = subst (λ (ids : List ℕ). AreRising 0 ids) (sym (pids_shown K w.servers.items sv.seats sv.shown ∙ keeps.pids)) rise in
        let own : node_at (servers_as seat.kind x) d.pid ≡ Some seat.node =
        ap (λ (ns : List Node). node_at ns d.pid) (own_servers seat.kind x sv.seats sv.nodes_are sv.observers_are) ∙ own_found sv.seats d.pid seat one.found in
        let none : seat.kind ≡ Observes → node_at x.nodes d.pid ≡ None = λ o. ap (λ (ns : List Node). node_at ns d.pid) sv.nodes_are ∙ observer_found 0 sv.seats d.pid seat rises one.found o in
        let deed_is : deed_of x.messages e.what ≡ Some (deed_shown d) = ap (λ (ms : List Sent). deed_of ms e.what) show.messages ∙ does in
        let sent : List Sent = sent_by seat.node.pid sends in
        let now : World = world_telling_more (world_with_as seat.kind x y) sent told in
        let becomes_now : world_after x h ≡ now =
        server_moves seat.kind x seat.node (deed_shown d) h y sent told deed_is own none (done.world x h refl refl at (ap (λ (id : ℕ). node_at (servers_as seat.kind x) id) at_pid ∙ own)) in
        let y_pid : y.pid ≡ d.pid = done.pid ∙ at_pid in
        let put : ArePut x now seat.kind y sv.seats = puts seat.kind x y sv.seats seat sent told refl (ap (λ (id : ℕ). seat_in sv.seats id) y_pid ∙ one.found) sv.nodes_are sv.observers_are in
        let kind_there : (v : S) → K.kind_of (get_or w.servers.items place v) ≡ K.kind_of m = λ v. ap K.kind_of (at_any w.servers.items place v s there ∙ sym here) ∙ sym t.done.kind in
        let shows_now : Shows K new now = record {
          servers = record {
            seats = with_seat sv.seats y;
            shown = subst (λ (ns : List S). ShowSeated K ns (with_seat sv.seats y)) (sym servers_now) (shown_with K w.servers.items sv.seats d.pid m y (t.done.pid ∙ pid_is) after.shows kind_there sv.shown member);
            nodes_are = put.nodes;
            observers_are = put.observers;
          };
          messages = told_messages seat.kind x y sent told ∙ ap (λ (ms : List Sent). ms ++ sent) show.messages ∙ ap (λ (id : ℕ). w.messages.items ++ sent_by id sends) at_pid ∙ sym t.messages_are;
          lines = told_lines seat.kind x y sent told ∙ ap (λ (ls : List Line). ls ++ told) show.lines ∙ sym t.lines_are;
        } in
        record {
          happening = h;
          event = refl;
          shows = subst (λ (z : World). Shows K new z) (sym becomes_now) shows_now;
          deed = deed_shown d;
          does = deed_is;
          at = at_place;
          old = seat;
          node = y;
          pid = y_pid;
          there = ap (λ (id : ℕ). seated_at x id) y_pid
              ∙ ap (λ (ns : List Node). seated (node_at ns d.pid) (node_at x.observers d.pid)) sv.nodes_are
              ∙ ap (λ (ns : List Node). seated (node_at (seated_as Votes sv.seats) d.pid) (node_at ns d.pid)) sv.observers_are
              ∙ seated_found 0 sv.seats d.pid seat rises one.found;
          nodes = ap (λ (z : World). z.nodes) becomes_now ∙ put.nodes_are;
          server = becomes k at_place seat y (record { kind = kind; node = shows }) after.shows;
          lets = λ v. subst (λ (z : S). K.lets f z (doing_of d.doing) (get_or new.servers.items k v) after.fate after.finds_after) (sym (old_there k at_place v))
              (subst (λ (z : S). K.lets f s (doing_of d.doing) z after.fate after.finds_after) (sym (new_there k at_place v)) after.lets);
          stored = after.done.stored;
        }

    pub deed_keeps : KeepsServers K new
    deed_keeps = record {
      pids = ap (λ (ns : List S). map K.pid_of ns) servers_now ∙ pids-set K w.servers.items place m pid_there ∙ keeps.pids ∙ sym (ap (λ (n : Named). n.servers) t.ids_are);
      kept = subst (λ (ns : List S). All K.is_kept ns) (sym servers_now) (all_set K K.is_kept w.servers.items place m t.done.kept keeps.kept);
    }
      where
        pid_there : (v : S) → K.pid_of (get_or w.servers.items place v) ≡ K.pid_of m
        pid_there v = ap K.pid_of (at_any w.servers.items place v s there) ∙ ap K.pid_of (sym here) ∙ sym t.done.pid

  -- ---- a run of one happening more

  pub run_on : (w new : ServerWorld S) (spares observers : List ℕ) (hs : List Happening) (e : Event) (f : F) (k : ℕ) → HasRun K w spares observers hs → WhatInRange e.what → is_possible (named_of w) (length w.messages.items) e.what ≡ true
      → (h : Happened K (run_of (first_world w.members spares) hs) e f k w new) → KeepsServers K new → new.members ≡ w.members → named_of new ≡ named_of w → new.proposed ≡ w.proposed + proposals_of e.what → new.proposed < most_proposals
      → HasRun K new spares observers (hs ++ h.happening ∷ [])
  run_on w new spares observers hs e f k run fit can h keeps members ids counted few =
      let g : Happening = h.happening in
      let known : ℕ → Type 0 = IsMember w.ids.items in
      let same_ids : w.ids.items ≡ new.ids.items = sym (ap (λ (n : Named). n.servers) ids) in
      let in_range : HappeningInRange known g =
      subst (λ (z : Event). WhatInRange z.what × WhatNamesKnown known z.what) (sym h.event) (fit, possible_names (named_of w) (length w.messages.items) e.what (voters_are w spares observers hs run) can) in
      let sum : new.proposed ≡ proposals_in (hs ++ g ∷ []) =
      counted ∙ ap (λ (q : ℕ). q + proposals_of e.what) run.proposed ∙ ap (λ (z : Event). proposals_in hs + proposals_of z.what) (sym h.event) ∙ sym (proposals_push hs g) in
      let runs_now : RunInRange w.members spares (hs ++ g ∷ []) = record {
        first = (run.range).first;
        others = (run.range).others;
        happenings = record {
          few = subst (λ (q : ℕ). q < most_proposals) sum few;
          each = All-push (λ z. WhatInRange z.event.what) hs g ((run.range).happenings).each in_range.0;
        };
      } in
      record {
        range = subst (λ (ms : List ℕ). RunInRange ms spares (hs ++ g ∷ [])) (sym members) runs_now;
        observers_are = subst (λ (ms : List ℕ). ObserversInRange ms spares observers) (sym members) run.observers_are;
        ids = ids ∙ run.ids ∙ ap (λ (ms : List ℕ). named_ids ms spares observers) (sym members);
        known = subst (λ (vs : List ℕ). All (HappeningInRange (IsMember vs)) (hs ++ g ∷ [])) same_ids (All-push (HappeningInRange known) hs g run.known in_range);
        proposed = sum;
        servers = keeps;
        shows = subst (λ (ms : List ℕ). Shows K new (run_of (first_world ms spares) (hs ++ g ∷ []))) (sym members)
            (subst (λ (z : World). Shows K new z) (sym (run_append (first_world w.members spares) hs (g ∷ []))) h.shows);
      }

  pub runs_on : (w new : ServerWorld S) (e : Event) (f : F) (at : Option ℕ) → IsRun K w → WhatInRange e.what → is_possible (named_of w) (length w.messages.items) e.what ≡ true
      → ((x : World) → Shows K w x → HappenedAt K x e f at w new) → KeepsServers K new → new.members ≡ w.members → named_of new ≡ named_of w → new.proposed ≡ w.proposed + proposals_of e.what → new.proposed < most_proposals → IsRun K new
  runs_on w new e f None r fit can happened keeps members ids counted few = subst (IsRun K) (sym (happened (run_of (first_world w.members r.spares) r.happenings) r.run.shows).1) r
  runs_on w new e f (Some k) r fit can happened keeps members ids counted few =
      let h = happened (run_of (first_world w.members r.spares) r.happenings) r.run.shows in
      record { spares = r.spares; observers = r.observers; happenings = r.happenings ++ h.happening ∷ []; run = run_on w new r.spares r.observers r.happenings e f k r.run fit can h keeps members ids counted few }
